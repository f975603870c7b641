-- What a slot holds is a capability.
use Rattle.model.proofs.ConditionTests.{tested-met}
use Rattle.model.specs.Capabilities.CapabilityFields.{is_capability}
use Rattle.kernel_tests.proofs.store.cnode_calls.call.Goals as goal

pub invariant_of-on : goal.invariant_of-on
unfolding is_capability
invariant_of-on g c =
    let valid = tested-met _ c.capability-node.ensures.valid in
    record { root_valid = valid; node_valid = valid }
