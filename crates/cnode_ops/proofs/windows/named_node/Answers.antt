-- What is named is the root, or is in a slot.
use Rattle.std.proofs.Common.{◌∙◌, sym, subst}
use Rattle.cnode_ops.proofs.CallRoots.{root-valid}
use Rattle.cnode_ops.proofs.object_lifetimes.Laws.{whole-of}
use Rattle.cnode_ops.proofs.windows.named_node.Goals as goal
use Rattle.objects.specs.Lives.{state_in}
use Rattle.objects.specs.Tables.{state_of}
use Rattle.soundness.specs.Calls.{IsRoot, of_slot}

pub argument_slot-requires : goal.argument_slot-requires
argument_slot-requires g c =
    let whole = whole-of g.S.SlotMap.slots g.S.SlotStore.memory c.live.inside.objects c.live.inside.store c.kernel.invariant c.live.view_is c.live.invariant in
    let of_kernel = c.live.view_is ∙ c.kernel.view_is in
    root-valid _ c.args.root whole.sound (subst (λ k. IsRoot (state_in g.S.SlotMap.slots g.S.SlotStore.memory k) c.args.root) (sym of_kernel) c.requires)

pub returns-clause-root : goal.returns-clause-root
unfolding state_of
returns-clause-root g c =
    let of_kernel = c.live.view_is ∙ c.kernel.view_is in
    subst (λ k. IsRoot (state_in g.S.SlotMap.slots g.S.SlotStore.memory k) c.capability.result) of_kernel
    (of_slot c.in_ok-slot.slot (sym c.capability.ensures.value))
