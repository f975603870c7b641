-- The caller's capability space is what its own slot holds.
use Rattle.model.specs.Kernel.State.{cspace_slot}
use Rattle.soundness.specs.Calls.{held, of_slot}
use Rattle.std.proofs.Common.{sym}
use Rattle.kernel.proofs.system_calls.capability_calls.invoke_on.Goals as goal

pub invoke-answer-requires : goal.invoke-answer-requires
invoke-answer-requires g c = record {
  call = record {
    root = of_slot (cspace_slot c.args.thread) (sym c.cspace_of.ensures.value);
    invoked = held c.requires.held.held c.requires.held.full;
  };
}
