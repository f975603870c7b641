-- By what both sides hold, and who waits where.
use Rattle.part_laws.proofs.own_calls.WholeSteps.{whole-step}
use Rattle.part_laws.proofs.own_calls.own_steps_agree_with_removals.Goals as goal

pub returns : goal.returns
returns c = λ image part s t thread both reads agree now inside left.
    whole-step c.laws_on_invocations.ensures c.steps_go_well.ensures image part s t thread both reads agree now inside left
