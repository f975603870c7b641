-- A step invokes a capability, or makes another call, or none, or nobody runs.
use Rattle.headline.proofs.invocations.AllRuns.{any-step-goes}
use Rattle.headline.proofs.invocations.run_laws.steps_go_well.Goals as goal

pub returns : goal.returns
returns c = any-step-goes c.laws_below.ensures c.invocations_go_well.ensures c.calls_that_invoke_nothing_go_well.ensures c.plain_steps_go_well.ensures
