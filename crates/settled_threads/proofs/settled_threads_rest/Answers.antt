-- By rank: whom it sends to waits at its input before it, and whom it called has answered.
use Rattle.model.specs.Images.Described.{described}
use Rattle.model.specs.Kernel.Steps.{state_after, trace}
use Rattle.settled_threads.proofs.Inputs.{waits-at-input}
use Rattle.settled_threads.proofs.settled_threads_rest.Goals as goal

pub returns : goal.returns
returns c = λ bytes image priority settling events t object accepted devices settled rests listed input.
    waits-at-input c.laws_on_invocations.ensures.below bytes image (state_after (described image) events) (trace (described image) events) accepted
    (c.events_go_well.ensures bytes image events accepted devices).stand
    (λ u among. c.threads_wait_where_they_asked.ensures bytes image events u accepted devices among) priority settling settled rests
    (λ u endpoint badge among a awaits calls.
    c.callers_are_owed.ensures bytes image events u endpoint badge accepted devices among a awaits calls) t object listed input
