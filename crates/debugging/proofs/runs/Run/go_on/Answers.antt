-- One more event is done.
use Rattle.std.proofs.Common.{◌≡◌, ◌∙◌, ◌+◌, ℕ, Ok, ap, arith, subst, sym}
use Rattle.kernel_machine.specs.Setups.{state_in}
use Rattle.model.specs.declared.events.Event.{Event}
use Rattle.model.specs.Images.Boot.{booted}
use Rattle.model.specs.Kernel.Steps.{step}
use Rattle.debugging.specs.Runs.{Moment, going_on, next_of, timeline}
use Rattle.debugging.proofs.Timelines.{shown-next}
use Rattle.debugging.proofs.runs.Run.go_on.Goals as goal

pub invariant_of-self : goal.invariant_of-self
invariant_of-self c =
    let before = c.self.inside in
    let now = state_in before.system in
    let after = state_in c.step-label.new.self in
    let count : before.done + 1 ≡ c.in_ok-done.done = omega (arith, c.in_ok-done.ensures) in
    let event = c.next_event-event.ensures ∙ sym (ap (λ (run : Moment). next_of run.events run.done) c.self.view_is) in
    subst (λ (n : ℕ). going_on (booted before.image.now) (timeline before.events.items n) ≡ Ok after) count
    (shown-next (booted before.image.now) before.events.items before.done now after c.self.invariant
    (c.step-label.ensures.state ∙ ap (λ (e : Event). (step now e).0) event))
