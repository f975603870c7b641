-- One event after another, and then steps.
use Rattle.std.proofs.Common.{◌≡◌, ◌∙◌, ℕ, ap, arith, length}
use Rattle.std.specs.Prelude.{min}
use Rattle.kernel_machine.specs.Setups.{state_in}
use Rattle.model.specs.declared.events.Event.{Event}
use Rattle.model.specs.Kernel.Steps.{state_after, step}
use Rattle.debugging.specs.Runs.{timeline}
use Rattle.debugging.proofs.Timelines.{replay-all, replay-first, replay-next}
use Rattle.debugging.proofs.replays.replay.Goals as goal

pub events-init : goal.events-init
events-init c = replay-first (state_in c.args.system.now) c.args.events.now

pub events-preserved : goal.events-preserved
events-preserved c =
    replay-next (state_in c.args.system.now) (state_in c.events.system) (state_in c.step.new.self) c.args.events.now c.events.done c.events.invariant
    (c.step.ensures.state ∙ ap (λ (event : Event). (step (state_in c.events.system) event).0) c.event_at.ensures)

pub returns : goal.returns
returns c =
    let given : c.min-given.result ≡ min c.args.count (length c.args.events.now) = omega arith in
    let all : c.events.done ≡ c.min-given.result = omega arith in
    let start = state_in c.args.system.now in
    let before = c.events.invariant ∙ ap (λ (n : ℕ). state_after start (timeline c.args.events.now n)) all in
    replay-all start (state_in c.events.system) (state_in c.make_steps.new.system) c.args.events.now c.min-given.result c.args.count given before
    c.make_steps.ensures
