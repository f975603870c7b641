-- By the last one that was found so far.
use Rattle.std.proofs.Common.{◌∙◌, ◌||◌, List, ap}
use Rattle.kernel_machine.specs.Setups.{state_in}
use Rattle.model.specs.declared.events.Event.{Event}
use Rattle.model.specs.Images.Boot.{booted}
use Rattle.model.specs.Kernel.Steps.{state_after, step}
use Rattle.debugging.specs.Runs.{next_of, timeline}
use Rattle.debugging.specs.Stops.{is_stop, is_turn}
use Rattle.debugging.proofs.LastStops.{found-next, found-none}
use Rattle.debugging.proofs.Timelines.{shown-at, shown-next}
use Rattle.debugging.proofs.searches.last_halt_between.Goals as goal

pub events-init : goal.events-init
events-init c =
    let run = c.args.run.now in
    let start = state_in c.in_ok-system.system in
    let events = c.events-2.ensures in
    record {
      state = shown-at (booted run.image) run.events c.args.first start (state_in c.replay.new.system) c.in_ok-system.ensures
          (c.replay.ensures ∙ ap (λ (all : List Event). state_after start (timeline all c.args.first)) events);
      last = found-none c.args.stops.now c.args.turn run c.args.first;
    }

pub events-preserved : goal.events-preserved
events-preserved c =
    let run = c.args.run.now in
    let now = state_in c.events.system in
    let event = c.event_at-event.ensures ∙ ap (λ (all : List Event). next_of all c.events.place) c.events-in-events.ensures in
    record {
      state = shown-next (booted run.image) run.events c.events.place now (state_in c.step.new.self) c.events.invariant.state
          (c.step.ensures.state ∙ ap (λ (e : Event). (step now e).0) event);
      last = found-next c.args.stops.now c.args.turn run c.args.first c.events.place now c.events.found c.found_with-found.result c.is_halt.result
          c.events.invariant.state
          (c.is_halt.ensures ∙ ap (λ (e : Event). is_stop c.args.stops.now now || is_turn c.args.turn now e) event) c.found_with-found.ensures
          c.events.invariant.last;
    }
