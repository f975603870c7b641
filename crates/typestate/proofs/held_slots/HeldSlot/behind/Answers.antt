-- By what the call leaves of the slots.
use Rattle.std.proofs.Common.{◌∙◌, Result, Ok, sym, ap}
use Rattle.model.specs.declared.refusals.Refusal.{Refusal}
use Rattle.model.specs.Acceptance.CallRules.{AfterCall}
use Rattle.typestate.specs.Calls.{known_with}
use Rattle.typestate.specs.Differences.{slots_of}
use Rattle.typestate.specs.Replays.{replayed}
use Rattle.typestate.specs.Invocations.{made_or_refused}
use Rattle.typestate.specs.SlotChanges.{leaves}
use Rattle.typestate.proofs.held_slots.HeldSlot.behind.Goals as goal

pub returns-in-Ok-clause-left : goal.returns-in-Ok-clause-left
returns-in-Ok-clause-left c = λ measure.
    let done : AfterCall → Result AfterCall Refusal = λ a. Ok a in
    let slots = slots_of c.args.self.now.own.slots in
    let made = c.invoked.new.made.items in
    ap (leaves (known_with c.args.bounds.now slots measure) c.args.answers) (c.in_ok-is_tidy.ensures.made ∙ ap (made_or_refused slots made) c.in-Ok.is)
    ∙ ap done (sym (c.called.ensures.same slots (replayed slots made) measure))

pub returns-in-Err-clause-left : goal.returns-in-Err-clause-left
returns-in-Err-clause-left c = λ measure.
    let slots = slots_of c.args.self.now.own.slots in
    ap (leaves (known_with c.args.bounds.now slots measure) c.args.answers)
    (c.in_ok-is_tidy.ensures.made ∙ ap (made_or_refused slots c.invoked.new.made.items) c.in-Err.is)
