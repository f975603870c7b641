-- A slot that the thread may not have, or what the rule on calls says.
use Rattle.std.proofs.Common.{◌≡◌, ◌∙◌, false, Some, [], pos, refl, sym, ap, subst}
use Rattle.model.specs.Acceptance.CallRules.{after_call}
use Rattle.model.specs.Acceptance.Measures.{Measure}
use Rattle.model.specs.Acceptance.NotedStates.{has_stray_slots}
use Rattle.model.specs.declared.refusals.Point.{Point}
use Rattle.program_rules.proofs.Called.{looked-at, not-looked-at}
use Rattle.program_rules.proofs.visits.VisitedSlots.called.Goals as goal
use Rattle.program_rules.specs.Programs.{thread_of}
use Rattle.typestate.specs.Calls.{known_with, left_with}
use Rattle.typestate.specs.Differences.{slots_of}
use Rattle.typestate.specs.Strays.{IsTidyBehind}

-- any measure does
abbrev nothing : Measure
nothing = record { constant = pos 0; terms = [] }

pub invariant_of-own : goal.invariant_of-own
invariant_of-own c =
    let v = c.args.self.now.visit in
    let program = v.program.now in
    let bounds = c.args.bounds.now in
    let state = known_with bounds (slots_of c.args.self.now.slots) nothing in
    let none : has_stray_slots program.given.space.image.now program.given.space.thread.now v.point state ≡ false =
    sym (c.has_stray_slots.ensures bounds nothing) ∙ c.if-has_stray_slots.false in
    record {
      inside = c.no_stray_slot_leads_outside.ensures program.given.space.image.now program.given.space.thread.now v.point state none;
      own = c.slots_are_own.ensures v.point state refl none;
    }

pub returns-then-has_stray_slots-clause-left : goal.returns-then-has_stray_slots-clause-left
returns-then-has_stray_slots-clause-left c = λ measure.
    let v = c.args.self.now.visit in
    let bounds = c.args.bounds.now in
    not-looked-at v.program.now.given.space.image.now (thread_of v.program.now) v.point (known_with bounds (slots_of c.args.self.now.slots) measure)
    c.has_stray_slots.result (c.has_stray_slots.ensures bounds measure) c.if-has_stray_slots.true

pub returns-in-Ok-clause-left : goal.returns-in-Ok-clause-left
returns-in-Ok-clause-left c = λ measure.
    let v = c.args.self.now.visit in
    let image = v.program.now.given.space.image.now in
    let t = thread_of v.program.now in
    let bounds = c.args.bounds.now in
    let slots = slots_of c.args.self.now.slots in
    looked-at image t v.point (known_with bounds slots measure) c.has_stray_slots.result (c.has_stray_slots.ensures bounds measure) c.if-has_stray_slots.false
    ∙ ap Some (ap (λ (at : Point). after_call image t.thread at (known_with bounds slots measure)) (sym c.at.ensures)
    ∙ c.in_ok-behind.ensures.left measure ∙ ap (left_with slots c.after_call.new.made.items) c.in-Ok.is)

pub returns-in-Err-clause-left : goal.returns-in-Err-clause-left
returns-in-Err-clause-left c = λ measure.
    let v = c.args.self.now.visit in
    let image = v.program.now.given.space.image.now in
    let t = thread_of v.program.now in
    let bounds = c.args.bounds.now in
    let slots = slots_of c.args.self.now.slots in
    looked-at image t v.point (known_with bounds slots measure) c.has_stray_slots.result (c.has_stray_slots.ensures bounds measure) c.if-has_stray_slots.false
    ∙ ap Some (ap (λ (at : Point). after_call image t.thread at (known_with bounds slots measure)) (sym c.at.ensures)
    ∙ c.in_ok-behind.ensures.left measure ∙ ap (left_with slots c.after_call.new.made.items) c.in-Err.is)

pub returns-in-Ok-clause-clean : goal.returns-in-Ok-clause-clean
returns-in-Ok-clause-clean c = λ tidy.
    let v = c.args.self.now.visit in
    let image = v.program.now.given.space.image.now in
    let t = thread_of v.program.now in
    let bounds = c.args.bounds.now in
    let slots = slots_of c.args.self.now.slots in
    subst (IsTidyBehind image t.thread slots c.after_call.new.made.items) c.in-Ok.is c.in_ok-behind.ensures.tidy tidy
    (c.points_without_stray_slots_have_none.ensures image t.thread v.point (known_with bounds slots nothing)
    (sym (c.has_stray_slots.ensures bounds nothing) ∙ c.if-has_stray_slots.false))
