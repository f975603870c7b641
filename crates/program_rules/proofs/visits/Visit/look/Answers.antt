-- By what the rules say of the slots.
use Rattle.std.proofs.Common.{◌≡◌, ◌∙◌, Bool, true, false, not, [], pos, refl, sym, subst}
use Rattle.model.specs.Acceptance.Measures.{Measure}
use Rattle.program_rules.proofs.visits.Visit.look.Goals as goal
use Rattle.program_rules.specs.Kept.{ShowsKept}
use Rattle.program_rules.specs.Programs.{thread_of}
use Rattle.typestate.specs.Calls.{known_with}
use Rattle.typestate.specs.Differences.{slots_of}
use Rattle.typestate.specs.Strays.{NoneStray}

is-false : (b : Bool) → not b ≡ true → b ≡ false
is-false true is = absurd (let clash : false ≡ true = is in cc)
is-false false is = refl

pub invariant_of-here : goal.invariant_of-here
invariant_of-here c = record {
  image = c.slots-slots.ensures.image;
  clean = λ is. absurd (let clash : false ≡ true = is in cc);
}

pub returns-else-known-clause-clean : goal.returns-else-known-clause-clean
returns-else-known-clause-clean c = λ is.
    let image = c.args.self.now.program.now.given.space.image.now in
    let t = thread_of c.args.self.now.program.now in
    let bounds = c.in-Known.known.bounds in
    let nothing : Measure = record { constant = pos 0; terms = [] } in
    let shows = subst (ShowsKept c.args.log.now c.args.shown.now) c.in-Known.is c.requires.shows in
    subst (NoneStray image t.thread)
    (c.slots-slots.ensures.slots ∙ shows.same c.args.self.now.program.now.given.slots.now c.args.self.now.program.now.given.sorted
    c.args.self.now.program.now.given.unlinked)
    (c.points_without_stray_slots_have_none.ensures image t.thread c.args.self.now.point (known_with bounds (slots_of c.slots-slots.result) nothing)
    (sym (c.has_stray_slots.ensures bounds nothing) ∙ is-false c.has_stray_slots.result is))
