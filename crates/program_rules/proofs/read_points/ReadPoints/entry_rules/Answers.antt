-- By what is kept of the entry.
use Rattle.std.proofs.Common.{◌∙◌, inl, inr, Some, refl, subst, sym, ap}
use Rattle.model.specs.Acceptance.PointRules.{entry_rules}
use Rattle.model.specs.Acceptance.PointStates.{Noted, noted}
use Rattle.model.specs.Acceptance.Rules.{first_broken}
use Rattle.model.specs.declared.refusals.Point.{Point}
use Rattle.model.specs.declared.refusals.Refusal.TheVariants.{RangeNotKept}
use Rattle.program_rules.proofs.EachPoint.{has-part}
use Rattle.program_rules.proofs.Outcomes.{told}
use Rattle.program_rules.proofs.PointLists.{at-entry}
use Rattle.program_rules.proofs.read_points.ReadPoints.entry_rules.Goals as goal
use Rattle.program_rules.specs.Kept.{HasPart, Kept, noted_by}
use Rattle.program_rules.specs.Programs.{thread_of}
use Rattle.typestate.specs.Logs.{part_of}
use Rattle.typestate.specs.Replays.{replayed}

pub has_listed_slots-requires : goal.has_listed_slots-requires
has_listed_slots-requires c =
    let log = c.args.self.now.points.now.log in
    subst (λ (k : Kept). HasPart log k) c.in-Known.is (has-part log c.header-entry.result.entry c.at.result c.at.ensures.sound)

pub returns-in_ok-has_slots-in-Known : goal.returns-in_ok-has_slots-in-Known
returns-in_ok-has_slots-in-Known c =
    let image = c.args.self.now.program.now.given.space.image.now in
    let t = thread_of c.args.self.now.program.now in
    let slots = c.args.self.now.program.now.given.slots.now in
    let log = c.args.self.now.points.now.log in
    let entry = ap (λ h. h.entry) c.header-entry.ensures in
    told _ c.entered.result
    (c.entered.ensures image t (replayed slots (part_of log c.in-Known.known.part)) refl
    (at-entry t c.header-entry.result.entry c.at-at.result entry c.at-at.ensures)
    c.in_ok-has_slots-in-Known.ensures
    ∙ ap (λ (n : Noted). first_broken (entry_rules image t n)) (ap (noted_by slots log) (sym c.in-Known.is) ∙ c.at.ensures.same ∙ ap (noted image t) entry))

pub returns-in-Missing : goal.returns-in-Missing
returns-in-Missing c =
    let image = c.args.self.now.program.now.given.space.image.now in
    let t = thread_of c.args.self.now.program.now in
    let slots = c.args.self.now.program.now.given.slots.now in
    let log = c.args.self.now.points.now.log in
    let entry = ap (λ h. h.entry) c.header-entry.ensures in
    let at = at-entry t c.header-entry.result.entry c.at-at.result entry c.at-at.ensures in
    let same = c.at.ensures.same ∙ ap (noted image t) entry in
    elim c.in-Missing.is [
      | inl missing ↦ inr (sym (ap (λ (p : Point). Some (RangeNotKept p)) at
          ∙ ap (λ (n : Noted). first_broken (entry_rules image t n)) (ap (noted_by slots log) (sym missing) ∙ same)))
      | inr unmeasured ↦ inr (sym (ap (λ (p : Point). Some (RangeNotKept p)) at
          ∙ ap (λ (n : Noted). first_broken (entry_rules image t n)) (ap (noted_by slots log) (sym unmeasured) ∙ same)))
    ]
