-- By what is kept of the point, and by whether the slots are the same.
use Rattle.std.proofs.Common.{◌∙◌, inr, ap, subst, sym}
use Rattle.measure.specs.Measures.{measure_of}
use Rattle.model.specs.Acceptance.PointRules.{edge_rules, kept_at}
use Rattle.model.specs.Acceptance.PointStates.{Noted}
use Rattle.model.specs.Acceptance.Rules.{first_broken}
use Rattle.program_rules.proofs.Outcomes.{told}
use Rattle.program_rules.specs.point_rules.Points.{edge_of, known_of}
use Rattle.program_rules.proofs.visits.Seen.way_to.Goals as goal
use Rattle.program_rules.specs.Kept.{HasPart, Kept, noted_by}
use Rattle.typestate.specs.Logs.{part_of}
use Rattle.typestate.specs.Replays.{replayed}
use Rattle.wellformed.specs.Answering.{Answers}

pub has_same_slots-requires-clause-held : goal.has_same_slots-requires-clause-held
has_same_slots-requires-clause-held g c = subst (λ (k : Kept). HasPart c.args.self.now.points.now.log k) c.in-Known.is c.kept_at-there.ensures.held

pub returns-in_ok-has_slots-in-Known-clause-answers : goal.returns-in_ok-has_slots-in-Known-clause-answers
returns-in_ok-has_slots-in-Known-clause-answers g c =
    let program = c.args.self.now.program.now in
    let way = c.args.way.now in
    let log = c.args.self.now.points.now.log in
    let here = replayed program.given.slots.now (part_of log c.args.self.now.part) in
    let there = replayed program.given.slots.now (part_of log c.in-Known.known.part) in
    let edge = edge_of c.args.address (g.S.Step.value_of c.args.step.now) here way in
    subst (λ (n : Noted). Answers (first_broken (edge_rules program.given.space.thread.now way.at (measure_of way.measure.now) edge n)) c.kept_at.result)
    (ap (noted_by program.given.slots.now log) (sym c.in-Known.is) ∙ c.kept_at-there.ensures.noted)
    (told (first_broken (kept_at program.given.space.thread.now way.at (measure_of way.measure.now) edge (known_of there c.in-Known.known))) c.kept_at.result
    (c.kept_at.ensures program.given.space.thread.now c.args.address here there (sym (ap (λ h. h.budget) c.header-budget.ensures))
    c.in_ok-has_slots-in-Known.ensures.is))

pub returns-in-Missing-clause-answers : goal.returns-in-Missing-clause-answers
returns-in-Missing-clause-answers g c =
    let program = c.args.self.now.program.now in
    let log = c.args.self.now.points.now.log in
    let here = replayed program.given.slots.now (part_of log c.args.self.now.part) in
    let edge = edge_of c.args.address (g.S.Step.value_of c.args.step.now) here c.args.way.now in
    inr (ap (λ (n : Noted). first_broken (edge_rules program.given.space.thread.now c.args.way.now.at (measure_of c.args.way.now.measure.now) edge n))
    (sym c.kept_at-there.ensures.noted ∙ ap (noted_by program.given.slots.now log) c.in-Missing.is))

pub returns-in-Unmeasured-clause-answers : goal.returns-in-Unmeasured-clause-answers
returns-in-Unmeasured-clause-answers g c =
    let program = c.args.self.now.program.now in
    let log = c.args.self.now.points.now.log in
    let here = replayed program.given.slots.now (part_of log c.args.self.now.part) in
    let edge = edge_of c.args.address (g.S.Step.value_of c.args.step.now) here c.args.way.now in
    inr (ap (λ (n : Noted). first_broken (edge_rules program.given.space.thread.now c.args.way.now.at (measure_of c.args.way.now.measure.now) edge n))
    (sym c.kept_at-there.ensures.noted ∙ ap (noted_by program.given.slots.now log) c.in-Unmeasured.is))
