-- There is a way where the rules have one.
use Rattle.std.proofs.Common.{◌≡◌, ◌∙◌, Option, Some, None, option_map, refl}
use Rattle.std.proofs.lemmas.Option.{same_Some}
use Rattle.program_rules.proofs.visits.PlainPoint.option_rules.Goals as goal
use Rattle.program_rules.specs.PointChecks.{IsBefore}
use Rattle.program_rules.specs.Visits.{broken_by}
use Rattle.ranges.specs.Edges.{way_of}
use Rattle.ranges.specs.declared.edges.Edge.{Edge as Way}
use Rattle.wellformed.specs.Answering.{Answers}

pub returns-in-Some-clause-answers : goal.returns-in-Some-clause-answers
returns-in-Some-clause-answers c = λ edge is before.
    let p = c.args.self.now in
    elim edge as (λ e. option_map way_of e ≡ c.args.way.now → IsBefore p.instr p.known.now.bounds e → Answers (broken_by p e) c.way_rules.result) [
      | None ↦ λ is before. absurd (let clash : ◌≡◌ {A = Option Way} None (Some c.in-Some.way) = is ∙ c.in-Some.is in cc)
      | Some e ↦ λ is before. c.way_rules.ensures.answers e (same_Some (way_of e) c.in-Some.way (is ∙ c.in-Some.is)) before
    ] is before

pub returns-in-None-clause-answers : goal.returns-in-None-clause-answers
returns-in-None-clause-answers c = λ edge is before.
    elim edge as (λ e. option_map way_of e ≡ c.args.way.now → broken_by c.args.self.now e ≡ None) [
      | None ↦ λ is. refl
      | Some e ↦ λ is. absurd (let clash : ◌≡◌ {A = Option Way} (Some (way_of e)) None = is ∙ c.in-None.is in cc)
    ] is
