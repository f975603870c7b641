-- By what is kept of each point.
use Rattle.std.proofs.Common.{ℕ, ◌∙◌, Option, sym, ap}
use Rattle.std.specs.Option.{option_map_or}
use Rattle.model.specs.Acceptance.PointStates.{Missing, noted}
use Rattle.program_rules.proofs.EachPoint.{has-part}
use Rattle.program_rules.proofs.visits.Seen.kept_at.Goals as goal
use Rattle.program_rules.specs.Programs.{thread_of}

pub returns-in-Some-clause-held : goal.returns-in-Some-clause-held
returns-in-Some-clause-held c = has-part c.args.self.now.points.now.log c.in-Some.point c.at.result c.at.ensures.sound

pub returns-in-Some-clause-noted : goal.returns-in-Some-clause-noted
returns-in-Some-clause-noted c =
    c.at.ensures.same
    ∙ sym (ap (λ (p : Option ℕ). option_map_or (noted c.args.self.now.program.now.given.space.image.now (thread_of c.args.self.now.program.now)) p Missing)
    (sym c.point_at.ensures.value ∙ c.in-Some.is))
