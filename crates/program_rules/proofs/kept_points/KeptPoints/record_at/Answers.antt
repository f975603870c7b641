-- The record at the place.
use Rattle.std.proofs.Common.{◌∙◌, Some, sym, ap, arith}
use Rattle.program_rules.proofs.Placed.{some-place}
use Rattle.program_rules.proofs.kept_points.KeptPoints.record_at.Goals as goal
use Rattle.program_rules.specs.declared.places.RecordedPoint.{RecordedPoint}

pub returns-then-len-at : goal.returns-then-len-at
returns-then-len-at c = λ image t slots log point is.
    let short = c.if-len-at.true in
    let count = c.len.ensures in
    let inside = is.inside in
    absurd (omega (arith, short, count, inside))

pub returns : goal.returns
returns c = λ image t slots log point is.
    let r = c.index.result.now in
    is.kept r (some-place c.args.self.now.recorded.items c.args.at r is.inside ∙ ap (λ (o : RecordedPoint). Some o) (sym c.index.ensures)) c.known.result
    c.known.ensures
