-- The state at the place.
use Rattle.std.proofs.Common.{◌∙◌, Some, sym, ap, arith}
use Rattle.program_rules.proofs.Placed.{some-place}
use Rattle.program_rules.proofs.kept_points.KeptPoints.whole_at.Goals as goal
use Rattle.program_rules.specs.declared.kept.Known.{Known as State}

pub returns-then-len-at : goal.returns-then-len-at
returns-then-len-at c = λ image t slots log point is.
    let short = c.if-len-at.true in
    let count = c.len.ensures in
    let inside = is.inside in
    absurd (omega (arith, short, count, inside))

pub returns : goal.returns
returns c = λ image t slots log point is.
    let k = c.index.result.now in
    is.kept k (some-place c.args.self.now.whole.items c.args.at k is.inside ∙ ap (λ (o : State). Some o) (sym c.index.ensures))
