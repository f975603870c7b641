-- The place of the point says it.
use Rattle.std.proofs.Common.{◌≡◌, ◌∙◌, ◌<◌, Some, length, sym, ap, arith}
use Rattle.std.proofs.lemmas.Option.{same_Some}
use Rattle.program_rules.proofs.Placed.{got-inside, some-place}
use Rattle.program_rules.proofs.kept_points.KeptPoints.is_step.Goals as goal
use Rattle.program_rules.specs.Kept.{is_step}
use Rattle.program_rules.specs.declared.places.Place.{Place}

pub returns-then-len-point : goal.returns-then-len-point
returns-then-len-point c = λ p got.
    let places = c.args.self.now.places.items in
    let short = c.if-len-point.true in
    let count = c.len.ensures in
    let less : c.args.point < length places = got-inside places c.args.point p got in
    absurd (omega (arith, short, count, less))

pub returns : goal.returns
returns c = λ p got.
    let places = c.args.self.now.places.items in
    let long = c.if-len-point.false in
    let count = c.len.ensures in
    let less : c.args.point < length places = omega (arith, long, count) in
    let place = c.index.result.now in
    let same : p ≡ place = same_Some p place (sym got ∙ some-place places c.args.point place less ∙ ap (λ (q : Place). Some q) (sym c.index.ensures)) in
    ap is_step same ∙ sym c.is_step.ensures
