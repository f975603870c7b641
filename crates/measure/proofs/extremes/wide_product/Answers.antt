-- A number of 64 bits and a word.
use Rattle.std.proofs.Common.{◌^◌, ◌≤◌, w64, pos, ◌∙◌, arith}
use Rattle.std.proofs.lemmas.Int.{to_z-of_z}
use mir.Syntax.{w128}
use Rattle.measure.proofs.Small.{abs-64, product-fits, product-kept}
use Rattle.measure.proofs.extremes.wide_product.Goals as goal

pub overflow_mul-result : goal.overflow_mul-result
overflow_mul-result c =
    let few : c.args.word ≤ 2 ^ 33 = omega (arith, c.ranges.word) in
    product-fits w128 c.from.result c.from-2.result c.args.coefficient (pos c.args.word) (2 ^ 63) (2 ^ 33)
    (c.from.ensures ∙ to_z-of_z w64 c.args.coefficient c.ranges.coefficient) c.from-2.ensures
    (abs-64 c.args.coefficient c.ranges.coefficient) few (omega arith) (omega arith) (omega arith)

pub returns : goal.returns
returns c =
    let few : c.args.word ≤ 2 ^ 33 = omega (arith, c.ranges.word) in
    product-kept w128 c.from.result c.from-2.result c.args.coefficient (pos c.args.word) (2 ^ 63) (2 ^ 33)
    (c.from.ensures ∙ to_z-of_z w64 c.args.coefficient c.ranges.coefficient) c.from-2.ensures
    (abs-64 c.args.coefficient c.ranges.coefficient) few (omega arith) (omega arith) (omega arith)
