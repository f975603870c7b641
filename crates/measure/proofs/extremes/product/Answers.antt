-- A number of 64 bits and a word.
use Rattle.std.proofs.Common.{◌^◌, ◌≤◌, w64, arith}
use mir.Syntax.{w128}
use Rattle.measure.proofs.Small.{abs-64, word-product-stored}
use Rattle.measure.proofs.extremes.product.Goals as goal

pub returns-clause-small : goal.returns-clause-small
returns-clause-small c =
    let few : c.args.word ≤ 2 ^ 33 = omega (arith, c.ranges.word) in
    word-product-stored w128 w64 c.args.coefficient c.wide_product.result c.args.word (2 ^ 63) (2 ^ 33) c.ranges.coefficient
    (abs-64 c.args.coefficient c.ranges.coefficient) few (omega arith) c.wide_product.ensures
