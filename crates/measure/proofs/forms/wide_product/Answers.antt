-- Numbers of 32 and of 64 bits.
use Rattle.std.proofs.Common.{◌^◌, w32, w64, ◌∙◌, arith}
use Rattle.std.proofs.lemmas.Int.{to_z-of_z}
use mir.Syntax.{w128}
use Rattle.measure.proofs.Small.{abs-32, abs-64, product-fits, product-kept}
use Rattle.measure.proofs.forms.wide_product.Goals as goal

pub overflow_mul-result : goal.overflow_mul-result
overflow_mul-result c =
    product-fits w128 c.from.result c.from-2.result c.args.coefficient c.args.constant (2 ^ 31) (2 ^ 63)
    (c.from.ensures ∙ to_z-of_z w32 c.args.coefficient c.ranges.coefficient) (c.from-2.ensures ∙ to_z-of_z w64 c.args.constant c.ranges.constant)
    (abs-32 c.args.coefficient c.ranges.coefficient) (abs-64 c.args.constant c.ranges.constant) (omega arith) (omega arith) (omega arith)

pub returns : goal.returns
returns c =
    product-kept w128 c.from.result c.from-2.result c.args.coefficient c.args.constant (2 ^ 31) (2 ^ 63)
    (c.from.ensures ∙ to_z-of_z w32 c.args.coefficient c.ranges.coefficient) (c.from-2.ensures ∙ to_z-of_z w64 c.args.constant c.ranges.constant)
    (abs-32 c.args.coefficient c.ranges.coefficient) (abs-64 c.args.constant c.ranges.constant) (omega arith) (omega arith) (omega arith)
