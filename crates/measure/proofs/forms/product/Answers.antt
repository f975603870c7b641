-- Numbers of 32 and of 8 bits.
use Rattle.std.proofs.Common.{◌^◌, w8, w32, w64, ◌∙◌, arith}
use Rattle.std.proofs.lemmas.Int.{to_z-of_z}
use Rattle.measure.proofs.Small.{abs-32, abs-8, product-fits, product-kept}
use Rattle.measure.proofs.forms.product.Goals as goal

pub overflow_mul-result : goal.overflow_mul-result
overflow_mul-result c =
    product-fits w64 c.from.result c.from-2.result c.args.coefficient c.args.other (2 ^ 31) (2 ^ 7)
    (c.from.ensures ∙ to_z-of_z w32 c.args.coefficient c.ranges.coefficient) (c.from-2.ensures ∙ to_z-of_z w8 c.args.other c.ranges.other)
    (abs-32 c.args.coefficient c.ranges.coefficient) (abs-8 c.args.other c.ranges.other) (omega arith) (omega arith) (omega arith)

pub returns : goal.returns
returns c =
    product-kept w64 c.from.result c.from-2.result c.args.coefficient c.args.other (2 ^ 31) (2 ^ 7)
    (c.from.ensures ∙ to_z-of_z w32 c.args.coefficient c.ranges.coefficient) (c.from-2.ensures ∙ to_z-of_z w8 c.args.other c.ranges.other)
    (abs-32 c.args.coefficient c.ranges.coefficient) (abs-8 c.args.other c.ranges.other) (omega arith) (omega arith) (omega arith)
