-- Numbers of 32 and of 8 bits.
use Rattle.std.proofs.Common.{◌^◌, w8, w32, w64, arith}
use Rattle.measure.proofs.Small.{abs-32, abs-8, product-stored}
use Rattle.measure.proofs.forms.times.Goals as goal

pub returns-clause-small : goal.returns-clause-small
returns-clause-small c =
    product-stored w64 w32 w8 c.args.coefficient c.args.other c.product.result (2 ^ 31) (2 ^ 7) c.ranges.coefficient c.ranges.other
    (abs-32 c.args.coefficient c.ranges.coefficient) (abs-8 c.args.other c.ranges.other) (omega arith) c.product.ensures
