-- Numbers of 32 and of 64 bits.
use Rattle.std.proofs.Common.{◌^◌, w32, w64, arith}
use mir.Syntax.{w128}
use Rattle.measure.proofs.Small.{abs-32, abs-64, product-stored}
use Rattle.measure.proofs.forms.scaled.Goals as goal

pub returns-clause-small : goal.returns-clause-small
returns-clause-small c =
    product-stored w128 w32 w64 c.args.coefficient c.args.constant c.wide_product.result (2 ^ 31) (2 ^ 63) c.ranges.coefficient c.ranges.constant
    (abs-32 c.args.coefficient c.ranges.coefficient) (abs-64 c.args.constant c.ranges.constant) (omega arith) c.wide_product.ensures
