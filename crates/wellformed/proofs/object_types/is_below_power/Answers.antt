-- Each number of 32 bits is below 2 to the power of 32 or more.
use Rattle.std.proofs.Common.{◌^◌, ◌≤◌, ◌<◌, ◌∙◌, sym, arith}
use Rattle.std.proofs.Math.Pow.{pow_mono}
use Rattle.std.proofs.lemmas.Bool.{le-leb, lt-ltb}
use Rattle.wellformed.proofs.object_types.is_below_power.Goals as goal

pub returns-then-bits-ge32 : goal.returns-then-bits-ge32
returns-then-bits-ge32 c =
    let many : 32 ≤ c.args.bits = omega arith in
    let most : 2 ^ 32 ≤ 2 ^ c.args.bits = pow_mono many in
    let below : c.args.number < 2 ^ 32 = omega arith in
    le-leb 32 c.args.bits many ∙ sym (lt-ltb c.args.number (2 ^ c.args.bits) (omega (arith, most, below)))
