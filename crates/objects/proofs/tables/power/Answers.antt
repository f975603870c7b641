-- A power of at most 24 bits is no greater than that of 24.
use Rattle.std.proofs.Common.{◌≤◌, ◌^◌, arith}
use Rattle.std.proofs.Math.Pow.{pow_mono}
use Rattle.objects.proofs.tables.power.Goals as goal

pub returns-clause-most : goal.returns-clause-most
returns-clause-most c = let most : 2 ^ c.args.bits ≤ 2 ^ 24 = pow_mono c.requires in omega (arith, most)
