-- A power of at most 14 is no greater than that of 14.
use Rattle.std.proofs.Common.{◌≤◌, ◌^◌, arith}
use Rattle.std.proofs.Math.Pow.{pow_mono}
use Rattle.cnode_ops.proofs.object_lifetimes.making.node_slots.Goals as goal

pub returns-clause-most : goal.returns-clause-most
returns-clause-most c = let most : 2 ^ c.args.radix ≤ 2 ^ 14 = pow_mono c.requires in omega (arith, most)
