-- A power rises.
use Rattle.std.proofs.Common.{◌^◌, ◌≤◌, arith}
use Rattle.std.proofs.Math.Nat.{pow-le-pow_right}
use Rattle.typestate.proofs.window.Window.slot_count.Goals as goal

pub returns-clause-few : goal.returns-clause-few
returns-clause-few c =
    let most : 2 ^ c.args.self.now.radix ≤ 2 ^ 14 = pow-le-pow_right (omega arith) c.args.self.now.small in
    omega arith
