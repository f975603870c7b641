-- One bit is set.
use Rattle.std.proofs.Common.{ℕ, ◌≡◌, ◌≢◌, ◌%◌, ◌<◌, subst}
use Rattle.std.specs.Int.{bit_at}
use Rattle.cnode_ops.proofs.LineSets.{line-with}
use Rattle.cnode_ops.proofs.lines.LineSet.with.Goals as goal

pub returns : goal.returns
returns c =
    line-with c.args.self _ c.args.line
    (subst (λ (n : ℕ). bit_at c.with_bit.result (n % 64) ≡ 1) c.from.ensures c.with_bit.ensures.own)
    (subst (λ (n : ℕ). (i : ℕ) → i < 64 → i ≢ n % 64 → bit_at c.with_bit.result i ≡ bit_at c.args.self.bits i) c.from.ensures c.with_bit.ensures.others)
