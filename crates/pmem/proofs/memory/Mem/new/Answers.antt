-- The bytes are as many zeros as the size, which is at most 2^24.
use Rattle.std.proofs.Common.{ℕ, ◌^◌, ◌<◌, ◌≤◌, arith, lit<}
use Rattle.std.proofs.Math.Pow.{pow_mono}
use Rattle.std.proofs.lemmas.List.Elements.{All-same, All-replicate}
use Rattle.pmem.proofs.memory.Mem.new.Goals as goal

pub invariant_of-result : goal.invariant_of-result
invariant_of-result c =
    let P : ℕ → Type 0 = λ byte. byte < 256 in
    let small : 2 ^ c.args.bits ≤ 2 ^ 24 = pow_mono c.requires.most in
    let zeros = c.in_ok-vec.ensures.items_if_clones_equal (λ y same. same) in
    (omega (arith, small, c.in_ok-vec.ensures.len, c.in_ok-vec.field-0.ok), All-same P _ _ zeros (All-replicate P _ 0 (lit< tt)))
