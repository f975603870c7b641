-- The first place is a multiple of the size, and multiples lie a size apart.
use Rattle.std.proofs.Common.{ℕ, ◌≡◌, ◌∙◌, ◌^◌, ◌<◌, ap, arith}
use Rattle.model.specs.Capabilities.Placement.{align}
use Rattle.untyped.proofs.Multiples.{sum_is_multiple, ends_before}
use Rattle.untyped.proofs.placing.place.Goals as goal

pub returns-then-end-power-clause-aligned : goal.returns-then-end-power-clause-aligned
returns-then-end-power-clause-aligned c =
    let first : c.next_place-first.result.0 ≡ align c.args.watermark (2 ^ c.args.object_bits) =
    cc (c.next_place-first.ensures.first, c.from.ensures, c.from-2.ensures) in
    λ i. sum_is_multiple _ _ i (2 ^ c.args.object_bits) first

pub returns-then-end-power-clause-within : goal.returns-then-end-power-clause-within
returns-then-end-power-clause-within c = λ i less.
    let size : c.power.result ≡ 2 ^ c.args.object_bits = c.power.ensures.value ∙ ap (λ (n : ℕ). 2 ^ n) c.from-4.ensures in
    let whole : c.power-2.result ≡ 2 ^ c.args.bits = c.power-2.ensures.value ∙ ap (λ (n : ℕ). 2 ^ n) c.from-5.ensures in
    let few : i < c.from-3.result = omega arith in
    let step = ends_before i c.from-3.result c.power.result few in
    rw (← size, ← whole) (omega (arith, step))

pub returns-then-end-power-clause-apart : goal.returns-then-end-power-clause-apart
returns-then-end-power-clause-apart c = λ i j less. omega (arith, ends_before i j (2 ^ c.args.object_bits) less)
