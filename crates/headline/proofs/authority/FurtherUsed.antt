-- New objects use more of the untyped memory that they are made in.
use Rattle.std.proofs.Common.{ℕ, ◌≡◌, ◌*◌, ◌^◌, ◌<◌, ◌≤◌, true, false, Option, Some, None, if◌then◌else◌, nat_le, pow_pos, ap, subst}
use Rattle.std.proofs.Common.{arith}
use Rattle.std.proofs.Math.Nat.{mul-pos}
use Rattle.model.specs.Capabilities.Placement.{align, place_of_object, placement}

pub behind : (place size : ℕ) → 0 < size → place ≤ align place size
behind place size positive = grind arith

-- one object or more use more of the untyped
pub used-further : (bits watermark object_bits count first end : ℕ) → placement bits watermark object_bits count ≡ Some (first, end) → 1 ≤ count
    → watermark < end
used-further bits watermark object_bits count first end placed some =
    let limit : ℕ = place_of_object watermark object_bits count in
    let positive : 0 < 2 ^ object_bits = pow_pos object_bits in
    let above = behind watermark (2 ^ object_bits) positive in
    let more : 1 ≤ count * 2 ^ object_bits = mul-pos some positive in
    let less : watermark < limit = omega (arith, above, more) in
    elim (nat_le limit (2 ^ bits)) as (λ b. ◌≡◌ {A = Option (ℕ × ℕ)} (if b then Some (align watermark (2 ^ object_bits), limit) else None) (Some (first, end)) →
    watermark < end) [
      | true ↦ λ h. let same : ◌≡◌ {A = ℕ × ℕ} (align watermark (2 ^ object_bits), limit) (first, end) = cc h in
          subst (λ (n : ℕ). watermark < n) (ap (λ x. x.1) same) less
      | false ↦ λ h. absurd (let clash : ◌≡◌ {A = Option (ℕ × ℕ)} None (Some (first, end)) = h in cc)
    ] placed
