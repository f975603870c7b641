-- The first of new objects lies at a multiple of their size.
use Rattle.std.proofs.Common.{ℕ, ◌≡◌, ◌+◌, ◌-◌, ◌*◌, ◌/◌, ◌%◌, ◌^◌, ◌<◌, ◌≤◌, true, false, Option, Some, None, if◌then◌else◌, nat_le, pow_pos, sym, ap}
use Rattle.std.proofs.Common.{arith}
use Rattle.model.specs.Capabilities.Placement.{align, place_of_object, placement}
use Rattle.headline.proofs.Laws.{behind}
use Rattle.untyped.proofs.Laws.{sum_is_multiple}

first-aligned : (bits watermark object_bits count first end : ℕ) → placement bits watermark object_bits count ≡ Some (first, end) →
    first ≡ align watermark (2 ^ object_bits)
first-aligned bits watermark object_bits count first end placed =
    let limit : ℕ = place_of_object watermark object_bits count in
    elim (nat_le limit (2 ^ bits)) as (λ b. ◌≡◌ {A = Option (ℕ × ℕ)} (if b then Some (align watermark (2 ^ object_bits), limit) else None) (Some (first, end)) →
    first ≡ align watermark (2 ^ object_bits)) [
      | true ↦ λ h. let same : ◌≡◌ {A = ℕ × ℕ} (align watermark (2 ^ object_bits), limit) (first, end) = cc h in ap (λ x. x.0) (sym same)
      | false ↦ λ h. absurd (let clash : ◌≡◌ {A = Option (ℕ × ℕ)} None (Some (first, end)) = h in cc)
    ] placed

pub aligned : (bits watermark object_bits count first end : ℕ) → placement bits watermark object_bits count ≡ Some (first, end)
    → (watermark ≤ first) × ((i : ℕ) → (first + i * 2 ^ object_bits) % 2 ^ object_bits ≡ 0)
aligned bits watermark object_bits count first end placed =
    let at = first-aligned bits watermark object_bits count first end placed in
    let size : ℕ = 2 ^ object_bits in
    let positive : 0 < 2 ^ object_bits = pow_pos object_bits in
    let above = behind watermark (2 ^ object_bits) positive in
    (rw at above, λ i. sum_is_multiple first ((watermark + (2 ^ object_bits - 1)) / 2 ^ object_bits) i (2 ^ object_bits) at)
