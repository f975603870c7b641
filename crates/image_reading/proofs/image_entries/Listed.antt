-- Where the capabilities of one CNode are.
use Rattle.std.proofs.Common.{◌≡◌, inl, inr, ℕ, ◌+◌, ◌*◌, ◌^◌, ◌<◌, ◌≤◌, ◌==◌, false, Some, length, arith}
use Rattle.std.specs.Prelude.{slice_get}
use Rattle.std.proofs.lemmas.Bool.{cases_eq, ne_eqb}
use Rattle.std.proofs.lemmas.List.{length-map}
use Rattle.std.proofs.lemmas.Option.{slice_get_within}
use Rattle.model.specs.declared.entries.CapabilityEntry.{CapabilityEntry}
use Rattle.model.specs.Images.Image.{Image, pair_key}
use Rattle.format_laws.specs.Fitting.{IsFitting}
use Rattle.image_reading.specs.image_entries.Keys.{AreListedIn, IsPlaceOf, capability_keys}
use Rattle.image_reading.proofs.image_entries.Places.{key-at}

abbrev key : CapabilityEntry → ℕ
key c = pair_key c.cnode c.index

other : (m n : ℕ) → (m ≡ n → ⊥) → (m == n) ≡ false
other m n apart = ne_eqb m n apart

module _ (image : Image) (fits : IsFitting image) where
  key-is : (k : ℕ) (c : CapabilityEntry) → slice_get image.capabilities k ≡ Some c → slice_get (capability_keys image) k ≡ Some (key c)
  key-is k c at = key-at key image.capabilities k c at

  pub listed-between : (cnode next first end : ℕ) → next ≡ cnode + 1 → IsPlaceOf (pair_key cnode 0) (capability_keys image) first
      → IsPlaceOf (pair_key next 0) (capability_keys image) end → AreListedIn cnode image.capabilities first end
  listed-between cnode next first end is low high = record {
    within = (let size = length-map image.capabilities key in let within = high.within in omega (arith, size, within));
    before = λ k c less at. other c.cnode cnode (λ same. let lower = low.below k (key c) less (key-is k c at) in omega (arith, lower, same));
    there = λ k c most less at.
        let lower = low.above k (key c) most (key-is k c at) in
        let higher = high.below k (key c) less (key-is k c at) in
        let small = (fits.capability k c at).index in
        middle c.cnode cnode c.index small lower (omega (arith, higher, is));
    behind = λ k c most at. other c.cnode cnode (λ same.
        let higher = high.above k (key c) most (key-is k c at) in
        let small = (fits.capability k c at).index in
        omega (arith, higher, same, small, is));
  }
    where
      middle : (m n i : ℕ) → i < 2 ^ 32 → n * 2 ^ 32 + 0 ≤ m * 2 ^ 32 + i → m * 2 ^ 32 + i < (n + 1) * 2 ^ 32 + 0 → m ≡ n
      middle m n i small lower higher = elim (cases_eq m n) [
        | inl same ↦ same
        | inr apart ↦ absurd (omega (arith, small, lower, higher, apart))
      ]

  -- those of the last number are at the end
  pub listed-last : (cnode first end : ℕ) → cnode ≡ 4294967295 → end ≡ length image.capabilities → (image.header.objects ≤ 4096)
      → IsPlaceOf (pair_key cnode 0) (capability_keys image) first → AreListedIn cnode image.capabilities first end
  listed-last cnode first end is size few low = record {
    within = omega (arith, size);
    before = λ k c less at. other c.cnode cnode (λ same. let small = (fits.capability k c at).cnode in omega (arith, small, few, same, is));
    there = λ k c most less at. absurd (let lower = low.above k (key c) most (key-is k c at) in
        let small = (fits.capability k c at).cnode in let index = (fits.capability k c at).index in
        omega (arith, small, few, lower, index, is));
    behind = λ k c most at. absurd (let inside = slice_get_within image.capabilities k c at in omega (arith, inside, most, size));
  }
