-- The frame that is mapped at an address under a root table, by the place of its key.
use Rattle.std.proofs.Common.{◌≡◌, inl, inr, ℕ, ◌+◌, ◌^◌, ◌<◌, ◌≤◌, ◌==◌, ◌&&◌, Bool, true, false, None, Some, length, arith}
use Rattle.std.specs.Prelude.{slice_get}
use Rattle.std.proofs.lemmas.Bool.{cases_eq, eq-eqb, eqb-true, and_parts}
use Rattle.model.specs.declared.entries.FrameEntry.{FrameEntry}
use Rattle.model.specs.Images.Fills.{frame_at}
use Rattle.model.specs.Images.Image.{Image, pair_key}
use Rattle.format_laws.specs.Fitting.{IsFitting}
use Rattle.image_reading.specs.image_entries.Keys.{DoRise, IsPlaceOf, frame_keys}
use Rattle.image_reading.proofs.image_entries.Places.{IsWithinKeys, before-place, find-first, find-no, keys-rise, none-behind, none-from}

abbrev pub frame_key : FrameEntry → ℕ
frame_key f = pair_key f.root f.address

abbrev pub is_at : ℕ → ℕ → FrameEntry → Bool
is_at root address f = f.root == root && f.address == address

same-root : (r s a b : ℕ) → a < 2 ^ 32 → b < 2 ^ 32 → pair_key s b ≤ pair_key r a → pair_key r a < pair_key s b + 1 → r ≡ s
same-root r s a b less small low high = elim (cases_eq r s) [
  | inl same ↦ same
  | inr other ↦ absurd (omega (arith, less, small, low, high, other))
]

module _ (image : Image) (fits : IsFitting image) where
  pub frames-rise : DoRise (frame_keys image)
  frames-rise = keys-rise frame_key image.frames fits.pages_rise

  at-address : (root address : ℕ) → address < 2 ^ 32
      → IsWithinKeys frame_key (is_at root address) image.frames (pair_key root address) (pair_key root address + 1)
  at-address root address small = record {
    passes = λ k f at low high.
        let first : f.root ≡ root = same-root f.root root f.address address (fits.frame k f at).address small low high in
        let second : f.address ≡ address = omega (arith, low, high, first) in
        rw (eq-eqb f.root root first) (eq-eqb f.address address second);
    lowest = λ k f at holds.
        let first : f.root ≡ root = eqb-true f.root root (and_parts (f.root == root) _ holds).0 in
        let second : f.address ≡ address = eqb-true f.address address (and_parts (f.root == root) _ holds).1 in
        omega (arith, first, second);
    highest = λ k f at holds.
        let first : f.root ≡ root = eqb-true f.root root (and_parts (f.root == root) _ holds).0 in
        let second : f.address ≡ address = eqb-true f.address address (and_parts (f.root == root) _ holds).1 in
        omega (arith, first, second);
  }

  pub mapped-none : (root address place : ℕ) → address < 2 ^ 32 → IsPlaceOf (pair_key root address) (frame_keys image) place → length image.frames ≤ place
      → frame_at image root address ≡ None
  mapped-none root address place small is past =
      find-no (is_at root address) image.frames (none-behind frame_key (is_at root address) image.frames _ _ place (at-address root address small) is past)

  pub mapped-other : (root address place : ℕ) (f : FrameEntry) → address < 2 ^ 32 → IsPlaceOf (pair_key root address) (frame_keys image) place
      → slice_get image.frames place ≡ Some f → is_at root address f ≡ false → frame_at image root address ≡ None
  mapped-other root address place f small is at fails =
      find-no (is_at root address) image.frames
      (none-from frame_key (is_at root address) image.frames _ _ place (at-address root address small) is frames-rise f at fails)

  pub mapped-here : (root address place : ℕ) (f : FrameEntry) → address < 2 ^ 32 → IsPlaceOf (pair_key root address) (frame_keys image) place
      → slice_get image.frames place ≡ Some f → is_at root address f ≡ true → frame_at image root address ≡ Some f
  mapped-here root address place f small is at holds =
      find-first (is_at root address) image.frames place f at holds
      (before-place frame_key (is_at root address) image.frames _ _ place (at-address root address small) is)
