-- A part of memory that is written at another place is copied byte by byte.
use Rattle.std.proofs.Common.{ℕ, ◌≡◌, ◌∙◌, ◌+◌, ◌-◌, ◌≤◌, true, false, if◌then◌else◌, inl, inr, List, length, drop, take, refl, sym, ap, arith}
use Rattle.std.specs.Prelude.{max, slice_index}
use Rattle.std.proofs.lemmas.Bool.{cases_lt}
use Rattle.std.proofs.lemmas.List.{get_or-drop, get_or-take}
use Rattle.model.proofs.BytesLemmas.{length-written, slice_index-written_before, slice_index-written_behind, slice_index-written_inside}
use Rattle.model.proofs.SlotChanges.{bounds-within, within-bounds}
use Rattle.model.specs.Capabilities.Slots.{is_within}
use Rattle.model.specs.Shared.Bytes.{written}
use Rattle.pmem.proofs.Laws.{length-part}
use Rattle.objects.specs.Frames.{AreCopied}

-- a byte of those that were written, and one beside them
module _ (old : List ℕ) (source target count : ℕ) (inside : max source target + count ≤ length old) where
  abbrev piece : List ℕ
  piece = take count (drop source old)

  long : length piece ≡ count
  long = length-part old source count (omega (arith, inside))

  fits : target + length piece ≤ length old
  fits = omega (arith, inside, long)

  within : (place : ℕ) → is_within target count place ≡ true → slice_index (written old target piece) place ≡ slice_index old (source + (place - target))
  within place is =
      let bounds = within-bounds target count place is in
      let at : place ≡ target + (place - target) = omega (arith, bounds.0) in
      ap (slice_index (written old target piece)) at
      ∙ slice_index-written_inside old target piece (place - target) fits (omega (arith, long, bounds.0, bounds.1))
      ∙ get_or-take count (drop source old) (place - target) 0 (omega (arith, bounds.0, bounds.1))
      ∙ get_or-drop source old (place - target) 0

  beside : (place : ℕ) → is_within target count place ≡ false → slice_index (written old target piece) place ≡ slice_index old place
  beside place is = elim (cases_lt place target) [
    | inl before ↦ slice_index-written_before old target piece place fits before
    | inr from_on ↦ elim (cases_lt place (target + count)) [
      | inl inner ↦ absurd (let clash : true ≡ false = sym (bounds-within target count place from_on inner) ∙ is in cc)
      | inr behind ↦ slice_index-written_behind old target piece place fits (omega (arith, long, behind))
    ]
  ]

  pub copied : (new : List ℕ) → new ≡ written old target piece → AreCopied old new source target count
  copied new is = record {
    size = ap (λ (m : List ℕ). length m) is ∙ length-written old target piece fits;
    bytes = λ place. ap (λ (m : List ℕ). slice_index m place) is ∙ elim (is_within target count place) as (λ b. is_within target count place ≡ b
        → slice_index (written old target piece) place ≡ (if b then slice_index old (source + (place - target)) else slice_index old place)) [
          | true ↦ within place
          | false ↦ beside place
        ] refl;
  }
