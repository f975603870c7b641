-- The objects of a loaded state by their offsets: at most one of an image's objects is at an offset.
use Rattle.std.proofs.Common.{ℕ, zero, suc, ◌≡◌, ◌≢◌, ◌∙◌, ◌==◌, ◌+◌, ◌<◌, ◌≤◌, inl, inr, if◌then◌else◌, map, [], ◌∷◌, Option, Some, None, refl, sym, ap, arith}
use Rattle.std.specs.List.{range_with_len}
use Rattle.std.proofs.lemmas.Bool.{eq-eqb, ne_eqb}
use Rattle.std.proofs.lemmas.Bool.Decides.{eqb_tells}
use Rattle.format_laws.specs.Fitting.{IsFitting}
use Rattle.soundness.proofs.boot_laws.PlacesObjects.{offsets-apart}
use Rattle.soundness.proofs.boot_laws.PlacesRules.{AreFormed}
use Rattle.soundness.proofs.boot_laws.Readings.{IsWithin, ReadsObjects}
use Rattle.soundness.specs.boot_laws.Loading.{Progress, loaded, object_so_far, objects_so_far}
use Rattle.model.specs.Images.Described.{first_some}
use Rattle.model.specs.Images.Image.{Image}
use Rattle.model.specs.Images.Places.{offset_of}
use Rattle.model.specs.Kernel.State.{Object}

-- ---- the first that is there

module _ {A : Type 0} (f : ℕ → Option A) where
  pub first-none : (from count : ℕ) → ((n : ℕ) → from ≤ n → n < from + count → f n ≡ None) → first_some (map f (range_with_len from count)) ≡ None
  first-none from zero none = refl
  first-none from (suc count) none =
      ap (λ o. first_some (o ∷ map f (range_with_len (from + 1) count))) (none from (omega arith) (omega arith))
      ∙ first-none (from + 1) count (λ n low high. none n (omega (arith, low)) (omega (arith, high)))

  -- the one number at which something may be
  pub first-at : (from count n : ℕ) → from ≤ n → n < from + count → ((k : ℕ) → from ≤ k → k < from + count → k ≢ n → f k ≡ None)
      → first_some (map f (range_with_len from count)) ≡ f n
  first-at from zero n low high others = absurd (omega (arith, low, high))
  first-at from (suc count) n low high others =
      let rest = map f (range_with_len (from + 1) count) in
      elim (eqb_tells from n) [
        | inl here ↦
            let none = first-none (from + 1) count (λ k above below.
            others k (omega (arith, above)) (omega (arith, below)) (let same = here.1 in λ e. omega (arith, e, same, above))) in
            ap (λ m. first_some (f m ∷ rest)) here.1
            ∙ elim (f n) as (λ o. first_some (o ∷ rest) ≡ o) [ None ↦ none | Some x ↦ refl ]
        | inr apart ↦
            ap (λ o. first_some (o ∷ rest)) (others from (omega arith) (omega arith) apart.1)
            ∙ first-at (from + 1) count n (let other = apart.1 in omega (arith, low, other)) (omega (arith, high))
            (λ k above below. others k (omega (arith, above)) (omega (arith, below)))
      ]

  -- one number more at which nothing is
  pub first-more : (from count : ℕ) → f (from + count) ≡ None →
      first_some (map f (range_with_len from (suc count))) ≡ first_some (map f (range_with_len from count))
  first-more from zero none =
      let here : from ≡ from + 0 = omega arith in ap (λ n. first_some (f n ∷ [])) here ∙ ap (λ o. first_some (o ∷ [])) none
  first-more from (suc count) none =
      let there : from + suc count ≡ from + 1 + count = omega arith in
      let rest = first-more (from + 1) count (ap f (sym there) ∙ none) in
      elim (f from) as (λ o. first_some (o ∷ map f (range_with_len (from + 1) (suc count))) ≡ first_some (o ∷ map f (range_with_len (from + 1) count))) [
        | None ↦ rest
        | Some x ↦ refl
      ]

-- ---- an image's objects

module _ (image : Image) (fitting : IsFitting image) (formed : AreFormed image) (p : Progress) where
  -- what is at an offset by a number
  abbrev pub there_by : ℕ → ℕ → Option Object
  there_by offset number = if offset_of image number == offset then object_so_far image p number else None

  pub elsewhere : (offset number : ℕ) → offset_of image number ≢ offset → there_by offset number ≡ None
  elsewhere offset number other = ap (λ b. if b then object_so_far image p number else None) (ne_eqb (offset_of image number) offset other)

  pub others-none : (count number : ℕ) → count ≤ image.header.objects → number < image.header.objects → (k : ℕ) → k < count → k ≢ number
      → there_by (offset_of image number) k ≡ None
  others-none count number most inside k less other =
      elsewhere (offset_of image number) k (λ same. other (offsets-apart image k number fitting formed (omega (arith, less, most)) inside same))

  pub object-there : (within : IsWithin image p) (number : ℕ) → number < p.objects →
      objects_so_far image p (offset_of image number) ≡ object_so_far image p number
  object-there within number less =
      let most = within.objects in
      first-at (there_by (offset_of image number)) 0 p.objects number (omega arith) (omega (arith, less))
      (λ k low high other. others-none p.objects number most (omega (arith, less, most)) k (omega (arith, high)) other)
      ∙ ap (λ b. if b then object_so_far image p number else None) (eq-eqb (offset_of image number) (offset_of image number) refl)

  pub reads-objects : IsWithin image p → ReadsObjects image p
  unfolding loaded
  reads-objects within = record { there = λ number less kind. object-there within number less }
