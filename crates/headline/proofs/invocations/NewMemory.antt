-- New objects lie where nothing was: what was there is still there, and its bytes are the same.
use Rattle.std.proofs.Common.{ℕ, ◌≡◌, ◌∙◌, ◌==◌, ◌+◌, ◌*◌, ◌^◌, ◌<◌, ◌≤◌, ◌⊎◌, ◌&&◌, inl, inr, Bool, true, false, if◌then◌else◌, Option, Some, refl, sym, ap}
use Rattle.std.proofs.Common.{arith, pow_pos}
use Rattle.std.specs.Prelude.{option_map}
use Rattle.std.specs.Option.{option_map_or}
use Rattle.std.proofs.lemmas.Bool.{eqb-true}
use Rattle.std.proofs.lemmas.Bool.Decides.{nat_tests}
use Rattle.model.specs.Capabilities.Slots.{is_within}
use Rattle.model.specs.Kernel.AddressSpaces.{page_size}
use Rattle.model.specs.Kernel.Kinds.{kind_at, kind_of}
use Rattle.model.specs.Kernel.Retype.{NewObject, NewObjects, NewFrame, is_frame, object, object_bits, place_of_new, size_of, some_new, with_new_bytes}
use Rattle.model.specs.Kernel.Retype.{with_new_objects}
use Rattle.model.specs.Kernel.State.{State, Object}
use Rattle.soundness.specs.Unused.{IsUnused}
use Rattle.soundness.proofs.Laws.{IsLaid, next-within, some-place}

-- ---- numbers

pub within-parts : (first count place : ℕ) → is_within first count place ≡ true → (first ≤ place) × (place < first + count)
within-parts first count place is = (grind (arith, nat_tests), grind (arith, nat_tests))

module _ (s : State) (offset bits watermark : ℕ) (unused : IsUnused s offset bits watermark) (new : NewObjects) (mark : ℕ)
    (laid : IsLaid offset bits watermark (object_bits new.kind) new.count new.first mark) where
  -- one of the new objects lies after the watermark, and inside the memory
  pub record IsBehind (place : ℕ) : Type 0 where
    pub from : offset + watermark ≤ place
    pub to : place + size_of new ≤ offset + 2 ^ bits

  pub place-behind : (i : ℕ) → i < new.count → IsBehind (place_of_new new i)
  place-behind i less =
      let behind = laid.behind in
      let ends = laid.ends in
      let fits = laid.fits in
      let next = next-within i new.count (size_of new) less in
      record { from = omega (arith, behind); to = omega (arith, ends, fits, next) }

  -- no object is there
  pub not-there : (place : ℕ) (kind : NewObject) → kind_at s place ≡ Some kind → IsBehind place → ⊥
  not-there place kind is behind =
      let from = behind.from in
      let to = behind.to in
      let size = pow_pos (object_bits kind) in
      let other = pow_pos (object_bits new.kind) in
      elim (unused.free.objects place kind is) [
        | inl before ↦ omega (arith, before, from, size)
        | inr after ↦ omega (arith, after, to, other)
      ]

  not-new : (place : ℕ) (kind : NewObject) → kind_at s place ≡ Some kind → some_new new (λ at. at == place) ≡ false
  not-new place kind is = elim (some_new new (λ at. at == place)) as (λ b. some_new new (λ at. at == place) ≡ b → b ≡ false) [
    | false ↦ λ _. refl
    | true ↦ λ found.
        let one = some-place new (λ at. at == place) found in
        absurd (not-there (place_of_new new one.0) kind (ap (kind_at s) (eqb-true (place_of_new new one.0) place one.2) ∙ is) (place-behind one.0 one.1))
  ] refl

  -- what was there
  pub object-stays : (place : ℕ) (o : Object) → s.objects place ≡ Some o → with_new_objects new s.objects place ≡ Some o
  object-stays place o is =
      ap (λ b. if b then option_map_or Some (object new.kind) (s.objects place) else s.objects place)
      (not-new place (kind_of o) (ap (option_map kind_of) is)) ∙ is

  -- what is there was there, or is new
  pub object-was : (made o : Object) → object new.kind ≡ Some made → (place : ℕ) → with_new_objects new s.objects place ≡ Some o
      → (s.objects place ≡ Some o) ⊎ (made ≡ o)
  object-was made o there place is =
      elim (some_new new (λ at. at == place)) as
      (λ b. (if b then option_map_or Some (object new.kind) (s.objects place) else s.objects place) ≡ Some o → (s.objects place ≡ Some o) ⊎ (made ≡ o)) [
        | false ↦ λ was. inl was
        | true ↦ λ now. inr (let both : Some made ≡ Some o = sym (ap (λ (x : Option Object). option_map_or Some x (s.objects place)) there) ∙ now in cc)
      ] is

  -- the bytes of a frame
  pub byte-stays : (frame place : ℕ) → kind_at s frame ≡ Some NewFrame → frame ≤ place → place < frame + page_size
      → with_new_bytes new s.bytes place ≡ s.bytes place
  byte-stays frame place is low high = by-test (is_frame new.kind && is_within new.first (new.count * size_of new) place) refl
    where
      outside : is_within new.first (new.count * size_of new) place ≡ true → ⊥
      outside inside =
          let parts = within-parts new.first (new.count * size_of new) place inside in
          let first = parts.0 in
          let last = parts.1 in
          let behind = laid.behind in
          let ends = laid.ends in
          let fits = laid.fits in
          elim (unused.free.objects frame NewFrame is) [
            | inl before ↦ omega (arith, before, first, behind, high)
            | inr after ↦ omega (arith, after, last, ends, fits, low)
          ]

      second : (a b : Bool) → (a && b) ≡ true → b ≡ true
      second true b both = both
      second false b both = absurd (let clash : false ≡ true = both in cc)

      by-test : (b : Bool) → (is_frame new.kind && is_within new.first (new.count * size_of new) place) ≡ b
          → (if b then Some 0 else s.bytes place) ≡ s.bytes place
      by-test false _ = refl
      by-test true inside = absurd (outside (second (is_frame new.kind) (is_within new.first (new.count * size_of new) place) inside))
