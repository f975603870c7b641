-- What the lines of a well-formed image signal in the state that it describes.
use Rattle.std.proofs.Common.{ℕ, zero, suc, ◌≡◌, ◌∙◌, ◌^◌, ◌==◌, ◌<◌, ◌≤◌, ◌⊎◌, inl, inr, Bool, true, false, if◌then◌else◌}
use Rattle.std.proofs.Common.{Option, Some, None, option_map, List, [], ◌∷◌}
use Rattle.std.proofs.Common.{refl, sym, ap, subst, arith}
use Rattle.std.specs.Prelude.{find, slice_get}
use Rattle.std.specs.Option.{option_map_or}
use Rattle.std.proofs.lemmas.Bool.{eq-eqb, eqb-true}
use Rattle.std.proofs.lemmas.Option.{none-some, same_Some, slice_get_within}
use Rattle.format_laws.specs.Fitting.{IsFitting}
use Rattle.format_laws.proofs.Laws.{is-fitting}
use Rattle.soundness.specs.boot_laws.Loading.{all_loaded}
use Rattle.soundness.proofs.Laws.{ReadsBoot, are-formed, boot-slots-suffice, listed-behind, thread-behind}
use Rattle.model.specs.declared.capabilities.Cap.{Cap}
use Rattle.model.specs.declared.capabilities.Cap.TheVariants.{Empty}
use Rattle.model.specs.declared.slot_entries.Entry.{Entry}
use Rattle.model.specs.declared.entries.InterruptEntry.{InterruptEntry}
use Rattle.model.specs.Acceptance.Accepted.{IsWellFormed}
use Rattle.model.specs.Capabilities.Slots.{capability_at}
use Rattle.model.specs.Images.Described.{described, signalled}
use Rattle.model.specs.Images.Image.{Image, whole_image}
use Rattle.model.specs.Images.Places.{boot_slots, offset_of}
use Rattle.model.specs.Kernel.Interrupts.{Signal, binding, signal_of}
use Rattle.model.specs.Kernel.State.{line_slot}
use Rattle.thread_spaces.proofs.Laws.{OfSections, all-within, boot-holds, capability-shown, each-own, each-slot, from-loaded}

-- ---- what is found

module _ {A : Type 0} (f : A → Bool) where
  pub found-at : (xs : List A) (x : A) → find f xs ≡ Some x → (k : ℕ) × (slice_get xs k ≡ Some x) × (f x ≡ true)
  found-at [] x is = absurd (none-some x is)
  found-at (y ∷ ys) x is =
      elim (f y) as (λ b. f y ≡ b → (if b then Some y else find f ys) ≡ Some x → (k : ℕ) × (slice_get (y ∷ ys) k ≡ Some x) × (f x ≡ true)) [
        | true ↦ λ here same. (0, same, ap f (sym (same_Some y x same)) ∙ here)
        | false ↦ λ _ later. let rest = found-at ys x later in (suc rest.0, rest.1, rest.2)
      ] refl is

  pub found-none : (xs : List A) (k : ℕ) (x : A) → find f xs ≡ None → slice_get xs k ≡ Some x → f x ≡ false
  found-none [] k x none at = absurd (none-some x at)
  found-none (y ∷ ys) zero x none at =
      elim (f y) as (λ b. f y ≡ b → (if b then Some y else find f ys) ≡ None → f x ≡ false) [
        | true ↦ λ _ clash. absurd (none-some y (sym clash))
        | false ↦ λ here later. ap f (sym (same_Some y x at)) ∙ here
      ] refl none
  found-none (y ∷ ys) (suc k) x none at =
      elim (f y) as (λ b. f y ≡ b → (if b then Some y else find f ys) ≡ None → f x ≡ false) [
        | true ↦ λ _ clash. absurd (none-some y (sym clash))
        | false ↦ λ here later. found-none ys k x later at
      ] refl none

-- ---- a line

module _ (image : Image) (fits : whole_image.fits image ≡ true) (well : IsWellFormed image) (line : ℕ) (real : line ≤ 63) where
  abbrev IsListed : Type 0
  IsListed = (k : ℕ) × (i : InterruptEntry) × (slice_get image.interrupts k ≡ Some i) × (i.line ≡ line)

  abbrev IsBound : ℕ → Entry → Type 0
  IsBound slot held = slot ≡ line_slot image.header.boot_radix line → IsListed

  enough : boot_slots image ≤ 2 ^ image.header.boot_radix
  enough = boot-slots-suffice image (is-fitting image fits) (are-formed image well)

  are-bound : OfSections IsBound image
  are-bound = record {
    untyped = λ k u at same.
        absurd (let less : k < image.header.untypeds = subst (λ (n : ℕ). k < n) (IsFitting.untypeds (is-fitting image fits))
        (slice_get_within image.untypeds k u at) in omega (arith, less, same, enough));
    original = λ number less same. absurd (omega (arith, less, same, enough));
    control = λ same. absurd (omega (arith, same, enough));
    handler = λ k i at same.
        absurd (let less : k < image.header.interrupts = subst (λ (n : ℕ). k < n) (IsFitting.interrupts (is-fitting image fits))
        (slice_get_within image.interrupts k i at) in omega (arith, less, same, enough));
    frame = λ k f at same.
        absurd (let less : k < image.header.frames = subst (λ (n : ℕ). k < n) (IsFitting.frames (is-fitting image fits))
        (slice_get_within image.frames k f at) in omega (arith, less, same, enough));
    notification = λ k i at same.
        absurd (let less : k < image.header.interrupts = subst (λ (n : ℕ). k < n) (IsFitting.interrupts (is-fitting image fits))
        (slice_get_within image.interrupts k i at) in omega (arith, less, same, enough));
    binding = λ k i at same. (k, i, at, omega (arith, same));
    listed = λ k c at same.
        absurd (let behind = listed-behind image (is-fitting image fits) (are-formed image well) (all_loaded image) (all-within image) k c at in
        omega (arith, behind, same, real));
    thread = λ k t at.
        let behind = thread-behind image (is-fitting image fits) (are-formed image well) (all_loaded image) (all-within image) k t at in
        each-own IsBound image t (λ same. absurd (omega (arith, behind, same, real))) (λ same. absurd (omega (arith, behind, same, real)))
        (λ some same. absurd (omega (arith, behind, same, real)));
  }

  abbrev held : Cap
  held = capability_at (described image).slots (line_slot image.header.boot_radix line)

  held-or-listed : (held ≡ Empty) ⊎ IsListed
  held-or-listed = of-slot ((described image).slots (line_slot image.header.boot_radix line)) refl
    where
      of-slot : (found : Option Entry) → (described image).slots (line_slot image.header.boot_radix line) ≡ found → (held ≡ Empty) ⊎ IsListed
      of-slot None none = inl (ap (λ (o : Option Entry). option_map_or (λ e. e.capability) o Empty) none)
      of-slot (Some there) some = elim (each-slot IsBound image are-bound (line_slot image.header.boot_radix line) there some) [
        | inl nothing ↦ inl (capability-shown image (line_slot image.header.boot_radix line) there some ∙ ap (λ (e : Entry). e.capability) nothing)
        | inr bound ↦ inr (bound refl)
      ]

  held-listed : (k : ℕ) (i : InterruptEntry) → slice_get image.interrupts k ≡ Some i → i.line ≡ line → held ≡ signalled image i
  held-listed k i at same =
      let less : k < image.header.interrupts = subst (λ (n : ℕ). k < n) (IsFitting.interrupts (is-fitting image fits))
      (slice_get_within image.interrupts k i at) in
      let shown = from-loaded image (line_slot image.header.boot_radix i.line) _ (is-fitting image fits)
      (ReadsBoot.binding (boot-holds image fits well) k i less at) in
      ap (λ (n : ℕ). capability_at (described image).slots (line_slot image.header.boot_radix n)) (sym same)
      ∙ capability-shown image (line_slot image.header.boot_radix i.line) _ shown

  abbrev signal_for : InterruptEntry → Signal
  signal_for i = record { notification = offset_of image i.notification; badge = i.badge }

  abbrev is_line : InterruptEntry → Bool
  is_line i = i.line == line

  pub held-is : signal_of held ≡ option_map signal_for (find is_line image.interrupts)
  held-is = by-found (find is_line image.interrupts) refl
    where
      by-found : (found : Option InterruptEntry) → find is_line image.interrupts ≡ found → signal_of held ≡ option_map signal_for found
      by-found (Some i) is =
          let at = found-at is_line image.interrupts i is in
          ap signal_of (held-listed at.0 i at.1 (eqb-true i.line line at.2))
      by-found None is = elim held-or-listed [
        | inl empty ↦ ap signal_of empty
        | inr there ↦
            let off = found-none is_line image.interrupts there.0 there.1 is there.2 in
            absurd (let clash : true ≡ false = sym (eq-eqb (there.1).line line there.3) ∙ off in cc)
      ]

  pub binding-is : binding (described image) line ≡ option_map signal_for (find is_line image.interrupts)
  unfolding described
  binding-is = held-is
