-- A line that is bound has a handler in the boot CNode.
use Rattle.std.proofs.Common.{ℕ, ◌≡◌, ◌∙◌, ◌^◌, ◌<◌, ◌≤◌, ◌⊎◌, inl, inr, true, Option, Some, None, refl, ap, subst, arith}
use Rattle.std.specs.Prelude.{slice_get}
use Rattle.std.specs.Option.{option_map_or}
use Rattle.std.proofs.lemmas.Bool.{eq-eqb}
use Rattle.std.proofs.lemmas.Option.{slice_get_within}
use Rattle.format_laws.specs.Fitting.{IsFitting}
use Rattle.format_laws.proofs.Laws.{is-fitting}
use Rattle.soundness.specs.boot_laws.Loading.{all_loaded}
use Rattle.soundness.proofs.Laws.{ReadsBoot, are-formed, boot-slots-suffice, listed-behind, thread-behind}
use Rattle.model.specs.declared.capabilities.Cap.TheVariants.{Empty}
use Rattle.model.specs.declared.slot_entries.Entry.{Entry}
use Rattle.model.specs.declared.entries.InterruptEntry.{InterruptEntry}
use Rattle.model.specs.Acceptance.Accepted.{IsWellFormed}
use Rattle.model.specs.Capabilities.CapabilityKinds.{is_handler_of}
use Rattle.model.specs.Capabilities.Slots.{capability_at}
use Rattle.model.specs.Images.Described.{described}
use Rattle.model.specs.Images.Image.{Image, whole_image}
use Rattle.model.specs.Images.Places.{boot_slots, handler_slot}
use Rattle.model.specs.Kernel.State.{line_slot}
use Rattle.typestate.specs.Spaces.{HeldInBoot}
use Rattle.thread_spaces.proofs.DescribedSlots.{all-within, boot-holds, capability-shown, from-loaded}
use Rattle.thread_spaces.proofs.EachHolding.{OfSections, each-slot, each-own}

module _ (image : Image) (fits : whole_image.fits image ≡ true) (well : IsWellFormed image) (line : ℕ) (real : line ≤ 63) where
  abbrev IsBound : ℕ → Entry → Type 0
  IsBound slot held = slot ≡ line_slot image.header.boot_radix line → HeldInBoot image (is_handler_of line)

  enough : boot_slots image ≤ 2 ^ image.header.boot_radix
  enough = boot-slots-suffice image (is-fitting image fits) (are-formed image well)

  handler-held : (k : ℕ) (i : InterruptEntry) → slice_get image.interrupts k ≡ Some i → i.line ≡ line → HeldInBoot image (is_handler_of line)
  handler-held k i at same =
      let less : k < image.header.interrupts = subst (λ (n : ℕ). k < n) (IsFitting.interrupts (is-fitting image fits))
      (slice_get_within image.interrupts k i at) in
      let shown = from-loaded image (handler_slot image k) _ (is-fitting image fits) (ReadsBoot.handler (boot-holds image fits well) k i less at) in
      record {
        slot = handler_slot image k;
        boot = omega (arith, less, enough);
        holds = ap (is_handler_of line) (capability-shown image (handler_slot image k) _ shown) ∙ eq-eqb i.line line same;
      }

  are-bound : OfSections IsBound image
  are-bound = record {
    untyped = λ k u at same.
        absurd (let less : k < image.header.untypeds = subst (λ (n : ℕ). k < n) (IsFitting.untypeds (is-fitting image fits))
        (slice_get_within image.untypeds k u at) in omega (arith, less, same, enough));
    original = λ number less same. absurd (omega (arith, less, same, enough));
    control = λ same. absurd (omega (arith, same, enough));
    handler = λ k i at same.
        absurd (let less : k < image.header.interrupts = subst (λ (n : ℕ). k < n) (IsFitting.interrupts (is-fitting image fits))
        (slice_get_within image.interrupts k i at) in omega (arith, less, same, enough));
    frame = λ k f at same.
        absurd (let less : k < image.header.frames = subst (λ (n : ℕ). k < n) (IsFitting.frames (is-fitting image fits))
        (slice_get_within image.frames k f at) in omega (arith, less, same, enough));
    notification = λ k i at same.
        absurd (let less : k < image.header.interrupts = subst (λ (n : ℕ). k < n) (IsFitting.interrupts (is-fitting image fits))
        (slice_get_within image.interrupts k i at) in omega (arith, less, same, enough));
    binding = λ k i at same. handler-held k i at (omega (arith, same));
    listed = λ k c at same.
        absurd (let behind = listed-behind image (is-fitting image fits) (are-formed image well) (all_loaded image) (all-within image) k c at in
        omega (arith, behind, same, real));
    thread = λ k t at.
        let behind = thread-behind image (is-fitting image fits) (are-formed image well) (all_loaded image) (all-within image) k t at in
        each-own IsBound image t (λ same. absurd (omega (arith, behind, same, real))) (λ same. absurd (omega (arith, behind, same, real)))
        (λ some same. absurd (omega (arith, behind, same, real)));
  }

  pub line-held : (capability_at (described image).slots (line_slot image.header.boot_radix line) ≡ Empty) ⊎ HeldInBoot image (is_handler_of line)
  line-held = of-slot ((described image).slots (line_slot image.header.boot_radix line)) refl
    where
      of-slot : (found : Option Entry) → (described image).slots (line_slot image.header.boot_radix line) ≡ found
          → (capability_at (described image).slots (line_slot image.header.boot_radix line) ≡ Empty) ⊎ HeldInBoot image (is_handler_of line)
      of-slot None none = inl (ap (λ (o : Option Entry). option_map_or (λ e. e.capability) o Empty) none)
      of-slot (Some held) some = elim (each-slot IsBound image are-bound (line_slot image.header.boot_radix line) held some) [
        | inl nothing ↦ inl (capability-shown image (line_slot image.header.boot_radix line) held some ∙ ap (λ (e : Entry). e.capability) nothing)
        | inr bound ↦ inr (bound refl)
      ]
