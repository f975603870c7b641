-- What an image describes was derived from boot slots alone.
use Rattle.std.proofs.Common.{ℕ, ◌≡◌, ◌∙◌, ◌^◌, ◌<◌, ◌≤◌, inl, inr, true, false, if◌then◌else◌, Option, Some, None, refl, sym, ap, subst, arith}
use Rattle.std.specs.Prelude.{slice_get}
use Rattle.std.specs.Option.{option_map_or}
use Rattle.std.proofs.lemmas.Bool.{cases_lt, lt-leb}
use Rattle.std.proofs.lemmas.List.{get_or_past}
use Rattle.std.proofs.lemmas.Nat.{pow_pos}
use Rattle.std.proofs.lemmas.Option.{none-some, same_Some, slice_get_within}
use Rattle.format_laws.specs.Fitting.{CapabilityFits, FrameFits, InterruptFits, IsFitting, ObjectFits, ThreadFits}
use Rattle.soundness.proofs.Laws.{AreFormed, BufferKept, boot-slots-suffice, buffer-kept, frame-listed, object-at}
use Rattle.model.specs.declared.entries.CapabilityEntry.{CapabilityEntry}
use Rattle.model.specs.declared.entries.ObjectEntry.{ObjectEntry}
use Rattle.model.specs.declared.slot_entries.Entry.{Entry}
use Rattle.model.specs.Capabilities.CapabilityKinds.{is_untyped}
use Rattle.model.specs.Capabilities.Slots.{parent_at}
use Rattle.model.specs.Images.Described.{described, listed_capability, listed_parent}
use Rattle.model.specs.Images.Image.{Image}
use Rattle.model.specs.Images.Places.{boot_slots, handler_slot, interrupt_of, is_handler, object_at, original_slot, source_boot_slot}
use Rattle.thread_spaces.proofs.EachHolding.{OfSections, each-slot, each-own}
use Rattle.thread_spaces.proofs.DescribedSlots.{parent-shown}

abbrev HangsInBoot : Image → ℕ → Entry → Type 0
HangsInBoot image slot held = (parent : ℕ) → held.parent ≡ Some parent → parent < 2 ^ image.header.boot_radix

module _ (image : Image) (fitting : IsFitting image) (formed : AreFormed image) where
  enough : boot_slots image ≤ 2 ^ image.header.boot_radix
  enough = boot-slots-suffice image fitting formed

  home-less : (number : ℕ) → number < image.header.objects → (object_at image number).untyped < image.header.untypeds
  home-less number less = ObjectFits.untyped (fitting.object number (object_at image number) (object-at image number fitting less))

  at-most : (slot : ℕ) (parent : ℕ) → slot < 2 ^ image.header.boot_radix → Some slot ≡ Some parent → parent < 2 ^ image.header.boot_radix
  at-most slot parent less same = let is = same_Some slot parent same in omega (arith, less, is)

  listed-parent-boot : (k : ℕ) (c : CapabilityEntry) → slice_get image.capabilities k ≡ Some c → listed_parent image c < 2 ^ image.header.boot_radix
  listed-parent-boot k c at =
      let source = CapabilityFits.source (fitting.capability k c at) in
      let home : (object_at image c.source).untyped < 2 ^ image.header.boot_radix = elim (cases_lt c.source image.header.objects) [
        | inl less ↦ let below = home-less c.source less in omega (arith, below, enough)
        | inr most ↦
            let none : object_at image c.source ≡ record { untyped = 0; kind = 0; size = 0 } =
            get_or_past image.objects c.source _ (omega (arith, most, fitting.objects)) in
            let zero = ap (λ (o : ObjectEntry). o.untyped) none in
            let some = pow_pos image.header.boot_radix in
            omega (arith, zero, some)
      ] in
      let other : source_boot_slot image c.source < 2 ^ image.header.boot_radix = elim (cases_lt c.source image.header.objects) [
        | inl less ↦ subst (λ b. (if b then handler_slot image (interrupt_of image c.source) else original_slot image c.source) < 2 ^ image.header.boot_radix)
            (sym (lt-leb image.header.objects c.source less)) (omega (arith, less, enough))
        | inr most ↦ elim (is_handler image c.source)
            as (λ b. (if b then handler_slot image (interrupt_of image c.source) else original_slot image c.source) < 2 ^ image.header.boot_radix) [
              | true ↦ omega (arith, most, enough, source)
              | false ↦ omega (arith, most, enough, source)
            ]
      ] in
      elim (is_untyped (listed_capability image c))
      as (λ b. (if b then (object_at image c.source).untyped else source_boot_slot image c.source) < 2 ^ image.header.boot_radix)
      [ true ↦ home | false ↦ other ]

  hang-in-boot : OfSections (HangsInBoot image) image
  hang-in-boot = record {
    untyped = λ k u at parent is. absurd (none-some parent is);
    original = λ number less parent is. at-most (object_at image number).untyped parent (let below = home-less number less in omega (arith, below, enough)) is;
    control = λ parent is. absurd (none-some parent is);
    handler = λ k i at parent is. at-most _ parent (omega (arith, enough)) is;
    frame = λ k f at parent is. at-most _ parent (let less = FrameFits.frame (fitting.frame k f at) in omega (arith, less, enough)) is;
    notification = λ k i at parent is. at-most _ parent (let less = InterruptFits.notification (fitting.interrupt k i at) in omega (arith, less, enough)) is;
    binding = λ k i at parent is.
        at-most _ parent
        (let less : k < image.header.interrupts = subst (λ (n : ℕ). k < n) fitting.interrupts (slice_get_within image.interrupts k i at) in
        omega (arith, less, enough)) is;
    listed = λ k c at parent is. at-most _ parent (listed-parent-boot k c at) is;
    thread = λ k t at. each-own (HangsInBoot image) image t
        (λ parent is. at-most _ parent (let less = ThreadFits.cnode (fitting.thread k t at) in omega (arith, less, enough)) is)
        (λ parent is. at-most _ parent (let less = ThreadFits.root (fitting.thread k t at) in omega (arith, less, enough)) is)
        (λ some parent is. at-most _ parent
        (let less = frame-listed image t.header.buffer fitting (BufferKept.frame (buffer-kept image k t (formed.thread k t at) some)) in
        omega (arith, less, enough)) is);
  }

  -- what a slot was derived from is a boot slot
  pub parent-in-boot : (slot parent : ℕ) → parent_at (described image).slots slot ≡ Some parent → parent < 2 ^ image.header.boot_radix
  parent-in-boot slot parent is = of-slot ((described image).slots slot) refl
    where
      of-slot : (found : Option Entry) → (described image).slots slot ≡ found → parent < 2 ^ image.header.boot_radix
      of-slot None at = absurd (none-some parent (sym (ap (λ (o : Option Entry). option_map_or (λ e. e.parent) o None) at) ∙ is))
      of-slot (Some held) at =
          let hangs : held.parent ≡ Some parent = sym (parent-shown image slot held at) ∙ is in
          elim (each-slot (HangsInBoot image) image hang-in-boot slot held at) [
            | inl nothing ↦ absurd (none-some parent (sym (ap (λ (e : Entry). e.parent) nothing) ∙ hangs))
            | inr boot ↦ boot parent hangs
          ]
