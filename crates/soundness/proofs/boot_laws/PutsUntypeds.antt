-- Untyped memory and interrupt control are put into boot slots: what is there before the first kernel call.
use Rattle.std.proofs.Common.{ℕ, zero, suc, ◌≡◌, ◌∙◌, ◌==◌, ◌+◌, ◌%◌, ◌^◌, ◌<◌, ◌≤◌, ◌&&◌, ◌||◌, Bool, true, false, not, nat_le, nat_lt, if◌then◌else◌, Some}
use Rattle.std.proofs.Common.{None, List, [], ◌∷◌, ◌++◌, map, take, length, option_map, refl, sym, ap, subst, arith}
use Rattle.std.specs.Prelude.{flat_map, slice_get}
use Rattle.std.specs.Option.{option_map_or}
use Rattle.std.proofs.lemmas.Bool.{and_from, eq-eqb, le-leb, le-ltb}
use Rattle.std.proofs.lemmas.List.{append-nil, map-append}
use Rattle.std.proofs.lemmas.Option.{get_or_from_slice_get, none-some, same_Some, slice_get-map, slice_get_within}
use Rattle.soundness.specs.boot_laws.Loading.{bytes_so_far, holdings_so_far, is_open_so_far, loaded, nothing_loaded, slots_so_far, untyped_so_far}
use Rattle.model.specs.Capabilities.Slots.{empty_entry}
use Rattle.model.specs.Images.BootCalls.{PutsControl, PutsUntyped}
use Rattle.model.specs.Images.Described.{Holding, held_in, holding, numbered}
use Rattle.model.specs.Images.Image.{Image}
use Rattle.model.specs.Images.Places.{control_slot, untyped_at, used_by}
use Rattle.model.specs.Acceptance.WellFormed.{untyped_end}
use Rattle.model.specs.Kernel.Setup.{boot_area, may_be_untyped, memory_end, put_control, put_in_boot_slot, put_untyped}
use Rattle.model.specs.Kernel.State.{State, boot_area_end, boot_area_slots, holds_some}
use Rattle.model.specs.declared.capabilities.Cap.TheVariants.{InterruptControl, Untyped}
use Rattle.model.specs.declared.entries.UntypedEntry.{UntypedEntry}
use Rattle.soundness.proofs.boot_laws.CallHeld.{none-held}
use Rattle.soundness.proofs.boot_laws.PhaseHeld.{get-take}
use Rattle.format_laws.specs.Fitting.{IsFitting}
use Rattle.soundness.proofs.boot_laws.PlacesObjects.{UntypedStands, untyped-at, untyped-stands, untypeds-apart}
use Rattle.soundness.proofs.boot_laws.PlacesRules.{AreFormed, numbered-at}
use Rattle.soundness.proofs.boot_laws.PlacesSlots.{boot-slots-suffice}
use Rattle.soundness.proofs.boot_laws.PutsBoot.{booted-first, booted_with, boot_slots_with, none-boot, put-more}
use Rattle.soundness.proofs.boot_laws.ReadingsLists.{mapped-none, numbered-back}
use Rattle.soundness.proofs.boot_laws.RunFills.{take-more}
use Rattle.soundness.proofs.boot_laws.RunSequences.{Leads, leads-both, leads-control, leads-each, leads-same, leads-to, leads-untyped, one-each}
use Rattle.soundness.proofs.boot_laws.WholeFits.{length-numbered, take-whole}
use Rattle.model.specs.Kernel.Soundness.{IsSound}
use Rattle.soundness.proofs.Setups.{control-whole, put_untyped-whole}

-- untyped memory that nothing uses
abbrev fresh : ℕ × UntypedEntry → Holding
fresh u = holding u.0 (Untyped (u.1).offset (u.1).bits 0) None

module _ (image : Image) (fitting : IsFitting image) (formed : AreFormed image) where
  abbrev puts : ℕ → List Holding
  puts k = map fresh (take k (numbered image.untypeds))

  abbrev states : ℕ → State
  states k = booted_with image.header.memory_bits image.header.boot_radix (puts k)

  entry-named : (j : ℕ) (y : ℕ × UntypedEntry) → slice_get (numbered image.untypeds) j ≡ Some y → y ≡ (j, untyped_at image j)
  entry-named j y at =
      let back = numbered-back image.untypeds j y at in
      let held = sym (get_or_from_slice_get image.untypeds j y.1 (record { offset = 0; bits = 0 }) back.1) in
      λ i. (back.0 i, held i)

  -- what is put is one of the untypeds before
  put-before : (k j : ℕ) (h : Holding) → slice_get (puts k) j ≡ Some h
      → (h ≡ fresh (j, untyped_at image j)) × (j < k)
  put-before k j h at =
      elim (slice_get (take k (numbered image.untypeds)) j) as
      (λ o. slice_get (take k (numbered image.untypeds)) j ≡ o → option_map fresh o ≡ Some h → (h ≡ fresh (j, untyped_at image j)) × (j < k)) [
        | None ↦ λ none clash. absurd (none-some h clash)
        | Some y ↦ λ there is.
            let before = get-take k (numbered image.untypeds) j y there in
            (sym (same_Some (fresh y) h is) ∙ ap fresh (entry-named j y before.1), before.0)
      ] refl (sym (slice_get-map fresh (take k (numbered image.untypeds)) j) ∙ at)

  module _ (k : ℕ) (inside : k < image.header.untypeds) where
    abbrev u : UntypedEntry
    u = untyped_at image k

    stands : UntypedStands image k
    stands = untyped-stands image k fitting formed inside

    -- none of those before ends after where it begins
    ends-before : (j : ℕ) (h : Holding) → slice_get (puts k) j ≡ Some h → nat_lt u.offset (memory_end h.1.capability) ≡ false
    ends-before j h at =
        let before = put-before k j h at in
        let apart = untypeds-apart image j k fitting formed before.1 inside in
        ap (λ (g : Holding). nat_lt u.offset (memory_end g.1.capability)) before.0 ∙ le-ltb u.offset (untyped_end (untyped_at image j)) apart

    behind-all : holds_some (states k) (λ capability. nat_lt u.offset (memory_end capability)) ≡ false
    behind-all =
        none-held (states k) (λ capability. nat_lt u.offset (memory_end capability))
        (λ slot. none-boot (λ capability. nat_lt u.offset (memory_end capability)) image.header.boot_radix (puts k) slot (le-ltb u.offset 0 (omega arith))
        ends-before)

    may-stand : may_be_untyped (states k) u.offset u.bits ≡ true
    may-stand =
        let size = 2 ^ u.bits in
        let a = and_from (nat_le 4 u.bits) (nat_le u.bits 24) (le-leb 4 u.bits stands.low) (le-leb u.bits 24 stands.high) in
        let b = and_from (nat_le 4 u.bits && nat_le u.bits 24) (u.offset % size == 0) a (eq-eqb (u.offset % size) 0 stands.aligned) in
        let c = and_from (nat_le 4 u.bits && nat_le u.bits 24 && (u.offset % size == 0)) (nat_le (u.offset + size) (2 ^ image.header.memory_bits)) b
        (le-leb (u.offset + size) (2 ^ image.header.memory_bits) stands.inside) in
        let d = and_from (nat_le 4 u.bits && nat_le u.bits 24 && (u.offset % size == 0) && nat_le (u.offset + size) (2 ^ image.header.memory_bits))
        (nat_le (boot_area_end image.header.boot_radix) u.offset) c (le-leb (boot_area_end image.header.boot_radix) u.offset stands.behind_boot) in
        and_from (nat_le 4 u.bits && nat_le u.bits 24 && (u.offset % size == 0) && nat_le (u.offset + size) (2 ^ image.header.memory_bits)
        && nat_le (boot_area_end image.header.boot_radix) u.offset) (not (holds_some (states k) (λ capability. nat_lt u.offset (memory_end capability)))) d
        (ap not behind-all)

    numbered-here : slice_get (numbered image.untypeds) k ≡ Some (k, u)
    numbered-here = numbered-at image.untypeds k u (untyped-at image k fitting inside)

    free-here : held_in (puts k) k ≡ None
    free-here = mapped-none fresh (numbered image.untypeds) k k (λ j y less at is.
        let back = numbered-back image.untypeds j y at in omega (arith, less, is, back.0))

    small : k < 2 ^ image.header.boot_radix
    small = let enough = boot-slots-suffice image fitting formed in omega (arith, inside, enough)

    puts-next : puts k ++ fresh (k, u) ∷ [] ≡ puts (suc k)
    puts-next =
        sym (map-append fresh (take k (numbered image.untypeds)) ((k, u) ∷ []))
        ∙ ap (map fresh) (sym (take-more (numbered image.untypeds) k (k, u) numbered-here))

    put-here : put_untyped (states k) k u.offset u.bits ≡ Some (states (suc k))
    unfolding put_untyped
    put-here =
        ap (λ b. if b then put_in_boot_slot (states k) k (Untyped u.offset u.bits 0) else None) may-stand
        ∙ put-more image.header.memory_bits image.header.boot_radix (puts k) k (Untyped u.offset u.bits 0) small free-here
        ∙ ap (λ full. Some (booted_with image.header.memory_bits image.header.boot_radix full)) puts-next

  -- ---- all of them

  untyped-leads : (k : ℕ) (x : ℕ × UntypedEntry) → slice_get (numbered image.untypeds) k ≡ Some x →
      Leads image (states k) (PutsUntyped x.0 x.1 ∷ []) (states (suc k))
  untyped-leads k x at =
      let inside : k < image.header.untypeds = subst (λ (n : ℕ). k < n) fitting.untypeds
      (slice_get_within image.untypeds k x.1 (numbered-back image.untypeds k x at).1) in
      subst (λ (y : ℕ × UntypedEntry). Leads image (states k) (PutsUntyped y.0 y.1 ∷ []) (states (suc k))) (sym (entry-named k x at))
      (leads-untyped image (states k) (states (suc k)) k (untyped_at image k) (put-here k inside))

  abbrev all_puts : List Holding
  all_puts = map fresh (numbered image.untypeds)

  abbrev with_all : State
  with_all = booted_with image.header.memory_bits image.header.boot_radix all_puts

  all-lead : Leads image (states 0) (map (λ x. PutsUntyped x.0 x.1) (numbered image.untypeds)) with_all
  all-lead =
      leads-same image (states 0) with_all (flat_map (λ x. PutsUntyped x.0 x.1 ∷ []) (numbered image.untypeds)) _
      (one-each (λ x. PutsUntyped x.0 x.1) (numbered image.untypeds))
      (leads-to image (states 0) (states (0 + length (numbered image.untypeds))) with_all (flat_map (λ x. PutsUntyped x.0 x.1 ∷ []) (numbered image.untypeds))
      ended
      (leads-each image (λ x. PutsUntyped x.0 x.1 ∷ []) states (numbered image.untypeds) 0 (λ k x at.
      let here : k ≡ 0 + k = omega arith in
      subst (λ (n : ℕ). Leads image (states n) (PutsUntyped x.0 x.1 ∷ []) (states (suc n))) here (untyped-leads k x at))))
    where
      ended : states (0 + length (numbered image.untypeds)) ≡ with_all
      ended =
          let count : 0 + length (numbered image.untypeds) ≡ length (numbered image.untypeds) = omega arith in
          ap states count ∙ ap (λ xs. booted_with image.header.memory_bits image.header.boot_radix (map fresh xs))
          (take-whole (length (numbered image.untypeds)) (numbered image.untypeds) refl)

  -- ---- interrupt control

  abbrev with_control : State
  with_control = booted_with image.header.memory_bits image.header.boot_radix (all_puts ++ holding (control_slot image) InterruptControl None ∷ [])

  control-free : held_in all_puts (control_slot image) ≡ None
  control-free =
      ap (λ xs. held_in (map fresh xs) (control_slot image)) (sym (take-whole (length (numbered image.untypeds)) (numbered image.untypeds) refl))
      ∙ mapped-none fresh (numbered image.untypeds) (length (numbered image.untypeds)) (control_slot image) (λ j y less at is.
      let back = numbered-back image.untypeds j y at in
      let few : j < image.header.untypeds = subst (λ (n : ℕ). j < n) fitting.untypeds (slice_get_within image.untypeds j y.1 back.1) in
      omega (arith, few, is, back.0))

  control-put : put_control with_all (control_slot image) ≡ Some with_control
  unfolding put_control
  control-put =
      let enough = boot-slots-suffice image fitting formed in
      put-more image.header.memory_bits image.header.boot_radix all_puts (control_slot image) InterruptControl (omega (arith, enough)) control-free

  -- ---- the first state between two calls

  unused : (number : ℕ) → used_by [] number ≡ 0
  unfolding used_by
  unused number = refl

  no-others : (us rest : List Holding) → us ++ [] ++ rest ++ [] ++ [] ++ [] ++ [] ++ [] ++ [] ≡ us ++ rest
  no-others us rest = simp append-nil

  or-false : (b : Bool) → b ≡ (b || false)
  or-false true = refl
  or-false false = refl

  holdings-first : holdings_so_far image nothing_loaded ≡ all_puts ++ holding (control_slot image) InterruptControl None ∷ []
  unfolding holdings_so_far
  holdings-first =
      no-others (map (untyped_so_far image nothing_loaded) (numbered image.untypeds)) (holding (control_slot image) InterruptControl None ∷ [])
      ∙ (λ i. map (λ u. holding u.0 (Untyped (u.1).offset (u.1).bits (unused u.0 i)) None) (numbered image.untypeds)
      ++ holding (control_slot image) InterruptControl None ∷ [])

  slot-first : (slot : ℕ) → boot_slots_with image.header.boot_radix (all_puts ++ holding (control_slot image) InterruptControl None ∷ []) slot ≡ slots_so_far
      image nothing_loaded slot
  unfolding is_open_so_far
  slot-first slot = λ i.
      if or-false (nat_lt slot (boot_area_slots image.header.boot_radix)) i
      then Some (option_map_or (λ held. held) (held_in (sym holdings-first i) slot) empty_entry) else None

  control-loaded : with_control ≡ loaded image nothing_loaded
  unfolding loaded bytes_so_far is_open_so_far
  control-loaded = λ i. record (loaded image nothing_loaded) { slots = λ slot. slot-first slot i }

  pub puts-lead : Leads image (boot_area image.header.memory_bits image.header.boot_radix)
      (map (λ x. PutsUntyped x.0 x.1) (numbered image.untypeds) ++ PutsControl (control_slot image) ∷ []) (loaded image nothing_loaded)
  puts-lead =
      let start = boot_area image.header.memory_bits image.header.boot_radix in
      let ops = map (λ x. PutsUntyped x.0 x.1) (numbered image.untypeds) in
      let first : start ≡ states 0 =
      booted-first image.header.memory_bits image.header.boot_radix in
      leads-both image start with_all (loaded image nothing_loaded) ops (PutsControl (control_slot image) ∷ [])
      (subst (λ (s : State). Leads image s ops with_all) (sym first) all-lead)
      (leads-to image with_all with_control (loaded image nothing_loaded) (PutsControl (control_slot image) ∷ []) control-loaded
      (leads-control image with_all with_control (control_slot image) control-put))

  -- ---- each of these states is sound

  states-sound : IsSound (states 0) → (k : ℕ) → k ≤ image.header.untypeds → IsSound (states k)
  states-sound sound zero less = sound
  states-sound sound (suc k) less =
      put_untyped-whole (states k) (states (suc k)) k (untyped_at image k).offset (untyped_at image k).bits (states-sound sound k (omega (arith, less)))
      (put-here k less)

  pub puts-sound : IsSound (boot_area image.header.memory_bits image.header.boot_radix) → IsSound (loaded image nothing_loaded)
  puts-sound sound =
      let first = subst IsSound (booted-first image.header.memory_bits image.header.boot_radix) sound in
      let all = states-sound first image.header.untypeds (omega arith) in
      let with_them : states image.header.untypeds ≡ with_all =
      ap (λ xs. booted_with image.header.memory_bits image.header.boot_radix (map fresh xs))
      (take-whole image.header.untypeds (numbered image.untypeds) (length-numbered 0 image.untypeds ∙ fitting.untypeds)) in
      subst IsSound control-loaded (control-whole with_all with_control (control_slot image) (subst IsSound with_them all) control-put)
