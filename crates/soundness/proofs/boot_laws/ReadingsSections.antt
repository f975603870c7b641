-- The sections of full slots have slots of their own, so that each slot is read in one section alone.
use Rattle.std.proofs.Common.{ℕ, ◌≡◌, ◌≢◌, ◌∙◌, ◌==◌, ◌+◌, ◌^◌, ◌<◌, ◌≤◌, ◌⊎◌, inl, inr, Bool, true, false, not, if◌then◌else◌, map, take, List, [], ◌∷◌}
use Rattle.std.proofs.Common.{Option, Some, None, refl, sym, ap, arith}
use Rattle.std.specs.Prelude.{flat_map, slice_get}
use Rattle.std.specs.Option.{option_or}
use Rattle.std.proofs.lemmas.List.{take_all}
use Rattle.std.proofs.lemmas.List.FromFn.{length-enumerate_from}
use Rattle.model.specs.declared.capabilities.Cap.TheVariants.{InterruptControl}
use Rattle.model.specs.declared.entries.CapabilityEntry.{CapabilityEntry}
use Rattle.model.specs.declared.entries.InterruptEntry.{InterruptEntry}
use Rattle.model.specs.declared.slot_entries.Entry.{Entry}
use Rattle.format_laws.specs.Fitting.{CapabilityFits, InterruptFits, ThreadFits}
use Rattle.format_laws.specs.Fitting.{IsFitting}
use Rattle.soundness.proofs.boot_laws.PlacesRules.{AreFormed, CapabilityKept, ThreadKept}
use Rattle.soundness.proofs.boot_laws.PlacesSlots.{boot-slots-suffice, cnode-slot, cspace-slot, slot-behind-boot}
use Rattle.soundness.proofs.boot_laws.Readings.{IsWithin}
use Rattle.soundness.proofs.boot_laws.ReadingsLists.{flat-none, held-here, held-joined, held-later, mapped-none, numbered-back, range-none}
use Rattle.soundness.specs.boot_laws.Loading.{Progress, holdings_so_far, is_moved, original_holding_so_far, originals_so_far, untyped_so_far}
use Rattle.model.specs.Images.Described.{Holding, binding_holding, buffer_holdings, frame_holding, handler_holding, held_in, holding, listed_holding}
use Rattle.model.specs.Images.Described.{notification_holding, numbered, original, thread_holdings}
use Rattle.model.specs.Capabilities.CapabilityKinds.{with_payload}
use Rattle.model.specs.Images.Image.{Image, Thread, no_buffer}
use Rattle.model.specs.Images.Places.{cnode_slot, control_slot, offset_of, original_slot}
use Rattle.model.specs.Kernel.State.{boot_area_slots, buffer_slot, cspace_slot, vspace_slot}

abbrev pub untypeds_part : Image → Progress → List Holding
untypeds_part image p = map (untyped_so_far image p) (numbered image.untypeds)

abbrev pub control_part : Image → List Holding
control_part image = holding (control_slot image) InterruptControl None ∷ []

abbrev pub handlers_part : Image → Progress → List Holding
handlers_part image p = map (handler_holding image) (take p.handlers (numbered image.interrupts))

abbrev pub frames_part : Image → Progress → List Holding
frames_part image p = map (frame_holding image) (take p.frames (numbered image.frames))

abbrev pub notifications_part : Image → Progress → List Holding
notifications_part image p = map (notification_holding image) (take p.signals (numbered image.interrupts))

abbrev pub bindings_part : Image → Progress → List Holding
bindings_part image p = map (binding_holding image) (take p.signals (numbered image.interrupts))

abbrev pub listed_part : Image → Progress → List Holding
listed_part image p = map (listed_holding image) (take p.capabilities image.capabilities)

abbrev pub threads_part : Image → Progress → List Holding
threads_part image p = flat_map (thread_holdings image) (take p.threads image.threads)

-- the slots of a thread
abbrev pub cspace_holding : Image → Thread → Holding
cspace_holding image t =
    holding (cspace_slot (offset_of image t.header.tcb)) (with_payload (original image t.header.cnode) t.header.guard)
    (Some (original_slot image t.header.cnode))

abbrev pub vspace_holding : Image → Thread → Holding
vspace_holding image t = holding (vspace_slot (offset_of image t.header.tcb)) (original image t.header.root) (Some (original_slot image t.header.root))

abbrev pub buffer_holding : Image → Thread → Holding
buffer_holding image t =
    holding (buffer_slot (offset_of image t.header.tcb)) (original image t.header.buffer) (Some (original_slot image t.header.buffer))

-- a thread's slots are no others
pub thread-apart : (image : Image) (t : Thread) (slot : ℕ) → cspace_slot (offset_of image t.header.tcb) ≢ slot
    → vspace_slot (offset_of image t.header.tcb) ≢ slot → buffer_slot (offset_of image t.header.tcb) ≢ slot → held_in (thread_holdings image t) slot ≡ None
thread-apart image t slot one two three =
    held-later (cspace_holding image t) (vspace_holding image t ∷ buffer_holdings image t) slot one
    ∙ held-later (vspace_holding image t) (buffer_holdings image t) slot two
    ∙ elim (t.header.buffer == no_buffer) as (λ b. held_in (if b then [] else buffer_holding image t ∷ []) slot ≡ None) [
      | true ↦ refl
      | false ↦ held-later (buffer_holding image t) [] slot three
    ]

-- the slot for a buffer, by whether there is none
pub buffer-held : (image : Image) (t : Thread) (b : Bool) → (t.header.buffer == no_buffer) ≡ b
    → held_in (thread_holdings image t) (buffer_slot (offset_of image t.header.tcb)) ≡ (if b then None else Some (buffer_holding image t).1)
buffer-held image t b is =
    let slot = buffer_slot (offset_of image t.header.tcb) in
    held-later (cspace_holding image t) (vspace_holding image t ∷ buffer_holdings image t) slot (λ same. omega (arith, same))
    ∙ held-later (vspace_holding image t) (buffer_holdings image t) slot (λ same. omega (arith, same))
    ∙ ap (λ (c : Bool). held_in (if c then [] else buffer_holding image t ∷ []) slot) is
    ∙ elim b as (λ c. held_in (if c then [] else buffer_holding image t ∷ []) slot ≡ (if c then None else Some (buffer_holding image t).1)) [
      | true ↦ refl
      | false ↦ held-here (buffer_holding image t) [] slot refl
    ]

-- ---- nine sections, one after another

abbrev nine : Option Entry → Option Entry → Option Entry → Option Entry → Option Entry → Option Entry → Option Entry → Option Entry → Option Entry →
    Option Entry
nine a b c d e f g h i = option_or (option_or (option_or (option_or (option_or (option_or (option_or (option_or a b) c) d) e) f) g) h) i

joined-nine : (image : Image) (p : Progress) (slot : ℕ) (a b c d e f g h i : Option Entry) → held_in (untypeds_part image p) slot ≡ a
    → held_in (originals_so_far image p) slot ≡ b → held_in (control_part image) slot ≡ c → held_in (handlers_part image p) slot ≡ d
    → held_in (frames_part image p) slot ≡ e → held_in (notifications_part image p) slot ≡ f → held_in (bindings_part image p) slot ≡ g
    → held_in (listed_part image p) slot ≡ h → held_in (threads_part image p) slot ≡ i → held_in (holdings_so_far image p) slot ≡ nine a b c d e f g h i
unfolding holdings_so_far
joined-nine image p slot a b c d e f g h i is_a is_b is_c is_d is_e is_f is_g is_h is_i =
    held-joined _ (threads_part image p) slot _ i (held-joined _ (listed_part image p) slot _ h (held-joined _ (bindings_part image p) slot _ g
    (held-joined _ (notifications_part image p) slot _ f (held-joined _ (frames_part image p) slot _ e (held-joined _ (handlers_part image p) slot _ d
    (held-joined _ (control_part image) slot _ c (held-joined (untypeds_part image p) (originals_so_far image p) slot a b is_a is_b) is_c) is_d) is_e) is_f)
    is_g) is_h) is_i

module _ (image : Image) (fitting : IsFitting image) (formed : AreFormed image) (p : Progress) (within : IsWithin image p) where
  -- ---- slots outside a section

  untypeds-none : (slot : ℕ) → image.header.untypeds ≤ slot → held_in (untypeds_part image p) slot ≡ None
  untypeds-none slot above =
      let whole : take image.header.untypeds (numbered image.untypeds) ≡ numbered image.untypeds =
      take_all image.header.untypeds (numbered image.untypeds) (omega (arith, length-enumerate_from 0 image.untypeds, fitting.untypeds)) in
      ap (λ us. held_in (map (untyped_so_far image p) us) slot) (sym whole)
      ∙ mapped-none (untyped_so_far image p) (numbered image.untypeds) image.header.untypeds slot
      (λ j y below at same. let number = (numbered-back image.untypeds j y at).0 in omega (arith, number, same, below, above))

  pub originals-none : (slot : ℕ) → (slot < image.header.untypeds) ⊎ (image.header.untypeds + p.objects ≤ slot) → held_in (originals_so_far image p) slot ≡ None
  originals-none slot outside =
      range-none (original_holding_so_far image p) image.header.untypeds (λ n. refl) (λ number. not (is_moved image p number)) 0 p.objects slot
      (λ n low high. inl (other n high outside)) where
        other : (n : ℕ) → n < 0 + p.objects → (slot < image.header.untypeds) ⊎ (image.header.untypeds + p.objects ≤ slot) → image.header.untypeds + n ≢ slot
        other n high (inl below) same = omega (arith, below, same)
        other n high (inr above) same = omega (arith, above, same, high)

  control-none : (slot : ℕ) → control_slot image ≢ slot → held_in (control_part image) slot ≡ None
  control-none slot other = held-later (holding (control_slot image) InterruptControl None) [] slot other

  pub handlers-none : (slot : ℕ) → (slot < control_slot image + 1) ⊎ (control_slot image + 1 + p.handlers ≤ slot) → held_in (handlers_part image p) slot ≡ None
  handlers-none slot outside =
      mapped-none (handler_holding image) (numbered image.interrupts) p.handlers slot
      (λ j y below at. other j y below (numbered-back image.interrupts j y at).0 outside) where
        other : (j : ℕ) (y : ℕ × InterruptEntry) → j < p.handlers → y.0 ≡ j → (slot < control_slot image + 1) ⊎ (control_slot image + 1 + p.handlers ≤ slot)
            → control_slot image + 1 + y.0 ≢ slot
        other j y less number (inl below) same = omega (arith, below, same)
        other j y less number (inr above) same = omega (arith, above, same, less, number)

  pub frames-none : (slot : ℕ) → (slot < control_slot image + 1 + image.header.interrupts) ⊎
      (control_slot image + 1 + image.header.interrupts + p.frames ≤ slot)
      → held_in (frames_part image p) slot ≡ None
  frames-none slot outside =
      mapped-none (frame_holding image) (numbered image.frames) p.frames slot
      (λ j y below at. other j y.0 below (numbered-back image.frames j y at).0 outside) where
        other : (j number : ℕ) → j < p.frames → number ≡ j
            → (slot < control_slot image + 1 + image.header.interrupts) ⊎ (control_slot image + 1 + image.header.interrupts + p.frames ≤ slot)
            → control_slot image + 1 + image.header.interrupts + number ≢ slot
        other j number less is (inl below) same = omega (arith, below, same)
        other j number less is (inr above) same = omega (arith, above, same, less, is)

  pub notifications-none : (slot : ℕ) → (slot < control_slot image + 1 + image.header.interrupts + image.header.frames)
      ⊎ (control_slot image + 1 + image.header.interrupts + image.header.frames + p.signals ≤ slot) → held_in (notifications_part image p) slot ≡ None
  notifications-none slot outside =
      mapped-none (notification_holding image) (numbered image.interrupts) p.signals slot
      (λ j y below at. other j y.0 below (numbered-back image.interrupts j y at).0 outside) where
        other : (j number : ℕ) → j < p.signals → number ≡ j
            → (slot < control_slot image + 1 + image.header.interrupts + image.header.frames) ⊎
            (control_slot image + 1 + image.header.interrupts + image.header.frames + p.signals ≤ slot)
            → control_slot image + 1 + image.header.interrupts + image.header.frames + number ≢ slot
        other j number less is (inl below) same = omega (arith, below, same)
        other j number less is (inr above) same = omega (arith, above, same, less, is)

  bindings-none : (slot : ℕ) → (slot < 2 ^ image.header.boot_radix) ⊎ (boot_area_slots image.header.boot_radix ≤ slot) →
      held_in (bindings_part image p) slot ≡ None
  bindings-none slot outside =
      mapped-none (binding_holding image) (numbered image.interrupts) p.signals slot
      (λ j y below at. let back = numbered-back image.interrupts j y at in other (y.1).line (InterruptFits.line (fitting.interrupt j y.1 back.1)) outside) where
        other : (line : ℕ) → line ≤ 63 → (slot < 2 ^ image.header.boot_radix) ⊎ (boot_area_slots image.header.boot_radix ≤ slot) →
            2 ^ image.header.boot_radix + line ≢ slot
        other line most (inl below) same = omega (arith, below, same)
        other line most (inr above) same = omega (arith, above, same, most)

  pub listed-behind : (k : ℕ) (c : CapabilityEntry) → slice_get image.capabilities k ≡ Some c →
      boot_area_slots image.header.boot_radix ≤ cnode_slot image c.cnode c.index
  listed-behind k c at =
      slot-behind-boot image fitting formed c.cnode (cnode_slot image c.cnode c.index) (CapabilityFits.cnode (fitting.capability k c at))
      (cnode-slot image c.cnode c.index (CapabilityKept.slot (formed.capability k c at)))

  listed-none : (slot : ℕ) → slot < boot_area_slots image.header.boot_radix → held_in (listed_part image p) slot ≡ None
  listed-none slot low =
      mapped-none (listed_holding image) image.capabilities p.capabilities slot
      (λ j c below at same. let behind = listed-behind j c at in omega (arith, behind, same, low))

  pub thread-behind : (k : ℕ) (t : Thread) → slice_get image.threads k ≡ Some t →
      boot_area_slots image.header.boot_radix ≤ cspace_slot (offset_of image t.header.tcb)
  thread-behind k t at =
      slot-behind-boot image fitting formed t.header.tcb (cspace_slot (offset_of image t.header.tcb)) (ThreadFits.tcb (fitting.thread k t at))
      (cspace-slot image t.header.tcb (ThreadKept.tcb (formed.thread k t at)))

  threads-none : (slot : ℕ) → slot < boot_area_slots image.header.boot_radix → held_in (threads_part image p) slot ≡ None
  threads-none slot low =
      flat-none (thread_holdings image) image.threads p.threads slot (λ j t below at.
      let behind = thread-behind j t at in
      thread-apart image t slot (λ same. omega (arith, behind, same, low)) (λ same. omega (arith, behind, same, low))
      (λ same. omega (arith, behind, same, low)))

  -- ---- slots inside a section

  pub read-untyped : (slot : ℕ) → slot < image.header.untypeds → held_in (holdings_so_far image p) slot ≡ held_in (untypeds_part image p) slot
  read-untyped slot high =
      let room = boot-slots-suffice image fitting formed in
      joined-nine image p slot (held_in (untypeds_part image p) slot) None None None None None None None None refl
      (originals-none slot (inl high)) (control-none slot (λ same. omega (arith, same, high))) (handlers-none slot (inl (omega (arith, high))))
      (frames-none slot (inl (omega (arith, high)))) (notifications-none slot (inl (omega (arith, high))))
      (bindings-none slot (inl (omega (arith, high, room))))
      (listed-none slot (omega (arith, high, room))) (threads-none slot (omega (arith, high, room)))
      ∙ elim (held_in (untypeds_part image p) slot) as (λ v. nine v None None None None None None None None ≡ v) [ None ↦ refl | Some held ↦ refl ]

  pub read-original : (slot : ℕ) → image.header.untypeds ≤ slot → slot < control_slot image →
      held_in (holdings_so_far image p) slot ≡ held_in (originals_so_far image p) slot
  read-original slot low high =
      let room = boot-slots-suffice image fitting formed in
      joined-nine image p slot None (held_in (originals_so_far image p) slot) None None None None None None None (untypeds-none slot low) refl
      (control-none slot (λ same. omega (arith, same, high))) (handlers-none slot (inl (omega (arith, high))))
      (frames-none slot (inl (omega (arith, high)))) (notifications-none slot (inl (omega (arith, high))))
      (bindings-none slot (inl (omega (arith, high, room))))
      (listed-none slot (omega (arith, high, room))) (threads-none slot (omega (arith, high, room)))
      ∙ elim (held_in (originals_so_far image p) slot) as (λ v. nine None v None None None None None None None ≡ v) [ None ↦ refl | Some held ↦ refl ]

  pub read-control : (slot : ℕ) → control_slot image ≡ slot → held_in (holdings_so_far image p) slot ≡ held_in (control_part image) slot
  read-control slot here =
      let room = boot-slots-suffice image fitting formed in
      let objects = within.objects in
      joined-nine image p slot None None (held_in (control_part image) slot) None None None None None None (untypeds-none slot (omega (arith, here)))
      (originals-none slot (inr (omega (arith, here, objects)))) refl (handlers-none slot (inl (omega (arith, here))))
      (frames-none slot (inl (omega (arith, here)))) (notifications-none slot (inl (omega (arith, here))))
      (bindings-none slot (inl (omega (arith, here, room))))
      (listed-none slot (omega (arith, here, room))) (threads-none slot (omega (arith, here, room)))
      ∙ elim (held_in (control_part image) slot) as (λ v. nine None None v None None None None None None ≡ v) [ None ↦ refl | Some held ↦ refl ]

  pub read-handler : (slot : ℕ) → control_slot image + 1 ≤ slot → slot < control_slot image + 1 + image.header.interrupts
      → held_in (holdings_so_far image p) slot ≡ held_in (handlers_part image p) slot
  read-handler slot low high =
      let room = boot-slots-suffice image fitting formed in
      let objects = within.objects in
      joined-nine image p slot None None None (held_in (handlers_part image p) slot) None None None None None (untypeds-none slot (omega (arith, low)))
      (originals-none slot (inr (omega (arith, low, objects)))) (control-none slot (λ same. omega (arith, same, low))) refl
      (frames-none slot (inl high)) (notifications-none slot (inl (omega (arith, high)))) (bindings-none slot (inl (omega (arith, high, room))))
      (listed-none slot (omega (arith, high, room))) (threads-none slot (omega (arith, high, room)))
      ∙ elim (held_in (handlers_part image p) slot) as (λ v. nine None None None v None None None None None ≡ v) [ None ↦ refl | Some held ↦ refl ]

  pub read-frame : (slot : ℕ) → control_slot image + 1 + image.header.interrupts ≤ slot →
      slot < control_slot image + 1 + image.header.interrupts + image.header.frames
      → held_in (holdings_so_far image p) slot ≡ held_in (frames_part image p) slot
  read-frame slot low high =
      let room = boot-slots-suffice image fitting formed in
      let objects = within.objects in
      let handlers = within.handlers in
      joined-nine image p slot None None None None (held_in (frames_part image p) slot) None None None None (untypeds-none slot (omega (arith, low)))
      (originals-none slot (inr (omega (arith, low, objects)))) (control-none slot (λ same. omega (arith, same, low)))
      (handlers-none slot (inr (omega (arith, low, handlers)))) refl
      (notifications-none slot (inl high)) (bindings-none slot (inl (omega (arith, high, room))))
      (listed-none slot (omega (arith, high, room))) (threads-none slot (omega (arith, high, room)))
      ∙ elim (held_in (frames_part image p) slot) as (λ v. nine None None None None v None None None None ≡ v) [ None ↦ refl | Some held ↦ refl ]

  pub read-notification : (slot : ℕ) → control_slot image + 1 + image.header.interrupts + image.header.frames ≤ slot
      → slot < control_slot image + 1 + image.header.interrupts + image.header.frames + image.header.interrupts
      → held_in (holdings_so_far image p) slot ≡ held_in (notifications_part image p) slot
  read-notification slot low high =
      let room = boot-slots-suffice image fitting formed in
      let objects = within.objects in
      let handlers = within.handlers in
      let frames = within.frames in
      joined-nine image p slot None None None None None (held_in (notifications_part image p) slot) None None None (untypeds-none slot (omega (arith, low)))
      (originals-none slot (inr (omega (arith, low, objects)))) (control-none slot (λ same. omega (arith, same, low)))
      (handlers-none slot (inr (omega (arith, low, handlers))))
      (frames-none slot (inr (omega (arith, low, frames)))) refl (bindings-none slot (inl (omega (arith, high, room))))
      (listed-none slot (omega (arith, high, room))) (threads-none slot (omega (arith, high, room)))
      ∙ elim (held_in (notifications_part image p) slot) as (λ v. nine None None None None None v None None None ≡ v) [ None ↦ refl | Some held ↦ refl ]

  pub read-binding : (slot : ℕ) → 2 ^ image.header.boot_radix ≤ slot → slot < boot_area_slots image.header.boot_radix
      → held_in (holdings_so_far image p) slot ≡ held_in (bindings_part image p) slot
  read-binding slot low high =
      let room = boot-slots-suffice image fitting formed in
      let objects = within.objects in
      let handlers = within.handlers in
      let frames = within.frames in
      let signals = within.signals in
      joined-nine image p slot None None None None None None (held_in (bindings_part image p) slot) None None (untypeds-none slot (omega (arith, low, room)))
      (originals-none slot (inr (omega (arith, low, room, objects)))) (control-none slot (λ same. omega (arith, same, low, room)))
      (handlers-none slot (inr (omega (arith, low, room, handlers)))) (frames-none slot (inr (omega (arith, low, room, frames))))
      (notifications-none slot (inr (omega (arith, low, room, signals)))) refl (listed-none slot high) (threads-none slot high)
      ∙ elim (held_in (bindings_part image p) slot) as (λ v. nine None None None None None None v None None ≡ v) [ None ↦ refl | Some held ↦ refl ]

  pub read-room : (slot : ℕ) → boot_area_slots image.header.boot_radix ≤ slot
      → held_in (holdings_so_far image p) slot ≡ option_or (held_in (listed_part image p) slot) (held_in (threads_part image p) slot)
  read-room slot low =
      let room = boot-slots-suffice image fitting formed in
      let objects = within.objects in
      let handlers = within.handlers in
      let frames = within.frames in
      let signals = within.signals in
      joined-nine image p slot None None None None None None None (held_in (listed_part image p) slot) (held_in (threads_part image p) slot)
      (untypeds-none slot (omega (arith, low, room)))
      (originals-none slot (inr (omega (arith, low, room, objects)))) (control-none slot (λ same. omega (arith, same, low, room)))
      (handlers-none slot (inr (omega (arith, low, room, handlers)))) (frames-none slot (inr (omega (arith, low, room, frames))))
      (notifications-none slot (inr (omega (arith, low, room, signals)))) (bindings-none slot (inr low)) refl refl
