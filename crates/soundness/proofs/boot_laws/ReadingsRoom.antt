-- The slots of CNodes and threads: no two entries of an image ask for one slot, so each is read by itself.
use Rattle.std.proofs.Common.{ℕ, zero, suc, ◌≡◌, ◌≢◌, ◌∙◌, ◌==◌, ◌^◌, ◌<◌, ◌≤◌, inl, inr, Bool, true, false, take, List, [], ◌∷◌, Option, Some, None, refl, sym}
use Rattle.std.proofs.Common.{ap, subst, arith}
use Rattle.std.specs.Prelude.{nat_lt, slice_get}
use Rattle.std.specs.Option.{option_map_or, option_or}
use Rattle.std.specs.List.{list_any}
use Rattle.std.proofs.lemmas.Bool.{cases_lt, eq-eqb, false≢true, or_left, or_right, true≢false}
use Rattle.std.proofs.lemmas.Bool.Decides.{eqb_tells}
use Rattle.std.proofs.lemmas.Option.{none-some, same_Some}
use Rattle.model.specs.declared.entries.CapabilityEntry.{CapabilityEntry}
use Rattle.model.specs.declared.slot_entries.Entry.{Entry}
use Rattle.format_laws.specs.Fitting.{CapabilityFits, ThreadFits}
use Rattle.format_laws.specs.Fitting.{IsFitting}
use Rattle.soundness.proofs.boot_laws.PlacesRules.{AreFormed, CapabilityKept, ThreadKept}
use Rattle.soundness.proofs.boot_laws.PlacesSlots.{buffer-slot, cnode-slot, cspace-slot, slot-behind-boot, slot-of-one, vspace-slot}
use Rattle.soundness.proofs.boot_laws.Readings.{IsWithin, Reads, ReadsRoom, entry}
use Rattle.soundness.proofs.boot_laws.ReadingsLists.{flat-at, flat-none, held-here, held-later, mapped-at, mapped-none}
use Rattle.soundness.proofs.boot_laws.ReadingsOpen.{open-room, read-open, shown}
use Rattle.soundness.proofs.boot_laws.ReadingsSections.{buffer-held, buffer_holding, cspace_holding, listed-behind, listed_part, read-room, thread-apart}
use Rattle.soundness.proofs.boot_laws.ReadingsSections.{thread-behind, threads_part, vspace_holding}
use Rattle.soundness.specs.boot_laws.Loading.{Progress}
use Rattle.model.specs.Acceptance.WellFormed.{has_slot, is_thread_type, radix_of}
use Rattle.model.specs.Capabilities.Slots.{empty_entry}
use Rattle.model.specs.Images.Described.{buffer_holdings, held_in, is_object_slot, listed_capability, listed_holding, listed_parent, thread_holdings}
use Rattle.model.specs.Images.Image.{Image, Thread, no_buffer}
use Rattle.model.specs.Images.Places.{cnode_slot, offset_of, type_at}
use Rattle.model.specs.Kernel.Retype.{NewObject, NewUntyped, NewThread, NewEndpoint, NewNotification, NewCNode, NewFrame, NewPageTable, NewRootTable}
use Rattle.model.specs.Kernel.State.{boot_area_slots, buffer_slot, cspace_slot, vspace_slot}

-- a CNode is no thread
pub no-thread : (t : Option NewObject) (index : ℕ) → option_map_or (λ radix. nat_lt index (2 ^ radix)) (radix_of t) false ≡ true → is_thread_type t ≡ true → ⊥
no-thread None index slot thread = false≢true slot
no-thread (Some (NewUntyped bits)) index slot thread = false≢true slot
no-thread (Some NewThread) index slot thread = false≢true slot
no-thread (Some NewEndpoint) index slot thread = false≢true slot
no-thread (Some NewNotification) index slot thread = false≢true slot
no-thread (Some (NewCNode radix)) index slot thread = false≢true thread
no-thread (Some NewFrame) index slot thread = false≢true slot
no-thread (Some NewPageTable) index slot thread = false≢true slot
no-thread (Some NewRootTable) index slot thread = false≢true slot

pub any-taken : {A : Type 0} (test : A → Bool) (xs : List A) (k j : ℕ) (x : A) → j < k → slice_get xs j ≡ Some x → test x ≡ true →
    list_any test (take k xs) ≡ true
any-taken test [] k j x less at is = absurd (none-some x at)
any-taken test (y ∷ ys) zero j x less at is = absurd (omega (arith, less))
any-taken test (y ∷ ys) (suc k) zero x less at is = or_left (test y) (list_any test (take k ys)) (ap test (same_Some y x at) ∙ is)
any-taken test (y ∷ ys) (suc k) (suc j) x less at is = or_right (test y) (list_any test (take k ys)) (any-taken test ys k j x (omega (arith, less)) at is)

module _ (image : Image) (fitting : IsFitting image) (formed : AreFormed image) where
  listed-slot : (k : ℕ) (c : CapabilityEntry) → slice_get image.capabilities k ≡ Some c → is_object_slot image (cnode_slot image c.cnode c.index) c.cnode ≡ true
  listed-slot k c at = cnode-slot image c.cnode c.index (CapabilityKept.slot (formed.capability k c at))

  first-slot : (k : ℕ) (t : Thread) → slice_get image.threads k ≡ Some t → is_object_slot image (cspace_slot (offset_of image t.header.tcb)) t.header.tcb ≡ true
  first-slot k t at = cspace-slot image t.header.tcb (ThreadKept.tcb (formed.thread k t at))

  second-slot : (k : ℕ) (t : Thread) → slice_get image.threads k ≡ Some t →
      is_object_slot image (vspace_slot (offset_of image t.header.tcb)) t.header.tcb ≡ true
  second-slot k t at = vspace-slot image t.header.tcb (ThreadKept.tcb (formed.thread k t at))

  third-slot : (k : ℕ) (t : Thread) → slice_get image.threads k ≡ Some t →
      is_object_slot image (buffer_slot (offset_of image t.header.tcb)) t.header.tcb ≡ true
  third-slot k t at = buffer-slot image t.header.tcb (ThreadKept.tcb (formed.thread k t at))

  -- two listed capabilities have two slots
  pub listed-apart : (j k : ℕ) (c d : CapabilityEntry) → j < k → slice_get image.capabilities j ≡ Some c → slice_get image.capabilities k ≡ Some d
      → cnode_slot image c.cnode c.index ≢ cnode_slot image d.cnode d.index
  listed-apart j k c d less one two same =
      let there : is_object_slot image (cnode_slot image d.cnode d.index) c.cnode ≡ true =
      subst (λ slot. is_object_slot image slot c.cnode ≡ true) same (listed-slot j c one) in
      let cnodes : c.cnode ≡ d.cnode =
      slot-of-one image fitting formed c.cnode d.cnode (cnode_slot image d.cnode d.index) (CapabilityFits.cnode (fitting.capability j c one))
      (CapabilityFits.cnode (fitting.capability k d two)) there (listed-slot k d two) in
      let offsets : offset_of image c.cnode ≡ offset_of image d.cnode = ap (offset_of image) cnodes in
      let rises = fitting.slots_rise j k c d less one two in
      omega (arith, same, offsets, cnodes, rises)

  -- a slot of a CNode is none of a thread
  cnode-no-thread : (j number slot : ℕ) (c : CapabilityEntry) → slice_get image.capabilities j ≡ Some c → number < image.header.objects
      → is_thread_type (type_at image number) ≡ true → cnode_slot image c.cnode c.index ≡ slot → is_object_slot image slot number ≡ true → ⊥
  cnode-no-thread j number slot c one less thread same is =
      let there : is_object_slot image slot c.cnode ≡ true = subst (λ slot. is_object_slot image slot c.cnode ≡ true) same (listed-slot j c one) in
      let one_object : c.cnode ≡ number =
      slot-of-one image fitting formed c.cnode number slot (CapabilityFits.cnode (fitting.capability j c one)) less there is in
      no-thread (type_at image number) c.index (subst (λ n. has_slot image n c.index ≡ true) one_object (CapabilityKept.slot (formed.capability j c one)))
      thread

  thread-or-cnode : (j k : ℕ) (c : CapabilityEntry) (t : Thread) (slot : ℕ) → slice_get image.capabilities j ≡ Some c → slice_get image.threads k ≡ Some t
      → cnode_slot image c.cnode c.index ≡ slot → is_object_slot image slot t.header.tcb ≡ true → ⊥
  thread-or-cnode j k c t slot one two same is =
      cnode-no-thread j t.header.tcb slot c one (ThreadFits.tcb (fitting.thread k t two)) (ThreadKept.tcb (formed.thread k t two)) same is

  -- two threads are two objects
  pub threads-differ : (j k : ℕ) (t u : Thread) → j < k → slice_get image.threads j ≡ Some t → slice_get image.threads k ≡ Some u → t.header.tcb ≢ u.header.tcb
  threads-differ j k t u less one two same =
      true≢false (sym (any-taken (λ v. v.header.tcb == u.header.tcb) image.threads k j t less one (eq-eqb t.header.tcb u.header.tcb same))
      ∙ ThreadKept.once (formed.thread k u two))

  one-thread : (j k : ℕ) (t u : Thread) → slice_get image.threads j ≡ Some t → slice_get image.threads k ≡ Some u → t.header.tcb ≡ u.header.tcb → t ≡ u
  one-thread j k t u one two same = elim (cases_lt j k) [
    | inl before ↦ absurd (threads-differ j k t u before one two same)
    | inr above ↦ elim (cases_lt k j) [
      | inl behind ↦ absurd (threads-differ k j u t behind two one (sym same))
      | inr below ↦
          let number : j ≡ k = omega (arith, above, below) in
          same_Some t u (sym one ∙ ap (slice_get image.threads) number ∙ two)
    ]
  ]

  shared : (j k : ℕ) (t u : Thread) (slot : ℕ) → j < k → slice_get image.threads j ≡ Some t → slice_get image.threads k ≡ Some u
      → is_object_slot image slot t.header.tcb ≡ true → is_object_slot image slot u.header.tcb ≡ true → ⊥
  shared j k t u slot less one two here there =
      threads-differ j k t u less one two
      (slot-of-one image fitting formed t.header.tcb u.header.tcb slot (ThreadFits.tcb (fitting.thread j t one)) (ThreadFits.tcb (fitting.thread k u two)) here
      there)

  -- a slot that is none of the thread's object is none of its own
  object-apart : (k : ℕ) (t : Thread) (slot : ℕ) → slice_get image.threads k ≡ Some t → is_object_slot image slot t.header.tcb ≢ true
      → held_in (thread_holdings image t) slot ≡ None
  object-apart k t slot at outside =
      let other = λ (own : ℕ) (inside : is_object_slot image own t.header.tcb ≡ true) (same : own ≡ slot).
      outside (subst (λ s. is_object_slot image s t.header.tcb ≡ true) same inside) in
      thread-apart image t slot (other (cspace_slot (offset_of image t.header.tcb)) (first-slot k t at))
      (other (vspace_slot (offset_of image t.header.tcb)) (second-slot k t at)) (other (buffer_slot (offset_of image t.header.tcb)) (third-slot k t at))

  -- an earlier thread has no slot of a later one
  pub earlier-apart : (j k : ℕ) (t u : Thread) (slot : ℕ) → j < k → slice_get image.threads j ≡ Some t → slice_get image.threads k ≡ Some u
      → is_object_slot image slot u.header.tcb ≡ true → held_in (thread_holdings image t) slot ≡ None
  earlier-apart j k t u slot less one two there = object-apart j t slot one (λ here. shared j k t u slot less one two here there)

  -- no thread has a slot of a CNode
  pub thread-none : (j k : ℕ) (t : Thread) (c : CapabilityEntry) → slice_get image.threads j ≡ Some t → slice_get image.capabilities k ≡ Some c
      → held_in (thread_holdings image t) (cnode_slot image c.cnode c.index) ≡ None
  thread-none j k t c one two =
      object-apart j t (cnode_slot image c.cnode c.index) one (thread-or-cnode k j c t (cnode_slot image c.cnode c.index) two one refl)

  pub two-apart : (t : Thread) → cspace_slot (offset_of image t.header.tcb) ≢ vspace_slot (offset_of image t.header.tcb)
  two-apart t same = omega (arith, same)

  -- a thread fills no slot for a buffer but its own, and that only if it has one
  buffer-none : (k number : ℕ) (t : Thread) → number < image.header.objects → is_thread_type (type_at image number) ≡ true
      → slice_get image.threads k ≡ Some t → (t.header.tcb ≡ number → (t.header.buffer == no_buffer) ≡ true)
      → held_in (thread_holdings image t) (buffer_slot (offset_of image number)) ≡ None
  buffer-none k number t less is at none = elim (eqb_tells t.header.tcb number) [
    | inl same ↦ ap (λ (n : ℕ). held_in (thread_holdings image t) (buffer_slot (offset_of image n))) (sym same.1)
        ∙ buffer-held image t true (none same.1)
    | inr apart ↦ object-apart k t (buffer_slot (offset_of image number)) at (λ here. apart.1
        (slot-of-one image fitting formed t.header.tcb number (buffer_slot (offset_of image number)) (ThreadFits.tcb (fitting.thread k t at)) less here
        (buffer-slot image number is)))
  ]

  module _ (p : Progress) (within : IsWithin image p) (all : p.objects ≡ image.header.objects) where
    room-reads : (slot number : ℕ) (a b : Option Entry) → number < image.header.objects → is_object_slot image slot number ≡ true →
        boot_area_slots image.header.boot_radix ≤ slot
        → held_in (listed_part image p) slot ≡ a → held_in (threads_part image p) slot ≡ b → Reads image p slot (shown (option_or a b))
    room-reads slot number a b less is behind one two =
        read-open image p slot (option_or a b) (open-room image p slot number (omega (arith, less, all)) is)
        (read-room image fitting formed p within slot behind ∙ (λ i. option_or (one i) (two i)))

    listed-reads : (k : ℕ) (c : CapabilityEntry) (v : Option Entry) → slice_get image.capabilities k ≡ Some c
        → held_in (listed_part image p) (cnode_slot image c.cnode c.index) ≡ v → Reads image p (cnode_slot image c.cnode c.index) (shown (option_or v None))
    listed-reads k c v at held =
        room-reads (cnode_slot image c.cnode c.index) c.cnode v None (CapabilityFits.cnode (fitting.capability k c at)) (listed-slot k c at)
        (listed-behind image fitting formed p within k c at) held
        (flat-none (thread_holdings image) image.threads p.threads (cnode_slot image c.cnode c.index) (λ j t below there. thread-none j k t c there at))

    pub reads-listed : (k : ℕ) (c : CapabilityEntry) → k < p.capabilities → slice_get image.capabilities k ≡ Some c
        → Reads image p (cnode_slot image c.cnode c.index) (entry (listed_capability image c) (Some (listed_parent image c)))
    reads-listed k c less at =
        listed-reads k c (Some (listed_holding image c).1) at
        (mapped-at (listed_holding image) image.capabilities p.capabilities k c (cnode_slot image c.cnode c.index) at less refl
        (λ j d below there. listed-apart j k d c below there at))

    thread-reads : (k : ℕ) (t : Thread) (slot : ℕ) (v : Option Entry) → slice_get image.threads k ≡ Some t → is_object_slot image slot t.header.tcb ≡ true
        → boot_area_slots image.header.boot_radix ≤ slot → held_in (threads_part image p) slot ≡ v → Reads image p slot (shown (option_or None v))
    thread-reads k t slot v at is behind held =
        room-reads slot t.header.tcb None v (ThreadFits.tcb (fitting.thread k t at)) is behind
        (mapped-none (listed_holding image) image.capabilities p.capabilities slot (λ j c below there same. thread-or-cnode j k c t slot there at same is)) held

    pub reads-cspace : (k : ℕ) (t : Thread) → k < p.threads → slice_get image.threads k ≡ Some t
        → Reads image p (cspace_slot (offset_of image t.header.tcb)) (cspace_holding image t).1
    reads-cspace k t less at =
        let slot = cspace_slot (offset_of image t.header.tcb) in
        thread-reads k t slot (Some (cspace_holding image t).1) at (first-slot k t at) (thread-behind image fitting formed p within k t at)
        (flat-at (thread_holdings image) image.threads p.threads k t slot (cspace_holding image t).1 at less
        (held-here (cspace_holding image t) (vspace_holding image t ∷ buffer_holdings image t) slot refl)
        (λ j u below there. earlier-apart j k u t slot below there at (first-slot k t at)))

    pub reads-vspace : (k : ℕ) (t : Thread) → k < p.threads → slice_get image.threads k ≡ Some t
        → Reads image p (vspace_slot (offset_of image t.header.tcb)) (vspace_holding image t).1
    reads-vspace k t less at =
        let slot = vspace_slot (offset_of image t.header.tcb) in
        let behind = thread-behind image fitting formed p within k t at in
        thread-reads k t slot (Some (vspace_holding image t).1) at (second-slot k t at) (omega (arith, behind))
        (flat-at (thread_holdings image) image.threads p.threads k t slot (vspace_holding image t).1 at less
        (held-later (cspace_holding image t) (vspace_holding image t ∷ buffer_holdings image t) slot (two-apart t)
        ∙ held-here (vspace_holding image t) (buffer_holdings image t) slot refl)
        (λ j u below there. earlier-apart j k u t slot below there at (second-slot k t at)))

    pub reads-buffer : (k : ℕ) (t : Thread) → k < p.threads → slice_get image.threads k ≡ Some t → (t.header.buffer == no_buffer) ≡ false
        → Reads image p (buffer_slot (offset_of image t.header.tcb)) (buffer_holding image t).1
    reads-buffer k t less at some =
        let slot = buffer_slot (offset_of image t.header.tcb) in
        let behind = thread-behind image fitting formed p within k t at in
        thread-reads k t slot (Some (buffer_holding image t).1) at (third-slot k t at) (omega (arith, behind))
        (flat-at (thread_holdings image) image.threads p.threads k t slot (buffer_holding image t).1 at less (buffer-held image t false some)
        (λ j u below there. earlier-apart j k u t slot below there at (third-slot k t at)))

    -- the slot for a buffer of a TCB is empty where no thread with a buffer that is loaded has the TCB
    pub reads-free_buffer : (number : ℕ) → number < image.header.objects → is_thread_type (type_at image number) ≡ true
        → ((j : ℕ) (t : Thread) → j < p.threads → slice_get image.threads j ≡ Some t → t.header.tcb ≡ number → (t.header.buffer == no_buffer) ≡ true)
        → Reads image p (buffer_slot (offset_of image number)) empty_entry
    reads-free_buffer number less is none =
        let slot = buffer_slot (offset_of image number) in
        let inside = buffer-slot image number is in
        room-reads slot number None None less inside (slot-behind-boot image fitting formed number slot less inside)
        (mapped-none (listed_holding image) image.capabilities p.capabilities slot
        (λ j c below there same. cnode-no-thread j number slot c there less is same inside))
        (flat-none (thread_holdings image) image.threads p.threads slot (λ j t below there. buffer-none j number t less is there (none j t below there)))

    -- that of a thread without a buffer stays empty
    pub reads-no_buffer : (k : ℕ) (t : Thread) → slice_get image.threads k ≡ Some t → (t.header.buffer == no_buffer) ≡ true
        → Reads image p (buffer_slot (offset_of image t.header.tcb)) empty_entry
    reads-no_buffer k t at none =
        reads-free_buffer t.header.tcb (ThreadFits.tcb (fitting.thread k t at)) (ThreadKept.tcb (formed.thread k t at)) (λ j u below there same.
        ap (λ (v : Thread). v.header.buffer == no_buffer) (one-thread j k u t there at same) ∙ none)

    pub reads-room : ReadsRoom image p
    reads-room = record {
      listed = λ k c above at. listed-reads k c None at
          (mapped-none (listed_holding image) image.capabilities p.capabilities (cnode_slot image c.cnode c.index)
          (λ j d below there. listed-apart j k d c (omega (arith, below, above)) there at));
      cspace = λ k t above at. thread-reads k t (cspace_slot (offset_of image t.header.tcb)) None at (first-slot k t at)
          (thread-behind image fitting formed p within k t at)
          (flat-none (thread_holdings image) image.threads p.threads (cspace_slot (offset_of image t.header.tcb))
          (λ j u below there. earlier-apart j k u t (cspace_slot (offset_of image t.header.tcb)) (omega (arith, below, above)) there at (first-slot k t at)));
      vspace = λ k t above at.
          let behind = thread-behind image fitting formed p within k t at in
          thread-reads k t (vspace_slot (offset_of image t.header.tcb)) None at (second-slot k t at) (omega (arith, behind))
          (flat-none (thread_holdings image) image.threads p.threads (vspace_slot (offset_of image t.header.tcb))
          (λ j u below there. earlier-apart j k u t (vspace_slot (offset_of image t.header.tcb)) (omega (arith, below, above)) there at (second-slot k t at)));
      buffer = λ k t above at.
          reads-free_buffer t.header.tcb (ThreadFits.tcb (fitting.thread k t at)) (ThreadKept.tcb (formed.thread k t at)) (λ j u below there same.
          absurd (threads-differ j k u t (omega (arith, below, above)) there at same));
    }
