-- A removal of own slots from both sides leaves them in agreement.
use Rattle.std.proofs.Common.{ℕ, ◌≡◌, ◌∙◌, ◌==◌, ◌-◌, ◌%◌, ◌^◌, ◌<◌, ◌≤◌, ◌⊎◌, inl, inr, Bool, true, false, not, if◌then◌else◌, List, filter}
use Rattle.std.proofs.Common.{Option, Some, None, Ok, refl, sym, ap, subst, arith}
use Rattle.std.specs.Option.{option_map_or}
use Rattle.std.specs.List.{list_any}
use Rattle.std.proofs.lemmas.Bool.{eqb-true, false≢true}
use Rattle.std.proofs.lemmas.Bool.Decides.{leb_tells}
use Rattle.std.specs.Prelude.{Contains}
use Rattle.format_laws.proofs.Laws.{is-fitting}
use Rattle.model.specs.declared.capabilities.Cap.TheVariants.{Empty}
use Rattle.model.specs.declared.labels.Label.{Label}
use Rattle.model.specs.declared.slot_entries.Entry.{Entry}
use Rattle.model.specs.Acceptance.Accepted.{IsAccepted}
use Rattle.model.specs.Acceptance.Authority.{IsOwnSlot}
use Rattle.model.specs.Acceptance.NotedKernel.{stands_in}
use Rattle.model.specs.Acceptance.NotedStates.{NotedSlot, SlotKey}
use Rattle.model.specs.Acceptance.ThreadInvariants.{ThreadInvariant, runs as runs_so, waits as waits_so, tcb_of}
use Rattle.model.specs.Acceptance.ThreadRules.{reached}
use Rattle.model.specs.Capabilities.Slots.{is_descendant, is_empty, is_full, parent_at}
use Rattle.model.specs.Images.Described.{Numbered, numbered_threads}
use Rattle.model.specs.Images.Image.{Image, Thread}
use Rattle.model.specs.Images.Places.{cnode_slot, offset_of}
use Rattle.model.specs.Kernel.AddressSpaces.{page_size}
use Rattle.model.specs.Kernel.Removal.{SlotSet, delete, emptied, ends, is_ending_thread, remove, revoke, slots_emptied, with_bindings}
use Rattle.model.specs.Kernel.Scheduling.{current, is_runnable}
use Rattle.model.specs.Kernel.State.{State, Status, Inactive, Runnable, Blocked, AwaitsReply, AwaitsHandler, ThreadState, boot_area_slots, cspace_slot}
use Rattle.removal_laws.proofs.Laws.{filter-all}
use Rattle.soundness.proofs.Laws.{are-formed, cspace-slot, current-runs, slot-behind-boot}
use Rattle.thread_spaces.proofs.Laws.{stands-apart}
use Rattle.headline.specs.facts.Standing.{AllStand}
use Rattle.headline.specs.invocations.Laws.{Laws}
use Rattle.headline.specs.invocations.Mirrors.{Mirrors}
use Rattle.headline.specs.invocations.Running.{Runs}
use Rattle.headline.specs.kept.Laws.{HaveOwnBlocks}
use Rattle.headline.specs.parts.Agreeing.{IsMemberOf, IsSlotOfPart, is_block_slot, is_own_slot}
use Rattle.headline.specs.parts.Parts.{Part, alone, is_thread_in}
use Rattle.headline.proofs.Laws.{at-place, is-listed, kept-reset, no-thread-ends, objects-left, other-out, own-all, own_set, removed, set-or-empty}
use Rattle.part_laws.specs.Agreeing.{AgreeFor}
use Rattle.part_laws.specs.Both.{BothStand}
use Rattle.part_laws.specs.own.Invocations.{RemovalsAgree}
use Rattle.part_laws.proofs.changes.Agreeing.{same-runs}
use Rattle.part_laws.proofs.changes.Members.{is-member}
use Rattle.part_laws.proofs.outside.Blocks.{block-thread, found-some}
use Rattle.part_laws.proofs.own_calls.SameLookups.{ok-of}
use Rattle.part_laws.proofs.own_calls.removal.Below.{descends-own, descends-same}
use Rattle.part_laws.proofs.own_calls.removal.Ends.{ends-same}
use Rattle.part_laws.proofs.own_calls.removal.Left.{IsOneSide, other-left, own-left}
use Rattle.part_laws.proofs.own_steps.AloneImages.{IsThere, alone-reached, there}

-- ---- one side

module _ (laws : Laws) (bytes : List ℕ) (i : Image) (w : Numbered) (x : State) (labels : List Label) (accepted : IsAccepted bytes i)
    (all : AllStand i x labels) where
  record IsMirrored : Type 0 where
    slots : List NotedSlot
    mirror : Mirrors i w x slots

  mirrored : Contains (numbered_threads i) w → IsMirrored
  mirrored among = by (all.stand w among)
    where
      by : ThreadInvariant i w x labels → IsMirrored
      by (runs_so own point state is status stands budget) =
          record { slots = state.slots; mirror = laws.mirror bytes i w x labels own point state accepted among all stands }
      by (waits_so own point state is waiting stands at none) =
          record { slots = state.slots; mirror = laws.mirror bytes i w x labels own point state accepted among all stands }

  runs-now : current x ≡ Some (tcb_of i w) → Runs i w x
  runs-now now own is =
      by own.status (sym (ap (λ (o : ThreadState). is_runnable o.status) (at-place x (tcb_of i w) own is))
      ∙ (current-runs x all.sound.threads (tcb_of i w) now).runs)
    where
      by : (status : Status) → is_runnable status ≡ true → status ≡ Runnable
      by Inactive clash = absurd (false≢true clash)
      by Runnable so = refl
      by (Blocked queue) clash = absurd (false≢true clash)
      by AwaitsReply clash = absurd (false≢true clash)
      by AwaitsHandler clash = absurd (false≢true clash)

hangs-outside : (own : SlotSet) (i : Image) (w : Numbered) (x : State) (slots : List NotedSlot) → Mirrors i w x slots
    → ((slot : ℕ) → own slot ≡ own_set i w slot) → (slot parent : ℕ) → own slot ≡ false → parent_at x.slots slot ≡ Some parent → own parent ≡ false
hangs-outside own i w x slots m as_own slot parent other up =
    as_own parent ∙ other-out i w parent (m.outside slot parent (λ mine. false≢true (sym other ∙ as_own slot ∙ mine)) up)

-- what a mirrored side knows of own slots by a name for them
one-side : (own : SlotSet) (i : Image) (w : Numbered) (x : State) (slots : List NotedSlot) → Mirrors i w x slots
    → ((slot : ℕ) → own slot ≡ own_set i w slot) → (set : SlotSet) → ((slot : ℕ) → set slot ≡ true → own slot ≡ true) → IsOneSide own set x
one-side own i w x slots m as_own set inside = record {
  tree = m.all.sound.slots.derivation;
  inside = inside;
  own_all = λ slot mine. own-all i w x slots m set within slot (sym (as_own slot) ∙ mine);
  set_or_empty = set-or-empty i w x slots m set within;
  kept_reset = kept-reset i w x slots m set within;
  near = λ slot parent mine up. near_as parent (m.near slot parent (sym (as_own slot) ∙ mine) up);
  outside = hangs-outside own i w x slots m as_own;
}
  where
    within : (slot : ℕ) → set slot ≡ true → own_set i w slot ≡ true
    within slot here = sym (as_own slot) ∙ inside slot here

    near_as : (parent : ℕ) → (own_set i w parent ≡ true) ⊎ (parent < 2 ^ x.boot_radix) → (own parent ≡ true) ⊎ (parent < 2 ^ x.boot_radix)
    near_as parent (inl mine) = inl (as_own parent ∙ mine)
    near_as parent (inr boot) = inr boot

-- ---- both sides

module _ (laws : Laws) (own_blocks : HaveOwnBlocks) (image : Image) (part : Part) (s t : State) (u : Numbered) (both : BothStand image part s t)
    (agree : AgreeFor image part s t) (member : IsMemberOf image part u) (now : current s ≡ Some (tcb_of image u)) where
  abbrev single : Image
  single = alone image part

  abbrev own : SlotSet
  own = own_set image u

  abbrev inner : IsThere image part u
  inner = there image part u member

  alone-set : (slot : ℕ) → own slot ≡ own_set single inner.thread slot
  unfolding alone offset_of
  alone-set slot =
      sym (ap (λ (w : Thread). list_any (stands_in image slot) (reached single w)) inner.same
      ∙ ap (λ (cnodes : List ℕ). list_any (stands_in image slot) cnodes) (alone-reached image part u.thread))

  same-memory : s.memory_bits ≡ t.memory_bits
  unfolding alone
  same-memory = both.stand.memory_bits ∙ sym both.alone_stand.memory_bits

  same-radix : s.boot_radix ≡ t.boot_radix
  unfolding alone
  same-radix = both.stand.boot_radix ∙ sym both.alone_stand.boot_radix

  alone-now : current t ≡ Some (tcb_of single inner.thread)
  alone-now =
      same-runs image part s t (tcb_of image u) agree now (is-member image part u member.listed member.inside)
      ∙ ap (λ (n : ℕ). Some n) (sym inner.block)

  same-slot : (slot : ℕ) → own slot ≡ true → s.slots slot ≡ t.slots slot
  same-slot slot mine = agree.slots slot (is_own_slot u member mine)

  -- the part's slots are behind the boot area
  behind : (slot : ℕ) → IsSlotOfPart image part slot → boot_area_slots s.boot_radix ≤ slot
  behind slot of = subst (λ (n : ℕ). boot_area_slots n ≤ slot) (sym both.stand.boot_radix) (by of)
    where
      by : IsSlotOfPart image part slot → boot_area_slots image.header.boot_radix ≤ slot
      by (is_own_slot w among mine) = elim (leb_tells (boot_area_slots image.header.boot_radix) slot) [
        | inl above ↦ above.1
        | inr below ↦ absurd (found-some
            (λ (cnode : ℕ). let key : SlotKey = record { cnode = cnode; index = slot - cnode_slot image cnode 0 } in key) (stands_in image slot)
            (reached image w.thread)
            ((stands-apart image w.thread both.accepted.spelled.fits both.accepted.formed (is-listed image w among.listed)).behind slot below.1) mine)
      ]
      by (is_block_slot w index among at less) =
          let place = is-listed image w among.listed in
          let fits = both.accepted.spelled.fits in
          let first = slot-behind-boot image (is-fitting image fits) (are-formed image both.accepted.formed) w.thread.header.tcb
          (cspace_slot (tcb_of image w)) ((is-fitting image fits).thread place.number w.thread place.listed).tcb
          (cspace-slot image w.thread.header.tcb (block-thread image fits both.accepted.formed w among.listed)) in
          omega (arith, first, at)

  module _ (here : IsMirrored laws both.bytes image u s both.labels both.accepted both.stand)
      (far : IsMirrored laws both.alone_bytes single inner.thread t both.alone_labels both.alone_accepted both.alone_stand) where
    module _ (set : SlotSet) (inside : (slot : ℕ) → set slot ≡ true → own slot ≡ true) where
      inside_alone : (slot : ℕ) → set slot ≡ true → own_set single inner.thread slot ≡ true
      inside_alone slot goes = sym (alone-set slot) ∙ inside slot goes

      a : IsOneSide own set s
      a = one-side own image u s here.slots here.mirror (λ slot. refl) set inside

      b : IsOneSide own set t
      b = one-side own single inner.thread t far.slots far.mirror alone-set set inside

      same-ends : (offset : ℕ) → ends s (with_bindings s set) offset ≡ ends t (with_bindings t set) offset
      same-ends = ends-same own_blocks image part s t both agree u inner.thread member here.slots far.slots here.mirror far.mirror set inside inside_alone a b

      ready-kept : (i : Image) (w : Numbered) (x : State) (slots : List NotedSlot) → Mirrors i w x slots
          → ((slot : ℕ) → set slot ≡ true → own_set i w slot ≡ true) → (priority : ℕ)
          → (emptied x (with_bindings x set)).ready priority ≡ x.ready priority
      ready-kept i w x slots m within priority =
          filter-all (is_ending_thread x (with_bindings x set)) (no-thread-ends i w x slots m set within) (x.ready priority)

      slots-left : (slot : ℕ) → IsSlotOfPart image part slot → slots_emptied s (with_bindings s set) slot ≡ slots_emptied t (with_bindings t set) slot
      slots-left slot of = elim (own slot) as (λ c. own slot ≡ c → slots_emptied s (with_bindings s set) slot ≡ slots_emptied t (with_bindings t set) slot) [
        | true ↦ λ mine. own-left own set s t a b same-memory same-slot slot mine
        | false ↦ λ other.
            other-left own set s a slot other (behind slot of) ∙ agree.slots slot of
            ∙ sym (other-left own set t b slot other (subst (λ (n : ℕ). boot_area_slots n ≤ slot) same-radix (behind slot of)))
      ] refl

      agreed : AgreeFor image part (emptied s (with_bindings s set)) (emptied t (with_bindings t set))
      agreed = record {
        objects = λ offset of.
            objects-left image u s here.slots here.mirror set inside offset
            ∙ (λ i. if same-ends offset i then None else agree.objects offset of i)
            ∙ sym (objects-left single inner.thread t far.slots far.mirror set inside_alone offset);
        bytes = λ place of. λ i. if same-ends (place - place % page_size) i then None else agree.bytes place of i;
        slots = slots-left;
        masked = agree.masked;
        pending = agree.pending;
        ready = λ priority.
            ready-kept single inner.thread t far.slots far.mirror inside_alone priority ∙ agree.ready priority
            ∙ ap (filter (is_thread_in image part)) (sym (ready-kept image u s here.slots here.mirror inside priority));
      }

      removed-agree : (after other : State) → remove s set ≡ Ok after → remove t set ≡ Ok other → AgreeFor image part after other
      removed-agree after other is too =
          let one = ok-of (emptied s (with_bindings s set)) after
          (sym (removed image u s here.slots here.mirror
          (runs-now laws both.bytes image u s both.labels both.accepted both.stand now) set inside) ∙ is) in
          let two = ok-of (emptied t (with_bindings t set)) other
          (sym (removed single inner.thread t far.slots far.mirror
          (runs-now laws both.alone_bytes single inner.thread t both.alone_labels both.alone_accepted both.alone_stand alone-now) set inside_alone) ∙ too) in
          subst (λ (x : State). AgreeFor image part x other) one (subst (λ (y : State). AgreeFor image part (emptied s (with_bindings s set)) y) two agreed)

    -- ---- a slot alone

    abbrev only : ℕ → SlotSet
    only slot n = n == slot

    deletes-agree : (slot : ℕ) (after other : State) → IsOwnSlot image u.thread slot → delete s slot ≡ Ok after → delete t slot ≡ Ok other
        → AgreeFor image part after other
    deletes-agree slot after other mine is too =
        let full : is_full s.slots slot ≡ is_full t.slots slot =
        ap (λ (o : Option Entry). not (is_empty (option_map_or (λ (h : Entry). h.capability) o Empty))) (same-slot slot mine) in
        by (is_full s.slots slot) is (ap (λ (c : Bool). if c then remove t (only slot) else Ok t) full ∙ too)
      where
        by : (c : Bool) → (if c then remove s (only slot) else Ok s) ≡ Ok after → (if c then remove t (only slot) else Ok t) ≡ Ok other
            → AgreeFor image part after other
        by true one two = removed-agree (only slot) (λ n goes. ap own (eqb-true n slot goes) ∙ mine) after other one two
        by false one two =
            subst (λ (x : State). AgreeFor image part x other) (ok-of s after one) (subst (λ (y : State). AgreeFor image part s y) (ok-of t other two) agree)

    -- ---- what descends from one

    revokes-agree : (slot : ℕ) (after other : State) → IsOwnSlot image u.thread slot → revoke s slot ≡ Ok after → revoke t slot ≡ Ok other
        → AgreeFor image part after other
    revokes-agree slot after other mine is too =
        let m = here.mirror in
        let n = far.mirror in
        let outside = hangs-outside own image u s here.slots m (λ k. refl) in
        let outside_alone = hangs-outside own single inner.thread t far.slots n alone-set in
        let same = descends-same own s.slots t.slots m.all.sound.slots.derivation n.all.sound.slots.derivation outside outside_alone same-slot slot mine in
        removed-agree (is_descendant s.slots slot) (λ k goes. descends-own own s.slots outside slot k mine goes) after other is
        ((λ i. remove t (λ k. same k i)) ∙ too)

  pub removals-agree : RemovalsAgree image part s t u
  removals-agree =
      let here = mirrored laws both.bytes image u s both.labels both.accepted both.stand member.listed in
      let far = mirrored laws both.alone_bytes single inner.thread t both.alone_labels both.alone_accepted both.alone_stand inner.listed in
      record {
        deletes = λ slot after other mine is too. deletes-agree here far slot after other mine is too;
        revokes = λ slot after other mine is too. revokes-agree here far slot after other mine is too;
      }
