-- What a removal leaves of slots: each outside the set holds what it held, but for mappings that went and watermarks that went back.
use Rattle.std.proofs.Common.{ℕ, suc, ◌≡◌, ◌∙◌, ◌*◌, ◌/◌, ◌^◌, ◌<◌, ◌≤◌, ◌||◌, inl, inr, Bool, true, false, not, is_some, nat_lt, if◌then◌else◌, Option, Some}
use Rattle.std.proofs.Common.{None, option_map, refl, sym, ap, subst, arith}
use Rattle.std.specs.List.{list_any}
use Rattle.std.proofs.lemmas.Bool.{le-leb}
use Rattle.std.proofs.lemmas.Bool.Decides.{leb_tells}
use Rattle.model.specs.declared.capabilities.Cap.{Cap}
use Rattle.model.specs.declared.capabilities.Cap.TheVariants.{Empty, Untyped, Frame, PageTable}
use Rattle.model.specs.declared.capabilities.FrameMapping.{FrameMapping}
use Rattle.model.specs.declared.capabilities.TableMapping.{TableMapping}
use Rattle.model.specs.declared.rights.Rights.{Rights}
use Rattle.model.specs.declared.slot_entries.Entry.{Entry}
use Rattle.model.specs.Capabilities.CapabilityKinds.{cnode_of, frame_of, root_of}
use Rattle.model.specs.Capabilities.CapabilityWords.{IsCapability}
use Rattle.model.specs.Capabilities.Slots.{Descendant, IsDerivation, IsFull, IsOpen, capability_at, depth_of, is_empty, is_full, parent_at}
use Rattle.model.specs.Kernel.Interrupts.{signal_of}
use Rattle.model.specs.Kernel.Kinds.{kind_at, kind_of}
use Rattle.model.specs.Kernel.Removal.{SlotSet, emptied, ends, is_ending_thread, is_slot_of, kept, new_parent, wants_revoke_first}
use Rattle.model.specs.Kernel.Retype.{NewObject}
use Rattle.model.specs.Kernel.Scheduling.{without_threads}
use Rattle.model.specs.Kernel.Soundness.{HasSlot, of_boot_area, of_object, IsSound, SlotsAreSound}
use Rattle.model.specs.Kernel.State.{State, ThreadObject, ThreadState, boot_area_slots, slots_of}
use Rattle.model.proofs.Ancestors.{full-open}
use Rattle.model.proofs.SlotChanges.{capability_of, parent_of}
use Rattle.removal_laws.specs.Finishing.{MaySettle, has_slot, without_strays}
use Rattle.removal_laws.proofs.Laws.{capability-out, found-where, has-one, kept-test, kind-threads, may-settle, open-kept, open-near, or-cases, parent-out}
use Rattle.removal_laws.proofs.Laws.{slot-left, there-in, valid-kept}
use Rattle.soundness.proofs.Jumps.{depth-jumped, descends-full, descends-still, outside-above}
use Rattle.soundness.proofs.Rest.{thread-kind}

-- a sound state, and a set of open slots that may be taken away
pub record Removes (s : State) (set : SlotSet) : Type 0 where
  pub sound : IsSound s
  pub opens : (y : ℕ) → set y ≡ true → IsOpen s.slots y
  pub allowed : wants_revoke_first s set ≡ false

-- what is left, before anybody wakes
abbrev pub left : State → SlotSet → State
left s set = without_strays (emptied s set)

module _ (s : State) (set : SlotSet) (r : Removes s set) where
  pub near : (y : ℕ) → IsFull s.slots y → y < 2 ^ s.memory_bits / 16
  near y full = open-near s r.sound y (full-open s.slots y full)

  -- ---- entries

  may : MaySettle (emptied s set)
  may = may-settle s r.sound set r.opens r.allowed

  -- strays are empty
  blank : (y : ℕ) (o : Option Entry) → (emptied s set).slots y ≡ o → has_slot (emptied s set) y ≡ false → (capability_of o ≡ Empty) × (parent_of o ≡ None)
  blank y None is stray = (refl, refl)
  blank y (Some held) is stray = let e = sym is ∙ may.strays y (ap is_some is) stray in (ap capability_of e, ap parent_of e)

  same-entry : (y : ℕ) → (capability_at (left s set).slots y ≡ capability_at (emptied s set).slots y)
      × (parent_at (left s set).slots y ≡ parent_at (emptied s set).slots y)
  same-entry y =
      let now = (emptied s set).slots y in
      elim (has_slot (emptied s set) y) as (λ b. has_slot (emptied s set) y ≡ b → (capability_of (if not b then None else now) ≡ capability_of now)
      × (parent_of (if not b then None else now) ≡ parent_of now)) [
        | true ↦ λ _. (refl, refl)
        | false ↦ λ stray. let none = blank y now refl stray in (sym none.0, sym none.1)
      ] refl

  pub capability-left : (y : ℕ) → set y ≡ false → capability_at (left s set).slots y ≡ kept s set y (capability_at s.slots y)
  capability-left y stays = (same-entry y).0 ∙ capability-out s set y stays

  pub capability-gone : (y : ℕ) → set y ≡ true → capability_at (left s set).slots y ≡ Empty
  capability-gone y member = (same-entry y).0 ∙ ap capability_of (there-in s set y member)

  pub parent-left : (y : ℕ) → set y ≡ false → parent_at (left s set).slots y ≡ new_parent s set y
  parent-left y stays = (same-entry y).1 ∙ parent-out s set y stays

  parent-gone : (y : ℕ) → set y ≡ true → parent_at (left s set).slots y ≡ None
  parent-gone y member = (same-entry y).1 ∙ ap parent_of (there-in s set y member)

  -- what neither mappings nor watermarks change
  pub held : {A : Type 0} (of : Cap → A) → ((o b v w : ℕ) → of (Untyped o b v) ≡ of (Untyped o b w))
      → ((f : ℕ) (rights : Rights) (m n : Option FrameMapping) → of (Frame f rights m) ≡ of (Frame f rights n)) → ((t : ℕ) (m n : Option TableMapping)
      → of (PageTable t m) ≡ of (PageTable t n))
      → (y : ℕ) → set y ≡ false → of (capability_at (left s set).slots y) ≡ of (capability_at s.slots y)
  held of untyped frame table y stays = ap of (capability-left y stays) ∙ kept-test of untyped frame table s set y (capability_at s.slots y)

  -- what holds something stays
  pub stays-if : {A : Type 0} (of : Cap → Option A) (x : A) (y : ℕ) → of Empty ≡ None → of (capability_at (left s set).slots y) ≡ Some x → set y ≡ false
  stays-if of x y none is = elim (set y) as (λ b. set y ≡ b → b ≡ false) [
    | true ↦ λ member. let clash : None ≡ Some x = sym none ∙ ap of (sym (capability-gone y member)) ∙ is in absurd cc
    | false ↦ λ _. refl
  ] refl

  pub full-stays : (y : ℕ) → IsFull (left s set).slots y → set y ≡ false
  full-stays y full = elim (set y) as (λ b. set y ≡ b → b ≡ false) [
    | true ↦ λ member. let clash : false ≡ true = sym (ap (λ c. not (is_empty c)) (capability-gone y member)) ∙ full in absurd cc
    | false ↦ λ _. refl
  ] refl

  pub full-left : (y : ℕ) → set y ≡ false → is_full (left s set).slots y ≡ is_full s.slots y
  full-left y stays = ap not (held is_empty (λ o b v w. refl) (λ f q m n. refl) (λ t m n. refl) y stays)

  pub full-was : (y : ℕ) → IsFull (left s set).slots y → IsFull s.slots y
  full-was y full = sym (full-left y (full-stays y full)) ∙ full

  -- ---- derivation

  -- a parent stays, as its child does, and was an ancestor
  record Jumped (p y : ℕ) : Type 0 where
    child_stays : set y ≡ false
    parent_stays : set p ≡ false
    below : Descendant s.slots p y

  jumped : (y p : ℕ) → parent_at (left s set).slots y ≡ Some p → Jumped p y
  jumped y p is = elim (set y) as (λ b. set y ≡ b → Jumped p y) [
    | true ↦ λ member. let clash : None ≡ Some p = sym (parent-gone y member) ∙ is in absurd cc
    | false ↦ λ stays.
        let above = outside-above 256 set s.slots (parent_at s.slots y) y p refl (sym (parent-left y stays) ∙ is) in
        record { child_stays = stays; parent_stays = above.0; below = above.1 }
  ] refl

  pub child-stays : (y p : ℕ) → parent_at (left s set).slots y ≡ Some p → set y ≡ false
  child-stays y p is = Jumped.child_stays (jumped y p is)

  valid-left : (y : ℕ) → IsCapability (capability_at (left s set).slots y)
  valid-left y = elim (set y) as (λ b. set y ≡ b → IsCapability (capability_at (left s set).slots y)) [
    | true ↦ λ member. subst (λ (c : Cap). IsCapability c) (sym (capability-gone y member)) tt
    | false ↦ λ stays. subst (λ (c : Cap). IsCapability c) (sym (capability-left y stays))
        (valid-kept s set y (capability_at s.slots y) (r.sound.slots.derivation.valid y))
  ] refl

  -- no slot gets deeper
  pub depth-left : (y : ℕ) → depth_of (left s set).slots y ≤ depth_of s.slots y
  depth-left y = depth-jumped 256 s.slots (left s set).slots (λ z p is. Jumped.below (jumped z p is)) y

  pub derivation-left : IsDerivation (left s set).slots
  derivation-left = record {
    valid = valid-left;
    child_full = λ y p is.
        let was = jumped y p is in
        full-left y (Jumped.child_stays was) ∙ (descends-full s.slots p y r.sound.slots.derivation (Jumped.below was)).1;
    parent_full = λ y p is.
        let was = jumped y p is in
        full-left p (Jumped.parent_stays was) ∙ (descends-full s.slots p y r.sound.slots.derivation (Jumped.below was)).0;
    shallow = λ y. let low = depth-left y in omega (arith, low, r.sound.slots.derivation.shallow y);
  }

  pub descends-left : (root y : ℕ) → set root ≡ false → set y ≡ false → Descendant s.slots root y → Descendant (left s set).slots root y
  descends-left root y root_stays stays below =
      descends-still set s.slots (left s set).slots r.sound.slots.derivation parent-left root y root_stays stays below

  -- ---- objects

  kind-by : (o : ℕ) (gone : Bool) → option_map kind_of (if gone then None else option_map (without_threads (is_ending_thread s set)) (s.objects o)) ≡
      (if gone then None else kind_at s o)
  kind-by o true = refl
  kind-by o false = kind-threads (is_ending_thread s set) (s.objects o)

  pub kind-stays : (o : ℕ) → ends s set o ≡ false → kind_at (left s set) o ≡ kind_at s o
  kind-stays o stays = kind-by o (ends s set o) ∙ ap (λ b. if b then None else kind_at s o) stays

  pub kind-gone : (o : ℕ) → ends s set o ≡ true → kind_at (left s set) o ≡ None
  kind-gone o gone = kind-by o (ends s set o) ∙ ap (λ b. if b then None else kind_at s o) gone

  -- an object that is left was there, and does not end
  pub kind-was : (o : ℕ) (kind : NewObject) → kind_at (left s set) o ≡ Some kind → (ends s set o ≡ false) × (kind_at s o ≡ Some kind)
  kind-was o kind is = elim (ends s set o) as (λ b. ends s set o ≡ b → (b ≡ false) × (kind_at s o ≡ Some kind)) [
    | true ↦ λ gone. let clash : None ≡ Some kind = sym (kind-gone o gone) ∙ is in absurd cc
    | false ↦ λ stays. (refl, sym (kind-stays o stays) ∙ is)
  ] refl

  thread-was : (thread : ℕ) (t : ThreadState) → (left s set).objects thread ≡ Some (ThreadObject t) → (b : ThreadState)
      × (s.objects thread ≡ Some (ThreadObject b))
  thread-was thread t is = thread-kind (s.objects thread) (kind-was thread _ (ap (option_map kind_of) is)).1

  -- ---- which slots there are

  had-slot : (y : ℕ) → HasSlot (left s set) y → HasSlot s y
  had-slot y (of_boot_area less) = of_boot_area less
  had-slot y (of_object o inner) = of_object o (slot-left s set o y inner).1

  has-slot : (y : ℕ) → HasSlot (left s set) y → has_slot (emptied s set) y ≡ true
  has-slot y (of_boot_area less) = ap (λ b. b || list_any (λ n. is_slot_of (emptied s set) (16 * n) y) (slots_of s))
      (le-leb (suc y) (boot_area_slots s.boot_radix) less)
  has-slot y (of_object o inner) = let was = slot-left s set o y inner in has-one s r.sound set near o y was.1 was.0

  slot-tested : (y : ℕ) → has_slot (emptied s set) y ≡ true → HasSlot (left s set) y
  slot-tested y is = elim (or-cases (nat_lt y (boot_area_slots s.boot_radix)) _ is) [
    | inl early ↦ elim (leb_tells (suc y) (boot_area_slots s.boot_radix)) [
      | inl low ↦ of_boot_area low.1
      | inr high ↦ let clash : false ≡ true = sym high.0 ∙ early in absurd cc
    ]
    | inr inner ↦ let place = found-where s.memory_bits (λ n. is_slot_of (emptied s set) (16 * n) y) inner in of_object (16 * place.0) place.1
  ]

  open-by : (y : ℕ) (b : Bool) → has_slot (emptied s set) y ≡ b → is_some (if not b then None else (emptied s set).slots y) ≡ true → HasSlot (left s set) y
  open-by y true has is = slot-tested y has
  open-by y false has is = let clash : false ≡ true = is in absurd cc

  pub slots-left : SlotsAreSound (left s set)
  slots-left = record {
    derivation = derivation-left;
    there = λ y. (
      (λ is. open-by y (has_slot (emptied s set) y) refl is),
      (λ has.
          ap (λ b. is_some (if not b then None else (emptied s set).slots y)) (has-slot y has)
          ∙ open-kept s set y ((r.sound.slots.there y).1 (had-slot y has))),
    );
    cspace = λ thread t is full.
        let was = thread-was thread t is in
        ap is_some (held cnode_of (λ o b v w. refl) (λ f q m n. refl) (λ o m n. refl) _ (full-stays _ full))
        ∙ r.sound.slots.cspace thread was.0 was.1 (full-was _ full);
    vspace = λ thread t is full.
        let was = thread-was thread t is in
        ap is_some (held root_of (λ o b v w. refl) (λ f q m n. refl) (λ o m n. refl) _ (full-stays _ full))
        ∙ r.sound.slots.vspace thread was.0 was.1 (full-was _ full);
    buffer = λ thread t is full.
        let was = thread-was thread t is in
        ap is_some (held frame_of (λ o b v w. refl) (λ f q m n. refl) (λ o m n. refl) _ (full-stays _ full))
        ∙ r.sound.slots.buffer thread was.0 was.1 (full-was _ full);
    bindings = λ line less full.
        ap is_some (held signal_of (λ o b v w. refl) (λ f q m n. refl) (λ o m n. refl) _ (full-stays _ full))
        ∙ r.sound.slots.bindings line less (full-was _ full);
  }
