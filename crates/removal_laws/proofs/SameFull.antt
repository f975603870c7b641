-- Only the full slots of a set count.
use Rattle.std.proofs.Common.{ℕ, zero, suc, ◌≡◌, ◌≢◌, ◌∙◌, ◌/◌, ◌&&◌, ◌||◌, Bool, true, false, not, if◌then◌else◌, Option, Some, None, is_some, option_map}
use Rattle.std.proofs.Common.{refl, sym, ap}
use Rattle.std.proofs.Math.Bool.{and-false}
use Rattle.model.specs.declared.capabilities.Cap.{Cap}
use Rattle.model.specs.declared.capabilities.Cap.TheVariants.{Empty, Untyped, Endpoint, Notification, CNode, Frame, PageTable, Tcb, RootTable, InterruptControl}
use Rattle.model.specs.declared.capabilities.Cap.TheVariants.{InterruptHandler}
use Rattle.model.specs.declared.capabilities.FrameMapping.{FrameMapping}
use Rattle.model.specs.declared.slot_entries.Entry.{Entry}
use Rattle.model.specs.Capabilities.CapabilityKinds.{names_object}
use Rattle.model.specs.Capabilities.Slots.{IsDerivation, IsFull, IsOpen, capability_at, empty_entry, is_empty, parent_at}
use Rattle.model.specs.Kernel.AddressSpaces.{maps_region, region_pages}
use Rattle.model.specs.Kernel.Removal.{SlotSet, ancestor_outside, emptied, ends, ends_root, frame_loses, is_root_at, is_some_slot, kept, kept_entry}
use Rattle.model.specs.Kernel.Removal.{loses_last_child, new_parent, slots_emptied, some_inside, some_outside, takes_last}
use Rattle.model.specs.Kernel.State.{State}
use Rattle.model.proofs.SlotChanges.{capability_of}
use Rattle.removal_laws.proofs.Found.{found, found-same}
use Rattle.removal_laws.proofs.Keeping.{there-in, there-out}
use Rattle.removal_laws.proofs.Parents.{outside-in, outside-none, outside-out, outside-zero}
use Rattle.removal_laws.proofs.Unaffected.{ended_by, ended-same}

pub empty-is : (c : Cap) → is_empty c ≡ true → c ≡ Empty
empty-is Empty is = refl
empty-is (Untyped _ _ _) is = absurd (let clash : false ≡ true = is in cc)
empty-is (Endpoint _ _ _) is = absurd (let clash : false ≡ true = is in cc)
empty-is (Notification _ _ _) is = absurd (let clash : false ≡ true = is in cc)
empty-is (CNode _ _ _) is = absurd (let clash : false ≡ true = is in cc)
empty-is (Frame _ _ _) is = absurd (let clash : false ≡ true = is in cc)
empty-is (PageTable _ _) is = absurd (let clash : false ≡ true = is in cc)
empty-is (Tcb _) is = absurd (let clash : false ≡ true = is in cc)
empty-is (RootTable _) is = absurd (let clash : false ≡ true = is in cc)
empty-is InterruptControl is = absurd (let clash : false ≡ true = is in cc)
empty-is (InterruptHandler _) is = absurd (let clash : false ≡ true = is in cc)

module _ (s : State) (tree : IsDerivation s.slots) (one two : SlotSet) (same : (y : ℕ) → IsFull s.slots y → one y ≡ two y) where
  -- what an empty slot would not pass
  tested : (test : Cap → Bool) → test Empty ≡ false → (of : Bool → Bool) → (y : ℕ) →
      (of (one y) && test (capability_at s.slots y)) ≡ (of (two y) && test (capability_at s.slots y))
  tested test none of y = elim (is_empty (capability_at s.slots y))
      as (λ b. is_empty (capability_at s.slots y) ≡ b → (of (one y) && test (capability_at s.slots y)) ≡ (of (two y) && test (capability_at s.slots y))) [
        | true ↦ λ is.
            let fails : test (capability_at s.slots y) ≡ false = ap test (empty-is (capability_at s.slots y) is) ∙ none in
            ap (λ b. of (one y) && b) fails ∙ and-false (of (one y)) ∙ sym (ap (λ b. of (two y) && b) fails ∙ and-false (of (two y)))
        | false ↦ λ is. ap (λ b. of b && test (capability_at s.slots y)) (same y (ap not is))
      ] refl

  pub inside-same : (test : Cap → Bool) → test Empty ≡ false → some_inside s one test ≡ some_inside s two test
  inside-same test none = found-same s.memory_bits _ _ (tested test none (λ b. b))

  outside-same : (test : Cap → Bool) → test Empty ≡ false → some_outside s one test ≡ some_outside s two test
  outside-same test none = found-same s.memory_bits _ _ (tested test none not)

  pub last-same : (test : Cap → Bool) → test Empty ≡ false → takes_last s one test ≡ takes_last s two test
  last-same test none =
      ap (λ b. b && not (some_outside s one test)) (inside-same test none) ∙ ap (λ b. some_inside s two test && not b) (outside-same test none)

  pub ends-same : (o : ℕ) → ends s one o ≡ ends s two o
  ends-same o = last-same (names_object o) refl

  above-same : (n : ℕ) (p : Option ℕ) → ((q : ℕ) → p ≡ Some q → IsFull s.slots q) → ancestor_outside n one s.slots p ≡ ancestor_outside n two s.slots p
  above-same n None full = outside-none n one s.slots ∙ sym (outside-none n two s.slots)
  above-same zero (Some q) full = outside-zero one s.slots (Some q) ∙ sym (outside-zero two s.slots (Some q))
  above-same (suc n) (Some q) full =
      elim (one q) as (λ b. one q ≡ b → ancestor_outside (suc n) one s.slots (Some q) ≡ ancestor_outside (suc n) two s.slots (Some q)) [
        | true ↦ λ is.
            outside-in n one s.slots q is
            ∙ above-same n (parent_at s.slots q) (λ r is_parent. tree.parent_full q r is_parent)
            ∙ sym (outside-in n two s.slots q (sym (same q (full q refl)) ∙ is))
        | false ↦ λ is. outside-out n one s.slots q is ∙ sym (outside-out n two s.slots q (sym (same q (full q refl)) ∙ is))
      ] refl

  parent-same : (y : ℕ) → new_parent s one y ≡ new_parent s two y
  parent-same y = above-same 256 (parent_at s.slots y) (λ q is. tree.parent_full y q is)

  child-same : (of : Bool → Bool) (u y : ℕ) (p : Option ℕ) → (p ≢ None → IsFull s.slots y) → (of (one y) && is_some_slot u p) ≡ (of (two y) && is_some_slot u p)
  child-same of u y None full = and-false (of (one y)) ∙ sym (and-false (of (two y)))
  child-same of u y (Some q) full = ap (λ b. of b && is_some_slot u (Some q)) (same y (full (λ clash. let none : Some q ≡ None = clash in cc)))

  child-full : (y : ℕ) → parent_at s.slots y ≢ None → IsFull s.slots y
  child-full y some = elim (parent_at s.slots y) as (λ p. parent_at s.slots y ≡ p → IsFull s.slots y) [
    | None ↦ λ none. absurd (some none)
    | Some q ↦ λ is. tree.child_full y q is
  ] refl

  -- a slot without a parent gets none
  parent-none : (set : SlotSet) (y : ℕ) → new_parent s set y ≢ None → parent_at s.slots y ≢ None
  parent-none set y some none = some (ap (ancestor_outside 256 set s.slots) none ∙ outside-none 256 set s.slots)

  loses-same : (u : ℕ) → loses_last_child s one u ≡ loses_last_child s two u
  loses-same u =
      ap (λ b. b && not (found s.memory_bits (λ c. not (one c) && is_some_slot u (new_parent s one c))))
      (found-same s.memory_bits _ _ (λ c. child-same (λ b. b) u c (parent_at s.slots c) (child-full c)))
      ∙ ap (λ b. found s.memory_bits (λ c. two c && is_some_slot u (parent_at s.slots c)) && not b)
      (found-same s.memory_bits _ _ (λ c.
      child-same not u c (new_parent s one c) (λ some. child-full c (parent-none one c some))
      ∙ ap (λ p. not (two c) && is_some_slot u p) (parent-same c)))

  frame-same : (m : FrameMapping) → frame_loses s one m ≡ frame_loses s two m
  frame-same m =
      ap (λ b. b || some_inside s one (maps_region m.root (m.page / region_pages))) (last-same (is_root_at m.root) refl)
      ∙ ap (λ b. ends_root s two m.root || b) (inside-same (maps_region m.root (m.page / region_pages)) refl)

  kept-same : (y : ℕ) (c : Cap) → kept s one y c ≡ kept s two y c
  kept-same y (Untyped o b w) = ap (λ l. Untyped o b (if l then 0 else w)) (loses-same y)
  kept-same y (Frame f r (Some m)) = ap (λ l. if l then Frame f r None else Frame f r (Some m)) (frame-same m)
  kept-same y (PageTable t (Some m)) = ap (λ l. if l then PageTable t None else PageTable t (Some m)) (last-same (is_root_at m.root) refl)
  kept-same y (Frame f r None) = refl
  kept-same y (PageTable t None) = refl
  kept-same y Empty = refl
  kept-same y (Endpoint o r b) = refl
  kept-same y (Notification o r b) = refl
  kept-same y (CNode o r g) = refl
  kept-same y (Tcb o) = refl
  kept-same y (RootTable o) = refl
  kept-same y InterruptControl = refl
  kept-same y (InterruptHandler line) = refl

  entry-same : (y : ℕ) (o : Option Entry) → option_map (kept_entry s one y) o ≡ option_map (kept_entry s two y) o
  entry-same y None = refl
  entry-same y (Some h) = λ i. Some (record { capability = kept-same y h.capability i; parent = parent-same y i })

  -- an empty slot is left as it is, and is what emptying one leaves
  blank : (set : SlotSet) (y : ℕ) (o : Option Entry) → s.slots y ≡ o → is_some o ≡ true → is_empty (capability_of o) ≡ true →
      option_map (kept_entry s set y) o ≡ Some empty_entry
  blank set y None is opens empty = absurd (let clash : false ≡ true = opens in cc)
  blank set y (Some h) is opens empty =
      let nothing : h.capability ≡ Empty = empty-is h.capability empty in
      let root : new_parent s set y ≡ None = elim (parent_at s.slots y) as (λ p. parent_at s.slots y ≡ p → new_parent s set y ≡ None) [
        | None ↦ λ none. ap (ancestor_outside 256 set s.slots) none ∙ outside-none 256 set s.slots
        | Some q ↦ λ some. absurd (let clash : false ≡ true = ap not (sym (ap (λ (e : Option Entry). is_empty (capability_of e)) is ∙ empty))
            ∙ tree.child_full y q some in cc)
      ] refl in
      λ i. Some (record { capability = ap (kept s set y) nothing i; parent = root i })

  module _ (first_open : (y : ℕ) → one y ≡ true → IsOpen s.slots y) (second_open : (y : ℕ) → two y ≡ true → IsOpen s.slots y) where
    closed-out : (set : SlotSet) (y : ℕ) → ((z : ℕ) → set z ≡ true → IsOpen s.slots z) → s.slots y ≡ None → set y ≡ false
    closed-out set y opens none = elim (set y) as (λ b. set y ≡ b → b ≡ false)
        [ true ↦ λ member. absurd (let clash : false ≡ true = sym (ap is_some none) ∙ opens y member in cc) | false ↦ λ is. refl ] refl

    pub emptied-blank : (set : SlotSet) (y : ℕ) (h : Entry) → s.slots y ≡ Some h → is_empty h.capability ≡ true → slots_emptied s set y ≡ Some empty_entry
    emptied-blank set y h is empty = elim (set y) as (λ b. set y ≡ b → slots_emptied s set y ≡ Some empty_entry) [
      | true ↦ λ member. there-in s set y member
      | false ↦ λ out. there-out s set y out ∙ ap (option_map (kept_entry s set y)) is ∙ blank set y (Some h) is refl empty
    ] refl

    slots-same : (y : ℕ) → slots_emptied s one y ≡ slots_emptied s two y
    slots-same y = elim (s.slots y) as (λ o. s.slots y ≡ o → slots_emptied s one y ≡ slots_emptied s two y) [
      | None ↦ λ none.
          there-out s one y (closed-out one y first_open none) ∙ entry-same y (s.slots y) ∙ sym (there-out s two y (closed-out two y second_open none))
      | Some h ↦ λ some. elim (is_empty h.capability) as (λ b. is_empty h.capability ≡ b → slots_emptied s one y ≡ slots_emptied s two y) [
        | true ↦ λ empty. emptied-blank one y h some empty ∙ sym (emptied-blank two y h some empty)
        | false ↦ λ full.
            let filled : IsFull s.slots y = ap (λ (o : Option Entry). not (is_empty (capability_of o))) some ∙ ap not full in
            ap (λ b. if b then Some empty_entry else option_map (kept_entry s one y) (s.slots y)) (same y filled)
            ∙ ap (λ e. if two y then Some empty_entry else e) (entry-same y (s.slots y))
      ] refl
    ] refl

    pub emptied-same : emptied s one ≡ emptied s two
    emptied-same = ended-same (ends s one) (ends s two) s (slots_emptied s one) ends-same ∙ (λ i. ended_by (ends s two) s (λ y. slots-same y i))
