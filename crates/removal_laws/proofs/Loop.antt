-- A set with its bindings, slot by slot: what one slot leaves of it.
use Rattle.std.proofs.Common.{ℕ, ◌≡◌, ◌≢◌, ◌∙◌, ◌/◌, ◌^◌, ◌<◌, ◌&&◌, ◌||◌, ◌⊎◌, inl, inr, Bool, true, false, not, if◌then◌else◌, Option, Some, None, option_map}
use Rattle.std.proofs.Common.{refl, sym, ap, arith}
use Rattle.std.proofs.lemmas.Bool.{eq-eqb, ne_eqb}
use Rattle.std.proofs.lemmas.Bool.Decides.{eqb_tells}
use Rattle.model.specs.declared.capabilities.Cap.{Cap}
use Rattle.model.specs.declared.capabilities.Cap.TheVariants.{Empty, Untyped, Endpoint, Notification, CNode, Frame, PageTable, Tcb, RootTable, InterruptControl}
use Rattle.model.specs.declared.capabilities.Cap.TheVariants.{InterruptHandler}
use Rattle.model.specs.declared.slot_entries.Entry.{Entry}
use Rattle.model.specs.Capabilities.CapabilityKinds.{names_object}
use Rattle.model.specs.Capabilities.Slots.{Descendant, IsDerivation, IsFull, IsOpen, child, deeper, is_descendant, parent_at}
use Rattle.model.specs.Kernel.AddressSpaces.{maps_region, region_pages}
use Rattle.model.specs.Kernel.Removal.{SlotSet, ancestor_outside, emptied, ends, is_root_at, is_some_slot, kept, kept_entry, loses_last_child, new_parent}
use Rattle.model.specs.Kernel.Removal.{slots_emptied, some_inside, some_outside, takes_last}
use Rattle.model.specs.Kernel.State.{State}
use Rattle.model.proofs.Ancestors.{descendant-from_test, test-from_descendant}
use Rattle.model.proofs.Depths.{adopted_parent, depth-own_parent}
use Rattle.model.proofs.SlotChanges.{parent_of}
use Rattle.removal_laws.specs.Steps.{alone}
use Rattle.removal_laws.proofs.Found.{bool-iff, found, found-none}
use Rattle.removal_laws.proofs.Parents.{outside-none, outside-out}
use Rattle.removal_laws.proofs.SameFull.{emptied-same}
use Rattle.removal_laws.proofs.Splits.{parent-now, root-now}
use Rattle.removal_laws.proofs.Unaffected.{nothing-ends}

-- ---- nothing is taken out of nothing

abbrev pub nothing : SlotSet
nothing y = false

module _ (s : State) where
  inside-nothing : (test : Cap → Bool) → some_inside s nothing test ≡ false
  inside-nothing test = found-none s.memory_bits _ (λ y. refl)

  last-nothing : (test : Cap → Bool) → takes_last s nothing test ≡ false
  last-nothing test = ap (λ b. b && not (some_outside s nothing test)) (inside-nothing test)

  loses-nothing : (u : ℕ) → loses_last_child s nothing u ≡ false
  loses-nothing u = ap (λ b. b && not (found s.memory_bits (λ c. not (nothing c) && is_some_slot u (new_parent s nothing c))))
      (found-none s.memory_bits _ (λ y. refl))

  kept-nothing : (y : ℕ) (c : Cap) → kept s nothing y c ≡ c
  kept-nothing y (Untyped o b w) = ap (λ l. Untyped o b (if l then 0 else w)) (loses-nothing y)
  kept-nothing y (Frame f r (Some m)) =
      ap (λ l. if l || some_inside s nothing (maps_region m.root (m.page / region_pages)) then Frame f r None else Frame f r (Some m))
      (last-nothing (is_root_at m.root))
      ∙ ap (λ l. if l then Frame f r None else Frame f r (Some m)) (inside-nothing (maps_region m.root (m.page / region_pages)))
  kept-nothing y (PageTable t (Some m)) = ap (λ l. if l then PageTable t None else PageTable t (Some m)) (last-nothing (is_root_at m.root))
  kept-nothing y (Frame f r None) = refl
  kept-nothing y (PageTable t None) = refl
  kept-nothing y Empty = refl
  kept-nothing y (Endpoint o r b) = refl
  kept-nothing y (Notification o r b) = refl
  kept-nothing y (CNode o r g) = refl
  kept-nothing y (Tcb o) = refl
  kept-nothing y (RootTable o) = refl
  kept-nothing y InterruptControl = refl
  kept-nothing y (InterruptHandler line) = refl

  above-nothing : (p : Option ℕ) → ancestor_outside 256 nothing s.slots p ≡ p
  above-nothing None = outside-none 256 nothing s.slots
  above-nothing (Some q) = outside-out 255 nothing s.slots q refl

  entry-nothing : (y : ℕ) (o : Option Entry) → s.slots y ≡ o → option_map (kept_entry s nothing y) o ≡ o
  entry-nothing y None is = refl
  entry-nothing y (Some h) is =
      let root : new_parent s nothing y ≡ h.parent = above-nothing (parent_at s.slots y) ∙ ap parent_of is in
      λ i. Some (record { capability = kept-nothing y h.capability i; parent = root i })

  pub emptied-nothing : emptied s nothing ≡ s
  emptied-nothing =
      nothing-ends (ends s nothing) (λ o. last-nothing (names_object o)) s (slots_emptied s nothing)
      ∙ (λ i. record s { slots = λ y. entry-nothing y (s.slots y) refl i })

-- a set without full slots takes nothing
pub emptied-none : (s : State) (set : SlotSet) → IsDerivation s.slots → ((y : ℕ) → IsFull s.slots y → set y ≡ false) →
    ((y : ℕ) → set y ≡ true → IsOpen s.slots y) → emptied s set ≡ s
emptied-none s set tree none opens = emptied-same s tree set nothing none opens (λ y member. absurd (let clash : false ≡ true = member in cc))
    ∙ emptied-nothing s

-- ---- descent

module _ (s : State) (x : ℕ) (tree : IsDerivation s.slots) (near : (y : ℕ) → IsFull s.slots y → y < 2 ^ s.memory_bits / 16) (full : IsFull s.slots x) (root : ℕ)
    (apart : root ≢ x) where
  abbrev one : State
  one = emptied s (alone x)

  parent-one : (y : ℕ) → y ≢ x → parent_at one.slots y ≡ adopted_parent x (parent_at s.slots x) (parent_at s.slots y)
  parent-one y other = parent-now s (alone x) x tree near (eq-eqb x x refl) full y other

  parent-kept : (y p : ℕ) → y ≢ x → p ≢ x → parent_at s.slots y ≡ Some p → parent_at one.slots y ≡ Some p
  parent-kept y p other stays is = parent-one y other ∙ ap (adopted_parent x (parent_at s.slots x)) is
      ∙ ap (λ b. if b then parent_at s.slots x else Some p) (ne_eqb p x stays)

  parent-through : (y : ℕ) → y ≢ x → parent_at s.slots y ≡ Some x → parent_at one.slots y ≡ parent_at s.slots x
  parent-through y other is = parent-one y other ∙ ap (adopted_parent x (parent_at s.slots x)) is
      ∙ ap (λ b. if b then parent_at s.slots x else Some x) (eq-eqb x x refl)

  parent-was : (y p : ℕ) → y ≢ x → parent_at one.slots y ≡ Some p →
      (parent_at s.slots y ≡ Some p) ⊎ ((parent_at s.slots y ≡ Some x) × (parent_at s.slots x ≡ Some p))
  parent-was y p other is =
      let now : adopted_parent x (parent_at s.slots x) (parent_at s.slots y) ≡ Some p = sym (parent-one y other) ∙ is in
      elim (parent_at s.slots y) as (λ o. parent_at s.slots y ≡ o → (o ≡ Some p) ⊎ ((o ≡ Some x) × (parent_at s.slots x ≡ Some p))) [
        | None ↦ λ none. absurd (let clash : None ≡ Some p = ap (adopted_parent x (parent_at s.slots x)) (sym none) ∙ now in cc)
        | Some q ↦ λ some. elim (eqb_tells q x) [
          | inl at ↦ inr (
            ap (λ n. Some n) at.1,
            ap (λ b. if b then parent_at s.slots x else Some q) (sym at.0)
                ∙ ap (adopted_parent x (parent_at s.slots x)) (sym some) ∙ now,
          )
          | inr away ↦ inl (ap (λ b. if b then parent_at s.slots x else Some q) (sym away.0) ∙ ap (adopted_parent x (parent_at s.slots x)) (sym some) ∙ now)
        ]
      ] refl

  not-gone : (y p : ℕ) → parent_at one.slots y ≡ Some p → y ≢ x
  not-gone y p is same = absurd (let clash : None ≡ Some p = sym (ap (parent_at one.slots) same ∙ root-now s (alone x) x tree near (eq-eqb x x refl) full)
      ∙ is in cc)

  no-circle : parent_at s.slots x ≢ Some x
  no-circle is = absurd (omega (arith, depth-own_parent 256 (parent_at s.slots) x is, tree.shallow x))

  below-was : (y : ℕ) → Descendant one.slots root y → Descendant s.slots root y
  below-was y (child _ is) = elim (parent-was y root (not-gone y root is) is) [
    | inl direct ↦ child y direct
    | inr through ↦ deeper y x through.0 (child x through.1)
  ]
  below-was y (deeper _ p is above) = elim (parent-was y p (not-gone y p is) is) [
    | inl direct ↦ deeper y p direct (below-was p above)
    | inr through ↦ deeper y x through.0 (deeper x p through.1 (below-was p above))
  ]

  -- a descendant that stays is one still, and the parent of the slot that goes is the root or one
  abbrev Stays : ℕ → Type 0
  Stays z = (z ≢ x → Descendant one.slots root z) × (z ≡ x → (r : ℕ) × (parent_at s.slots x ≡ Some r) × ((r ≡ root) ⊎ Descendant one.slots root r))

  below-now : (z : ℕ) → Descendant s.slots root z → Stays z
  below-now z (child _ is) = (λ other. child z (parent-kept z root other apart is), λ same. (root, ap (parent_at s.slots) (sym same) ∙ is, inl refl))
  below-now z (deeper _ p is above) =
      let more : Stays p = below-now p above in (
        λ other. elim (eqb_tells p x) [
          | inl at ↦
              let further = more.1 at.1 in
              let up : parent_at one.slots z ≡ Some further.0 = parent-through z other (is ∙ ap (λ n. Some n) at.1) ∙ further.1 in
              elim further.2 [
                | inl here ↦ child z (up ∙ ap (λ n. Some n) here)
                | inr there ↦ deeper z further.0 up there
              ]
          | inr away ↦ deeper z p (parent-kept z p other away.1 is) (more.0 away.1)
        ],
        λ same.
            let parent_is : parent_at s.slots x ≡ Some p = ap (parent_at s.slots) (sym same) ∙ is in
            let away : p ≢ x = λ at. no-circle (parent_is ∙ ap (λ n. Some n) at) in
            (p, parent_is, inr (more.0 away)),
      )

  pub descends-still : IsDerivation one.slots → (y : ℕ) → y ≢ x → is_descendant one.slots root y ≡ is_descendant s.slots root y
  descends-still tree_now y other = bool-iff (is_descendant one.slots root y) (is_descendant s.slots root y)
      (λ is. test-from_descendant s.slots root y tree (below-was y (descendant-from_test _ one.slots root y is)))
      (λ is. test-from_descendant one.slots root y tree_now ((below-now y (descendant-from_test _ s.slots root y is)).0 other))
