-- What goes with a set of slots goes with one slot of it, or with the others once that one is empty.
use Rattle.std.proofs.Common.{ℕ, ◌≡◌, ◌≢◌, ◌∙◌, ◌==◌, ◌/◌, ◌^◌, ◌<◌, ◌≤◌, ◌&&◌, ◌||◌, inl, inr, Bool, true, false, if◌then◌else◌, Option, Some, None, refl, sym}
use Rattle.std.proofs.Common.{ap, arith}
use Rattle.std.proofs.lemmas.Bool.{eq-eqb, ne_eqb}
use Rattle.std.proofs.lemmas.Bool.Decides.{eqb_tells}
use Rattle.model.specs.declared.capabilities.Cap.{Cap}
use Rattle.model.specs.declared.capabilities.Cap.TheVariants.{Empty, Untyped, Endpoint, Notification, CNode, Frame, PageTable, Tcb, RootTable, InterruptControl}
use Rattle.model.specs.declared.capabilities.Cap.TheVariants.{InterruptHandler}
use Rattle.model.specs.declared.capabilities.FrameMapping.{FrameMapping}
use Rattle.model.specs.declared.capabilities.TableMapping.{TableMapping}
use Rattle.model.specs.declared.rights.Rights.{Rights}
use Rattle.model.specs.Capabilities.CapabilityKinds.{names_object, is_handler_of}
use Rattle.model.specs.Capabilities.Slots.{IsDerivation, IsFull, capability_at, parent_at}
use Rattle.model.specs.Kernel.AddressSpaces.{maps_region, region_pages}
use Rattle.model.specs.Kernel.Removal.{SlotSet, ancestor_outside, emptied, ends, ends_root, frame_loses, is_root_at, kept, new_parent, some_inside, table_loses}
use Rattle.model.specs.Kernel.Removal.{takes_last}
use Rattle.model.specs.Kernel.State.{State}
use Rattle.model.proofs.Ancestors.{depth-child}
use Rattle.model.proofs.Depths.{adopted_parent, depth-own_parent}
use Rattle.model.proofs.SlotChanges.{capability_of, parent_of}
use Rattle.removal_laws.proofs.Keeping.{capability-out, kept-test, parent-out, there-in}
use Rattle.removal_laws.specs.Steps.{alone, less}
use Rattle.removal_laws.proofs.Lasts.{inside, inside-alone, inside-split, last-split}
use Rattle.removal_laws.proofs.Parents.{height, outside-one, outside-split}

module _ (s : State) (set : SlotSet) (x : ℕ) (tree : IsDerivation s.slots) (near : (y : ℕ) → IsFull s.slots y → y < 2 ^ s.memory_bits / 16)
    (member : set x ≡ true) (full : IsFull s.slots x) where
  abbrev pub one : State
  one = emptied s (alone x)

  abbrev pub rest : SlotSet
  rest = less set x

  pub empty-now : capability_at one.slots x ≡ Empty
  empty-now = ap capability_of (there-in s (alone x) x (eq-eqb x x refl))

  pub root-now : parent_at one.slots x ≡ None
  root-now = ap parent_of (there-in s (alone x) x (eq-eqb x x refl))

  pub kept-now : (y : ℕ) → y ≢ x → capability_at one.slots y ≡ kept s (alone x) y (capability_at s.slots y)
  kept-now y apart = capability-out s (alone x) y (ne_eqb y x apart)

  no-circle : parent_at s.slots x ≢ Some x
  no-circle is = absurd (omega (arith, depth-own_parent 256 (parent_at s.slots) x is, tree.shallow x))

  pub parent-now : (y : ℕ) → y ≢ x → parent_at one.slots y ≡ adopted_parent x (parent_at s.slots x) (parent_at s.slots y)
  parent-now y apart = parent-out s (alone x) y (ne_eqb y x apart) ∙ outside-one x s.slots (parent_at s.slots y) no-circle

  low : (y : ℕ) (p : Option ℕ) → parent_at s.slots y ≡ p → height (parent_at s.slots) p ≤ 256
  low y None is = omega arith
  low y (Some p) is = omega (arith, depth-child s.slots y p tree is, tree.shallow y)

  pub new-parent-split : (y : ℕ) → y ≢ x → new_parent s set y ≡ new_parent one rest y
  new-parent-split y apart =
      outside-split set x s.slots one.slots member tree.shallow root-now parent-now 256 (parent_at s.slots y) (low y (parent_at s.slots y) refl)
      ∙ ap (ancestor_outside 256 rest one.slots) (sym (parent-now y apart))

  -- ---- the last of some capabilities

  pub takes-last-split : (test : Cap → Bool) → test Empty ≡ false → ((c : Cap) (y : ℕ) → test (kept s (alone x) y c) ≡ test c) →
      takes_last s set test ≡ (takes_last s (alone x) test || takes_last one rest test)
  takes-last-split test none same =
      last-split s.memory_bits set x (capability_at s.slots) (capability_at one.slots) test member (near x full) (ap test empty-now ∙ none)
      (λ y apart. ap test (kept-now y apart) ∙ same (capability_at s.slots y) y)

  pub ends-split : (offset : ℕ) → ends s set offset ≡ (ends s (alone x) offset || ends one rest offset)
  ends-split offset =
      takes-last-split (names_object offset) refl (λ c y. kept-test (names_object offset) (λ o b v w. refl) (λ f r m n. refl) (λ t m n. refl) s (alone x) y c)

  pub ends-root-split : (root : ℕ) → ends_root s set root ≡ (ends_root s (alone x) root || ends_root one rest root)
  ends-root-split root =
      takes-last-split (is_root_at root) refl (λ c y. kept-test (is_root_at root) (λ o b v w. refl) (λ f r m n. refl) (λ t m n. refl) s (alone x) y c)

  pub handlers-split : (line : ℕ) → takes_last s set (is_handler_of line)
      ≡ (takes_last s (alone x) (is_handler_of line) || takes_last one rest (is_handler_of line))
  handlers-split line =
      takes-last-split (is_handler_of line) refl (λ c y. kept-test (is_handler_of line) (λ o b v w. refl) (λ f r m n. refl) (λ t m n. refl) s (alone x) y c)

  -- ---- mappings

  region-of-table : (root region : ℕ) (t : ℕ) (m : TableMapping) → ends_root s (alone x) root ≡ false
      → maps_region root region (if table_loses s (alone x) m then PageTable t None else PageTable t (Some m)) ≡ maps_region root region (PageTable t (Some m))
  region-of-table root region t m stays = elim (eqb_tells m.root root) [
    | inl same ↦ ap (λ b. maps_region root region (if b then PageTable t None else PageTable t (Some m))) (ap (ends_root s (alone x)) same.1 ∙ stays)
    | inr other ↦ elim (table_loses s (alone x) m)
        as (λ b. maps_region root region (if b then PageTable t None else PageTable t (Some m)) ≡ maps_region root region (PageTable t (Some m))) [
          | true ↦ sym (ap (λ b. b && (m.region == region)) other.0)
          | false ↦ refl
        ]
  ]

  region-of-frame : (root region f : ℕ) (r : Rights) (m : FrameMapping) → maps_region root region (kept s (alone x) 0 (Frame f r (Some m))) ≡ false
  region-of-frame root region f r m = elim (frame_loses s (alone x) m)
      as (λ b. maps_region root region (if b then Frame f r None else Frame f r (Some m)) ≡ false) [ true ↦ refl | false ↦ refl ]

  regions-kept : (root region : ℕ) → ends_root s (alone x) root ≡ false → (y : ℕ) (c : Cap) →
      maps_region root region (kept s (alone x) y c) ≡ maps_region root region c
  regions-kept root region stays y (PageTable t (Some m)) = region-of-table root region t m stays
  regions-kept root region stays y (Frame f r (Some m)) = region-of-frame root region f r m
  regions-kept root region stays y (PageTable t None) = refl
  regions-kept root region stays y (Frame f r None) = refl
  regions-kept root region stays y Empty = refl
  regions-kept root region stays y (Untyped o b w) = refl
  regions-kept root region stays y (Endpoint o r b) = refl
  regions-kept root region stays y (Notification o r b) = refl
  regions-kept root region stays y (CNode o r g) = refl
  regions-kept root region stays y (Tcb o) = refl
  regions-kept root region stays y (RootTable o) = refl
  regions-kept root region stays y InterruptControl = refl
  regions-kept root region stays y (InterruptHandler line) = refl

  region-split : (root region : ℕ) → ends_root s (alone x) root ≡ false
      → some_inside s set (maps_region root region) ≡ (some_inside s (alone x) (maps_region root region) || some_inside one rest (maps_region root region))
  region-split root region stays =
      let test : Cap → Bool = maps_region root region in
      let same : (y : ℕ) → y ≢ x → test (capability_at one.slots y) ≡ test (capability_at s.slots y) = λ y apart. ap test (kept-now y apart)
      ∙ regions-kept root region stays y (capability_at s.slots y) in
      inside-split s.memory_bits set x (capability_at s.slots) (capability_at one.slots) test member (near x full) (ap test empty-now) same
      ∙ ap (λ b. b || inside s.memory_bits rest (capability_at one.slots) test)
      (sym (inside-alone s.memory_bits set x (capability_at s.slots) (capability_at one.slots) test member (near x full) (ap test empty-now) same))

  either : (e1 e2 i1 i2 : Bool) → ((e1 || e2) || (i1 || i2)) ≡ ((e1 || i1) || (e2 || i2))
  either true e2 i1 i2 = refl
  either false true true i2 = refl
  either false true false i2 = refl
  either false false i1 i2 = refl

  pub frame-loses-split : (m : FrameMapping) → frame_loses s set m ≡ (frame_loses s (alone x) m || frame_loses one rest m)
  frame-loses-split m =
      let test : Cap → Bool = maps_region m.root (m.page / region_pages) in
      elim (ends_root s (alone x) m.root) as (λ b. ends_root s (alone x) m.root ≡ b →
      frame_loses s set m ≡ (frame_loses s (alone x) m || frame_loses one rest m)) [
        | true ↦ λ is.
            ap (λ b. b || some_inside s set test) (ends-root-split m.root ∙ ap (λ b. b || ends_root one rest m.root) is)
            ∙ sym (ap (λ b. (b || some_inside s (alone x) test) || frame_loses one rest m) is)
        | false ↦ λ is.
            ap (λ b. b || some_inside s set test) (ends-root-split m.root)
            ∙ ap (λ b. (ends_root s (alone x) m.root || ends_root one rest m.root) || b) (region-split m.root (m.page / region_pages) is)
            ∙ either (ends_root s (alone x) m.root) (ends_root one rest m.root) (some_inside s (alone x) test) (some_inside one rest test)
      ] refl
