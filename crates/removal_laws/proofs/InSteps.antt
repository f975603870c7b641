-- Emptying a slot in steps, of a state and slots that are kept apart.
use Rattle.std.proofs.Common.{ℕ, ◌≡◌, ◌≢◌, ◌∙◌, ◌/◌, ◌^◌, ◌<◌, true, false, not, if◌then◌else◌, Option, Some, None, refl, sym, ap, subst, arith}
use Rattle.std.specs.Option.{option_map_or}
use Rattle.model.specs.declared.capabilities.Cap.{Cap}
use Rattle.model.specs.declared.capabilities.Cap.TheVariants.{Empty, Untyped, Endpoint, Notification, CNode, Frame, PageTable, Tcb, RootTable, InterruptControl}
use Rattle.model.specs.declared.capabilities.Cap.TheVariants.{InterruptHandler}
use Rattle.model.specs.Capabilities.CapabilityKinds.{object_of, root_of, unmapped}
use Rattle.model.specs.Capabilities.Slots.{IsDerivation, IsFull, Slots, capability_at, is_empty, parent_at, spliced}
use Rattle.model.specs.Kernel.MappingCalls.{lies_in_region}
use Rattle.model.specs.Kernel.Removal.{emptied}
use Rattle.model.specs.Kernel.State.{State, with_slots}
use Rattle.model.proofs.Depths.{depth-own_parent}
use Rattle.removal_laws.specs.Steps.{IfUnnamed, IsReady, Rewinds, RootsAreRoots, alone, ends, is_under, object_ended, slots_ended, stays, unmapped_at}
use Rattle.removal_laws.proofs.Emptyings.{emptied-ending, emptied-staying, object-unmapped}
use Rattle.removal_laws.proofs.Stepwise.{ended-at, region_lost, root_lost, spliced-other, unmapped-itself, unmapped-other}

module _ (s : State) (x : ℕ) (tree : IsDerivation s.slots) (near : (y : ℕ) → IsFull s.slots y → y < 2 ^ s.memory_bits / 16) (full : IsFull s.slots x)
    (kinds : RootsAreRoots s.slots) where
  abbrev taken : Slots
  taken = spliced (unmapped_at s.slots x) x

  abbrev bare : Cap
  bare = capability_at (unmapped_at s.slots x) x

  same-object : object_of bare ≡ object_of (capability_at s.slots x)
  same-object = ap object_of (unmapped-itself s.slots x (capability_at s.slots x) refl).0 ∙ (object-unmapped (capability_at s.slots x)).0

  together : (t : State) (p : Option ℕ) (now : Slots) → IfUnnamed (with_slots s taken) bare t → parent_at s.slots x ≡ p → Rewinds p t.slots now →
      with_slots t now ≡ emptied s (alone x)
  together t p now (stays named same) is rewinds =
      ap (λ (u : State). with_slots u now) same
      ∙ emptied-staying s x tree near full (λ o object. named o (same-object ∙ object)) kinds p now is
      (subst (λ (u : State). Rewinds p u.slots now) same rewinds)
  together t p now (ends o object none same) is rewinds =
      ap (λ (u : State). with_slots u now) same
      ∙ emptied-ending s x tree near full o (sym same-object ∙ object) none p now is (subst (λ (u : State). Rewinds p u.slots now) same rewinds)

-- the same of slots that are the state's
pub emptied-in-steps : (s t0 t1 t2 : State) (slots gone after now : Slots) (x : ℕ) (removed : Cap) (p : Option ℕ)
    → s.slots ≡ slots → IsReady s → IsFull slots x
    → removed ≡ capability_at (unmapped_at slots x) x → gone ≡ spliced (unmapped_at slots x) x → t0 ≡ with_slots s gone
    → IfUnnamed t0 removed t1 → t1.slots ≡ after → parent_at slots x ≡ p → Rewinds p after now → t2 ≡ with_slots t1 now → t2 ≡ emptied s (alone x)
emptied-in-steps s t0 t1 t2 slots gone after now x removed p has ready full removed_is gone_is first second third parent rewinds last =
    let same : slots ≡ s.slots = sym has in
    let start : t0 ≡ with_slots s (spliced (unmapped_at s.slots x) x) = first
    ∙ ap (λ (n : Slots). with_slots s n) (gone_is ∙ ap (λ (n : Slots). spliced (unmapped_at n x) x) same) in
    let bare_is : removed ≡ capability_at (unmapped_at s.slots x) x = removed_is ∙ ap (λ (n : Slots). capability_at (unmapped_at n x) x) same in
    let ending : IfUnnamed (with_slots s (spliced (unmapped_at s.slots x) x)) (capability_at (unmapped_at s.slots x) x) t1 =
    subst (λ (c : Cap). IfUnnamed (with_slots s (spliced (unmapped_at s.slots x) x)) c t1) bare_is (subst (λ (u : State). IfUnnamed u removed t1) start second)
    in
    last
    ∙ together s x ready.derivation ready.near (subst (λ (n : Slots). IsFull n x) same full) ready.roots
    t1 p now ending (ap (λ (n : Slots). parent_at n x) (sym same) ∙ parent) (subst (λ (n : Slots). Rewinds p n now) (sym third) rewinds)

-- ---- the parent stays full

empty-unmapped : (c : Cap) → is_empty (unmapped c) ≡ is_empty c
empty-unmapped Empty = refl
empty-unmapped (Untyped o b w) = refl
empty-unmapped (Endpoint o r b) = refl
empty-unmapped (Notification o r b) = refl
empty-unmapped (CNode o r g) = refl
empty-unmapped (Frame f r m) = refl
empty-unmapped (PageTable t m) = refl
empty-unmapped (Tcb o) = refl
empty-unmapped (RootTable o) = refl
empty-unmapped InterruptControl = refl
empty-unmapped (InterruptHandler line) = refl

empty-region : (c other : Cap) → is_empty (region_lost c other) ≡ is_empty other
empty-region (PageTable t (Some m)) other = elim (lies_in_region m other) as (λ b. is_empty (if b then unmapped other else other) ≡ is_empty other)
    [ true ↦ empty-unmapped other | false ↦ refl ]
empty-region (PageTable t None) other = refl
empty-region Empty other = refl
empty-region (Untyped o b w) other = refl
empty-region (Endpoint o r b) other = refl
empty-region (Notification o r b) other = refl
empty-region (CNode o r g) other = refl
empty-region (Frame f r m) other = refl
empty-region (Tcb o) other = refl
empty-region (RootTable o) other = refl
empty-region InterruptControl other = refl
empty-region (InterruptHandler line) other = refl

empty-root : (c other : Cap) → is_empty (root_lost c other) ≡ is_empty other
empty-root c other = elim (root_of c) as (λ o. is_empty (option_map_or (λ root. if is_under root other then unmapped other else other) o other) ≡ is_empty
    other) [
      | None ↦ refl
      | Some root ↦ elim (is_under root other) as (λ b. is_empty (if b then unmapped other else other) ≡ is_empty other)
          [ true ↦ empty-unmapped other | false ↦ refl ]
    ]

taken-full : (slots : Slots) (x y : ℕ) → y ≢ x → IsFull slots y → IsFull (spliced (unmapped_at slots x) x) y
taken-full slots x y other full =
    ap (λ c. not (is_empty c)) ((spliced-other (unmapped_at slots x) x y other).1 ∙ (unmapped-other slots x (capability_at slots x) y other).1)
    ∙ ap not (empty-region (capability_at slots x) (capability_at slots y))
    ∙ full

ended-full : (t u : State) (removed : Cap) (y : ℕ) → IfUnnamed t removed u → IsFull t.slots y → IsFull u.slots y
ended-full t u removed y (stays named same) full = subst (λ (v : State). IsFull v.slots y) (sym same) full
ended-full t u removed y (ends o object none same) full =
    let whole : u.slots ≡ slots_ended removed t.slots = ap (λ (v : State). v.slots) same
    ∙ ap (λ (q : Option ℕ). (option_map_or (λ offset. with_slots (object_ended t offset) (slots_ended removed t.slots)) q t).slots) object in
    subst (λ (n : Slots). IsFull n y) (sym whole) (ap (λ c. not (is_empty c)) (ended-at removed t.slots y).1
    ∙ ap not (empty-root removed (capability_at t.slots y)) ∙ full)

pub parent-full : (slots taken after : Slots) (t u : State) (removed : Cap) (x p : ℕ) → IsDerivation slots → parent_at slots x ≡ Some p →
    taken ≡ spliced (unmapped_at slots x) x → t.slots ≡ taken
    → IfUnnamed t removed u → u.slots ≡ after → IsFull after p
parent-full slots taken after t u removed x p tree is taken_is has ending has_after =
    let apart : p ≢ x = λ same. absurd (omega (arith, depth-own_parent 256 (parent_at slots) x (is ∙ ap (λ n. Some n) same), tree.shallow x)) in
    let before : IsFull t.slots p = subst (λ (n : Slots). IsFull n p) (sym (has ∙ taken_is)) (taken-full slots x p apart (tree.parent_full x p is)) in
    subst (λ (n : Slots). IsFull n p) has_after (ended-full t u removed p ending before)
