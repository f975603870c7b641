-- A slot is emptied: the states that the steps leave.
use Rattle.std.proofs.Common.{ℕ, ◌≡◌, ◌≢◌, ◌∙◌, ◌==◌, ◌/◌, ◌^◌, ◌<◌, ◌&&◌, inl, inr, Bool, true, false, not, if◌then◌else◌, Option, Some, None, refl, sym, ap}
use Rattle.std.proofs.Common.{subst}
use Rattle.std.specs.Option.{option_map_or}
use Rattle.std.proofs.Math.Bool.{and-false, and-true}
use Rattle.std.proofs.lemmas.Bool.{eq-eqb, ne_eqb}
use Rattle.std.proofs.lemmas.Bool.Decides.{eqb_tells}
use Rattle.model.specs.declared.capabilities.Cap.{Cap}
use Rattle.model.specs.declared.capabilities.Cap.TheVariants.{Empty, Untyped, Endpoint, Notification, CNode, Frame, PageTable, Tcb, RootTable, InterruptControl}
use Rattle.model.specs.declared.capabilities.Cap.TheVariants.{InterruptHandler}
use Rattle.model.specs.Capabilities.CapabilityKinds.{names_object, object_of, root_of, unmapped}
use Rattle.model.specs.Capabilities.Slots.{IsDerivation, IsFull, Slots, capability_at, is_empty, parent_at, spliced}
use Rattle.model.specs.Kernel.MappingCalls.{lies_in_region}
use Rattle.model.specs.Kernel.Removal.{emptied, ends, ends_root, is_root_at, some_outside}
use Rattle.model.specs.Kernel.State.{State, with_slots}
use Rattle.model.proofs.SlotChanges.{capability_of}
use Rattle.removal_laws.specs.Steps.{Rewinds, RootsAreRoots, ended, object_ended, slots_ended, slots_unmapped}
use Rattle.removal_laws.proofs.Found.{found-at, found-none, join}
use Rattle.removal_laws.specs.Steps.{alone}
use Rattle.removal_laws.proofs.Stepwise.{inside-one, region_lost, root_gone, spliced-itself, spliced-other, stepped, unmapped-itself, unmapped-other}
use Rattle.removal_laws.proofs.Unaffected.{ended-same, ended_by, nothing-ends}

-- ---- what a capability names is the same without its mapping

pub object-unmapped : (c : Cap) → (object_of (unmapped c) ≡ object_of c) × (root_of (unmapped c) ≡ root_of c)
object-unmapped Empty = (refl, refl)
object-unmapped (Untyped o b w) = (refl, refl)
object-unmapped (Endpoint o r b) = (refl, refl)
object-unmapped (Notification o r b) = (refl, refl)
object-unmapped (CNode o r g) = (refl, refl)
object-unmapped (Frame f r m) = (refl, refl)
object-unmapped (PageTable t m) = (refl, refl)
object-unmapped (Tcb o) = (refl, refl)
object-unmapped (RootTable o) = (refl, refl)
object-unmapped InterruptControl = (refl, refl)
object-unmapped (InterruptHandler line) = (refl, refl)

object-if : (b : Bool) (c : Cap) → object_of (if b then unmapped c else c) ≡ object_of c
object-if true c = (object-unmapped c).0
object-if false c = refl

object-region : (c other : Cap) → object_of (region_lost c other) ≡ object_of other
object-region (PageTable t (Some m)) other = object-if (lies_in_region m other) other
object-region (PageTable t None) other = refl
object-region Empty other = refl
object-region (Untyped o b w) other = refl
object-region (Endpoint o r b) other = refl
object-region (Notification o r b) other = refl
object-region (CNode o r g) other = refl
object-region (Frame f r m) other = refl
object-region (Tcb o) other = refl
object-region (RootTable o) other = refl
object-region InterruptControl other = refl
object-region (InterruptHandler line) other = refl

-- what names an object is a capability
pub named-full : (o : ℕ) (c : Cap) → names_object o c ≡ true → not (is_empty c) ≡ true
named-full o Empty is = absurd (let clash : false ≡ true = is in cc)
named-full o (Untyped _ _ _) is = refl
named-full o (Endpoint _ _ _) is = refl
named-full o (Notification _ _ _) is = refl
named-full o (CNode _ _ _) is = refl
named-full o (Frame _ _ _) is = refl
named-full o (PageTable _ _) is = refl
named-full o (Tcb _) is = refl
named-full o (RootTable _) is = refl
named-full o InterruptControl is = refl
named-full o (InterruptHandler _) is = refl

-- what is the root table at an offset names it
root-named : (r : ℕ) (c : Cap) → is_root_at r c ≡ true → (c ≡ RootTable r) × (names_object r c ≡ true)
root-named r (RootTable o) is = elim (eqb_tells o r) [
  | inl same ↦ (ap (λ n. RootTable n) same.1, is)
  | inr other ↦ absurd (let clash : false ≡ true = sym other.0 ∙ is in cc)
]
root-named r Empty is = absurd (let clash : false ≡ true = is in cc)
root-named r (Untyped _ _ _) is = absurd (let clash : false ≡ true = is in cc)
root-named r (Endpoint _ _ _) is = absurd (let clash : false ≡ true = is in cc)
root-named r (Notification _ _ _) is = absurd (let clash : false ≡ true = is in cc)
root-named r (CNode _ _ _) is = absurd (let clash : false ≡ true = is in cc)
root-named r (Frame _ _ _) is = absurd (let clash : false ≡ true = is in cc)
root-named r (PageTable _ _) is = absurd (let clash : false ≡ true = is in cc)
root-named r (Tcb _) is = absurd (let clash : false ≡ true = is in cc)
root-named r InterruptControl is = absurd (let clash : false ≡ true = is in cc)
root-named r (InterruptHandler _) is = absurd (let clash : false ≡ true = is in cc)

module _ (s : State) (x : ℕ) (tree : IsDerivation s.slots) (near : (y : ℕ) → IsFull s.slots y → y < 2 ^ s.memory_bits / 16) (full : IsFull s.slots x) where
  abbrev held : Cap
  held = capability_at s.slots x

  abbrev pub bare : Slots
  bare = slots_unmapped s.slots x (capability_at s.slots x)

  abbrev pub left : Slots
  left = spliced bare x

  named-left : (o y : ℕ) → y ≢ x → names_object o (capability_at left y) ≡ names_object o (capability_at s.slots y)
  named-left o y other =
      let same = (spliced-other bare x y other).1 ∙ (unmapped-other s.slots x held y other).1 in
      ap (λ c. names_object o c) same
      ∙ ap (λ p. option_map_or (λ n. n == o) p false) (object-region held (capability_at s.slots y))

  names-inside : (n : ℕ) → ends s (alone x) n ≡ (names_object n held && not (some_outside s (alone x) (names_object n)))
  names-inside n = ap (λ b. b && not (some_outside s (alone x) (names_object n))) (inside-one s x near full (names_object n) refl)

  root-inside : (n : ℕ) → ends_root s (alone x) n ≡ (is_root_at n held && not (some_outside s (alone x) (is_root_at n)))
  root-inside n = ap (λ b. b && not (some_outside s (alone x) (is_root_at n))) (inside-one s x near full (is_root_at n) refl)

  not-itself : (o y : ℕ) → names_object o (capability_at left y) ≡ true → y ≢ x
  not-itself o y is same =
      absurd (let clash : false ≡ true = sym (ap (λ n. names_object o (capability_of (left n))) same
      ∙ ap (λ e. names_object o (capability_of e)) (spliced-itself bare x)) ∙ is in cc)

  outside-at : (test : Cap → Bool) (y : ℕ) → y ≢ x → IsFull s.slots y → test (capability_at s.slots y) ≡ true → some_outside s (alone x) test ≡ true
  outside-at test y other filled passes = found-at s.memory_bits y _ (near y filled) (join (not (alone x y)) _ (ap not (ne_eqb y x other)) passes)

  nothing-outside : (test : Cap → Bool) → ((y : ℕ) → y ≢ x → test (capability_at s.slots y) ≡ false) → some_outside s (alone x) test ≡ false
  nothing-outside test none = found-none s.memory_bits _ (λ y. elim (eqb_tells y x) [
    | inl here ↦ ap (λ b. not b && test (capability_at s.slots y)) here.0
    | inr other ↦ ap (λ b. not (alone x y) && b) (none y other.1) ∙ and-false (not (alone x y))
  ])

  -- ---- the object stays, or there is none

  module _ (named : (o : ℕ) → object_of held ≡ Some o → (y : ℕ) × (names_object o (capability_at left y) ≡ true)) (kinds : RootsAreRoots s.slots) where
    stays : (n : ℕ) (o : Option ℕ) → object_of held ≡ o → ends s (alone x) n ≡ false
    stays n None is = names-inside n ∙ ap (λ p. option_map_or (λ m. m == n) p false && not (some_outside s (alone x) (names_object n))) is
    stays n (Some o) is = elim (eqb_tells o n) [
      | inl same ↦
          let found_y = named o is in
          let other = not-itself o found_y.0 found_y.1 in
          let there : names_object n (capability_at s.slots found_y.0) ≡ true = sym (named-left n found_y.0 other)
          ∙ ap (λ m. names_object m (capability_at left found_y.0)) (sym same.1) ∙ found_y.1 in
          names-inside n
          ∙ ap (λ b. names_object n held && not b) (outside-at (names_object n) found_y.0 other (named-full n _ there) there)
          ∙ and-false (names_object n held)
      | inr apart ↦ names-inside n ∙ ap (λ p. option_map_or (λ m. m == n) p false && not (some_outside s (alone x) (names_object n))) is
          ∙ ap (λ b. b && not (some_outside s (alone x) (names_object n))) apart.0
    ]

    root-stays : (r : ℕ) → ends_root s (alone x) r ≡ false
    root-stays r = elim (is_root_at r held) as (λ b. is_root_at r held ≡ b → ends_root s (alone x) r ≡ false) [
      | true ↦ λ is.
          let root = root-named r held is in
          let object : object_of held ≡ Some r = ap object_of root.0 in
          let found_y = named r object in
          let other = not-itself r found_y.0 found_y.1 in
          let there : names_object r (capability_at s.slots found_y.0) ≡ true = sym (named-left r found_y.0 other) ∙ found_y.1 in
          let a_root : is_root_at r (capability_at s.slots found_y.0) ≡ true = ap (is_root_at r) (kinds x found_y.0 r root.0 there) ∙ eq-eqb r r refl in
          root-inside r
          ∙ ap (λ b. is_root_at r held && not b) (outside-at (is_root_at r) found_y.0 other (named-full r _ there) a_root)
          ∙ and-false (is_root_at r held)
      | false ↦ λ is. root-inside r ∙ ap (λ b. b && not (some_outside s (alone x) (is_root_at r))) is
    ] refl

    pub emptied-staying : (p : Option ℕ) (now : Slots) → parent_at s.slots x ≡ p → Rewinds p left now → with_slots s now ≡ emptied s (alone x)
    emptied-staying p now is rewinds =
        let same : (y : ℕ) → now y ≡ (emptied s (alone x)).slots y = stepped s x tree near full Empty root-stays p now is rewinds in
        sym (nothing-ends (ends s (alone x)) (λ n. stays n (object_of held) refl) s now) ∙ (λ i. ended_by (ends s (alone x)) s (λ y. same y i))

  -- ---- the object ends

  module _ (o : ℕ) (object : object_of held ≡ Some o) (unnamed : (y : ℕ) → names_object o (capability_at left y) ≡ false) where
    abbrev removed : Cap
    removed = capability_at bare x

    object-removed : object_of removed ≡ Some o
    object-removed = ap object_of (unmapped-itself s.slots x held refl).0 ∙ (object-unmapped held).0 ∙ object

    unnamed-before : (y : ℕ) → y ≢ x → names_object o (capability_at s.slots y) ≡ false
    unnamed-before y other = sym (named-left o y other) ∙ unnamed y

    goes : (n : ℕ) → ends s (alone x) n ≡ (o == n)
    goes n = elim (eqb_tells o n) [
      | inl same ↦
          names-inside n
          ∙ ap (λ p. option_map_or (λ m. m == n) p false && not (some_outside s (alone x) (names_object n))) object
          ∙ ap (λ b. (o == n) && not b)
          (nothing-outside (names_object n) (λ y other. ap (λ m. names_object m (capability_at s.slots y)) (sym same.1) ∙ unnamed-before y other))
          ∙ and-true (o == n)
      | inr apart ↦
          names-inside n
          ∙ ap (λ p. option_map_or (λ m. m == n) p false && not (some_outside s (alone x) (names_object n))) object
          ∙ ap (λ b. b && not (some_outside s (alone x) (names_object n))) apart.0
          ∙ sym apart.0
    ]

    by-root : (r : ℕ) (c : Cap) → is_root_at r c ≡ root_gone c r
    by-root r (RootTable q) = refl
    by-root r Empty = refl
    by-root r (Untyped _ _ _) = refl
    by-root r (Endpoint _ _ _) = refl
    by-root r (Notification _ _ _) = refl
    by-root r (CNode _ _ _) = refl
    by-root r (Frame _ _ _) = refl
    by-root r (PageTable _ _) = refl
    by-root r (Tcb _) = refl
    by-root r InterruptControl = refl
    by-root r (InterruptHandler _) = refl

    roots-removed : (r : ℕ) → root_gone removed r ≡ is_root_at r held
    roots-removed r = ap (λ (q : Option ℕ). option_map_or (λ m. m == r) q false) (ap root_of (unmapped-itself s.slots x held refl).0 ∙ (object-unmapped held).1)
        ∙ sym (by-root r held)

    root-goes : (r : ℕ) → ends_root s (alone x) r ≡ root_gone removed r
    root-goes r = elim (is_root_at r held) as (λ b. is_root_at r held ≡ b → ends_root s (alone x) r ≡ root_gone removed r) [
      | true ↦ λ is.
          let root = root-named r held is in
          let same : Some r ≡ Some o = sym (ap object_of root.0) ∙ object in
          let here : r ≡ o = cc in
          root-inside r
          ∙ ap (λ b. is_root_at r held && not b)
          (nothing-outside (is_root_at r)
          (λ y other. elim (is_root_at r (capability_at s.slots y)) as (λ b. is_root_at r (capability_at s.slots y) ≡ b → b ≡ false) [
            | true ↦ λ another. absurd (let clash : true ≡ false = sym (root-named r _ another).1 ∙ ap (λ m. names_object m (capability_at s.slots y)) here
                ∙ unnamed-before y other in cc)
            | false ↦ λ none. refl
          ] refl))
          ∙ and-true (is_root_at r held)
          ∙ sym (roots-removed r)
      | false ↦ λ is. root-inside r ∙ ap (λ b. b && not (some_outside s (alone x) (is_root_at r))) is ∙ sym is ∙ sym (roots-removed r)
    ] refl

    pub emptied-ending : (p : Option ℕ) (now : Slots) → parent_at s.slots x ≡ p → Rewinds p (ended (with_slots s left) removed).slots now →
        with_slots (ended (with_slots s left) removed) now ≡ emptied s (alone x)
    emptied-ending p now is rewinds =
        let whole : ended (with_slots s left) removed ≡ with_slots (object_ended (with_slots s left) o) (slots_ended removed left) =
        ap (λ q. option_map_or (λ offset. with_slots (object_ended (with_slots s left) offset) (slots_ended removed left)) q (with_slots s left)) object-removed
        in
        let third : Rewinds p (slots_ended removed left) now = subst (λ (t : State). Rewinds p t.slots now) whole rewinds in
        let same : (y : ℕ) → now y ≡ (emptied s (alone x)).slots y = stepped s x tree near full removed root-goes p now is third in
        ap (λ t. with_slots t now) whole
        ∙ sym (ended-same (ends s (alone x)) (λ n. o == n) s now goes)
        ∙ (λ i. ended_by (ends s (alone x)) s (λ y. same y i))
