-- What one of a thread's slots holds moved to another, with its parent and its children.
use Rattle.std.proofs.Common.{ℕ, ◌≡◌, ◌∙◌, ◌==◌, ◌⊎◌, inl, inr, Bool, true, false, if◌then◌else◌, List, Option, Some, None, option_and_then, option_map, refl}
use Rattle.std.proofs.Common.{sym, ap, subst}
use Rattle.std.specs.Option.{option_map_or}
use Rattle.std.proofs.lemmas.Bool.{eq-eqb, eqb-true, false≢true}
use Rattle.std.proofs.lemmas.Option.{none-some, same_Some}
use Rattle.model.specs.declared.slot_entries.Entry.{Entry}
use Rattle.model.specs.Acceptance.Authority.{IsOwnSlot}
use Rattle.model.specs.Acceptance.NotedKernel.{key_of, noted_after, slot_of_key}
use Rattle.model.specs.Acceptance.NotedStates.{NotedSlot, SlotKey}
use Rattle.model.specs.Acceptance.ThreadRules.{reached}
use Rattle.model.specs.Capabilities.CapabilityKinds.{is_untyped}
use Rattle.model.specs.Capabilities.Slots.{adopted, capability_at, empty_entry, parent_at, relocated, with_entry}
use Rattle.model.specs.Images.Described.{Numbered}
use Rattle.model.specs.Images.Image.{Image}
use Rattle.model.specs.Kernel.State.{State, with_slots}
use Rattle.removal_laws.proofs.Laws.{bool-iff}
use Rattle.headline.specs.lookups.Found.{slots_noted}
use Rattle.typestate.proofs.Laws.{IsNamed, key-named}
use Rattle.headline.proofs.lookups.Laws.{key-found}
use Rattle.headline.specs.invocations.Changes.{ChangesOwn, IsOther}
use Rattle.headline.specs.invocations.Mirrors.{Mirrors}
use Rattle.headline.proofs.invocations.Changing.{changes}
use Rattle.headline.proofs.invocations.Follows.{Follows, follows-empty, follows-kept, follows-same, held_capability, held_parent}
use Rattle.headline.proofs.invocations.Inserting.{IsSameHeld, entry-other, noted-alike, same-held}

-- ---- what a child of the moved slot holds

abbrev is_below : ℕ → Option ℕ → Bool
is_below gone parent = option_map_or (λ p. p == gone) parent false

below-is : (gone : ℕ) (parent : Option ℕ) → is_below gone parent ≡ true → parent ≡ Some gone
below-is gone None is = absurd (false≢true is)
below-is gone (Some p) is = ap (λ (n : ℕ). Some n) (eqb-true p gone is)

is-below : (gone : ℕ) (parent : Option ℕ) → parent ≡ Some gone → is_below gone parent ≡ true
is-below gone parent is = ap (is_below gone) is ∙ eq-eqb gone gone refl

-- the parent, or the new one
abbrev passed_on : ℕ → ℕ → Option ℕ → Option ℕ
passed_on gone to parent = if is_below gone parent then Some to else parent

pub adopted-capability : (gone to : ℕ) (held : Option Entry) → held_capability (option_map (adopted gone (Some to)) held) ≡ held_capability held
adopted-capability gone to None = refl
adopted-capability gone to (Some h) =
    elim (is_below gone h.parent) as (λ b. (if b then (record h { parent = Some to }) else h).capability ≡ h.capability) [ true ↦ refl | false ↦ refl ]

adopted-parent : (gone to : ℕ) (held : Option Entry) → held_parent (option_map (adopted gone (Some to)) held) ≡ passed_on gone to (held_parent held)
adopted-parent gone to None = refl
adopted-parent gone to (Some h) =
    elim (is_below gone h.parent) as (λ b. (if b then (record h { parent = Some to }) else h).parent ≡ (if b then Some to else h.parent))
    [ true ↦ refl | false ↦ refl ]

module _ (image : Image) (t : Numbered) where
  abbrev keyed : Option ℕ → Option SlotKey
  keyed parent = option_and_then (key_of image (reached image t.thread)) parent

  -- parents with one key are both the slot of the thread's, or neither
  parent-too : (gone : ℕ) → IsOwnSlot image t.thread gone → (a b : Option ℕ) → keyed a ≡ keyed b → a ≡ Some gone → b ≡ Some gone
  parent-too gone own a b same is =
      let of = key-found image (reached image t.thread) gone own in
      by-parent b of.key (sym same ∙ ap keyed is ∙ of.at) of.place
    where
      by-parent : (parent : Option ℕ) (key : SlotKey) → keyed parent ≡ Some key → slot_of_key image key ≡ gone → parent ≡ Some gone
      by-parent None key keyed_is place = absurd (none-some key keyed_is)
      by-parent (Some above) key keyed_is place =
          ap (λ (n : ℕ). Some n) (sym (IsNamed.place (key-named image (reached image t.thread) above key keyed_is)) ∙ place)

  passed-same : (gone to : ℕ) → IsOwnSlot image t.thread gone → (a b : Option ℕ) → keyed a ≡ keyed b → keyed (passed_on gone to a) ≡ keyed (passed_on gone to b)
  passed-same gone to own a b same =
      let tests : is_below gone a ≡ is_below gone b =
      bool-iff (is_below gone a) (is_below gone b) (λ is. is-below gone b (parent-too gone own a b same (below-is gone a is)))
      (λ is. is-below gone a (parent-too gone own b a (sym same) (below-is gone b is))) in
      ap (λ x. keyed (if x then Some to else a)) tests
      ∙ elim (is_below gone b) as (λ x. keyed (if x then Some to else a) ≡ keyed (if x then Some to else b)) [ true ↦ refl | false ↦ same ]

  adopted-same : (gone to : ℕ) → IsOwnSlot image t.thread gone → (a b : Option Entry) → IsSameHeld image t a b
      → IsSameHeld image t (option_map (adopted gone (Some to)) a) (option_map (adopted gone (Some to)) b)
  adopted-same gone to own a b same = record {
    capability = adopted-capability gone to a ∙ same.capability ∙ sym (adopted-capability gone to b);
    above = ap keyed (adopted-parent gone to a) ∙ passed-same gone to own (held_parent a) (held_parent b) same.above
        ∙ sym (ap keyed (adopted-parent gone to b));
  }

-- where the parent is another one nothing changes
adopted-none : (gone to : ℕ) (held : Option Entry) → is_below gone (held_parent held) ≡ false → option_map (adopted gone (Some to)) held ≡ held
adopted-none gone to None none = refl
adopted-none gone to (Some h) none = ap (λ b. let o : Option Entry = Some (if b then (record h { parent = Some to }) else h) in o) none

-- ---- the move

module _ (image : Image) (t : Numbered) (s : State) (slots : List NotedSlot) (m : Mirrors image t s slots) (from to : ℕ) (own : IsOwnSlot image t.thread from)
    (mine : IsOwnSlot image t.thread to) where
  abbrev child : ℕ → Option Entry
  child x = option_map (adopted from (Some to)) (s.slots x)

  child-other : (x : ℕ) → IsOther image t x → child x ≡ s.slots x
  child-other x other =
      adopted-none from to (s.slots x)
      (elim (is_below from (parent_at s.slots x)) as (λ b. is_below from (parent_at s.slots x) ≡ b → b ≡ false) [
        | true ↦ λ is. absurd (m.outside x from other (below-is from (parent_at s.slots x) is) own)
        | false ↦ λ _. refl
      ] refl)

  others : (x : ℕ) → IsOther image t x → relocated s.slots from to x ≡ s.slots x
  others x other =
      entry-other image t (with_entry child to (s.slots from)) from x (Some empty_entry) own other
      ∙ entry-other image t child to x (s.slots from) mine other ∙ child-other x other

  follows-child : (x : ℕ) → IsOwnSlot image t.thread x → Follows image t s (child x)
  follows-child x is_own =
      follows-kept image t s (child x) x is_own (adopted-capability from to (s.slots x)) (λ parent is.
      by-test (is_below from (parent_at s.slots x)) refl parent (sym (adopted-parent from to (s.slots x)) ∙ is))
    where
      by-test : (b : Bool) → is_below from (parent_at s.slots x) ≡ b → (parent : ℕ) → (if b then Some to else parent_at s.slots x) ≡ Some parent
          → (parent_at s.slots x ≡ Some parent) ⊎ (IsOwnSlot image t.thread parent × (is_untyped (capability_at s.slots x) ≡ false))
      by-test true was parent is =
          inr (
            subst (λ (n : ℕ). IsOwnSlot image t.thread n) (same_Some to parent is) mine,
            m.hang.own x from is_own (below-is from (parent_at s.slots x) was) own,
          )
      by-test false was parent is = inl is

  pub relocated-changes : ChangesOwn image t s (with_slots s (relocated s.slots from to))
      (noted_after image t.thread (relocated (slots_noted image t slots) from to))
  relocated-changes =
      let noted = slots_noted image t slots in
      changes image t s slots m (relocated s.slots from to) others
      (λ x is_own.
      elim (x == from) as (λ b. Follows image t s (if b then Some empty_entry else if x == to then s.slots from else child x)) [
        | true ↦ follows-empty image t s x is_own
        | false ↦ elim (x == to) as (λ b. Follows image t s (if b then s.slots from else child x)) [
          | true ↦ follows-same image t s from own
          | false ↦ follows-child x is_own
        ]
      ])
      (noted_after image t.thread (relocated noted from to))
      (noted-alike image t (relocated s.slots from to) (relocated noted from to) (λ x is_own.
      elim (x == from) as (λ b. IsSameHeld image t (if b then Some empty_entry else if x == to then s.slots from else child x)
      (if b then Some empty_entry else if x == to then noted from else option_map (adopted from (Some to)) (noted x))) [
        | true ↦ record { capability = refl; above = refl }
        | false ↦ elim (x == to) as (λ b. IsSameHeld image t (if b then s.slots from else child x)
            (if b then noted from else option_map (adopted from (Some to)) (noted x))) [
              | true ↦ same-held image t s slots m from own
              | false ↦ adopted-same image t from to own (s.slots x) (noted x) (same-held image t s slots m x is_own)
            ]
      ]))
