-- What a change of the slots leaves at each of them.
use Rattle.std.proofs.Common.{inl, inr, ℕ, ◌≡◌, ◌≢◌, ◌∙◌, ◌==◌, ◌+◌, ◌<◌, ◌≤◌, true, false, not, if◌then◌else◌, Option, Some, None, refl, sym, ap, arith}
use Rattle.std.specs.Option.{option_map, option_map_or}
use Rattle.std.proofs.lemmas.Bool.{eq-eqb, ne_eqb}
use Rattle.std.proofs.lemmas.Bool.Decides.{eqb_tells, nat_tests}
use Rattle.model.specs.Capabilities.Slots.{Slots, IsFull, adopted, capability_at, closed, empty_entry, is_empty, is_full, is_within, opened, parent_at}
use Rattle.model.specs.Capabilities.Slots.{recapped, spliced, with_entry, with_parent}
use Rattle.model.specs.declared.capabilities.Cap.{Cap}
use Rattle.model.specs.declared.capabilities.Cap.TheVariants.{Empty, Untyped, Endpoint, Notification, CNode, Frame, PageTable, Tcb, RootTable, InterruptControl}
use Rattle.model.specs.declared.capabilities.Cap.TheVariants.{InterruptHandler}
use Rattle.model.specs.declared.slot_entries.Entry.{Entry}
use Rattle.model.proofs.Depths.{adopted_parent}

-- a changed entry, and the others
pub entry-same : (slots : Slots) (slot : ℕ) (held : Option Entry) → with_entry slots slot held slot ≡ held
entry-same slots slot held = ap (λ b. if b then held else slots slot) (eq-eqb slot slot refl)

pub entry-other : (slots : Slots) (slot : ℕ) (held : Option Entry) (s : ℕ) → s ≢ slot → with_entry slots slot held s ≡ slots s
entry-other slots slot held s other = ap (λ b. if b then held else slots s) (ne_eqb s slot other)

abbrev pub capability_of : Option Entry → Cap
capability_of held = option_map_or (λ h. h.capability) held Empty

abbrev pub parent_of : Option Entry → Option ℕ
parent_of held = option_map_or (λ h. h.parent) held None

-- an entry keeps its capability under adoption
pub capability-adopted : (gone : ℕ) (parent : Option ℕ) (held : Option Entry) → capability_of (option_map (adopted gone parent) held) ≡ capability_of held
capability-adopted gone parent None = refl
capability-adopted gone parent (Some held) =
    elim (option_map_or (λ p. p == gone) held.parent false) as (λ b. (if b then record held { parent = parent } else held).capability ≡ held.capability)
    [ true ↦ refl | false ↦ refl ]

-- and its parent changes if it was the one that is gone
parent-adopted_entry : (gone : ℕ) (parent : Option ℕ) (capability : Cap) (was : Option ℕ) →
    (adopted gone parent (record { capability = capability; parent = was })).parent ≡ adopted_parent gone parent was
parent-adopted_entry gone parent capability None = refl
parent-adopted_entry gone parent capability (Some p) =
    elim (p == gone) as (λ b.
    parent_of (Some (if b then record { capability = capability; parent = parent } else record { capability = capability; parent = Some p }))
    ≡ (if b then parent else Some p)) [ true ↦ refl | false ↦ refl ]

pub parent-adopted : (gone : ℕ) (parent : Option ℕ) (held : Option Entry) →
    parent_of (option_map (adopted gone parent) held) ≡ adopted_parent gone parent (parent_of held)
parent-adopted gone parent None = refl
parent-adopted gone parent (Some held) = parent-adopted_entry gone parent held.capability held.parent

-- a capability that is not empty is one
pub full-capability : (capability : Cap) → capability ≢ Empty → not (is_empty capability) ≡ true
full-capability Empty some = absurd (some refl)
full-capability (Untyped _ _ _) some = refl
full-capability (Endpoint _ _ _) some = refl
full-capability (Notification _ _ _) some = refl
full-capability (CNode _ _ _) some = refl
full-capability (Frame _ _ _) some = refl
full-capability (PageTable _ _) some = refl
full-capability (Tcb _) some = refl
full-capability (RootTable _) some = refl
full-capability InterruptControl some = refl
full-capability (InterruptHandler _) some = refl

-- fullness goes by the capability
pub full-same : (old new : Slots) (s : ℕ) → capability_at new s ≡ capability_at old s → IsFull old s → IsFull new s
full-same old new s same full = ap (λ c. not (is_empty c)) same ∙ full

-- a full slot is not an empty one
pub full-not-empty : (slots : Slots) (full empty : ℕ) → IsFull slots full → slots empty ≡ Some empty_entry → full ≢ empty
full-not-empty slots full empty is_full' is same =
    let held : false ≡ true = ap (λ o. not (is_empty (capability_of o))) (sym is) ∙ ap (λ s. is_full slots s) (sym same) ∙ is_full' in
    cc

pub full-not-none : (slots : Slots) (slot : ℕ) → IsFull slots slot → slots slot ≢ None
full-not-none slots slot full none =
    absurd (let clash : false ≡ true = sym (ap (λ o. not (is_empty (capability_of o))) none) ∙ full in cc)

-- opening and closing empty slots changes no capability and no parent
pub capability-opened : (slots : Slots) (first count s : ℕ) → ((t : ℕ) → is_within first count t ≡ true → slots t ≡ None) →
    (capability_at (opened slots first count) s ≡ capability_at slots s) × (parent_at (opened slots first count) s ≡ parent_at slots s)
capability-opened slots first count s was =
    elim (is_within first count s) as (λ b. is_within first count s ≡ b → (capability_of (if b then Some empty_entry else slots s) ≡ capability_at slots s)
    × (parent_of (if b then Some empty_entry else slots s) ≡ parent_at slots s)) [
      | true ↦ λ inside. (ap capability_of (sym (was s inside)), ap parent_of (sym (was s inside)))
      | false ↦ λ outside. (refl, refl)
    ] refl

pub capability-closed : (slots : Slots) (first count s : ℕ) → ((t : ℕ) → is_within first count t ≡ true → slots t ≡ Some empty_entry) →
    (capability_at (closed slots first count) s ≡ capability_at slots s) × (parent_at (closed slots first count) s ≡ parent_at slots s)
capability-closed slots first count s was =
    elim (is_within first count s) as (λ b. is_within first count s ≡ b → (capability_of (if b then None else slots s) ≡ capability_at slots s)
    × (parent_of (if b then None else slots s) ≡ parent_at slots s)) [
      | true ↦ λ inside. (ap capability_of (sym (was s inside)), ap parent_of (sym (was s inside)))
      | false ↦ λ outside. (refl, refl)
    ] refl

-- what a slot within a range is
pub within-bounds : (first count slot : ℕ) → is_within first count slot ≡ true → (first ≤ slot) × (slot < first + count)
within-bounds first count slot inside = grind (arith, nat_tests)

pub bounds-within : (first count slot : ℕ) → first ≤ slot → slot < first + count → is_within first count slot ≡ true
bounds-within first count slot low high = grind (arith, nat_tests)

-- what is full after each change
pub full-recapped : (slots : Slots) (slot : ℕ) (capability : Cap) → IsFull slots slot → capability ≢ Empty → (s : ℕ) →
    is_full (recapped slots slot capability) s ≡ is_full slots s
full-recapped slots slot capability full some s =
    let entry : Option Entry = Some (record { capability = capability; parent = parent_at slots slot }) in
    elim (eqb_tells s slot) [
      | inl here ↦
          ap (is_full (recapped slots slot capability)) here.1 ∙ ap (λ o. not (is_empty (capability_of o))) (entry-same slots slot entry)
          ∙ full-capability capability some ∙ sym (ap (is_full slots) here.1 ∙ full)
      | inr other ↦ ap (λ o. not (is_empty (capability_of o))) (entry-other slots slot entry s other.1)
    ]

pub full-spliced : (slots : Slots) (gone s : ℕ) → s ≢ gone → is_full (spliced slots gone) s ≡ is_full slots s
full-spliced slots gone s other =
    let above : Option ℕ = parent_at slots gone in
    ap (λ o. not (is_empty (capability_of o))) (entry-other (with_parent slots gone above) gone (Some empty_entry) s other)
    ∙ ap (λ c. not (is_empty c)) (capability-adopted gone above (slots s))

pub empty-spliced : (slots : Slots) (gone : ℕ) → is_full (spliced slots gone) gone ≡ false
empty-spliced slots gone =
    ap (λ o. not (is_empty (capability_of o))) (entry-same (with_parent slots gone (parent_at slots gone)) gone (Some empty_entry))
