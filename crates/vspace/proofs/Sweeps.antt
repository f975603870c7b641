-- What becomes of the slots while frames that go along with a page table are unmapped one after another.
use Rattle.std.proofs.Common.{ℕ, ◌≡◌, ◌∙◌, ◌==◌, ◌/◌, ◌^◌, ◌&&◌, ◌⊎◌, inl, inr, Bool, true, false, if◌then◌else◌, Option, Some, None, option_map, refl, sym, ap}
use Rattle.std.proofs.Common.{subst}
use Rattle.std.specs.Option.{option_map_or}
use Rattle.std.proofs.lemmas.Bool.{eq-eqb}
use Rattle.std.proofs.lemmas.Bool.Decides.{eqb_tells}
use Rattle.model.specs.Capabilities.CapabilityKinds.{unmapped}
use Rattle.model.specs.Capabilities.Slots.{Slots, capability_at}
use Rattle.model.specs.Kernel.MappingCalls.{lies_in_region, without_region}
use Rattle.model.specs.declared.capabilities.Cap.{Cap}
use Rattle.model.specs.declared.capabilities.Cap.TheVariants.{Empty, Untyped, Endpoint, Notification, CNode, Frame, PageTable, Tcb, RootTable, InterruptControl}
use Rattle.model.specs.declared.capabilities.Cap.TheVariants.{InterruptHandler}
use Rattle.model.specs.declared.capabilities.FrameMapping.{FrameMapping}
use Rattle.model.specs.declared.capabilities.TableMapping.{TableMapping}
use Rattle.model.specs.declared.slot_entries.Entry.{Entry}
use Rattle.model.proofs.SlotChanges.{capability_of}
use Rattle.vspace.specs.Endings.{IsMappedIn}
use Rattle.vspace.specs.Regions.{IsPartlyCleared, cleared_at, goes_along, is_within, unmapped_entry, without_going}
use Rattle.vspace.specs.declared.extents.Extent.{Extent}
use Rattle.vspace.specs.declared.extents.Extent.TheVariants as extents
use Rattle.vspace.proofs.EndedTables.{entry-unmapped, no-frame, without-inside, without-outside}
use Rattle.vspace.proofs.LostMappings.{IsLess, entry-twice}

-- ---- capabilities

-- what has no mapping does not go along
stays-unmapped : (extent : Extent) (m : TableMapping) (c : Cap) → goes_along extent m (unmapped c) ≡ false
stays-unmapped extent m c =
    ap (λ (o : Option FrameMapping). option_map_or (λ (k : FrameMapping). k.root == m.root && is_within extent m k) o false) (no-frame c)

-- what lies in the region goes along
pub along-region : (extent : Extent) (m : TableMapping) (c : Cap) → lies_in_region m c ≡ true → goes_along extent m c ≡ true
along-region extents.Region m c inside = inside
along-region extents.Root m (Frame f r (Some k)) inside =
    elim (k.root == m.root) as (λ b. (b && (k.page / 2 ^ 10 == m.region)) ≡ true → (b && true) ≡ true) [ true ↦ λ is. refl | false ↦ λ no. no ] inside
along-region extents.Root m (Frame f r None) inside = inside
along-region extents.Root m (PageTable _ _) inside = inside
along-region extents.Root m Empty inside = inside
along-region extents.Root m (Untyped _ _ _) inside = inside
along-region extents.Root m (Endpoint _ _ _) inside = inside
along-region extents.Root m (Notification _ _ _) inside = inside
along-region extents.Root m (CNode _ _ _) inside = inside
along-region extents.Root m (Tcb _) inside = inside
along-region extents.Root m (RootTable _) inside = inside
along-region extents.Root m InterruptControl inside = inside
along-region extents.Root m (InterruptHandler _) inside = inside

-- what goes along with the root table is mapped under it
pub along-root : (goes : ℕ → ℕ → Type 0) (m : TableMapping) (c : Cap) → goes_along extents.Root m c ≡ true → ((region : ℕ) → goes m.root region) →
    IsMappedIn goes c
along-root goes m (Frame f r (Some k)) along under = elim (eqb_tells k.root m.root) [
  | inl same ↦ subst (λ (root : ℕ). goes root (k.page / 2 ^ 10)) (sym same.1) (under (k.page / 2 ^ 10))
  | inr other ↦ absurd (let outside : goes_along extents.Root m (Frame f r (Some k)) ≡ false = rw other.0 refl in cc)
]
along-root goes m (Frame f r None) along under = absurd (cc)
along-root goes m (PageTable _ _) along under = absurd (cc)
along-root goes m Empty along under = absurd (cc)
along-root goes m (Untyped _ _ _) along under = absurd (cc)
along-root goes m (Endpoint _ _ _) along under = absurd (cc)
along-root goes m (Notification _ _ _) along under = absurd (cc)
along-root goes m (CNode _ _ _) along under = absurd (cc)
along-root goes m (Tcb _) along under = absurd (cc)
along-root goes m (RootTable _) along under = absurd (cc)
along-root goes m InterruptControl along under = absurd (cc)
along-root goes m (InterruptHandler _) along under = absurd (cc)

module _ (extent : Extent) (m : TableMapping) where
  cleared-stays : (held : Option Entry) → goes_along extent m (capability_of (option_map (without_going (goes_along extent m)) held)) ≡ false
  cleared-stays None = stays-unmapped extent m Empty
  cleared-stays (Some held) =
      elim (goes_along extent m held.capability) as (λ b. goes_along extent m held.capability ≡ b →
      goes_along extent m (if b then unmapped held.capability else held.capability) ≡ false) [
        | true ↦ λ along. stays-unmapped extent m held.capability
        | false ↦ λ stays. stays
      ] refl

  -- ---- one slot

  module _ (old now : Slots) (slot : ℕ) (cleared : (y : ℕ) → now y ≡ cleared_at (goes_along extent m) old slot y) where
    entry-cleared : (y : ℕ) → now y ≡ option_map (without_going (goes_along extent m)) (old y) →
        ((goes_along extent m (capability_at old y) ≡ true) × (now y ≡ option_map unmapped_entry (old y))) ⊎ (now y ≡ old y)
    entry-cleared y is =
        elim (goes_along extent m (capability_at old y)) as (λ b. goes_along extent m (capability_at old y) ≡ b →
        ((goes_along extent m (capability_at old y) ≡ true) × (now y ≡ option_map unmapped_entry (old y))) ⊎ (now y ≡ old y)) [
          | true ↦ λ along. inl (along, is ∙ without-inside (goes_along extent m) (old y) along)
          | false ↦ λ stays. inr (is ∙ without-outside (goes_along extent m) (old y) stays)
        ] refl

    pub partly-cleared : IsPartlyCleared (goes_along extent m) old now
    partly-cleared y = elim (eqb_tells y slot) [
      | inl here ↦ entry-cleared y
          (cleared y ∙ ap (λ (b : Bool). if b then option_map (without_going (goes_along extent m)) (old y) else old y) here.0)
      | inr other ↦ inr (cleared y ∙ ap (λ (b : Bool). if b then option_map (without_going (goes_along extent m)) (old y) else old y) other.0)
    ]

    pub slot-cleared : goes_along extent m (capability_at now slot) ≡ false
    slot-cleared =
        ap (λ (held : Option Entry). goes_along extent m (capability_of held))
        (cleared slot ∙ ap (λ (b : Bool). if b then option_map (without_going (goes_along extent m)) (old slot) else old slot) (eq-eqb slot slot refl))
        ∙ cleared-stays (old slot)

  -- ---- several slots

  pub partly-then : (old now next : Slots) → IsPartlyCleared (goes_along extent m) old now → IsPartlyCleared (goes_along extent m) now next →
      IsPartlyCleared (goes_along extent m) old next
  partly-then old now next before after y = elim (after y) [
    | inr same ↦ elim (before y) [
      | inl lost ↦ inl (lost.0, same ∙ lost.1)
      | inr kept ↦ inr (same ∙ kept)
    ]
    | inl gone ↦ elim (before y) [
      | inl lost ↦ inl (lost.0, gone.1 ∙ ap (option_map unmapped_entry) lost.1 ∙ entry-twice (old y))
      | inr kept ↦ inl (
        sym (ap (λ (held : Option Entry). goes_along extent m (capability_of held)) kept) ∙ gone.0,
        gone.1 ∙ ap (option_map unmapped_entry) kept,
      )
    ]
  ]

  module _ (old now : Slots) (partly : IsPartlyCleared (goes_along extent m) old now) where
    pub partly-less : IsLess old now
    partly-less y = elim (partly y) [ inl lost ↦ inl lost.1 | inr kept ↦ inr kept ]

    -- what stays will stay
    pub partly-outside : (y : ℕ) → goes_along extent m (capability_at old y) ≡ false → goes_along extent m (capability_at now y) ≡ false
    partly-outside y stays = elim (partly y) [
      | inl lost ↦ ap (λ (held : Option Entry). goes_along extent m (capability_of held)) lost.1 ∙ ap (goes_along extent m) (entry-unmapped (old y))
          ∙ stays-unmapped extent m (capability_at old y)
      | inr kept ↦ ap (λ (held : Option Entry). goes_along extent m (capability_of held)) kept ∙ stays
    ]

    -- page tables stay as they are
    pub partly-untouched : (x t : ℕ) (o : Option TableMapping) → capability_at old x ≡ PageTable t o → now x ≡ old x
    partly-untouched x t o held = elim (partly x) [
      | inl lost ↦ absurd (let clash : true ≡ false = sym lost.0 ∙ ap (goes_along extent m) held in cc)
      | inr kept ↦ kept
    ]

    pub partly-table : (x t : ℕ) (o : Option TableMapping) → capability_at old x ≡ PageTable t o → capability_at now x ≡ PageTable t o
    partly-table x t o held = ap capability_of (partly-untouched x t o held) ∙ held

-- where no frame is left in the region all are gone
pub partly-all : (m : TableMapping) (old now : Slots) → IsPartlyCleared (goes_along extents.Region m) old now →
    ((y : ℕ) → lies_in_region m (capability_at now y) ≡ false) → (y : ℕ) → now y ≡ without_region old m y
partly-all m old now partly none y = elim (partly y) [
  | inl lost ↦ lost.1 ∙ sym (without-inside (lies_in_region m) (old y) lost.0)
  | inr same ↦ same
      ∙ sym (without-outside (lies_in_region m) (old y) (sym (ap (λ (e : Option Entry). lies_in_region m (capability_of e)) same) ∙ none y))
]
