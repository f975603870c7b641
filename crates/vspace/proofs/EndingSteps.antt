-- Page tables that go with a table are unmapped one after another: what each step leaves, and that all of them go.
use Rattle.std.proofs.Common.{◌≡◌, ◌≢◌, ◌∙◌, ℕ, ◌==◌, ◌||◌, ◌+◌, ◌/◌, ◌<◌, ◌^◌, ◌⊎◌, inl, inr, Bool, true, false, Option, Some, None, List, refl, sym, ap}
use Rattle.std.proofs.Common.{subst, arith}
use Rattle.std.specs.Prelude.{if◌then◌else◌}
use Rattle.std.specs.Option.{option_map}
use Rattle.std.proofs.lemmas.Bool.{eq-eqb}
use Rattle.std.proofs.lemmas.Bool.Decides.{eqb_tells}
use Rattle.model.specs.Capabilities.CapabilityKinds.{unmapped}
use Rattle.model.specs.Capabilities.CapabilityWords.{IsCapability, IsPlace}
use Rattle.model.specs.Capabilities.Slots.{Slots, capability_at, parent_at, recapped}
use Rattle.model.specs.declared.capabilities.Cap.{Cap}
use Rattle.model.specs.declared.capabilities.Cap.TheVariants.{Empty, Untyped, Endpoint, Notification, CNode, Frame, PageTable, Tcb, RootTable, InterruptControl}
use Rattle.model.specs.declared.capabilities.Cap.TheVariants.{InterruptHandler}
use Rattle.model.specs.declared.capabilities.TableMapping.{TableMapping}
use Rattle.model.specs.declared.slot_entries.Entry.{Entry}
use Rattle.model.proofs.SlotChanges.{capability_of, entry-other, entry-same, parent_of}
use Rattle.vspace.specs.Endings.{Ended, Ending, GoesWith, HasEnded, IsMappedIn, extent_of, is_ending}
use Rattle.vspace.specs.Regions.{IsPartlyCleared, goes_along, unmapped_entry}
use Rattle.vspace.specs.Tables.{MapsTable, TablesAgree, table_in}
use Rattle.vspace.specs.declared.extents.Extent.TheVariants as extents
use Rattle.vspace.proofs.EndedTables.{entry-unmapped, mapped-more, stands-mapped, table-entry}
use Rattle.vspace.proofs.Entries.{table_in-some}
use Rattle.vspace.proofs.LostMappings.{IsLess, entry-twice, less-maps, less-table}
use Rattle.vspace.proofs.Sweeps.{along-root, partly-untouched}
use Rattle.vspace.proofs.Unmapping.{table-one}

-- ---- capabilities

ending-unmapped : (offset : ℕ) (c : Cap) → is_ending offset (unmapped c) ≡ false
ending-unmapped offset Empty = refl
ending-unmapped offset (Untyped _ _ _) = refl
ending-unmapped offset (Endpoint _ _ _) = refl
ending-unmapped offset (Notification _ _ _) = refl
ending-unmapped offset (CNode _ _ _) = refl
ending-unmapped offset (Frame _ _ _) = refl
ending-unmapped offset (PageTable _ _) = refl
ending-unmapped offset (Tcb _) = refl
ending-unmapped offset (RootTable _) = refl
ending-unmapped offset InterruptControl = refl
ending-unmapped offset (InterruptHandler _) = refl

goes-ending : (offset t : ℕ) (m : TableMapping) → (m.root ≡ offset) ⊎ (t ≡ offset) → is_ending offset (PageTable t (Some m)) ≡ true
goes-ending offset t m (inl root) = rw (eq-eqb m.root offset root) refl
goes-ending offset t m (inr here) = elim (m.root == offset) as (λ b. (b || t == offset) ≡ true) [
  | true ↦ refl
  | false ↦ eq-eqb t offset here
]

-- ---- slots that have lost mappings

module _ (old now : Slots) (less : IsLess old now) where
  pub less-ending : (offset y : ℕ) → is_ending offset (capability_at old y) ≡ false → is_ending offset (capability_at now y) ≡ false
  less-ending offset y stays = elim (less y) [
    | inl gone ↦ ap (λ (held : Option Entry). is_ending offset (capability_of held)) gone ∙ ap (is_ending offset) (entry-unmapped (old y))
        ∙ ending-unmapped offset (capability_at old y)
    | inr same ↦ ap (λ (held : Option Entry). is_ending offset (capability_of held)) same ∙ stays
  ]

  pub less-ended : (t offset : ℕ) → HasEnded old t offset → HasEnded now t offset
  less-ended t offset ended = λ y m held. ended y m (less-table old now less y t m held)

  pub less-regions : (root number : ℕ) → ((region : ℕ) → region < number → (t : ℕ) → MapsTable old root region t → ⊥) →
      ((t : ℕ) → MapsTable now root number t → ⊥)
      → (region : ℕ) → region < number + 1 → (t : ℕ) → MapsTable now root region t → ⊥
  less-regions root number before here region few t maps = elim (eqb_tells region number) [
    | inl same ↦ here t (subst (λ (n : ℕ). MapsTable now root n t) same.1 maps)
    | inr other ↦ before region (omega (arith, few, other.1)) t (less-maps old now less root region t maps)
  ]

-- ---- mappings that go

pub ending-less : (offset : ℕ) (old now : Slots) → Ending offset old now → IsLess old now
ending-less offset old now ends y = elim (ends y) [ inl lost ↦ inl lost.1 | inr kept ↦ inr kept ]

module _ (offset : ℕ) (old now next : Slots) (before : Ending offset old now) (after : Ending offset now next) where
  -- what goes now went before
  goes-before : (root region : ℕ) → GoesWith now offset root region → GoesWith old offset root region
  goes-before root region goes = elim goes [
    | inl under ↦ inl under
    | inr maps ↦ inr (less-maps old now (ending-less offset old now before) root region offset maps)
  ]

  pub ending-then : Ending offset old next
  ending-then y = elim (after y) [
    | inr same ↦ elim (before y) [
      | inl lost ↦ inl (lost.0, same ∙ lost.1)
      | inr kept ↦ inr (same ∙ kept)
    ]
    | inl gone ↦ elim (before y) [
      | inl lost ↦ inl (lost.0, gone.1 ∙ ap (option_map unmapped_entry) lost.1 ∙ entry-twice (old y))
      | inr kept ↦ inl (
        subst (λ (held : Option Entry). IsMappedIn (GoesWith old offset) (capability_of held)) kept
            (mapped-more (GoesWith now offset) (GoesWith old offset) goes-before (capability_at now y) gone.0),
        gone.1 ∙ ap (option_map unmapped_entry) kept,
      )
    ]
  ]

-- ---- one page table

module _ (old cleared next : Slots) (slot offset t : ℕ) (m : TableMapping) (held : capability_at old slot ≡ PageTable t (Some m))
    (goes : is_ending offset (PageTable t (Some m)) ≡ true) (partly : IsPartlyCleared (goes_along (extent_of m.root offset) m) old cleared)
    (changed : next ≡ recapped cleared slot (PageTable t None)) where
  goes-here : GoesWith old offset m.root m.region
  goes-here = elim (eqb_tells m.root offset) [
    | inl a ↦ inl a.1
    | inr a ↦ elim (eqb_tells t offset) [
      | inl b ↦ inr (record { slot = slot; held = held ∙ ap (λ (n : ℕ). PageTable n (Some m)) b.1 })
      | inr b ↦
          let stays : is_ending offset (PageTable t (Some m)) ≡ false = rw (a.0, b.0) refl in
          absurd (let clash : true ≡ false = sym goes ∙ stays in cc)
    ]
  ]

  -- the frames that go along go with the table at the offset
  frame-goes : (c : Cap) → goes_along (extent_of m.root offset) m c ≡ true → IsMappedIn (GoesWith old offset) c
  frame-goes c along = elim (eqb_tells m.root offset) [
    | inl a ↦ along-root (GoesWith old offset) m c
        (sym (ap (λ (b : Bool). goes_along (if b then extents.Root else extents.Region) m c) a.0) ∙ along) (λ region. inl a.1)
    | inr a ↦ stands-mapped (GoesWith old offset) m c
        (sym (ap (λ (b : Bool). goes_along (if b then extents.Root else extents.Region) m c) a.0) ∙ along) goes-here
  ]

  untouched : cleared slot ≡ old slot
  untouched = partly-untouched (extent_of m.root offset) m old cleared partly slot t (Some m) held

  own-gone : next slot ≡ option_map unmapped_entry (old slot)
  own-gone =
      ap (λ (s : Slots). s slot) changed
      ∙ entry-same cleared slot (Some (record { capability = PageTable t None; parent = parent_at cleared slot }))
      ∙ ap (λ (p : Option ℕ). Some (record { capability = PageTable t None; parent = p })) (ap parent_of untouched)
      ∙ sym (table-entry (old slot) t (Some m) held)

  other-gone : (y : ℕ) → y ≢ slot → next y ≡ cleared y
  other-gone y other =
      ap (λ (s : Slots). s y) changed
      ∙ entry-other cleared slot (Some (record { capability = PageTable t None; parent = parent_at cleared slot })) y other

  pub table-ending : Ending offset old next
  table-ending y = elim (eqb_tells y slot) [
    | inl same ↦ inl (
      subst (λ (n : ℕ). IsMappedIn (GoesWith old offset) (capability_at old n)) (sym same.1)
          (subst (λ (c : Cap). IsMappedIn (GoesWith old offset) c) (sym held) goes-here),
      subst (λ (n : ℕ). next n ≡ option_map unmapped_entry (old n)) (sym same.1) own-gone,
    )
    | inr other ↦ elim (partly y) [
      | inl lost ↦ inl (frame-goes (capability_at old y) lost.0, other-gone y other.1 ∙ lost.1)
      | inr kept ↦ inr (other-gone y other.1 ∙ kept)
    ]
  ]

-- a page table that has lost its mapping does not go
pub table-ended : (slots next : Slots) (slot offset t : ℕ) → next ≡ recapped slots slot (PageTable t None) → is_ending offset (capability_at next slot) ≡ false
table-ended slots next slot offset t changed =
    ap (λ (held : Option Entry). is_ending offset (capability_of held))
    (ap (λ (s : Slots). s slot) changed ∙ entry-same slots slot (Some (record { capability = PageTable t None; parent = parent_at slots slot })))

-- ---- the whole

-- nothing that goes is left if the table itself has no mapping, and none is mapped for any region under it
module _ (old now : Slots) (before after : List ℕ) (offset : ℕ) (agree : TablesAgree old before) (agrees : TablesAgree now after) (ends : Ending offset old now)
    (itself : HasEnded now offset offset) (passed : (region : ℕ) → region < 2 ^ 9 → (t : ℕ) → MapsTable now offset region t → ⊥) where
  -- the page table of a region that goes is not mapped any more
  table-left : (root region t : ℕ) → GoesWith old offset root region → MapsTable now root region t → ⊥
  table-left root region t goes maps = elim goes [
    | inl under ↦
        let fine : IsCapability (PageTable t (Some (record { root = root; region = region }))) =
        subst (λ (c : Cap). IsCapability c) maps.held (agrees.valid maps.slot) in
        passed region fine.1.1 t (subst (λ (n : ℕ). MapsTable now n region t) under maps)
    | inr was ↦
        let first = less-maps old now (ending-less offset old now ends) root region t maps in
        let same : t ≡ offset = table-one old before agree first.slot was.slot t offset _ _ first.held was.held refl refl in
        let stays = itself maps.slot _ (maps.held ∙ ap (λ (n : ℕ). PageTable n (Some (record { root = root; region = region }))) same) in
        let clash : false ≡ true = sym stays ∙ goes-ending offset offset (record { root = root; region = region }) (inr refl) in
        absurd cc
  ]

  none-left : (y : ℕ) (c : Cap) → capability_at now y ≡ c → IsMappedIn (GoesWith old offset) c → ⊥
  none-left y (Frame f r (Some k)) held goes =
      let leaf = agrees.leaves y f r k held in
      table-left k.root (k.page / 2 ^ 10) leaf.0 goes leaf.1
  none-left y (PageTable t (Some k)) held goes = table-left k.root k.region t goes (record { slot = y; held = held })
  none-left y _ held goes = absurd goes

  pub ending-all : (y : ℕ) → Ended old offset y (now y)
  ending-all y = elim (ends y) [
    | inl lost ↦ inl lost
    | inr kept ↦ inr (
      λ goes. none-left y (capability_at now y) refl
          (subst (λ (held : Option Entry). IsMappedIn (GoesWith old offset) (capability_of held)) (sym kept) goes),
      kept,
    )
  ]

-- the page table that is mapped for a region has ended once all that name it were looked at
pub region-gone : (now : Slots) (root region t : ℕ) → HasEnded now t root → MapsTable now root region t → ⊥
region-gone now root region t ended maps =
    let stays = ended maps.slot _ maps.held in
    let clash : false ≡ true = sym stays ∙ goes-ending root t (record { root = root; region = region }) (inl refl) in
    absurd cc

-- the entry of a region names the page table that is mapped for it
pub pointer-found : (slots : Slots) (memory read : List ℕ) (root region t : ℕ) → TablesAgree slots memory → read ≡ memory → MapsTable slots root region t →
    table_in read root region ≡ Some t
pointer-found slots memory read root region t agree same maps =
    let fine : IsCapability (PageTable t (Some (record { root = root; region = region }))) =
    subst (λ (c : Cap). IsCapability c) maps.held (agree.valid maps.slot) in
    let stands = agree.mapped_roots maps.slot t _ maps.held in
    let table = agree.tables maps.slot t _ maps.held in
    ap (λ (m : List ℕ). table_in m root region) same
    ∙ table_in-some memory root region t (omega (arith, stands.within, fine.1.1)) table.aligned (agree.pointers maps.slot t _ maps.held)

-- a page table is on a page
pub table-place : (slots : Slots) (memory : List ℕ) (y t : ℕ) (m : Option TableMapping) → TablesAgree slots memory → capability_at slots y ≡ PageTable t m →
    IsPlace t 12
table-place slots memory y t m agree held =
    let fine : IsCapability (PageTable t m) = subst (λ (c : Cap). IsCapability c) held (agree.valid y) in
    fine.0
