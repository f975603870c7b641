-- What the entries of the tables say of the mappings that capabilities hold.
use Rattle.std.proofs.Common.{◌≡◌, ◌∙◌, ℕ, ◌+◌, ◌*◌, ◌/◌, ◌%◌, ◌^◌, ◌<◌, ◌⊎◌, inl, inr, Bool, true, false, Some, None, List, refl, ap, subst, arith}
use Rattle.std.proofs.lemmas.Bool.Decides.{eqb_tells}
use Rattle.std.proofs.lemmas.List.Folds.{list_any_at, list_any_none}
use Rattle.std.proofs.lemmas.List.FromFn.{get_or-range_with_len, length-range_with_len}
use Rattle.model.specs.Kernel.AddressSpaces.{maps_page, maps_region}
use Rattle.model.specs.Shared.Bytes.{word_at}
use Rattle.model.specs.Capabilities.CapabilityWords.{IsCapability}
use Rattle.model.specs.Capabilities.Slots.{IsFull, Slots, capability_at}
use Rattle.model.specs.Kernel.State.{State, holds_some, slot_numbers}
use Rattle.model.specs.Kernel.State.{with_slots}
use Rattle.model.specs.Machine.Sv32.{entry_at, leaf_word, table_word}
use Rattle.model.specs.declared.capabilities.Cap.{Cap}
use Rattle.model.specs.declared.capabilities.Cap.TheVariants.{Empty, Untyped, Endpoint, Notification, CNode, Frame, PageTable, Tcb, RootTable, InterruptControl}
use Rattle.model.specs.declared.capabilities.Cap.TheVariants.{InterruptHandler}
use Rattle.model.specs.declared.capabilities.FrameMapping.{FrameMapping}
use Rattle.model.specs.declared.capabilities.TableMapping.{TableMapping}
use Rattle.model.specs.declared.rights.Rights.{Rights}
use Rattle.vspace.specs.Tables.{AreNear, Holds, MapsFrame, MapsTable, TablesAgree, table_in}
use Rattle.vspace.proofs.Entries.{entry_at-valid, entry_at-zero, leaf_word-valid, table_in-none, table_in-some}
use Rattle.vspace.proofs.Unmapping.{table-one}

-- ---- capabilities that map something

page_table_cases : (root region t : ℕ) (m : TableMapping) → (maps_region root region (PageTable t (Some m)) ≡ false) ⊎
    ((table : ℕ) × (PageTable t (Some m) ≡ PageTable table (Some (record { root = root; region = region }))))
page_table_cases root region t m = elim (eqb_tells m.root root) [
  | inl a ↦ elim (eqb_tells m.region region) [
    | inl b ↦ inr (
      t,
      ap (λ (n : ℕ). PageTable t (Some (record { root = n; region = m.region }))) a.1
          ∙ ap (λ (n : ℕ). PageTable t (Some (record { root = root; region = n }))) b.1,
    )
    | inr b ↦ inl (rw (a.0, b.0) refl)
  ]
  | inr a ↦ inl (rw a.0 refl)
]

maps_region-cases : (root region : ℕ) (c : Cap) → (maps_region root region c ≡ false) ⊎
    ((table : ℕ) × (c ≡ PageTable table (Some (record { root = root; region = region }))))
maps_region-cases root region (PageTable t (Some m)) = page_table_cases root region t m
maps_region-cases root region (PageTable t None) = inl refl
maps_region-cases root region Empty = inl refl
maps_region-cases root region (Untyped _ _ _) = inl refl
maps_region-cases root region (Endpoint _ _ _) = inl refl
maps_region-cases root region (Notification _ _ _) = inl refl
maps_region-cases root region (CNode _ _ _) = inl refl
maps_region-cases root region (Frame _ _ _) = inl refl
maps_region-cases root region (Tcb _) = inl refl
maps_region-cases root region (RootTable _) = inl refl
maps_region-cases root region InterruptControl = inl refl
maps_region-cases root region (InterruptHandler _) = inl refl

abbrev pub FrameMapped : ℕ → ℕ → Cap → Type 0
FrameMapped root page c = (f : ℕ) × (r : Rights) × (a : Rights) × (c ≡ Frame f r (Some (record { root = root; page = page; rights = a })))

frame_cases : (root page f : ℕ) (r : Rights) (m : FrameMapping) →
    (maps_page root page (Frame f r (Some m)) ≡ false) ⊎ FrameMapped root page (Frame f r (Some m))
frame_cases root page f r m = elim (eqb_tells m.root root) [
  | inl a ↦ elim (eqb_tells m.page page) [
    | inl b ↦ inr (
      f,
      r,
      m.rights,
      ap (λ (n : ℕ). Frame f r (Some (record { root = n; page = m.page; rights = m.rights }))) a.1
          ∙ ap (λ (n : ℕ). Frame f r (Some (record { root = root; page = n; rights = m.rights }))) b.1,
    )
    | inr b ↦ inl (rw (a.0, b.0) refl)
  ]
  | inr a ↦ inl (rw a.0 refl)
]

pub maps_page-cases : (root page : ℕ) (c : Cap) → (maps_page root page c ≡ false) ⊎ FrameMapped root page c
maps_page-cases root page (Frame f r (Some m)) = frame_cases root page f r m
maps_page-cases root page (Frame f r None) = inl refl
maps_page-cases root page (PageTable _ _) = inl refl
maps_page-cases root page Empty = inl refl
maps_page-cases root page (Untyped _ _ _) = inl refl
maps_page-cases root page (Endpoint _ _ _) = inl refl
maps_page-cases root page (Notification _ _ _) = inl refl
maps_page-cases root page (CNode _ _ _) = inl refl
maps_page-cases root page (Tcb _) = inl refl
maps_page-cases root page (RootTable _) = inl refl
maps_page-cases root page InterruptControl = inl refl
maps_page-cases root page (InterruptHandler _) = inl refl

-- ---- what some slot of a state holds

abbrev tested : Slots → (Cap → Bool) → ℕ → Bool
tested slots test slot = test (capability_at slots slot)

pub holds-none : (s : State) (slots : Slots) (test : Cap → Bool) → ((slot : ℕ) → test (capability_at slots slot) ≡ false) →
    holds_some (with_slots s slots) test ≡ false
unfolding slot_numbers
holds-none s slots test none = list_any_none (tested slots test) _ (λ k d less. none _)

pub holds-one : (s : State) (slots : Slots) (test : Cap → Bool) (slot : ℕ) → AreNear s slots → IsFull slots slot → test (capability_at slots slot) ≡ true →
    holds_some (with_slots s slots) test ≡ true
unfolding slot_numbers
holds-one s slots test slot near full there_is =
    let less : slot < 2 ^ s.memory_bits / 16 = near slot full in
    let at = get_or-range_with_len 0 (2 ^ s.memory_bits / 16) slot 0 less in
    let size = length-range_with_len 0 (2 ^ s.memory_bits / 16) in
    list_any_at (tested slots test) _ slot 0 (omega (arith, size, less)) (ap (tested slots test) (at ∙ omega arith) ∙ there_is)

-- ---- the entry of a region, and the entry of a page

-- a table's pointer is not zero, and a leaf neither
pointer-not_zero : (t word : ℕ) → word ≡ 0 → word ≡ table_word t → ⊥
pointer-not_zero t word zero is = omega (arith, zero, is)

leaf-not_zero : (f rights word : ℕ) → word ≡ 0 → word ≡ leaf_word f rights → ⊥
leaf-not_zero f rights word zero is = omega (arith, zero, is)

pub region-answer : (slots : Slots) (memory : List ℕ) (root region : ℕ) → TablesAgree slots memory → Holds slots (RootTable root) → region < 2 ^ 10 →
    ((table_in memory root region ≡ None) × ((y : ℕ) → maps_region root region (capability_at slots y) ≡ false)) ⊎
    ((table : ℕ) × (table_in memory root region ≡ Some table) × MapsTable slots root region table)
region-answer slots memory root region agree rooted few = elim (agree.only_pointers rooted.0 root region rooted.1 few) [
  | inl zero ↦ inl (
    table_in-none memory root region zero,
    λ y. elim (maps_region-cases root region (capability_at slots y)) [
      | inl none ↦ none
      | inr there_is ↦ absurd (pointer-not_zero there_is.0 _ zero (agree.pointers y there_is.0 _ there_is.1))
    ],
  )
  | inr maps ↦
      let stands = agree.roots rooted.0 root rooted.1 in
      let table = agree.tables maps.1.slot maps.0 _ maps.1.held in
      inr (
        maps.0,
        table_in-some memory root region maps.0 (omega (arith, stands.within, few)) table.aligned (agree.pointers maps.1.slot maps.0 _ maps.1.held),
        maps.1,
      )
]

-- the leaf of a page that is mapped
pub page-leaf : (slots : Slots) (memory : List ℕ) (root page table : ℕ) → TablesAgree slots memory → MapsTable slots root (page / 2 ^ 10) table →
    (y f : ℕ) (r a : Rights) → capability_at slots y ≡ Frame f r (Some (record { root = root; page = page; rights = a })) →
    word_at memory (table + 4 * (page % 2 ^ 10)) ≡ leaf_word f a.0
page-leaf slots memory root page table agree maps y f r a held =
    let leaf = agree.leaves y f r _ held in
    let one = table-one slots memory agree maps.slot leaf.1.slot table leaf.0 _ _ maps.held leaf.1.held refl refl in
    ap (λ (t : ℕ). word_at memory (t + 4 * (page % 2 ^ 10))) one ∙ leaf.2

pub page-answer : (slots : Slots) (memory : List ℕ) (root page table : ℕ) → TablesAgree slots memory → MapsTable slots root (page / 2 ^ 10) table →
    ((entry_at memory table (page % 2 ^ 10) ≡ None) × ((y : ℕ) → maps_page root page (capability_at slots y) ≡ false)) ⊎
    ((entry : ℕ) × (entry_at memory table (page % 2 ^ 10) ≡ Some entry) × MapsFrame slots root page)
page-answer slots memory root page table agree maps =
    let few : page % 2 ^ 10 < 2 ^ 10 = omega arith in
    let stands = agree.tables maps.slot table _ maps.held in
    elim (agree.only_leaves maps.slot table _ (page % 2 ^ 10) maps.held few) [
      | inl zero ↦ inl (
        entry_at-zero memory table (page % 2 ^ 10) zero,
        λ y. elim (maps_page-cases root page (capability_at slots y)) [
          | inl none ↦ none
          | inr there_is ↦ absurd (leaf-not_zero there_is.0 there_is.2.0 _ zero
              (page-leaf slots memory root page table agree maps y there_is.0 there_is.1 there_is.2 there_is.3))
        ],
      )
      | inr there ↦
          let whole : 2 ^ 10 * (page / 2 ^ 10) + page % 2 ^ 10 ≡ page = omega arith in
          let frame : MapsFrame slots root page = subst (λ (p : ℕ). MapsFrame slots root p) whole there in
          let fine : IsCapability (Frame frame.frame frame.frame_rights (Some (record { root = root; page = page; rights = frame.allowed }))) =
          subst (λ (c : Cap). IsCapability c) frame.held (agree.valid frame.slot) in
          inr (
            leaf_word frame.frame frame.allowed.0,
            entry_at-valid memory table (page % 2 ^ 10) _ (omega (arith, stands.within, few))
                (page-leaf slots memory root page table agree maps frame.slot frame.frame frame.frame_rights frame.allowed frame.held)
                (leaf_word-valid frame.frame frame.allowed.0 fine.2.2),
            frame,
          )
    ]
