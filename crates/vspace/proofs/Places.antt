-- The place of a page's entry, by what was read.
use Rattle.std.proofs.Common.{◌≡◌, ◌∙◌, ℕ, ◌+◌, ◌*◌, ◌/◌, ◌%◌, ◌^◌, ◌<◌, ◌≤◌, inl, inr, true, false, Option, Some, None, Err, List, length, refl, sym, ap}
use Rattle.std.proofs.Common.{subst, arith}
use Rattle.std.specs.Option.{is_some}
use Rattle.model.specs.Capabilities.Slots.{Slots, capability_at}
use Rattle.model.specs.Machine.Sv32.{entry_at}
use Rattle.model.specs.Capabilities.CapabilityWords.{IsCapability}
use Rattle.model.specs.declared.capabilities.Cap.{Cap}
use Rattle.model.specs.declared.capabilities.Cap.TheVariants.{Frame, RootTable}
use Rattle.model.specs.declared.capabilities.FrameMapping.{FrameMapping}
use Rattle.model.specs.declared.rights.Rights.{Rights}
use Rattle.vspace.proofs.Entries.{table_in-some}
use Rattle.model.specs.declared.errors.KError.TheVariants.{DeleteFirst, FailedLookup}
use Rattle.vspace.specs.Answers.{FreeEntry, PageAnswer}
use Rattle.vspace.specs.Tables.{Holds, IsTable, MapsTable, TablesAgree, table_in}
use Rattle.vspace.proofs.Taken.{page-answer, region-answer}

region_small : (page : ℕ) → page < 2 ^ 19 → page / 2 ^ 10 < 2 ^ 10
region_small page near = omega (arith, near)

pub none-there : (slots : Slots) (memory read : List ℕ) (root page : ℕ) → TablesAgree slots memory → Holds slots (RootTable root) → page < 2 ^ 19 →
    read ≡ memory → table_in read root (page / 2 ^ 10) ≡ None → PageAnswer slots root page (Err FailedLookup)
none-there slots memory read root page agree rooted near same is =
    let found : table_in memory root (page / 2 ^ 10) ≡ None = sym (ap (λ (m : List ℕ). table_in m root (page / 2 ^ 10)) same) ∙ is in
    elim (region-answer slots memory root (page / 2 ^ 10) agree rooted (region_small page near)) [
      | inl free ↦ inl (refl, free.1)
      | inr there ↦ absurd (let e = there.1 in cc)
    ]

pub table-there : (slots : Slots) (memory read : List ℕ) (root page table : ℕ) → TablesAgree slots memory → Holds slots (RootTable root) → page < 2 ^ 19 →
    read ≡ memory → table_in read root (page / 2 ^ 10) ≡ Some table → MapsTable slots root (page / 2 ^ 10) table
table-there slots memory read root page table agree rooted near same is =
    let found : table_in memory root (page / 2 ^ 10) ≡ Some table = sym (ap (λ (m : List ℕ). table_in m root (page / 2 ^ 10)) same) ∙ is in
    elim (region-answer slots memory root (page / 2 ^ 10) agree rooted (region_small page near)) [
      | inl free ↦ absurd (let e = free.0 in cc)
      | inr there ↦
          let e = there.1 in
          let one : there.0 ≡ table = cc in
          subst (λ (t : ℕ). MapsTable slots root (page / 2 ^ 10) t) one there.2
    ]

pub table-stands : (slots : Slots) (memory : List ℕ) (root region table : ℕ) → TablesAgree slots memory → MapsTable slots root region table →
    IsTable slots memory table
table-stands slots memory root region table agree maps = agree.tables maps.slot table _ maps.held

-- a table's entry lies in memory
pub entry-near : (slots : Slots) (memory read : List ℕ) (table i : ℕ) → IsTable slots memory table → read ≡ memory → length read ≤ 2 ^ 24 → i < 2 ^ 10 →
    table + 4 * i + 4 ≤ 2 ^ 24
entry-near slots memory read table i stands same size few = omega (arith, stands.within, ap (λ (m : List ℕ). length m) same, size, few)

pub page-taken : (slots : Slots) (memory read : List ℕ) (root page table : ℕ) → TablesAgree slots memory → MapsTable slots root (page / 2 ^ 10) table →
    read ≡ memory → is_some (entry_at read table (page % 2 ^ 10)) ≡ true → PageAnswer slots root page (Err DeleteFirst)
page-taken slots memory read root page table agree maps same is =
    let found : is_some (entry_at memory table (page % 2 ^ 10)) ≡ true = sym (ap (λ (m : List ℕ). is_some (entry_at m table (page % 2 ^ 10))) same) ∙ is in
    elim (page-answer slots memory root page table agree maps) [
      | inl free ↦ absurd (let e = ap is_some free.0 in cc)
      | inr there ↦ inr (refl, there.2, (table, maps))
    ]

pub page-free : (slots : Slots) (memory read : List ℕ) (root page table : ℕ) → TablesAgree slots memory → MapsTable slots root (page / 2 ^ 10) table →
    read ≡ memory → is_some (entry_at read table (page % 2 ^ 10)) ≡ false → FreeEntry slots root page (table + 4 * (page % 2 ^ 10))
page-free slots memory read root page table agree maps same is =
    let found : is_some (entry_at memory table (page % 2 ^ 10)) ≡ false = sym (ap (λ (m : List ℕ). is_some (entry_at m table (page % 2 ^ 10))) same) ∙ is in
    elim (page-answer slots memory root page table agree maps) [
      | inl free ↦ record { table = table; maps = maps; here = refl; free = free.1 }
      | inr there ↦ absurd (let e = ap is_some there.1 in cc)
    ]

-- the page table of a frame that is mapped
pub leaf-table : (slots : Slots) (memory read : List ℕ) (x f : ℕ) (r : Rights) (m : FrameMapping) → TablesAgree slots memory →
    capability_at slots x ≡ Frame f r (Some m) → read ≡ memory → (table : ℕ) × MapsTable slots m.root (m.page / 2 ^ 10) table
    × (table_in read m.root (m.page / 2 ^ 10) ≡ Some table)
leaf-table slots memory read x f r m agree held same =
    let fine : IsCapability (Frame f r (Some m)) = subst (λ (c : Cap). IsCapability c) held (agree.valid x) in
    let leaf = agree.leaves x f r m held in
    let maps = leaf.1 in
    let root = agree.mapped_roots maps.slot leaf.0 _ maps.held in
    let table = agree.tables maps.slot leaf.0 _ maps.held in (
      leaf.0,
      maps,
      ap (λ (k : List ℕ). table_in k m.root (m.page / 2 ^ 10)) same
          ∙ table_in-some memory m.root (m.page / 2 ^ 10) leaf.0 (omega (arith, root.within, fine.2.1)) table.aligned
          (agree.pointers maps.slot leaf.0 _ maps.held),
    )

pub leaf-none : (slots : Slots) (memory read : List ℕ) (x f : ℕ) (r : Rights) (o : Option FrameMapping) (m : FrameMapping) → TablesAgree slots memory →
    capability_at slots x ≡ Frame f r o → o ≡ Some m → read ≡ memory → table_in read m.root (m.page / 2 ^ 10) ≡ None → ⊥
leaf-none slots memory read x f r o m agree held is same none =
    let there = leaf-table slots memory read x f r m agree (held ∙ ap (λ (k : Option FrameMapping). Frame f r k) is) same in
    let e = there.2 in
    absurd cc

-- the place that was read is the leaf's
pub leaf-here : (slots : Slots) (memory read : List ℕ) (x f : ℕ) (r : Rights) (o : Option FrameMapping) (m : FrameMapping) (table : ℕ) →
    TablesAgree slots memory → capability_at slots x ≡ Frame f r o → o ≡ Some m → read ≡ memory → table_in read m.root (m.page / 2 ^ 10) ≡ Some table →
    MapsTable slots m.root (m.page / 2 ^ 10) table
leaf-here slots memory read x f r o m table agree held is same found =
    let there = leaf-table slots memory read x f r m agree (held ∙ ap (λ (k : Option FrameMapping). Frame f r k) is) same in
    let e = there.2 in
    let one : there.0 ≡ table = cc in
    subst (λ (t : ℕ). MapsTable slots m.root (m.page / 2 ^ 10) t) one there.1
