-- The definition of the call that maps a page table, by what its checks answer, and what its write leaves.
use Rattle.std.proofs.Common.{◌≡◌, ◌≢◌, ◌∙◌, ℕ, ◌+◌, ◌*◌, ◌/◌, ◌%◌, ◌^◌, ◌<◌, ◌==◌, inl, inr, Bool, true, false, not, Option, Some, None, Result, Ok, Err, List}
use Rattle.std.proofs.Common.{refl, sym, ap, subst, arith}
use Rattle.std.specs.Prelude.{nat_lt}
use Rattle.std.specs.Option.{is_some}
use Rattle.model.specs.Kernel.AddressSpaces.{address_limit, is_region_taken, maps_region, page_size, region_pages}
use Rattle.model.specs.Kernel.Arguments.{◌>>=◌, check}
use Rattle.model.specs.Capabilities.CapabilityWords.{IsCapability, IsTableMapping}
use Rattle.model.specs.Kernel.MappingCalls.{map_table, root_named}
use Rattle.model.specs.Kernel.State.{with_slots}
use Rattle.model.specs.Capabilities.Slots.{Slots, capability_at, recapped}
use Rattle.model.specs.Kernel.State.{State}
use Rattle.model.specs.Machine.Sv32.{table_word}
use Rattle.model.specs.declared.capabilities.Cap.{Cap}
use Rattle.model.specs.declared.capabilities.Cap.TheVariants.{Empty, PageTable, RootTable}
use Rattle.model.specs.declared.capabilities.TableMapping.{TableMapping}
use Rattle.model.specs.declared.errors.KError.{KError}
use Rattle.model.specs.declared.invocations.SlotName.{SlotName}
use Rattle.model.specs.declared.errors.KError.TheVariants.{AlignmentError, DeleteFirst, InvalidArgument}
use Rattle.model.proofs.SlotChanges.{capability_of}
use Rattle.vspace.specs.Kept.{SameBesideTables}
use Rattle.vspace.specs.TableAnswers.{FreePointer, GivesTableMapped, RegionAnswer, TableMappingAnswer, region_named, table_call}
use Rattle.vspace.specs.Tables.{Holds, TablesAgree, table_in}
use Rattle.vspace.proofs.Outcomes.{region-taken}
use Rattle.vspace.proofs.TableSteps.{TableStep, agree-table_mapped}
use Rattle.vspace.proofs.Taken.{holds-none, region-answer}
use Rattle.vspace.proofs.Writes.{Written, same-outside, word-beside}
use Rattle.vspace.proofs.Names.{names-root}

-- ---- the entry of the region

pub pointer-free : (slots : Slots) (memory read : List ℕ) (root region : ℕ) → TablesAgree slots memory → Holds slots (RootTable root) → region < 2 ^ 9 →
    read ≡ memory → is_some (table_in read root region) ≡ false → FreePointer slots root region (root + 4 * region)
pointer-free slots memory read root region agree rooted near same is =
    let found : is_some (table_in memory root region) ≡ false = sym (ap (λ (m : List ℕ). is_some (table_in m root region)) same) ∙ is in
    elim (region-answer slots memory root region agree rooted (omega (arith, near))) [
      | inl free ↦ record { rooted = rooted; here = refl; free = free.1 }
      | inr there ↦ absurd (let e = ap is_some there.1 in cc)
    ]

pub pointer-taken : (slots : Slots) (memory read : List ℕ) (root region : ℕ) → TablesAgree slots memory → Holds slots (RootTable root) → region < 2 ^ 9 →
    read ≡ memory → is_some (table_in read root region) ≡ true → RegionAnswer slots root region (Err DeleteFirst)
pointer-taken slots memory read root region agree rooted near same is =
    let found : is_some (table_in memory root region) ≡ true = sym (ap (λ (m : List ℕ). is_some (table_in m root region)) same) ∙ is in
    elim (region-answer slots memory root region agree rooted (omega (arith, near))) [
      | inl free ↦ absurd (let e = ap is_some free.0 in cc)
      | inr there ↦ (refl, (there.0, there.2))
    ]

-- ---- the call

abbrev checks : Bool → Bool → Bool → Result State KError → Result State KError
checks low aligned free last = do
  _ ← check low InvalidArgument
  _ ← check aligned AlignmentError
  _ ← check free DeleteFirst
  last

abbrev mapping_of : ℕ → ℕ → TableMapping
mapping_of root region = record { root = root; region = region }

abbrev behind_root : State → Slots → ℕ → ℕ → ℕ → ℕ → Result State KError
behind_root s slots x t address root =
    checks (nat_lt address address_limit) (address % (page_size * region_pages) == 0)
    (not (is_region_taken (with_slots s slots) root (address / (page_size * region_pages))))
    (Ok (with_slots s (recapped slots x (PageTable t (Some (mapping_of root (address / (page_size * region_pages))))))))

defined : (s : State) (slots : Slots) (cspace : Cap) (caller : Option ℕ) (x t : ℕ) (n : SlotName) (address : ℕ) →
    map_table (with_slots s slots) (table_call cspace caller x t None) n address ≡ (root_named slots cspace n >>= behind_root s slots x t address)
defined s slots cspace caller x t n address = refl

with_root : (s : State) (slots : Slots) (cspace : Cap) (caller : Option ℕ) (x t : ℕ) (n : SlotName) (address root : ℕ) → root_named slots cspace n ≡ Ok root →
    map_table (with_slots s slots) (table_call cspace caller x t None) n address ≡ behind_root s slots x t address root
with_root s slots cspace caller x t n address root is =
    defined s slots cspace caller x t n address ∙ ap (λ found. found >>= behind_root s slots x t address) is

checks-low : (low aligned : Bool) (region found : ℕ) →
    (let answer : Result ℕ KError = check low InvalidArgument >>= λ _. check aligned AlignmentError >>= λ _. Ok region in answer ≡ Ok found) → (low ≡ true)
    × (aligned ≡ true) × (region ≡ found)
checks-low false aligned region found is = absurd cc
checks-low true false region found is = absurd cc
checks-low true true region found is = (refl, refl, cc)

low_region : (address region : ℕ) → region_named address ≡ Ok region → (nat_lt address address_limit ≡ true)
    × ((address % (page_size * region_pages) == 0) ≡ true) × (address / (page_size * region_pages) ≡ region)
low_region address region is = checks-low (nat_lt address address_limit) (address % (page_size * region_pages) == 0) (address / (page_size * region_pages))
    region is

checks-taken : (low aligned free : Bool) (last : Result State KError) → low ≡ true → aligned ≡ true → free ≡ false →
    checks low aligned free last ≡ Err DeleteFirst
checks-taken low aligned free last a b c = rw (a, b, c) refl

checks-all : (low aligned free : Bool) (last : Result State KError) → low ≡ true → aligned ≡ true → free ≡ true → checks low aligned free last ≡ last
checks-all low aligned free last a b c = rw (a, b, c) refl

pub gives-taken : (slots : Slots) (cspace : Cap) (x t : ℕ) (o : Option TableMapping) (n : SlotName) (address root region : ℕ) (e : KError)
    → is_some o ≡ false → root_named slots cspace n ≡ Ok root → region_named address ≡ Ok region → RegionAnswer slots root region (Err e)
    → let refused : Result (Unit {0}) KError = Err e in GivesTableMapped slots cspace x t o n address slots refused
gives-taken slots cspace x t (Some m) n address root region e absent is named answer = absurd cc
gives-taken slots cspace x t None n address root region e absent is named answer = λ s caller near.
    let low = low_region address region named in
    let last : Result State KError = Ok (with_slots s (recapped slots x (PageTable t (Some (mapping_of root (address / (page_size * region_pages))))))) in
    let held : not (is_region_taken (with_slots s slots) root (address / (page_size * region_pages))) ≡ false =
    ap (λ (p : ℕ). not (is_region_taken (with_slots s slots) root p)) low.2 ∙ ap not (region-taken s slots root region answer.1.0 near answer.1.1) in
    with_root s slots cspace caller x t n address root is
    ∙ checks-taken _ _ _ last low.0 low.1 held ∙ ap (λ (k : KError). Err k) (sym answer.0)

pub gives-table : (slots : Slots) (memory : List ℕ) (cspace : Cap) (x t : ℕ) (o : Option TableMapping) (n : SlotName) (address root region place : ℕ) →
    TablesAgree slots memory → is_some o ≡ false → root_named slots cspace n ≡ Ok root → region_named address ≡ Ok region → region < 2 ^ 9 →
    FreePointer slots root region place → TableMappingAnswer slots cspace x t o n address (Ok (place, record { root = root; region = region }))
gives-table slots memory cspace x t (Some m) n address root region place agree absent is named near entry = absurd cc
gives-table slots memory cspace x t None n address root region place agree absent is named near entry =
    let fine : IsCapability (RootTable root) = subst (λ (c : Cap). IsCapability c) entry.rooted.1 (agree.valid entry.rooted.0) in
    let low = low_region address region named in (
      refl,
      entry,
      (fine, near),
      λ s caller close.
          let last : Result State KError = Ok (with_slots s (recapped slots x (PageTable t (Some (mapping_of root (address / (page_size * region_pages))))))) in
          let free : not (is_region_taken (with_slots s slots) root (address / (page_size * region_pages))) ≡ true =
          ap (λ (p : ℕ). not (is_region_taken (with_slots s slots) root p)) low.2 ∙ ap not (holds-none s slots (maps_region root region) entry.free) in
          with_root s slots cspace caller x t n address root is
          ∙ checks-all _ _ _ last low.0 low.1 free
          ∙ ap (λ (p : ℕ). Ok (with_slots s (recapped slots x (PageTable t (Some (mapping_of root p)))))) low.2,
    )

-- ---- the write

table-open : (slots : Slots) (x t : ℕ) (o : Option TableMapping) → capability_at slots x ≡ PageTable t o → slots x ≢ None
table-open slots x t o held = λ none. let e : PageTable t o ≡ Empty = sym held ∙ ap capability_of none in absurd (cc e)

pub table-done : (slots0 slots1 slots2 : Slots) (memory0 memory1 memory2 : List ℕ) (x t place word : ℕ) (o : Option TableMapping) (m : TableMapping) →
    TablesAgree slots0 memory0 → o ≡ None → capability_at slots0 x ≡ PageTable t o → IsTableMapping (Some m) → FreePointer slots0 m.root m.region place →
    word ≡ table_word t → Written slots0 slots1 slots2 memory0 memory1 memory2 x place word (PageTable t (Some m)) → TablesAgree slots2 memory2
table-done slots0 slots1 slots2 memory0 memory1 memory2 x t place word o m agree absent held fine entry is done =
    let was : capability_at slots0 x ≡ PageTable t None = held ∙ ap (λ (k : Option TableMapping). PageTable t k) absent in
    let old : IsCapability (PageTable t None) = subst (λ (c : Cap). IsCapability c) was (agree.valid x) in
    let step : TableStep slots0 memory0 memory2 x t m = record {
      agree = agree;
      was = was;
      is_open = table-open slots0 x t o held;
      fine = (old.0, fine);
      rooted = entry.rooted;
      free = entry.free;
      same = same-outside slots0 slots1 slots2 memory0 memory1 memory2 x place word _ (m.root + 4 * m.region) (table_word t) done entry.here is;
    } in
    let new : slots2 ≡ recapped slots0 x (PageTable t (Some m)) = done.changed ∙ ap (λ (s : Slots). recapped s x (PageTable t (Some m))) done.kept in
    subst (λ (s : Slots). TablesAgree s memory2) (sym new) (agree-table_mapped slots0 memory0 memory2 x t m step)

pub pointer-beside : (slots0 slots1 slots2 : Slots) (memory0 memory1 memory2 : List ℕ) (x place word : ℕ) (c : Cap) (m : TableMapping) →
    TablesAgree slots0 memory0 → IsTableMapping (Some m) → FreePointer slots0 m.root m.region place →
    Written slots0 slots1 slots2 memory0 memory1 memory2 x place word c → SameBesideTables slots0 memory0 memory2
pointer-beside slots0 slots1 slots2 memory0 memory1 memory2 x place word c m agree fine entry done =
    let stands = agree.roots entry.rooted.0 m.root entry.rooted.1 in
    let region = fine.1 in
    word-beside slots0 slots1 slots2 memory0 memory1 memory2 x place word c m.root m.region done (names-root slots0 entry.rooted.0 m.root entry.rooted.1) stands
    (omega (arith, region)) entry.here
