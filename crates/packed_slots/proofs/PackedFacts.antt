-- What follows from words and rows that say the same.
use Rattle.std.proofs.Common.{ℕ, ◌≡◌, ◌≢◌, ◌∙◌, ◌+◌, ◌*◌, ◌^◌, ◌<◌, ◌≤◌, inl, inr, Bool, true, false, not, if◌then◌else◌, Option, Some, None, List, [], ◌∷◌}
use Rattle.std.proofs.Common.{length, refl, sym, ap, subst, arith}
use Rattle.std.proofs.lemmas.Bool.Decides.{eqb_tells, nat_tests}
use Rattle.std.proofs.lemmas.Bool.{cases_lt}
use Rattle.std.proofs.lemmas.List.{get_or_past}
use Rattle.model.proofs.Depths.{adopted_parent}
use Rattle.model.proofs.SlotChanges.{capability_of, parent_of}
use Rattle.model.specs.Capabilities.CapabilityWords.{words_of}
use Rattle.model.specs.Capabilities.CapabilityFields.{fields_of, fields_of_kind}
use Rattle.model.specs.Capabilities.Orders.{IsOrderOf, first_of}
use Rattle.model.specs.Capabilities.Slots.{IsDerivation, Slots, adopted, is_empty, is_full, is_within, parent_at}
use Rattle.model.specs.declared.capabilities.Cap.{Cap}
use Rattle.model.specs.declared.capabilities.Cap.TheVariants.{Empty}
use Rattle.model.specs.declared.slot_entries.Entry.{Entry}
use Rattle.slots.proofs.Laws.{few-rows, linked-rows, next-in, none-without, previous-in}
use Rattle.slots.specs.preorder.Chains.{IsLinked, rows_linked}
use Rattle.slots.specs.preorder.Preorder.{Row, parents_of, rows_of, slots_of}
use Rattle.slots.specs.Kin.{object_at}
use Rattle.slots.specs.preorder.Runs.{AreRuns}
use Rattle.packed_slots.specs.Packing.{IsPacked, IsPackedAs, Packed, is_open_in, packed_rows, packed_slots, slots_as}
use Rattle.packed_slots.specs.Words.{Words, capability_in, words_in}

-- ---- one slot

abbrev pub entry_as : Words → List Row → ℕ → Entry
entry_as w rows s = record { capability = capability_in w s; parent = parents_of rows s }

pub as-open : (w : Words) (o : List Bool) (rows : List Row) (s : ℕ) → is_open_in o s ≡ true → slots_as w o rows s ≡ Some (entry_as w rows s)
as-open w o rows s is = ap (λ b. if b then Some (entry_as w rows s) else None) is

pub as-closed : (w : Words) (o : List Bool) (rows : List Row) (s : ℕ) → is_open_in o s ≡ false → slots_as w o rows s ≡ None
as-closed w o rows s is = ap (λ b. if b then Some (entry_as w rows s) else None) is

pub open-from : (w : Words) (o : List Bool) (rows : List Row) (s : ℕ) (held : Entry) → slots_as w o rows s ≡ Some held → is_open_in o s ≡ true
open-from w o rows s held is =
    elim (is_open_in o s) as (λ b. (if b then Some (entry_as w rows s) else None) ≡ Some held → b ≡ true) [
      | true ↦ λ some. refl
      | false ↦ λ none. absurd (let clash : None ≡ Some held = none in cc)
    ] is

pub closed-from : (w : Words) (o : List Bool) (rows : List Row) (s : ℕ) → slots_as w o rows s ≡ None → is_open_in o s ≡ false
closed-from w o rows s is =
    elim (is_open_in o s) as (λ b. (if b then Some (entry_as w rows s) else None) ≡ None → b ≡ false) [
      | true ↦ λ some. absurd (let clash : Some (entry_as w rows s) ≡ None = some in cc)
      | false ↦ λ none. refl
    ] is

pub full-as : (w : Words) (o : List Bool) (rows : List Row) (s : ℕ) → is_open_in o s ≡ true → is_full (slots_as w o rows) s ≡ not (is_empty (capability_in w s))
full-as w o rows s is = ap (λ e. not (is_empty (capability_of e))) (as-open w o rows s is)

pub open-full : (w : Words) (o : List Bool) (rows : List Row) (s : ℕ) → is_full (slots_as w o rows) s ≡ true → is_open_in o s ≡ true
open-full w o rows s full =
    elim (is_open_in o s) as (λ b. not (is_empty (capability_of (if b then Some (entry_as w rows s) else None))) ≡ true → b ≡ true) [
      | true ↦ λ is. refl
      | false ↦ λ is. absurd (let clash : false ≡ true = is in cc)
    ] full

pub open-near : (o : List Bool) (s : ℕ) → is_open_in o s ≡ true → s < length o
open-near o s is = elim (cases_lt s (length o)) [
  | inl inside ↦ inside
  | inr past ↦ absurd (let clash : false ≡ true = sym (get_or_past o s false past) ∙ is in cc)
]

-- ---- rows and slots

pub full-row : (w : Words) (o : List Bool) (first : Option ℕ) (rows : List Row) (s : ℕ) → IsPackedAs w o first rows → is_full (slots_as w o rows) s ≡ true →
    rows_of rows s ≡ 1
full-row w o first rows s packed full = packed.listed s ∙ ap (λ b. if b then 1 else 0) full

pub no-row : (w : Words) (o : List Bool) (first : Option ℕ) (rows : List Row) (s : ℕ) → IsPackedAs w o first rows → is_full (slots_as w o rows) s ≡ false →
    rows_of rows s ≡ 0
no-row w o first rows s packed empty = packed.listed s ∙ ap (λ b. if b then 1 else 0) empty

pub row-full : (w : Words) (o : List Bool) (first : Option ℕ) (rows : List Row) (s : ℕ) → IsPackedAs w o first rows → 0 < rows_of rows s →
    is_full (slots_as w o rows) s ≡ true
row-full w o first rows s packed there =
    elim (is_full (slots_as w o rows) s) as (λ b. is_full (slots_as w o rows) s ≡ b → b ≡ true) [
      | true ↦ λ is. refl
      | false ↦ λ is. absurd (omega (arith, there, no-row w o first rows s packed is))
    ] refl

pub row-open : (w : Words) (o : List Bool) (first : Option ℕ) (rows : List Row) (s : ℕ) → IsPackedAs w o first rows → 0 < rows_of rows s → is_open_in o s ≡ true
row-open w o first rows s packed there = open-full w o rows s (row-full w o first rows s packed there)

pub closed-row : (w : Words) (o : List Bool) (first : Option ℕ) (rows : List Row) (s : ℕ) → IsPackedAs w o first rows → is_open_in o s ≡ false →
    rows_of rows s ≡ 0
closed-row w o first rows s packed closed = no-row w o first rows s packed (ap (λ e. not (is_empty (capability_of e))) (as-closed w o rows s closed))

-- parents are those of the rows
pub parent-as : (w : Words) (o : List Bool) (first : Option ℕ) (rows : List Row) (s : ℕ) → IsPackedAs w o first rows →
    parent_at (slots_as w o rows) s ≡ parents_of rows s
parent-as w o first rows s packed =
    elim (is_open_in o s) as (λ b. is_open_in o s ≡ b → parent_at (slots_as w o rows) s ≡ parents_of rows s) [
      | true ↦ λ is. ap parent_of (as-open w o rows s is)
      | false ↦ λ is. ap parent_of (as-closed w o rows s is) ∙ sym (none-without rows (λ i. None) s (closed-row w o first rows s packed is))
    ] refl

-- the neighbours of a row
pub next-open : (w : Words) (o : List Bool) (first : Option ℕ) (rows : List Row) (s n : ℕ) → IsPackedAs w o first rows → 0 < rows_of rows s →
    w.next s ≡ Some n → is_open_in o n ≡ true
next-open w o first rows s n packed there is = elim (next-in (slots_of rows) w.next w.previous None s packed.linked.chain there) [
  | inl end ↦ absurd (let clash : None ≡ Some n = sym end ∙ is in cc)
  | inr some ↦ (let same : some.slot ≡ n = (let e : Some some.slot ≡ Some n = sym some.is ∙ is in cc) in
      ap (is_open_in o) (sym same) ∙ row-open w o first rows some.slot packed some.there)
]

pub previous-open : (w : Words) (o : List Bool) (first : Option ℕ) (rows : List Row) (s n : ℕ) → IsPackedAs w o first rows → 0 < rows_of rows s →
    w.previous s ≡ Some n → is_open_in o n ≡ true
previous-open w o first rows s n packed there is = elim (previous-in (slots_of rows) w.next w.previous None s packed.linked.chain there) [
  | inl end ↦ absurd (let clash : None ≡ Some n = sym end ∙ is in cc)
  | inr some ↦ (let same : some.slot ≡ n = (let e : Some some.slot ≡ Some n = sym some.is ∙ is in cc) in
      ap (is_open_in o) (sym same) ∙ row-open w o first rows some.slot packed some.there)
]

pub first-open : (w : Words) (o : List Bool) (first : Option ℕ) (rows : List Row) (n : ℕ) → IsPackedAs w o first rows → first ≡ Some n → is_open_in o n ≡ true
first-open w o first [] n packed is = absurd (let clash : None ≡ Some n = sym packed.begins ∙ is in cc)
first-open w o first (r ∷ rest) n packed is =
    let same : r.slot ≡ n = (let e : Some r.slot ≡ Some n = sym packed.begins ∙ is in cc) in
    row-open w o first (r ∷ rest) n packed (omega (arith, rows-here r rest n same))
  where
    rows-here : (r : Row) (rest : List Row) (s : ℕ) → r.slot ≡ s → rows_of (r ∷ rest) s ≡ rows_of rest s + 1
    rows-here r rest s here = grind (arith, nat_tests)

-- ---- what a change leaves

-- words and rows that represent slots of which all this is known
pub packs : (w : Words) (o : List Bool) (first : Option ℕ) (rows : List Row) (slots : Slots) → slots_as w o rows ≡ slots →
    IsLinked w.next w.previous w.depth rows
    → first ≡ first_of (slots_of rows) → IsOrderOf (slots_of rows) slots
    → ((s : ℕ) → is_open_in o s ≡ true → w.head s ∷ w.tail s ∷ [] ≡ words_of (capability_in w s))
    → ((s : ℕ) → is_open_in o s ≡ true → is_full slots s ≡ false → w.depth s ≡ 0) → IsDerivation slots → AreRuns (object_at slots) (slots_of rows) →
    IsPackedAs w o first rows
packs w o first rows slots is linked begins lists whole blank sound runs = record {
  linked = linked;
  begins = begins;
  listed = λ s. lists s ∙ ap (λ (f : Slots). if is_full f s then 1 else 0) (sym is);
  whole = whole;
  blank = λ s there empty. blank s there (ap (λ (f : Slots). is_full f s) (sym is) ∙ empty);
  derivation = subst IsDerivation (sym is) sound;
  runs = subst (λ (f : Slots). AreRuns (object_at f) (slots_of rows)) (sym is) runs;
}

-- the rows of a memory are those that it packs
pub rows-found : (p : Packed) (rows : List Row) → IsPackedAs (words_in p.memory) p.open_slots p.first rows → packed_rows p ≡ rows
rows-found p rows packed =
    let w = words_in p.memory in
    ap (rows_linked w.next w.depth (length p.open_slots)) packed.begins
    ∙ linked-rows rows w.next w.previous w.depth None (length p.open_slots) packed.linked.chain packed.linked.deep
    (few-rows rows (length p.open_slots) packed.linked.once (λ s there. open-near p.open_slots s (row-open w p.open_slots p.first rows s packed there)))

pub few-packed : (p : Packed) → IsPacked p → length (packed_rows p) ≤ length p.open_slots
few-packed p is =
    few-rows (packed_rows p) (length p.open_slots) is.packed.linked.once
    (λ s there. open-near p.open_slots s (row-open (words_in p.memory) p.open_slots p.first (packed_rows p) s is.packed there))

pub packed-from : (p : Packed) (rows : List Row) → 16 * length p.open_slots ≡ length p.memory → length p.open_slots ≤ 2 ^ 20
    → IsPackedAs (words_in p.memory) p.open_slots p.first rows → IsPacked p
packed-from p rows long few packed = record {
  long = long;
  few = few;
  packed = subst (IsPackedAs (words_in p.memory) p.open_slots p.first) (sym (rows-found p rows packed)) packed;
}

pub slots-from : (p : Packed) (rows : List Row) (slots : Slots) → IsPackedAs (words_in p.memory) p.open_slots p.first rows
    → slots_as (words_in p.memory) p.open_slots rows ≡ slots → packed_slots p ≡ slots
slots-from p rows slots packed is = ap (slots_as (words_in p.memory) p.open_slots) (rows-found p rows packed) ∙ is

-- ---- single slots

pub adopted-as : (gone : ℕ) (parent : Option ℕ) (capability : Cap) (was : Option ℕ)
    → adopted gone parent (record { capability = capability; parent = was }) ≡ record { capability = capability; parent = adopted_parent gone parent was }
adopted-as gone parent capability None = refl
adopted-as gone parent capability (Some p) = elim (eqb_tells p gone) [
  | inl here ↦ ap (λ b. if b then record { capability = capability; parent = parent } else record { capability = capability; parent = Some p }) here.0
      ∙ ap (λ (o : Option ℕ). record { capability = capability; parent = o }) (sym (ap (λ b. if b then parent else Some p) here.0))
  | inr other ↦ ap (λ b. if b then record { capability = capability; parent = parent } else record { capability = capability; parent = Some p }) other.0
      ∙ ap (λ (o : Option ℕ). record { capability = capability; parent = o }) (sym (ap (λ b. if b then parent else Some p) other.0))
]

-- zeros are the words of no capability
pub zero-empty : fields_of 0 0 ≡ Empty
unfolding fields_of_kind
zero-empty = refl

pub zero-whole : (head tail : ℕ) → head ≡ 0 → tail ≡ 0 → head ∷ tail ∷ [] ≡ words_of (fields_of head tail)
unfolding fields_of_kind
zero-whole head tail h t = ap (λ x. x ∷ tail ∷ []) h ∙ ap (λ x. 0 ∷ x ∷ []) t
    ∙ sym (ap (λ x. words_of (fields_of x tail)) h ∙ ap (λ x. words_of (fields_of 0 x)) t)

pub within-here : (s x : ℕ) → x ≡ s → is_within s 1 x ≡ true
within-here s x here = grind (arith, nat_tests)

pub within-off : (s x : ℕ) → x ≢ s → is_within s 1 x ≡ false
within-off s x off = grind (arith, nat_tests)
