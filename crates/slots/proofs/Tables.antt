-- Tables of records.
use Rattle.std.proofs.Common.{ℕ, ◌≡◌, ◌≢◌, ◌∙◌, false, ◌+◌, ◌*◌, ◌/◌, ◌-◌, ◌^◌, ◌≤◌, inl, inr, Option, Some, None, List, length, replicate, take, drop, ◌++◌}
use Rattle.std.proofs.Common.{refl, sym, ap, subst, arith}
use Rattle.std.proofs.lemmas.Bool.{cases_lt}
use Rattle.std.proofs.lemmas.List.{get_or_past, get_or-replicate, length-replicate, take-append-le, take_all}
use Rattle.std.proofs.lemmas.Nat.{pow-add}
use Rattle.model.specs.Capabilities.Slots.{Slots, IsDerivation, is_full, parent_at}
use Rattle.model.specs.declared.slot_entries.Entry.{Entry}
use Rattle.slots.specs.Table.{IsTable, full_from, table_slots}
use Rattle.model.proofs.SlotChanges.{capability_of, parent_of}
use Rattle.model.proofs.Depths.{depth-none}
use Rattle.model.proofs.Derivations.{derivation-same}
use Rattle.model.specs.Shared.Lists.{without}
use Rattle.slots.proofs.Listing.{order-same, order-without}

-- nothing is open in a table of closed records
closed-at : (n s : ℕ) → table_slots (replicate n None) s ≡ None
closed-at n s = elim (cases_lt s n) [
  | inl inside ↦ get_or-replicate n s None None inside
  | inr outside ↦ get_or_past (replicate n None) s None (omega (arith, length-replicate {A = Option Entry} n None))
]

no_slots : Slots
no_slots s = None

derivation-none : IsDerivation no_slots
unfolding no_slots
derivation-none = record {
  valid = λ s. tt;
  child_full = λ s p is. absurd (let clash : None ≡ Some p = is in cc);
  parent_full = λ s p is. absurd (let clash : None ≡ Some p = is in cc);
  shallow = λ s. omega (arith, depth-none 256 (parent_at no_slots) s refl);
}

derivation-closed_records : (n : ℕ) → IsDerivation (table_slots (replicate n None))
unfolding no_slots
derivation-closed_records n = derivation-same no_slots (table_slots (replicate n None)) derivation-none
    (λ s. (ap capability_of (closed-at n s), ap parent_of (closed-at n s)))

-- sixteen records' bytes are all the memory
whole-sixteenths : (bits more : ℕ) → bits ≡ more + 4 → 16 * (2 ^ bits / 16) ≡ 2 ^ bits
whole-sixteenths bits more is =
    let split : 2 ^ bits ≡ 2 ^ more * 16 = ap (λ n. 2 ^ n) is ∙ pow-add 2 more 4 in
    omega (arith, split)

pub table-new : (memory : List ℕ) (records : List (Option Entry)) (bits count : ℕ) → 4 ≤ bits → length memory ≡ 2 ^ bits → length memory ≤ 2 ^ 24 →
    count ≡ length memory / 16 → records ≡ replicate count None → IsTable memory records
table-new memory records bits count least size most is made =
    let long : length records ≡ count = ap length made ∙ length-replicate {A = Option Entry} count None in
    let whole = whole-sixteenths bits (bits - 4) (omega arith) in
    record {
      long = omega (arith, ap (λ n. 16 * (n / 16)) size, whole, long, is, size);
      few = omega (arith, long, is, most);
      derivation = subst (λ (r : List (Option Entry)). IsDerivation (table_slots r)) (sym made) (derivation-closed_records count);
    }

-- a slice of all of a vector, written back
refilled : (n : ℕ) (old new : List (Option Entry)) → length new ≡ n → take n (new ++ drop (length new) old) ≡ new
refilled n old new size = rw (← size) (take-append-le (length new) new (drop (length new) old) (omega arith) ∙ take_all (length new) new (omega arith))

-- the slots of a table that was changed
pub slots-changed : (n : ℕ) (old new : List (Option Entry)) (change : Slots) → length new ≡ n → ((s : ℕ) → table_slots new s ≡ change s) →
    table_slots (take n (new ++ drop (length new) old)) ≡ change
slots-changed n old new change size same = ap table_slots (refilled n old new size) ∙ (λ i s. same s i)

pub table-changed : (memory : List ℕ) (n : ℕ) (old base new : List (Option Entry)) (change : Slots) → IsTable memory base → length new ≡ length base →
    length new ≡ n → ((s : ℕ) → table_slots new s ≡ change s) → IsDerivation change → IsTable memory (take n (new ++ drop (length new) old))
table-changed memory n old base new change table kept size same sound =
    let made : table_slots new ≡ change = λ i s. same s i in
    let result : IsTable memory new = record {
      long = omega (arith, table.long, kept);
      few = omega (arith, table.few, kept);
      derivation = subst IsDerivation (sym made) sound;
    } in
    subst (IsTable memory) (sym (refilled n old new size)) result

-- and the order of its full slots
pub order-changed : (n : ℕ) (old base new : List (Option Entry)) (change : Slots) → table_slots (take n (new ++ drop (length new) old)) ≡ change →
    length new ≡ length base → length new ≡ n → ((s : ℕ) → is_full change s ≡ is_full (table_slots base) s) →
    full_from (table_slots (take n (new ++ drop (length new) old))) 0 (length (take n (new ++ drop (length new) old))) ≡ full_from (table_slots base) 0
    (length base)
order-changed n old base new change is kept size same =
    order-same base (take n (new ++ drop (length new) old)) change is (ap length (refilled n old new size) ∙ kept) same

pub order-taken_out : (n : ℕ) (old base new : List (Option Entry)) (change : Slots) (gone : ℕ) → table_slots (take n (new ++ drop (length new) old)) ≡ change →
    length new ≡ length base → length new ≡ n → is_full change gone ≡ false → ((s : ℕ) → s ≢ gone → is_full change s ≡ is_full (table_slots base) s) →
    full_from (table_slots (take n (new ++ drop (length new) old))) 0 (length (take n (new ++ drop (length new) old))) ≡ without gone
    (full_from (table_slots base) 0 (length base))
order-taken_out n old base new change gone is kept size empty same =
    order-without base (take n (new ++ drop (length new) old)) change gone is (ap length (refilled n old new size) ∙ kept) empty same
