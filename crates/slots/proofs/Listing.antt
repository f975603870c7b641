-- The full slots of a table, in rising order.
use Rattle.std.proofs.Common.{inl, inr, ℕ, zero, suc, ◌≡◌, ◌≢◌, ◌∙◌, ◌+◌, ◌-◌, ◌<◌, ◌≤◌, true, false, if◌then◌else◌, Option, None, List, ◌∷◌, cond, length, not}
use Rattle.std.proofs.Common.{refl, sym, ap, arith}
use Rattle.std.proofs.lemmas.Bool.{ne_eqb}
use Rattle.std.proofs.lemmas.Bool.Decides.{eqb_tells}
use Rattle.std.proofs.lemmas.Bool.{cases_lt}
use Rattle.std.proofs.lemmas.List.{get_or_past}
use Rattle.std.specs.Option.{option_map_or}
use Rattle.model.specs.Capabilities.Slots.{Slots, is_empty, is_full}
use Rattle.model.specs.declared.capabilities.Cap.TheVariants.{Empty}
use Rattle.model.specs.declared.slot_entries.Entry.{Entry}
use Rattle.model.specs.Capabilities.Orders.{IsOrderOf, first_of, next_after}
use Rattle.model.specs.Shared.Lists.{times_in, without}
use Rattle.slots.specs.Table.{full_from, table_slots}

-- a slot that is not full is not listed, and one that is full comes first
pub full_from-skip : (slots : Slots) (first n m : ℕ) → n ≡ suc m → is_full slots first ≡ false → full_from slots first n ≡ full_from slots (first + 1) m
full_from-skip slots first n m size none = rw (size, none) refl

pub full_from-take : (slots : Slots) (first n m : ℕ) → n ≡ suc m → is_full slots first ≡ true → full_from slots first n ≡ first ∷ full_from slots (first + 1) m
full_from-take slots first n m size full = rw (size, full) refl

-- after a slot in the list come the full ones that follow it
pub next_after-full_from : (n : ℕ) (slots : Slots) (first at end : ℕ) → end ≡ first + n → first ≤ at → at < end → is_full slots at ≡ true →
    next_after (full_from slots first n) at ≡ first_of (full_from slots (at + 1) (end - (at + 1)))
next_after-full_from zero slots first at end whole low high full = absurd (omega arith)
next_after-full_from (suc n) slots first at end whole low high full =
    let rest = full_from slots (first + 1) n in
    elim (eqb_tells first at) [
      | inl here ↦
          let size : n ≡ end - (at + 1) = omega arith in
          let start : first + 1 ≡ at + 1 = omega arith in
          ap (λ l. next_after l at) (full_from-take slots first (suc n) n refl (ap (is_full slots) here.1 ∙ full))
          ∙ ap (λ b. if b then first_of rest else next_after rest at) here.0
          ∙ ap (λ s. first_of (full_from slots s n)) start ∙ ap (λ m. first_of (full_from slots (at + 1) m)) size
      | inr other ↦
          let next = next_after-full_from n slots (first + 1) at end (omega arith) (omega (arith, other.1)) high full in
          elim (is_full slots first) as (λ b. is_full slots first ≡ b →
          next_after (full_from slots first (suc n)) at ≡ first_of (full_from slots (at + 1) (end - (at + 1)))) [
            | true ↦ λ is. ap (λ l. next_after l at) (full_from-take slots first (suc n) n refl is)
                ∙ ap (λ b. if b then first_of rest else next_after rest at) other.0 ∙ next
            | false ↦ λ is. ap (λ l. next_after l at) (full_from-skip slots first (suc n) n refl is) ∙ next
          ] refl
    ]

-- a full slot is in the table
pub full-inside : (records : List (Option Entry)) (slot : ℕ) → is_full (table_slots records) slot ≡ true → slot < length records
full-inside records slot full = elim (cases_lt slot (length records)) [
  | inl inside ↦ inside
  | inr outside ↦ absurd (let clash : false ≡ true = ap (λ held. not (is_empty (option_map_or (λ h. h.capability) held Empty)))
      (sym (get_or_past records slot None outside)) ∙ full in cc)
]

-- a slot before the first is not listed
times-before : (n : ℕ) (slots : Slots) (first at : ℕ) → at < first → times_in (full_from slots first n) at ≡ 0
times-before zero slots first at low = refl
times-before (suc n) slots first at low =
    let rest = full_from slots (first + 1) n in
    let none = times-before n slots (first + 1) at (omega arith) in
    elim (is_full slots first) as (λ b. is_full slots first ≡ b → times_in (full_from slots first (suc n)) at ≡ 0) [
      | true ↦ λ is. ap (λ l. times_in l at) (full_from-take slots first (suc n) n refl is)
          ∙ ap (λ b. if b then times_in rest at + 1 else times_in rest at) (ne_eqb first at (λ same. absurd (omega arith))) ∙ none
      | false ↦ λ is. ap (λ l. times_in l at) (full_from-skip slots first (suc n) n refl is) ∙ none
    ] refl

-- a slot from the first on and before the end is listed once if it is full
times-within : (n : ℕ) (slots : Slots) (first at : ℕ) → first ≤ at → at < first + n →
    times_in (full_from slots first n) at ≡ (if is_full slots at then 1 else 0)
times-within zero slots first at low high = absurd (omega arith)
times-within (suc n) slots first at low high =
    let rest = full_from slots (first + 1) n in
    elim (eqb_tells first at) [
      | inl here ↦
          let none = times-before n slots (first + 1) at (omega arith) in
          elim (is_full slots first) as (λ b. is_full slots first ≡ b → times_in (full_from slots first (suc n)) at ≡ (if is_full slots at then 1 else 0)) [
            | true ↦ λ is.
                ap (λ l. times_in l at) (full_from-take slots first (suc n) n refl is)
                ∙ ap (λ b. if b then times_in rest at + 1 else times_in rest at) here.0 ∙ ap (λ t. t + 1) none
                ∙ ap (λ b. if b then 1 else 0) (sym (sym (ap (is_full slots) here.1) ∙ is))
            | false ↦ λ is.
                ap (λ l. times_in l at) (full_from-skip slots first (suc n) n refl is) ∙ none
                ∙ ap (λ b. if b then 1 else 0) (sym (sym (ap (is_full slots) here.1) ∙ is))
          ] refl
      | inr other ↦
          let more = times-within n slots (first + 1) at (omega (arith, other.1)) (omega arith) in
          elim (is_full slots first) as (λ b. is_full slots first ≡ b → times_in (full_from slots first (suc n)) at ≡ (if is_full slots at then 1 else 0)) [
            | true ↦ λ is.
                ap (λ l. times_in l at) (full_from-take slots first (suc n) n refl is)
                ∙ ap (λ b. if b then times_in rest at + 1 else times_in rest at) other.0 ∙ more
            | false ↦ λ is. ap (λ l. times_in l at) (full_from-skip slots first (suc n) n refl is) ∙ more
          ] refl
    ]

-- nor is one after the last
times-behind : (n : ℕ) (slots : Slots) (first at : ℕ) → first + n ≤ at → times_in (full_from slots first n) at ≡ 0
times-behind zero slots first at high = refl
times-behind (suc n) slots first at high =
    let rest = full_from slots (first + 1) n in
    let none = times-behind n slots (first + 1) at (omega arith) in
    elim (is_full slots first) as (λ b. is_full slots first ≡ b → times_in (full_from slots first (suc n)) at ≡ 0) [
      | true ↦ λ is. ap (λ l. times_in l at) (full_from-take slots first (suc n) n refl is)
          ∙ ap (λ b. if b then times_in rest at + 1 else times_in rest at) (ne_eqb first at (λ same. absurd (omega arith))) ∙ none
      | false ↦ λ is. ap (λ l. times_in l at) (full_from-skip slots first (suc n) n refl is) ∙ none
    ] refl

-- the list of a table's full slots is the order of its slots
pub order-table : (records : List (Option Entry)) → IsOrderOf (full_from (table_slots records) 0 (length records)) (table_slots records)
order-table records = λ at. elim (cases_lt at (length records)) [
  | inl inside ↦ times-within (length records) (table_slots records) 0 at (omega arith) (omega arith)
  | inr outside ↦
      let open_ : is_full (table_slots records) at ≡ false =
      ap (λ held. not (is_empty (option_map_or (λ h. h.capability) held Empty))) (get_or_past records at None outside) in
      times-behind (length records) (table_slots records) 0 at (omega arith) ∙ ap (λ b. if b then 1 else 0) (sym open_)
]

-- tables of one length that are full at the same slots list the same
pub full_from-same : (n : ℕ) (old new : Slots) (first : ℕ) → ((s : ℕ) → is_full new s ≡ is_full old s) → full_from new first n ≡ full_from old first n
full_from-same zero old new first same = refl
full_from-same (suc n) old new first same =
    let more = full_from-same n old new (first + 1) same in
    elim (is_full old first) as (λ b. is_full old first ≡ b → full_from new first (suc n) ≡ full_from old first (suc n)) [
      | true ↦ λ is. full_from-take new first (suc n) n refl (same first ∙ is) ∙ ap (λ l. first ∷ l) more ∙ sym (full_from-take old first (suc n) n refl is)
      | false ↦ λ is. full_from-skip new first (suc n) n refl (same first ∙ is) ∙ more ∙ sym (full_from-skip old first (suc n) n refl is)
    ] refl

-- and where one slot is no longer full, it is taken out
pub full_from-without : (n : ℕ) (old new : Slots) (first gone : ℕ) → is_full new gone ≡ false → ((s : ℕ) → s ≢ gone → is_full new s ≡ is_full old s) →
    full_from new first n ≡ without gone (full_from old first n)
full_from-without zero old new first gone empty same = refl
full_from-without (suc n) old new first gone empty same =
    let more = full_from-without n old new (first + 1) gone empty same in
    let rest = full_from old (first + 1) n in
    elim (eqb_tells first gone) [
      | inl here ↦
          let skipped = full_from-skip new first (suc n) n refl (ap (is_full new) here.1 ∙ empty) ∙ more in
          elim (is_full old first) as (λ b. is_full old first ≡ b → full_from new first (suc n) ≡ without gone (full_from old first (suc n))) [
            | true ↦ λ is. skipped ∙ sym (ap (λ b. cond (not b) (first ∷ without gone rest) (without gone rest)) here.0)
                ∙ sym (ap (without gone) (full_from-take old first (suc n) n refl is))
            | false ↦ λ is. skipped ∙ sym (ap (without gone) (full_from-skip old first (suc n) n refl is))
          ] refl
      | inr other ↦
          elim (is_full old first) as (λ b. is_full old first ≡ b → full_from new first (suc n) ≡ without gone (full_from old first (suc n))) [
            | true ↦ λ is.
                full_from-take new first (suc n) n refl (same first other.1 ∙ is) ∙ ap (λ l. first ∷ l) more
                ∙ sym (ap (λ b. cond (not b) (first ∷ without gone rest) (without gone rest)) other.0)
                ∙ sym (ap (without gone) (full_from-take old first (suc n) n refl is))
            | false ↦ λ is. full_from-skip new first (suc n) n refl (same first other.1 ∙ is) ∙ more
                ∙ sym (ap (without gone) (full_from-skip old first (suc n) n refl is))
          ] refl
    ]

-- the order of a table that is changed: what of it is full stays as it was, or is taken out
pub order-same : (old new : List (Option Entry)) (change : Slots) → table_slots new ≡ change → length new ≡ length old →
    ((s : ℕ) → is_full change s ≡ is_full (table_slots old) s) → full_from (table_slots new) 0 (length new) ≡ full_from (table_slots old) 0 (length old)
order-same old new change is size same =
    ap (λ n. full_from (table_slots new) 0 n) size
    ∙ full_from-same (length old) (table_slots old) (table_slots new) 0 (λ s. ap (λ slots. is_full slots s) is ∙ same s)

pub order-without : (old new : List (Option Entry)) (change : Slots) (gone : ℕ) → table_slots new ≡ change → length new ≡ length old →
    is_full change gone ≡ false → ((s : ℕ) → s ≢ gone → is_full change s ≡ is_full (table_slots old) s) →
    full_from (table_slots new) 0 (length new) ≡ without gone (full_from (table_slots old) 0 (length old))
order-without old new change gone is size empty same =
    ap (λ n. full_from (table_slots new) 0 n) size
    ∙ full_from-without (length old) (table_slots old) (table_slots new) 0 gone (ap (λ slots. is_full slots gone) is ∙ empty)
    (λ s other. ap (λ slots. is_full slots s) is ∙ same s other)
