-- One round of a removal's loops.
use Rattle.std.proofs.Common.{ℕ, suc, ◌≡◌, ◌≢◌, ◌∙◌, ◌==◌, ◌/◌, ◌^◌, ◌<◌, ◌&&◌, ◌||◌, inl, inr, Bool, true, false, not, nat_le, Option, Some, None, is_some}
use Rattle.std.proofs.Common.{option_map, get_or, refl, sym, ap, subst, arith}
use Rattle.std.specs.List.{list_any, range_with_len}
use Rattle.std.proofs.Math.Bool.{and-false, and-true}
use Rattle.std.proofs.lemmas.Bool.{eq-eqb, le-leb, ne_eqb}
use Rattle.std.proofs.lemmas.Bool.Decides.{eqb_tells, leb_tells}
use Rattle.std.proofs.lemmas.List.Folds.{Any-from_list_any, list_any_at, list_any_none}
use Rattle.std.proofs.lemmas.List.FromFn.{get_or-range_with_len, length-range_with_len}
use Rattle.model.specs.declared.slot_entries.Entry.{Entry}
use Rattle.model.specs.Capabilities.CapabilityKinds.{is_handler_of}
use Rattle.model.specs.Capabilities.Slots.{IsDerivation, IsFull, IsOpen, is_empty, is_full}
use Rattle.model.specs.Kernel.Removal.{SlotSet, emptied, kept_entry, takes_last, with_bindings}
use Rattle.model.specs.Kernel.State.{State, binding_slot}
use Rattle.model.proofs.SlotChanges.{capability_of}
use Rattle.removal_laws.specs.Steps.{alone, bindings_from, joined, less}
use Rattle.removal_laws.proofs.Found.{both, join, or-cases}
use Rattle.removal_laws.proofs.Keeping.{there-in, there-out}
use Rattle.removal_laws.proofs.Loop.{emptied-none}
use Rattle.removal_laws.proofs.OneByOne.{one-by-one}
use Rattle.removal_laws.proofs.SameFull.{emptied-same}

-- what is emptied stays open, and is not full
pub open-kept : (s : State) (set : SlotSet) (y : ℕ) → IsOpen s.slots y → IsOpen (emptied s set).slots y
open-kept s set y opens = elim (set y) as (λ b. set y ≡ b → IsOpen (emptied s set).slots y) [
  | true ↦ λ member. ap is_some (there-in s set y member)
  | false ↦ λ out. ap is_some (there-out s set y out) ∙ elim (s.slots y) as (λ o. is_some o ≡ true → is_some (option_map (kept_entry s set y) o) ≡ true)
      [ None ↦ λ h. h | Some e ↦ λ h. refl ] opens
] refl

pub full-apart : (s : State) (x y : ℕ) → IsFull (emptied s (alone x)).slots y → y ≢ x
full-apart s x y full same =
    let gone : is_full (emptied s (alone x)).slots y ≡ false = ap (λ (n : ℕ). is_full (emptied s (alone x)).slots n) same
    ∙ ap (λ (o : Option Entry). not (is_empty (capability_of o))) (there-in s (alone x) x (eq-eqb x x refl)) in
    let clash : false ≡ true = sym gone ∙ full in
    cc

less-other : (set : SlotSet) (x y : ℕ) → y ≢ x → less set x y ≡ set y
less-other set x y other = ap (λ b. set y && not b) (ne_eqb y x other) ∙ and-true (set y)

less-member : (set : SlotSet) (x y : ℕ) → less set x y ≡ true → set y ≡ true
less-member set x y is = (both (set y) _ is).0

-- a slot of a set is emptied, and what is left of the set is the same on full slots
pub round : (s : State) (x : ℕ) (set left more : SlotSet) → IsDerivation s.slots → IsDerivation (emptied s (alone x)).slots →
    ((y : ℕ) → IsFull s.slots y → y < 2 ^ s.memory_bits / 16) → IsFull s.slots x → set x ≡ true
    → ((y : ℕ) → IsFull (emptied s (alone x)).slots y → left y ≡ set y) → ((y : ℕ) → joined set more y ≡ true → IsOpen s.slots y) →
    ((y : ℕ) → joined left more y ≡ true → IsOpen s.slots y)
    → emptied s (joined set more) ≡ emptied (emptied s (alone x)) (joined left more)
round s x set left more tree tree_now near full member same opens opens_left =
    one-by-one s (joined set more) x tree near (ap (λ b. b || more x) member) full
    ∙ emptied-same (emptied s (alone x)) tree_now (less (joined set more) x) (joined left more)
    (λ y filled. less-other (joined set more) x y (full-apart s x y filled) ∙ ap (λ b. b || more y) (sym (same y filled)))
    (λ y is. open-kept s (alone x) y (opens y (less-member (joined set more) x y is)))
    (λ y is. open-kept s (alone x) y (opens_left y is))

-- ---- bindings, line by line

line-apart : (s : State) (taken : ℕ → Bool) (l y k : ℕ) → (y == binding_slot s l && taken l) ≡ false
    → (nat_le l k && (y == binding_slot s k && taken k)) ≡ (nat_le (suc l) k && (y == binding_slot s k && taken k))
line-apart s taken l y k none = elim (eqb_tells k l) [
  | inl here ↦
      let fails : (y == binding_slot s k && taken k) ≡ false = ap (λ (n : ℕ). y == binding_slot s n && taken n) here.1 ∙ none in
      ap (λ b. nat_le l k && b) fails ∙ and-false (nat_le l k) ∙ sym (ap (λ b. nat_le (suc l) k && b) fails ∙ and-false (nat_le (suc l) k))
  | inr other ↦
      ap (λ b. b && (y == binding_slot s k && taken k)) (elim (leb_tells l k) [
        | inl low ↦ low.0 ∙ sym (le-leb (suc l) k (omega (arith, low.1, other.1)))
        | inr high ↦ high.0 ∙ sym (elim (leb_tells (suc l) k) [ inl low ↦ absurd (omega (arith, high.1, low.1)) | inr more ↦ more.0 ])
      ])
]

pub next-line : (s : State) (taken : ℕ → Bool) (l y : ℕ) → (y == binding_slot s l && taken l) ≡ false →
    bindings_from s taken l y ≡ bindings_from s taken (suc l) y
next-line s taken l y none = λ i. list_any (λ k. line-apart s taken l y k none i) (range_with_len 0 64)

line-member : (s : State) (taken : ℕ → Bool) (l : ℕ) → l < 64 → taken l ≡ true → bindings_from s taken l (binding_slot s l) ≡ true
line-member s taken l few is =
    let test : ℕ → Bool = λ k. nat_le l k && (binding_slot s l == binding_slot s k && taken k) in
    let here : get_or (range_with_len 0 64) l 0 ≡ l = get_or-range_with_len 0 64 l 0 few ∙ omega arith in
    let passes : test l ≡ true = join (nat_le l l) _ (le-leb l l (omega arith))
    (join (binding_slot s l == binding_slot s l) _ (eq-eqb (binding_slot s l) _ refl) is) in
    list_any_at test (range_with_len 0 64) l 0 (rw (length-range_with_len 0 64) few) (ap test here ∙ passes)

pub no-lines : (s : State) (taken : ℕ → Bool) (y : ℕ) → bindings_from s taken 64 y ≡ false
no-lines s taken y = list_any_none (λ k. nat_le 64 k && (y == binding_slot s k && taken k)) (range_with_len 0 64) (λ i d less.
    let few : i < 64 = omega (arith, less, length-range_with_len 0 64) in
    let here : get_or (range_with_len 0 64) i d ≡ i = get_or-range_with_len 0 64 i d few ∙ omega arith in
    let early : nat_le 64 i ≡ false = elim (leb_tells 64 i) [ inl low ↦ absurd (omega (arith, low.1, few)) | inr high ↦ high.0 ] in
    ap (λ (k : ℕ). nat_le 64 k && (y == binding_slot s k && taken k)) here ∙ ap (λ b. b && (y == binding_slot s i && taken i)) early)

-- a binding of some lines is that of a line
pub line-of : (s : State) (taken : ℕ → Bool) (first y : ℕ) → bindings_from s taken first y ≡ true → (l : ℕ) × (l < 64) × (y ≡ binding_slot s l)
line-of s taken first y is =
    let some = Any-from_list_any (λ k. nat_le first k && (y == binding_slot s k && taken k)) (range_with_len 0 64) is in
    let few : some.0 < 64 = omega (arith, some.2, length-range_with_len 0 64) in
    let line : some.1 ≡ some.0 = sym some.3 ∙ get_or-range_with_len 0 64 some.0 some.1 few ∙ omega arith in
    let parts = both (nat_le first some.1) _ some.4 in
    let there = both (y == binding_slot s some.1) _ parts.1 in
    elim (eqb_tells y (binding_slot s some.1)) [
      | inl at ↦ (some.0, few, at.1 ∙ ap (binding_slot s) line)
      | inr away ↦ absurd (let clash : false ≡ true = sym away.0 ∙ there.0 in cc)
    ]

pub line-open : (s : State) (taken : ℕ → Bool) (first y : ℕ) → ((l : ℕ) → l < 64 → IsOpen s.slots (binding_slot s l)) → bindings_from s taken first y ≡ true →
    IsOpen s.slots y
line-open s taken first y opens is =
    let line = line-of s taken first y is in
    subst (λ (n : ℕ). IsOpen s.slots n) (sym line.2) (opens line.0 line.1)

-- the binding of a line is taken along
pub line-taken : (s : State) (taken : ℕ → Bool) (l : ℕ) → l < 64 → IsDerivation s.slots → IsDerivation (emptied s (alone (binding_slot s l))).slots →
    ((y : ℕ) → IsFull s.slots y → y < 2 ^ s.memory_bits / 16)
    → ((k : ℕ) → k < 64 → IsOpen s.slots (binding_slot s k)) → taken l ≡ true → IsFull s.slots (binding_slot s l)
    → emptied s (bindings_from s taken l) ≡ emptied (emptied s (alone (binding_slot s l))) (bindings_from s taken (suc l))
line-taken s taken l few tree tree_now near opens is full =
    let b : ℕ = binding_slot s l in
    one-by-one s (bindings_from s taken l) b tree near (line-member s taken l few is) full
    ∙ emptied-same (emptied s (alone b)) tree_now (less (bindings_from s taken l) b) (bindings_from s taken (suc l))
    (λ y filled.
    let other = full-apart s b y filled in
    less-other (bindings_from s taken l) b y other ∙ next-line s taken l y (ap (λ e. e && taken l) (ne_eqb y b other)))
    (λ y member. open-kept s (alone b) y (line-open s taken l y opens (less-member (bindings_from s taken l) b y member)))
    (λ y member. open-kept s (alone b) y (line-open s taken (suc l) y opens member))

-- or there is nothing to take
pub line-left : (s : State) (taken : ℕ → Bool) (l : ℕ) → IsDerivation s.slots → ((k : ℕ) → k < 64 → IsOpen s.slots (binding_slot s k)) →
    (taken l ≡ true → is_full s.slots (binding_slot s l) ≡ false)
    → emptied s (bindings_from s taken l) ≡ emptied s (bindings_from s taken (suc l))
line-left s taken l tree opens none =
    emptied-same s tree (bindings_from s taken l) (bindings_from s taken (suc l))
    (λ y filled. next-line s taken l y (elim (eqb_tells y (binding_slot s l)) [
      | inl at ↦ elim (taken l) as (λ b. taken l ≡ b → (y == binding_slot s l && b) ≡ false) [
        | true ↦ λ is. absurd (let clash : false ≡ true = sym (none is) ∙ ap (is_full s.slots) (sym at.1) ∙ filled in cc)
        | false ↦ λ is. and-false (y == binding_slot s l)
      ] refl
      | inr away ↦ ap (λ e. e && taken l) away.0
    ]))
    (λ y member. line-open s taken l y opens member)
    (λ y member. line-open s taken (suc l) y opens member)

-- no lines are left
pub lines-done : (s : State) (taken : ℕ → Bool) → IsDerivation s.slots → emptied s (bindings_from s taken 64) ≡ s
lines-done s taken tree = emptied-none s (bindings_from s taken 64) tree (λ y filled. no-lines s taken y)
    (λ y member. absurd (let clash : false ≡ true = sym (no-lines s taken y) ∙ member in cc))

-- once the set itself is gone, its bindings are left
pub set-done : (s : State) (set : SlotSet) (taken : ℕ → Bool) → IsDerivation s.slots → ((y : ℕ) → IsFull s.slots y → set y ≡ false) →
    ((y : ℕ) → set y ≡ true → IsOpen s.slots y) → ((k : ℕ) → k < 64 → IsOpen s.slots (binding_slot s k))
    → emptied s (joined set (bindings_from s taken 0)) ≡ emptied s (bindings_from s taken 0)
set-done s set taken tree none opens lines_open =
    emptied-same s tree (joined set (bindings_from s taken 0)) (bindings_from s taken 0)
    (λ y filled. ap (λ b. b || bindings_from s taken 0 y) (none y filled))
    (λ y member. elim (or-cases (set y) (bindings_from s taken 0 y) member) [ inl is ↦ opens y is | inr is ↦ line-open s taken 0 y lines_open is ])
    (λ y member. line-open s taken 0 y lines_open member)

-- and the set with its bindings is both
pub both-sets : (s : State) (set : SlotSet) (y : ℕ) → with_bindings s set y ≡ joined set (bindings_from s (λ line. takes_last s set (is_handler_of line)) 0) y
both-sets s set y = refl
