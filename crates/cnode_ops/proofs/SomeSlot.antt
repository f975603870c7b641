-- One of some slots, or none of them.
use Rattle.std.proofs.Common.{ℕ, ◌≡◌, ◌∙◌, ◌+◌, ◌*◌, ◌/◌, ◌-◌, ◌<◌, ◌≤◌, inl, inr, Bool, true, false, get_or, length, sym, ap, arith}
use Rattle.std.specs.List.{range_with_len}
use Rattle.std.proofs.lemmas.Bool.Decides.{eqb_tells}
use Rattle.std.proofs.lemmas.List.Folds.{Any-from_list_any, list_any_at, list_any_none}
use Rattle.std.proofs.lemmas.List.FromFn.{get_or-range_with_len, length-range_with_len}
use Rattle.cnode_ops.specs.Refusals.{some_slot}

pub some-at : (first count slot : ℕ) (test : ℕ → Bool) → first ≤ slot → slot < first + count → test slot ≡ true → some_slot first count test ≡ true
unfolding some_slot
some-at first count slot test low high passes =
    let index : ℕ = slot - first in
    let less : index < count = omega (arith, high, low) in
    let long : index < length (range_with_len first count) = rw (length-range_with_len first count) less in
    let here : get_or (range_with_len first count) index 0 ≡ slot = get_or-range_with_len first count index 0 less ∙ omega (arith, low) in
    list_any_at test (range_with_len first count) index 0 long (ap test here ∙ passes)

pub some-none : (first count : ℕ) (test : ℕ → Bool) → ((index : ℕ) → index < count → test (first + index) ≡ false) → some_slot first count test ≡ false
unfolding some_slot
some-none first count test none = list_any_none test (range_with_len first count) (λ k d less.
    let few : k < count = omega (arith, less, length-range_with_len first count) in
    ap test (get_or-range_with_len first count k d few) ∙ none k few)

pub some-where : (first count : ℕ) (test : ℕ → Bool) → some_slot first count test ≡ true → (slot : ℕ) × (first ≤ slot) × (slot < first + count)
    × (test slot ≡ true)
unfolding some_slot
some-where first count test some =
    let place = Any-from_list_any test (range_with_len first count) some in
    let few : place.0 < count = omega (arith, place.2, length-range_with_len first count) in
    let here : place.1 ≡ first + place.0 = sym place.3 ∙ get_or-range_with_len first count place.0 place.1 few in
    (place.1, omega (arith, here), omega (arith, here, few), place.4)

-- what fails so far, and at the next
pub next-none : (n : ℕ) (test : ℕ → Bool) → ((slot : ℕ) → slot < n → test slot ≡ false) → test n ≡ false → (slot : ℕ) → slot < n + 1 → test slot ≡ false
next-none n test none next slot less = elim (eqb_tells slot n) [
  | inl here ↦ ap test here.1 ∙ next
  | inr other ↦ none slot (omega (arith, less, other.1))
]

-- of all slots of a store, one was found
pub store-some : (count bytes slot : ℕ) (test : ℕ → Bool) → 16 * count ≡ bytes → slot < count → test slot ≡ true
    → true ≡ some_slot 0 (bytes / 16) test
store-some count bytes slot test many less passes =
    sym (some-at 0 (bytes / 16) slot test (omega arith) (omega (arith, many, less)) passes)
