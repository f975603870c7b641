-- What is found in lists of noted slots.
use Rattle.std.proofs.Common.{◌≡◌, ◌∙◌, Bool, true, false, nat_lt, if◌then◌else◌, Option, Some, None, List, [], ◌∷◌, refl, ap, arith}
use Rattle.std.proofs.lemmas.Bool.Decides.{nat_tests}
use Rattle.model.specs.Acceptance.NotedStates.{NotedSlot, SlotKey, is_same_key, number_of, put_in, slot_at, with_noted, without_key}
use Rattle.model.specs.Capabilities.Slots.{is_empty}
use Rattle.typestate.specs.Differences.{left_by}

-- ---- a slot in a list

pub without-at : (slots : List NotedSlot) (gone key : SlotKey) →
    slot_at (without_key gone slots) key ≡ (if is_same_key gone key then None else slot_at slots key)
without-at [] gone key = grind (arith, nat_tests)
without-at (s ∷ rest) gone key = grind (arith, nat_tests, without-at rest gone key)

joined : (same other : Bool) (slot o : NotedSlot) (rest behind : Option NotedSlot) → (same ≡ true → (if other then Some o else rest) ≡ None)
    → ((same ≡ true → rest ≡ None) → behind ≡ (if same then Some slot else rest))
    → (if other then Some o else behind) ≡ (if same then Some slot else (if other then Some o else rest))
joined true true slot o rest behind none is = absurd (let clash : Some o ≡ None = none refl in cc)
joined true false slot o rest behind none is = is none
joined false other slot o rest behind none is = ap (λ found. if other then Some o else found) (is (λ same. absurd (let clash : false ≡ true = same in cc)))

put-at : (slot : NotedSlot) (others : List NotedSlot) (key : SlotKey) → (is_same_key slot.key key ≡ true → slot_at others key ≡ None)
    → slot_at (put_in slot others) key ≡ (if is_same_key slot.key key then Some slot else slot_at others key)
unfolding put_in
put-at slot [] key none = refl
put-at slot (o ∷ rest) key none =
    elim (nat_lt (number_of slot.key) (number_of o.key))
    as (λ d. slot_at (if d then slot ∷ o ∷ rest else o ∷ put_in slot rest) key ≡ (if is_same_key slot.key key then Some slot else slot_at (o ∷ rest) key)) [
      | true ↦ refl
      | false ↦ joined (is_same_key slot.key key) (is_same_key o.key key) slot o (slot_at rest key) (slot_at (put_in slot rest) key) none (put-at slot rest key)
    ]

-- what a change leaves: in its slot what it says, and in the others what was there
pub noted-at : (slots : List NotedSlot) (change : NotedSlot) (key : SlotKey)
    → slot_at (with_noted slots change) key ≡ (if is_same_key change.key key then left_by change else slot_at slots key)
noted-at slots change key =
    let others = without_key change.key slots in
    let without : slot_at others key ≡ (if is_same_key change.key key then None else slot_at slots key) = without-at slots change.key key in
    elim (is_empty change.capability) as (λ b. slot_at (if b then others else put_in change others) key
    ≡ (if is_same_key change.key key then (if b then None else Some change) else slot_at slots key)) [
      | true ↦ without
      | false ↦
          let gone : is_same_key change.key key ≡ true → slot_at others key ≡ None = λ same. without ∙ ap (λ b. if b then None else slot_at slots key) same in
          put-at change others key gone
          ∙ (elim (is_same_key change.key key) as (λ b. slot_at others key ≡ (if b then None else slot_at slots key) →
          (if b then Some change else slot_at others key) ≡ (if b then Some change else slot_at slots key)) [
            | true ↦ λ _. refl
            | false ↦ λ same. same
          ] without)
    ]
