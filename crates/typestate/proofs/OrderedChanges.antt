-- Changes whose keys rise: a look-up among them and then among the slots is a look-up in the changed slots.
use Rattle.std.proofs.Common.{ℕ, ◌≡◌, ◌∙◌, ◌+◌, inl, inr, Bool, true, false, if◌then◌else◌, Option, Some, None, List, [], ◌∷◌, refl, sym, ap, arith}
use Rattle.std.proofs.lemmas.Bool.Decides.{eqb_tells}
use Rattle.model.specs.Acceptance.NotedStates.{NotedSlot, SlotKey, is_same_key, number_of, slot_at, with_noted}
use Rattle.typestate.specs.Differences.{changed, left_by}
use Rattle.typestate.specs.Orders.{Rise}
use Rattle.typestate.proofs.Rising.{RiseFrom, changes-rise, from-first, looks-equal, none-below}
use Rattle.typestate.proofs.SlotLists.{noted-at}

-- what a change leaves, where there is one, and else what was held
abbrev pub found_or : Option NotedSlot → Option NotedSlot → Option NotedSlot
found_or None held = held
found_or (Some change) held = left_by change

pub changed-at : (changes slots : List NotedSlot) (least : ℕ) (key : SlotKey) → RiseFrom least changes →
    slot_at (changed slots changes) key ≡ found_or (slot_at changes key) (slot_at slots key)
changed-at [] slots least key rises = refl
changed-at (c ∷ rest) slots least key rises =
    changed-at rest (with_noted slots c) (number_of c.key + 1) key rises.1 ∙ ap (found_or (slot_at rest key)) (noted-at slots c key)
    ∙ (elim (eqb_tells (number_of c.key) (number_of key)) [
      | inl same ↦
          let none : slot_at rest key ≡ None = none-below rest (number_of c.key + 1) key rises.1 (omega (arith, same.1)) in
          ap (λ found. found_or found (if is_same_key c.key key then left_by c else slot_at slots key)) none
          ∙ ap (λ b. if b then left_by c else slot_at slots key) same.0
          ∙ sym (ap (λ b. found_or (if b then Some c else slot_at rest key) (slot_at slots key)) same.0)
      | inr other ↦
          ap (λ b. found_or (slot_at rest key) (if b then left_by c else slot_at slots key)) other.0
          ∙ sym (ap (λ b. found_or (if b then Some c else slot_at rest key) (slot_at slots key)) other.0)
    ])

-- changes with one more put among them change the slots as they did, and then the slot of that one
pub put-changes : (slots old new : List NotedSlot) (c : NotedSlot) → Rise slots → Rise old → Rise new
    → ((key : SlotKey) → slot_at new key ≡ (if is_same_key c.key key then Some c else slot_at old key)) → changed slots new ≡ with_noted (changed slots old) c
put-changes slots old new c rises before behind same =
    looks-equal (changed slots new) (with_noted (changed slots old) c) 0 0 (changes-rise slots new (from-first slots rises))
    (changes-rise (changed slots old) (c ∷ []) (changes-rise slots old (from-first slots rises))) (λ key.
    changed-at new slots 0 key (from-first new behind) ∙ ap (λ found. found_or found (slot_at slots key)) (same key) ∙ chosen (is_same_key c.key key) key
    ∙ ap (λ held. if is_same_key c.key key then left_by c else held) (sym (changed-at old slots 0 key (from-first old before)))
    ∙ sym (noted-at (changed slots old) c key))
  where
    chosen : (b : Bool) (key : SlotKey) → found_or (if b then Some c else slot_at old key) (slot_at slots key)
        ≡ (if b then left_by c else found_or (slot_at old key) (slot_at slots key))
    chosen true key = refl
    chosen false key = refl
