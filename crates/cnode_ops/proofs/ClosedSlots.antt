-- One slot is closed.
use Rattle.std.proofs.Common.{ℕ, ◌≡◌, ◌∙◌, ◌==◌, inl, inr, true, false, is_some, if◌then◌else◌, Some, None, refl, sym, ap, arith}
use Rattle.std.proofs.lemmas.Bool.Decides.{eqb_tells}
use Rattle.model.specs.Capabilities.Slots.{IsOpen, Slots, closed, is_within}
use Rattle.model.specs.Kernel.State.{State, with_slots}
use Rattle.removal_laws.specs.Finishing.{without_slot}
use Rattle.removal_laws.proofs.Laws.{bounds-within, within-bounds}

one-within : (slot y : ℕ) → is_within slot 1 y ≡ (y == slot)
one-within slot y = elim (eqb_tells y slot) [
  | inl here ↦ bounds-within slot 1 y (omega (arith, here.1)) (omega (arith, here.1)) ∙ sym here.0
  | inr other ↦ elim (is_within slot 1 y) as (λ b. is_within slot 1 y ≡ b → b ≡ (y == slot)) [
    | true ↦ λ is. absurd (let bounds = within-bounds slot 1 y is in other.1 (omega (arith, bounds.0, bounds.1)))
    | false ↦ λ is. sym other.0
  ] refl
]

pub one-closed : (s : State) (slots now : Slots) (slot : ℕ) → s.slots ≡ slots → now ≡ closed slots slot 1 → with_slots s now ≡ without_slot s slot
one-closed s slots now slot has is =
    ap (λ (n : Slots). with_slots s n) (is ∙ ap (λ (n : Slots). closed n slot 1) (sym has))
    ∙ (λ i. with_slots s (λ y. ap (λ b. if b then None else s.slots y) (one-within slot y) i))

pub none-closed : (s : State) (slot : ℕ) → s.slots slot ≡ None → s ≡ without_slot s slot
none-closed s slot none = λ i. record s { slots = λ y. each y i }
  where
    each : (y : ℕ) → s.slots y ≡ (if y == slot then None else s.slots y)
    each y = elim (eqb_tells y slot) [
      | inl here ↦ ap s.slots here.1 ∙ none ∙ sym (ap (λ b. if b then None else s.slots y) here.0)
      | inr other ↦ sym (ap (λ b. if b then None else s.slots y) other.0)
    ]

-- a slot that is not open is none, and closing another leaves it so
pub not-open : (slots : Slots) (slot : ℕ) → (IsOpen slots slot → true ≡ false) → slots slot ≡ None
not-open slots slot closed_is = elim (slots slot) as (λ o. slots slot ≡ o → o ≡ None) [
  | None ↦ λ is. refl
  | Some h ↦ λ is. absurd (let clash : true ≡ false = closed_is (ap is_some is) in cc)
] refl

pub is-zero : (n : ℕ) → (n == 0) ≡ true → n ≡ 0
is-zero n is = elim (eqb_tells n 0) [ inl here ↦ here.1 | inr other ↦ absurd (let clash : false ≡ true = sym other.0 ∙ is in cc) ]
