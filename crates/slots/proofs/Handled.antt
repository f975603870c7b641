-- Some slot holds a handler of a line, or none does.
use Rattle.std.proofs.Common.{ℕ, ◌≡◌, ◌∙◌, ◌+◌, ◌<◌, inl, inr, true, false, length, get_or, ap, arith}
use Rattle.std.specs.List.{range_with_len}
use Rattle.std.proofs.lemmas.Bool.Decides.{eqb_tells}
use Rattle.std.proofs.lemmas.List.Folds.{list_any_at, list_any_none}
use Rattle.std.proofs.lemmas.List.FromFn.{get_or-range_with_len, length-range_with_len}
use Rattle.model.specs.Capabilities.CapabilityKinds.{is_handler_of}
use Rattle.model.specs.Capabilities.Slots.{Slots, capability_at}
use Rattle.slots.specs.Listed.{is_handled}

pub handled-at : (slots : Slots) (count line slot : ℕ) → slot < count → is_handler_of line (capability_at slots slot) ≡ true →
    is_handled slots count line ≡ true
handled-at slots count line slot less is =
    let long : slot < length (range_with_len 0 count) = rw (length-range_with_len 0 count) less in
    let here : get_or (range_with_len 0 count) slot 0 ≡ slot = get_or-range_with_len 0 count slot 0 less ∙ omega arith in
    list_any_at (λ s. is_handler_of line (capability_at slots s)) (range_with_len 0 count) slot 0 long
    (ap (λ s. is_handler_of line (capability_at slots s)) here ∙ is)

pub handled-none : (slots : Slots) (count line : ℕ) → ((slot : ℕ) → slot < count → is_handler_of line (capability_at slots slot) ≡ false) →
    is_handled slots count line ≡ false
handled-none slots count line none = list_any_none (λ s. is_handler_of line (capability_at slots s)) (range_with_len 0 count) (λ k d less.
    let few : k < count = omega (arith, less, length-range_with_len 0 count) in
    ap (λ s. is_handler_of line (capability_at slots s)) (get_or-range_with_len 0 count k d few) ∙ none (0 + k) (omega (arith, few)))

-- none so far, and none at the next
pub none-next : (slots : Slots) (line n : ℕ) → ((slot : ℕ) → slot < n → is_handler_of line (capability_at slots slot) ≡ false)
    → is_handler_of line (capability_at slots n) ≡ false → (slot : ℕ) → slot < n + 1 → is_handler_of line (capability_at slots slot) ≡ false
none-next slots line n before here slot less = elim (eqb_tells slot n) [
  | inl same ↦ ap (λ s. is_handler_of line (capability_at slots s)) same.1 ∙ here
  | inr other ↦ before slot (omega (arith, less, other.1))
]
