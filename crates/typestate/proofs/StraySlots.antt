-- Stray slots, from the slots and the record of a point.
use Rattle.std.proofs.Common.{ℕ, ◌≡◌, ◌∙◌, ◌||◌, Bool, true, false, Option, List, sym, ap}
use Rattle.std.specs.List.{list_any}
use Rattle.std.specs.Option.{option_map_or}
use Rattle.model.specs.Acceptance.NotedStates.{NotedSlot, PointState, has_stray_slots, is_stray, notes_outside, record_of}
use Rattle.model.specs.Acceptance.ThreadRules.{reached}
use Rattle.model.specs.Images.Image.{Image, StateRecord, Thread}

module _ (image : Image) (t : Thread) (slots : List NotedSlot) (noted : Option StateRecord) where
  abbrev stray : Bool
  stray = list_any (is_stray image t (reached image t) slots) slots

  abbrev outside : Bool
  outside = option_map_or (notes_outside image (reached image t)) noted false

  abbrev IsAt : ℕ → PointState → Type 0
  IsAt point state = (state.slots ≡ slots) × (record_of t point ≡ noted)

  told : (point : ℕ) (state : PointState) → state.slots ≡ slots → record_of t point ≡ noted → (stray || outside) ≡ has_stray_slots image t point state
  unfolding has_stray_slots
  told point state held record_is =
      sym (ap (λ (all : List NotedSlot). list_any (is_stray image t (reached image t) all) all
      || option_map_or (notes_outside image (reached image t)) (record_of t point) false) held
      ∙ ap (λ (found : Option StateRecord). stray || option_map_or (notes_outside image (reached image t)) found false) record_is)

  pub told-stray : (a : Bool) → a ≡ stray → a ≡ true → (point : ℕ) (state : PointState) → state.slots ≡ slots → record_of t point ≡ noted →
      true ≡ has_stray_slots image t point state
  told-stray a is holds point state held record_is = ap (λ b. b || outside) (sym holds ∙ is) ∙ told point state held record_is

  pub told-outside : (a b : Bool) → a ≡ stray → a ≡ false → b ≡ outside → (point : ℕ) (state : PointState) → state.slots ≡ slots → record_of t point ≡ noted →
      b ≡ has_stray_slots image t point state
  told-outside a b is fails rest point state held record_is = rest ∙ ap (λ x. x || outside) (sym fails ∙ is) ∙ told point state held record_is
