-- The first event that does not keep to an image's device pages: there is none where the world does nothing, and where there is none, all keep to them.
use Rattle.std.proofs.Common.{ℕ, ◌≡◌, ◌∙◌, ◌+◌, Bool, true, false, not, cond, Option, Some, None, List, [], ◌∷◌, refl, sym, ap, arith}
use Rattle.std.specs.List.{All, list_any, position, position_from}
use Rattle.std.proofs.lemmas.Bool.{or_parts}
use Rattle.std.proofs.lemmas.Iterator.Adapters.{position_from-zero}
use Rattle.std.proofs.lemmas.List.Elements.{All-cons}
use Rattle.model.specs.declared.events.Event.{Event}
use Rattle.model.specs.declared.events.Event.TheVariants.{Step, Tick, Irq, Write, Read}
use Rattle.model.specs.Acceptance.Devices.{KeepsDevices}
use Rattle.model.specs.Images.Image.{Image}
use Rattle.runner.specs.Devices.{AreDevicePages, first_outside, first_outside_of, is_kept, is_of_world}
use Rattle.runner.proofs.DeviceStarts.{same-kept}

module _ (image : Image) where
  abbrev is_out : Event → Bool
  is_out event = not (is_kept image event)

  -- what is not of the world is kept
  quiet : (event : Event) → is_of_world event ≡ false → is_out event ≡ false
  quiet Step is = refl
  quiet Tick is = refl
  quiet (Irq number) is = refl
  quiet (Write address word) is = absurd cc
  quiet (Read address) is = absurd cc

  none-from : (i : ℕ) (events : List Event) → list_any is_of_world events ≡ false → position_from is_out i events ≡ None
  none-from i [] none = refl
  none-from i (event ∷ rest) none =
      let parts = or_parts (is_of_world event) (list_any is_of_world rest) none in
      ap (λ b. cond b (Some i) (position_from is_out (i + 1) rest)) (quiet event parts.0) ∙ none-from (i + 1) rest parts.1

  pub none-outside : (events : List Event) → list_any is_of_world events ≡ false → first_outside image events ≡ None
  none-outside events none = position_from-zero is_out events ∙ none-from 0 events none

  pub keeps : (event : Event) → is_kept image event ≡ true → KeepsDevices image event
  keeps Step is = tt
  keeps Tick is = tt
  keeps (Irq number) is = tt
  keeps (Write address word) is = is
  keeps (Read address) is = is

  all-from : (i : ℕ) (events : List Event) → position_from is_out i events ≡ None → All (KeepsDevices image) events
  all-from i [] none = λ k d below. absurd (omega (arith, below))
  all-from i (event ∷ rest) none = by (is_kept image event) refl none (all-from (i + 1) rest)
    where
      by : (b : Bool) → is_kept image event ≡ b → cond (not b) (Some i) (position_from is_out (i + 1) rest) ≡ None
          → (position_from is_out (i + 1) rest ≡ None → All (KeepsDevices image) rest) → All (KeepsDevices image) (event ∷ rest)
      by true is none later = All-cons (KeepsDevices image) event rest (keeps event is) (later none)
      by false is none later = absurd (let clash : ◌≡◌ {A = Option ℕ} (Some i) None = none in cc)

  pub all-kept : (events : List Event) → first_outside image events ≡ None → All (KeepsDevices image) events
  all-kept events none = all-from 0 events (sym (position_from-zero is_out events) ∙ none)

  -- what the pages find first, the image does
  pub same-first : (starts : List ℕ) (events : List Event) → AreDevicePages image image.header.objects starts
      → first_outside_of starts events ≡ first_outside image events
  same-first starts events are = λ i. position (λ event. not (same-kept image starts are event i)) events

-- what is found in an image that is lent is found in the image
pub found-in : (lent image : Image) (events : List Event) (found told : Option ℕ) → lent ≡ image → found ≡ first_outside lent events → found ≡ told
    → first_outside image events ≡ told
found-in lent image events found told same first is = sym (first ∙ ap (λ (i : Image). first_outside i events) same) ∙ is
