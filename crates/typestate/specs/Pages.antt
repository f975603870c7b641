-- Changes by the pages that their slots map.
use Rattle.std.specs.Prelude.{ℕ, ◌≡◌, ◌==◌, Bool, true, false, Option, option_and_then, option_map, List}
use Rattle.std.specs.Option.{option_map_or}
use Rattle.model.specs.Acceptance.NotedStates.{NotedSlot, number_of}
use Rattle.model.specs.Capabilities.CapabilityKinds.{frame_mapping}
use Rattle.typestate.specs.Families.{AreNamed, has_link}
use Rattle.typestate.specs.Left.{left_by}

-- the page that the slot maps that a change leaves
abbrev pub page_left : NotedSlot → Option ℕ
page_left c = option_and_then (λ s. option_map (λ m. m.page) (frame_mapping s.capability)) (left_by c)

abbrev pub leaves_at : ℕ → NotedSlot → Bool
leaves_at page c = option_map_or (λ p. p == page) (page_left c) false

-- each slot is named with the page that it maps
abbrev pub ArePaged : List NotedSlot → List (ℕ × ℕ) → Type 0
ArePaged changes slots = AreNamed leaves_at changes slots

-- the slot of a change is named with the page that it maps behind it
abbrev pub HasPage : List (ℕ × ℕ) → NotedSlot → Type 0
HasPage slots change = (page : ℕ) → leaves_at page change ≡ true → has_link slots page (number_of change.key) ≡ true
