-- Which events keep to the device pages of an image, and which is the first that does not.
use Rattle.std.specs.Prelude.{ℕ, ◌≡◌, ◌+◌, ◌&&◌, Bool, true, false, not, nat_le, List, Option}
use Rattle.std.specs.List.{list_any, position, range_with_len}
use Rattle.model.specs.declared.events.Event.{Event}
use Rattle.model.specs.declared.events.Event.TheVariants.{Step, Tick, Irq, Write, Read}
use Rattle.model.specs.Acceptance.Devices.{is_device_word}
use Rattle.model.specs.Acceptance.WellFormed.{is_device}
use Rattle.model.specs.Images.Image.{Image}
use Rattle.model.specs.Images.Places.{offset_of}
use Rattle.model.specs.Kernel.AddressSpaces.{page_size}
use Rattle.model.specs.Kernel.Steps.{place_of}

-- whether the world stores or looks at a word
abbrev pub is_of_world : Event → Bool
is_of_world Step = false
is_of_world Tick = false
is_of_world (Irq number) = false
is_of_world (Write address word) = true
is_of_world (Read address) = true

-- whether a word, which the world stores or looks at, passes a test of its place; other events pass
abbrev pub passes_at : (ℕ → Bool) → Event → Bool
passes_at test Step = true
passes_at test Tick = true
passes_at test (Irq number) = true
passes_at test (Write address word) = test (place_of address)
passes_at test (Read address) = test (place_of address)

-- whether an event keeps to the image's device pages
abbrev pub is_kept : Image → Event → Bool
is_kept image event = passes_at (is_device_word image) event

-- the first event that does not
abbrev pub first_outside : Image → List Event → Option ℕ
first_outside image events = position (λ event. not (is_kept image event)) events

-- ---- pages, by where they begin

-- whether a page has the four bytes from a place on
abbrev pub has_word : ℕ → ℕ → Bool
has_word place start = nat_le start place && nat_le (place + 4) (start + page_size)

abbrev pub is_word_in : List ℕ → ℕ → Bool
is_word_in starts place = list_any (has_word place) starts

abbrev pub is_kept_by : List ℕ → Event → Bool
is_kept_by starts event = passes_at (is_word_in starts) event

abbrev pub first_outside_of : List ℕ → List Event → Option ℕ
first_outside_of starts events = position (λ event. not (is_kept_by starts event)) events

-- these are the places of the device pages among so many objects: each test of a place finds the same
abbrev pub AreDevicePages : Image → ℕ → List ℕ → Type 0
AreDevicePages image count starts =
    (test : ℕ → Bool) → list_any test starts ≡ list_any (λ number. is_device image number && test (offset_of image number)) (range_with_len 0 count)
