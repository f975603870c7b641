-- Slots as what differs from those of the image.
use Rattle.std.specs.Prelude.{Bool, true, false, Option, Some, None, List, fold}
use Rattle.std.specs.List.{list_all}
use Rattle.model.specs.Acceptance.NotedStates.{NotedSlot, is_same_slot, slot_at, with_noted}
use Rattle.typestate.specs.declared.points.NotedSlots.{NotedSlots}
pub use Rattle.typestate.specs.Left.{left_by}

-- the slots with each of these changes made, one after another
abbrev pub changed : List NotedSlot → List NotedSlot → List NotedSlot
changed slots changes = fold with_noted slots changes

abbrev pub slots_of : NotedSlots → List NotedSlot
slots_of s = changed s.image.now s.changes.now

-- whether two look-ups give the same
abbrev pub is_same_held : Option NotedSlot → Option NotedSlot → Bool
is_same_held None None = true
is_same_held None (Some b) = false
is_same_held (Some a) None = false
is_same_held (Some a) (Some b) = is_same_slot a b

-- whether look-ups at the keys of these changes give what they leave
abbrev pub are_left_at : List NotedSlot → List NotedSlot → Bool
are_left_at slots changes = list_all (λ c. is_same_held (left_by c) (slot_at slots c.key)) changes

-- whether look-ups of these keys give the same
abbrev pub are_same_at : List NotedSlot → List NotedSlot → List NotedSlot → Bool
are_same_at slots others keys = list_all (λ k. is_same_held (slot_at slots k.key) (slot_at others k.key)) keys
