-- What a state holds at numbers, and what is put there before it is a state.
use Rattle.std.specs.Prelude.{ℕ, ◌^◌, nat_lt, if◌then◌else◌, List, Option, None}
use Rattle.shared_states.specs.States.{at_number, in_puts}
use Rattle.shared_states.specs.declared.entries.Entry.{Entry}
use Rattle.model.specs.Acceptance.NotedStates.{NotedSlot}
use Rattle.part_roots.specs.Looks.{Says}
use Rattle.part_roots.specs.declared.bases.Base.{Base}
use Rattle.part_roots.specs.declared.bases.Draft.{Draft}
use Rattle.part_roots.specs.declared.bases.Root.{Root}

-- states say nothing from a number on
unfoldable pub below_all : ℕ → Option ℕ → Option ℕ
below_all key value = if nat_lt key (2 ^ 63) then value else None

abbrev pub held_by : List Entry → ℕ → ℕ → Option ℕ
held_by entries root key = below_all key (at_number entries root key)

abbrev pub held_with : List Entry → ℕ → List (ℕ × Option ℕ) → ℕ → Option ℕ
held_with entries root puts key = below_all key (in_puts puts key (at_number entries root key))

-- what roots and drafts say
abbrev pub SaysBy : List Entry → Root → List NotedSlot → List NotedSlot → Type 0
SaysBy entries root = Says (held_by entries root.slots) (held_by entries root.names) (held_by entries root.parents)

abbrev pub SaysWith : List Entry → Root → Draft → List NotedSlot → List NotedSlot → Type 0
SaysWith entries root draft =
    Says (held_with entries root.slots draft.slots) (held_with entries root.names draft.names) (held_with entries root.parents draft.parents)

abbrev pub SaysIn : Base → Draft → List NotedSlot → List NotedSlot → Type 0
SaysIn base draft = SaysWith base.states.now base.root draft

abbrev pub names_in : Base → Draft → ℕ → Option ℕ
names_in base draft = held_with base.states.now base.root.names draft.names
