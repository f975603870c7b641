-- New objects and their place in untyped memory.
-- seL4 Reference Manual, "Kernel Memory Allocation", "Reusing Memory".
use Rattle.std.specs.Prelude.{ℕ, ◌≡◌, ◌+◌, ◌*◌, ◌%◌, ◌^◌, ◌≤◌, true}
use Rattle.cnode_ops.specs.declared.beginnings.NewRange.{NewRange}
use Rattle.cnode_ops.specs.declared.beginnings.Placing.{Placing}
use Rattle.model.specs.Capabilities.Slots.{capability_at, recapped}
use Rattle.model.specs.Kernel.Retype.{NewObjects, is_large_enough, is_small_enough, size_of, with_new}
use Rattle.model.specs.Kernel.State.{State, with_slots}
use Rattle.model.specs.declared.capabilities.Cap.{Cap}
use Rattle.model.specs.declared.capabilities.Cap.TheVariants.{Untyped}
use Rattle.model.specs.Kernel.ObjectTypes.{new_type}

abbrev pub new_objects : NewRange → NewObjects
new_objects new = record { kind = new_type new.kind; first = new.first; count = new.count }

-- the objects are in the unused part of the untyped memory in `parent`, below its new watermark, each at a multiple of its size
pub record IsPlaced (s : State) (new : NewObjects) (at : Placing) : Type 0 where
  pub offset : ℕ
  pub bits : ℕ
  pub used : ℕ
  pub memory : capability_at s.slots at.parent ≡ Untyped offset bits used
  pub behind : offset + used ≤ new.first
  pub aligned : new.first % size_of new ≡ 0
  pub within : new.first + new.count * size_of new ≤ offset + at.watermark
  pub fits : at.watermark ≤ 2 ^ bits
  pub least : 1 ≤ new.count
  pub most : new.count ≤ 256
  pub large : is_large_enough new.kind ≡ true
  pub small : is_small_enough new.kind ≡ true

-- untyped memory used up to a watermark
abbrev pub used_to : ℕ → Cap → Cap
used_to watermark (Untyped offset bits used) = Untyped offset bits watermark
used_to watermark capability = capability

-- the state with the new objects and their first capabilities, and with the new watermark
abbrev pub with_placed : State → NewObjects → Placing → State
with_placed s new at =
    with_new (with_slots s (recapped s.slots at.parent (used_to at.watermark (capability_at s.slots at.parent)))) new at.window at.parent
