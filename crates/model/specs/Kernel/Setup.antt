-- Setting the system up: the empty machine, and what is put into it apart from calls. Nothing is what an operation answers that
-- cannot be done.
-- seL4 Reference Manual, "System Bootstrapping".
use Rattle.std.specs.Prelude.{ℕ, ◌==◌, ◌+◌, ◌-◌, ◌%◌, ◌^◌, Bool, false, true, not, ◌&&◌, nat_le, nat_lt, if◌then◌else◌, Option, Some, None, option_map, List}
use Rattle.std.specs.Prelude.{[], length, slice_index}
use Rattle.std.specs.Option.{option_map_or}
use Rattle.model.specs.declared.capabilities.Cap.{Cap}
use Rattle.model.specs.declared.capabilities.Cap.TheVariants.{InterruptControl, Untyped}
use Rattle.model.specs.Capabilities.Slots.{empty_entry, inserted, is_full, is_within}
use Rattle.model.specs.Kernel.AddressSpaces.{page_size}
use Rattle.model.specs.Kernel.Kinds.{Piece, piece_of}
use Rattle.model.specs.Kernel.State.{State, Object, ThreadObject, EndpointObject, NotificationObject, CNodeObject, FrameObject, PageTableObject}
use Rattle.model.specs.Kernel.State.{RootTableObject, boot_area_end, boot_area_slots, holds_some, with_slots}

-- ---- the empty machine

-- 2 ^ bits bytes of memory, with the boot CNode of 2 ^ radix slots and the interrupt table, all of them empty
unfoldable pub boot_area : ℕ → ℕ → State
boot_area bits radix = record {
  memory_bits = bits;
  boot_radix = radix;
  slots = λ slot. if nat_lt slot (boot_area_slots radix) then Some empty_entry else None;
  objects = λ offset. None;
  bytes = λ place. None;
  ready = λ priority. [];
  masked = λ line. false;
  pending = λ line. false;
}

-- ---- capabilities without a parent

abbrev pub is_free_boot_slot : State → ℕ → Bool
is_free_boot_slot s slot = nat_lt slot (2 ^ s.boot_radix) && not (is_full s.slots slot)

abbrev pub put_in_boot_slot : State → ℕ → Cap → Option State
put_in_boot_slot s slot capability =
    if is_free_boot_slot s slot then Some (with_slots s (inserted s.slots slot capability None)) else None

-- where the memory ends that a capability names, untyped or an object's
abbrev pub memory_end : Cap → ℕ
memory_end capability = option_map_or (λ (p : Piece). p.first + p.size) (piece_of capability) 0

-- Of 2^4 to 2^24 bytes, aligned, inside memory, after the boot area and after all that is there: untyped memory, and objects,
-- which may be left where the untyped memory around them was deleted. Each object has a capability.
abbrev pub may_be_untyped : State → ℕ → ℕ → Bool
may_be_untyped s offset bits =
    nat_le 4 bits && nat_le bits 24 && (offset % 2 ^ bits == 0) && nat_le (offset + 2 ^ bits) (2 ^ s.memory_bits)
    && nat_le (boot_area_end s.boot_radix) offset && not (holds_some s (λ capability. nat_lt offset (memory_end capability)))

-- untyped memory that nothing uses yet
unfoldable pub put_untyped : State → ℕ → ℕ → ℕ → Option State
put_untyped s slot offset bits = if may_be_untyped s offset bits then put_in_boot_slot s slot (Untyped offset bits 0) else None

unfoldable pub put_control : State → ℕ → Option State
put_control s slot = put_in_boot_slot s slot InterruptControl

-- ---- filling frames

abbrev pub is_frame_object : Option Object → Bool
is_frame_object None = false
is_frame_object (Some (ThreadObject t)) = false
is_frame_object (Some (EndpointObject e)) = false
is_frame_object (Some (NotificationObject n)) = false
is_frame_object (Some (CNodeObject radix)) = false
is_frame_object (Some FrameObject) = true
is_frame_object (Some PageTableObject) = false
is_frame_object (Some RootTableObject) = false

abbrev pub with_first_bytes : State → ℕ → List ℕ → State
with_first_bytes s offset bytes = record s {
  bytes = λ place. if is_within offset (length bytes) place then option_map (λ _. slice_index bytes (place - offset)) (s.bytes place) else s.bytes place;
}

-- at most a page of bytes, written from the beginning of a frame on
unfoldable pub fill : State → ℕ → List ℕ → Option State
fill s offset bytes =
    if is_frame_object (s.objects offset) && nat_le (length bytes) page_size then Some (with_first_bytes s offset bytes) else None
