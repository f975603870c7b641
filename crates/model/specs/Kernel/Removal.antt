-- Removal: what a kernel call leaves that takes a whole set of slots away at once.
-- seL4 Reference Manual, "Deletion, Revocation, and Recycling"; ours refuses to end what still holds capabilities.
use Rattle.std.specs.Prelude.{ℕ, zero, suc, ◌≡◌, ◌==◌, ◌-◌, ◌*◌, ◌/◌, ◌%◌, ◌^◌, ◌&&◌, ◌||◌, ◌++◌, Bool, true, false, not, if◌then◌else◌, Option, Some, None}
use Rattle.std.specs.Prelude.{option_map, List, map, filter, fold, Result, Ok, Err}
use Rattle.std.specs.Option.{option_map_or}
use Rattle.std.specs.List.{list_any, range_with_len}
use Rattle.model.specs.declared.capabilities.Cap.{Cap}
use Rattle.model.specs.declared.capabilities.Cap.TheVariants.{Untyped, Frame, PageTable, RootTable}
use Rattle.model.specs.declared.capabilities.FrameMapping.{FrameMapping}
use Rattle.model.specs.declared.capabilities.TableMapping.{TableMapping}
use Rattle.model.specs.declared.errors.KError.{KError}
use Rattle.model.specs.declared.errors.KError.TheVariants.{RevokeFirst}
use Rattle.model.specs.declared.slot_entries.Entry.{Entry}
use Rattle.model.specs.Kernel.AddressSpaces.{maps_region, page_size, region_pages}
use Rattle.model.specs.Capabilities.CapabilityKinds.{is_handler_of, names_object, object_of}
use Rattle.model.specs.Kernel.Scheduling.{all_leave, full_slice, wake, without_threads}
use Rattle.model.specs.Capabilities.Slots.{IsOpen, Slots, capability_at, empty_entry, is_descendant, is_full, is_within, parent_at}
use Rattle.model.specs.Kernel.State.{State, Status, Inactive, Runnable, Blocked, AwaitsReply, AwaitsHandler, Object, ThreadObject, EndpointObject}
use Rattle.model.specs.Kernel.State.{NotificationObject, CNodeObject, FrameObject, PageTableObject, RootTableObject, ThreadState, as_thread, binding_slot}
use Rattle.model.specs.Kernel.State.{slots_of, thread_at, with_slots}

-- a set of slots, as a test
abbrev pub SlotSet : Type 0
SlotSet = ℕ → Bool

-- whether some slot inside the set, or some slot outside, holds such a capability
abbrev pub some_inside : State → SlotSet → (Cap → Bool) → Bool
some_inside s set test = list_any (λ slot. set slot && test (capability_at s.slots slot)) (slots_of s)

abbrev pub some_outside : State → SlotSet → (Cap → Bool) → Bool
some_outside s set test = list_any (λ slot. not (set slot) && test (capability_at s.slots slot)) (slots_of s)

-- the set holds all the capabilities like this, and there are some
abbrev pub takes_last : State → SlotSet → (Cap → Bool) → Bool
takes_last s set test = some_inside s set test && not (some_outside s set test)

-- the set, and the bindings of the lines whose last handler is in it
abbrev pub with_bindings : State → SlotSet → SlotSet
with_bindings s set slot =
    set slot || list_any (λ line. slot == binding_slot s line && takes_last s set (is_handler_of line)) (range_with_len 0 64)

-- ---- the objects that end: those that lose their last capability

abbrev pub ends : State → SlotSet → ℕ → Bool
ends s set offset = takes_last s set (names_object offset)

-- how many slots an object has
abbrev pub slot_count : Option Object → ℕ
slot_count None = 0
slot_count (Some (ThreadObject t)) = 3
slot_count (Some (EndpointObject e)) = 0
slot_count (Some (NotificationObject n)) = 0
slot_count (Some (CNodeObject radix)) = 2 ^ radix
slot_count (Some FrameObject) = 0
slot_count (Some PageTableObject) = 0
slot_count (Some RootTableObject) = 0

abbrev pub is_slot_of : State → ℕ → ℕ → Bool
is_slot_of s offset slot = is_within (offset / 16) (slot_count (s.objects offset)) slot

-- an object ends that has a capability outside the set in one of its slots
abbrev pub ends_filled : State → SlotSet → ℕ → Bool
ends_filled s set offset =
    ends s set offset && list_any (λ slot. is_slot_of s offset slot && not (set slot) && is_full s.slots slot) (slots_of s)

abbrev pub wants_revoke_first : State → SlotSet → Bool
wants_revoke_first s set = some_inside s set (λ capability. option_map_or (ends_filled s set) (object_of capability) false)

-- a slot of an object that ends
abbrev pub closes : State → SlotSet → ℕ → Bool
closes s set slot =
    some_inside s set (λ capability. option_map_or (λ offset. ends s set offset && is_slot_of s offset slot) (object_of capability) false)

-- ---- the slots that stay

-- the nearest ancestor outside the set, of at most so many
unfoldable pub ancestor_outside : ℕ → SlotSet → Slots → Option ℕ → Option ℕ
ancestor_outside zero set slots parent = None
ancestor_outside (suc n) set slots None = None
ancestor_outside (suc n) set slots (Some parent) =
    if set parent then ancestor_outside n set slots (parent_at slots parent) else Some parent

abbrev pub new_parent : State → SlotSet → ℕ → Option ℕ
new_parent s set slot = ancestor_outside 256 set s.slots (parent_at s.slots slot)

abbrev pub is_some_slot : ℕ → Option ℕ → Bool
is_some_slot slot parent = option_map_or (λ p. p == slot) parent false

-- an untyped had a child in the set, and is left without one
abbrev pub loses_last_child : State → SlotSet → ℕ → Bool
loses_last_child s set slot =
    list_any (λ child. set child && is_some_slot slot (parent_at s.slots child)) (slots_of s)
    && not (list_any (λ child. not (set child) && is_some_slot slot (new_parent s set child)) (slots_of s))

abbrev pub is_root_at : ℕ → Cap → Bool
is_root_at offset (RootTable root) = root == offset
is_root_at offset _ = false

-- the set takes the last capability to a root table; an object of another kind at its offset is none
abbrev pub ends_root : State → SlotSet → ℕ → Bool
ends_root s set root = takes_last s set (is_root_at root)

-- a mapping goes with its root table, and that of a frame with the page table that it is in
abbrev pub frame_loses : State → SlotSet → FrameMapping → Bool
frame_loses s set mapping =
    ends_root s set mapping.root || some_inside s set (maps_region mapping.root (mapping.page / region_pages))

abbrev pub table_loses : State → SlotSet → TableMapping → Bool
table_loses s set mapping = ends_root s set mapping.root

-- what becomes of the capability in a slot that stays
abbrev pub kept : State → SlotSet → ℕ → Cap → Cap
kept s set slot (Untyped offset bits watermark) = Untyped offset bits (if loses_last_child s set slot then 0 else watermark)
kept s set slot (Frame offset r (Some mapping)) =
    if frame_loses s set mapping then Frame offset r None else Frame offset r (Some mapping)
kept s set slot (PageTable offset (Some mapping)) =
    if table_loses s set mapping then PageTable offset None else PageTable offset (Some mapping)
kept s set slot capability = capability

abbrev pub kept_entry : State → SlotSet → ℕ → Entry → Entry
kept_entry s set slot held = record { capability = kept s set slot held.capability; parent = new_parent s set slot }

abbrev pub slots_emptied : State → SlotSet → Slots
slots_emptied s set slot = if set slot then Some empty_entry else option_map (kept_entry s set slot) (s.slots slot)

-- ---- the objects that stay

abbrev pub is_ending_thread : State → SlotSet → ℕ → Bool
is_ending_thread s set offset = option_map_or (λ _. ends s set offset) (as_thread (s.objects offset)) false

-- a thread that ends has left every queue
abbrev pub objects_kept : State → SlotSet → ℕ → Option Object
objects_kept s set offset = if ends s set offset then None else (all_leave s (is_ending_thread s set)).objects offset

abbrev pub bytes_kept : State → SlotSet → ℕ → Option ℕ
bytes_kept s set place = if ends s set (place - place % page_size) then None else s.bytes place

-- The slots of a set are empty, and what lost its last capability is gone; the slots of what ended are still open, and
-- whoever waited there still waits.
abbrev pub emptied : State → SlotSet → State
emptied s set = record (all_leave s (is_ending_thread s set)) {
  slots = slots_emptied s set;
  objects = objects_kept s set;
  bytes = bytes_kept s set;
}

-- ---- the threads that waited at what ended

abbrev pub waits_on_ended : State → SlotSet → Status → Bool
waits_on_ended s set (Blocked queue) = ends s set queue
waits_on_ended s set Inactive = false
waits_on_ended s set Runnable = false
waits_on_ended s set AwaitsReply = false
waits_on_ended s set AwaitsHandler = false

abbrev pub is_set_back : State → SlotSet → ℕ → Bool
is_set_back s set offset =
    option_map_or (λ t. waits_on_ended s set t.status && not (ends s set offset)) (as_thread (s.objects offset)) false

-- where a thread may be, in rising order
abbrev pub thread_places : State → List ℕ
thread_places s = map (λ slot. 16 * slot) (slots_of s)

-- those that are set back, in rising order of their addresses
abbrev pub threads_set_back : State → SlotSet → List ℕ
threads_set_back s set = filter (is_set_back s set) (thread_places s)

-- ---- the whole

-- the state with some of its slots closed
abbrev pub closing : State → SlotSet → State
closing s set = with_slots s (λ slot. if set slot then None else s.slots slot)

-- The state without the slots of a set, all of them gone at once. Threads run again in rising order of their addresses.
abbrev pub without_slots : State → SlotSet → State
without_slots s set = fold wake (closing (emptied s set) (closes s set)) (threads_set_back s set)

abbrev pub runs_again : State → SlotSet → ℕ → Bool
runs_again s set offset = list_any (λ thread. offset == thread) (threads_set_back s set)

-- The same in sentences, one a field: what the state after a removal of these slots is. `without_slots` is that state, and no other is.
pub record IsRemoval (s : State) (set : SlotSet) (after : State) : Type 0 where
  -- memory keeps its size
  pub memory_bits : after.memory_bits ≡ s.memory_bits
  -- the boot CNode keeps its size
  pub boot_radix : after.boot_radix ≡ s.boot_radix
  -- each line is masked as it was
  pub masked : (line : ℕ) → after.masked line ≡ s.masked line
  -- each line is pending as it was
  pub pending : (line : ℕ) → after.pending line ≡ s.pending line
  -- the slots of an object that ends are closed
  pub closed_slots : (slot : ℕ) → closes s set slot ≡ true → after.slots slot ≡ None
  -- the other slots of the set are open, and empty
  pub emptied_slots : (slot : ℕ) → closes s set slot ≡ false → set slot ≡ true → after.slots slot ≡ Some empty_entry
  -- any other slot stays open
  pub open_slots : (slot : ℕ) → closes s set slot ≡ false → set slot ≡ false → IsOpen s.slots slot → IsOpen after.slots slot
  -- no slot opens
  pub no_slots : (slot : ℕ) → closes s set slot ≡ false → set slot ≡ false → s.slots slot ≡ None → after.slots slot ≡ None
  -- a slot that stays open holds what it held, but for a mapping whose tables go, and for what was used of untyped memory whose last child goes
  pub capabilities : (slot : ℕ) → closes s set slot ≡ false → set slot ≡ false → IsOpen s.slots slot
      → capability_at after.slots slot ≡ kept s set slot (capability_at s.slots slot)
  -- it hangs below its nearest ancestor that stays
  pub parents : (slot : ℕ) → closes s set slot ≡ false → set slot ≡ false → IsOpen s.slots slot → parent_at after.slots slot ≡ new_parent s set slot
  -- an object ends that loses its last capability
  pub ended_objects : (offset : ℕ) → ends s set offset ≡ true → after.objects offset ≡ None
  -- no object appears
  pub no_objects : (offset : ℕ) → ends s set offset ≡ false → s.objects offset ≡ None → after.objects offset ≡ None
  -- any other object stays, but threads that end leave its queues, and a right to reply to one of them is void
  pub objects : (offset : ℕ) (object : Object) → ends s set offset ≡ false → runs_again s set offset ≡ false → s.objects offset ≡ Some object
      → after.objects offset ≡ Some (without_threads (is_ending_thread s set) object)
  -- a thread that waited at an object that ends runs again, with a full slice
  pub threads : (offset : ℕ) (t : ThreadState) → runs_again s set offset ≡ true → s.objects offset ≡ Some (ThreadObject t)
      → after.objects offset ≡ Some (without_threads (is_ending_thread s set) (ThreadObject (record t { status = Runnable; slice = full_slice })))
  -- the bytes of a frame that ends go
  pub ended_bytes : (place : ℕ) → ends s set (place - place % page_size) ≡ true → after.bytes place ≡ None
  -- other bytes stay
  pub bytes : (place : ℕ) → ends s set (place - place % page_size) ≡ false → after.bytes place ≡ s.bytes place
  -- in the list of each priority threads that end are no more, and those that run again come after the others, in rising order of their
  -- addresses
  pub ready : (priority : ℕ) → after.ready priority
      ≡ filter (λ thread. not (is_ending_thread s set thread) && not (runs_again s set thread)) (s.ready priority)
      ++ filter (λ thread. (thread_at s thread).priority == priority) (threads_set_back s set)

unfoldable pub remove : State → SlotSet → Result State KError
remove s set =
    let all = with_bindings s set in
    if wants_revoke_first s all then Err RevokeFirst else Ok (without_slots s all)

-- a slot alone; nothing changes where it is empty
abbrev pub delete : State → ℕ → Result State KError
delete s slot = if is_full s.slots slot then remove s (λ other. other == slot) else Ok s

-- all descendants of a slot
abbrev pub revoke : State → ℕ → Result State KError
revoke s slot = remove s (is_descendant s.slots slot)
