-- Retype: new objects in untyped memory, with their first capabilities.
-- seL4 Reference Manual, "Kernel Memory Allocation", seL4_Untyped_Retype; type numbers and sizes are our own.
use Rattle.std.specs.Prelude.{ℕ, ◌==◌, ◌+◌, ◌-◌, ◌*◌, ◌^◌, ◌&&◌, Bool, true, false, not, nat_le, if◌then◌else◌, Option, Some, None, Result, Ok, map}
use Rattle.std.specs.Option.{option_map_or}
use Rattle.std.specs.List.{list_any, range_with_len}
use Rattle.model.specs.declared.capabilities.Cap.{Cap}
use Rattle.model.specs.declared.capabilities.Cap.TheVariants.{Untyped, Endpoint, Notification, CNode, Frame, PageTable, Tcb, RootTable}
use Rattle.model.specs.declared.errors.KError.{KError}
use Rattle.model.specs.declared.errors.KError.TheVariants.{DeleteFirst, FailedLookup, InvalidArgument, NotEnoughMemory, RangeError}
use Rattle.model.specs.declared.invocations.RetypeCall.{RetypeCall}
use Rattle.model.specs.declared.invocations.SlotName.{SlotName}
use Rattle.model.specs.declared.invocations.UntypedMemory.{UntypedMemory}
use Rattle.model.specs.Kernel.Arguments.{◌>>=◌, argument_slot, check, may_have_child, wanted}
use Rattle.model.specs.Capabilities.CapabilityKinds.{Node, cnode_of}
use Rattle.model.specs.Capabilities.Placement.{placement}
use Rattle.model.specs.Kernel.Removal.{slot_count}
use Rattle.model.specs.Capabilities.Rights.{endpoint_rights, frame_rights}
use Rattle.model.specs.Capabilities.Slots.{Slots, capability_at, empty_entry, is_full, is_within, recapped}
use Rattle.model.specs.Kernel.State.{State, Object, ThreadObject, EndpointObject, NotificationObject, CNodeObject, FrameObject, PageTableObject}
use Rattle.model.specs.Kernel.State.{RootTableObject, new_endpoint, new_notification, new_thread, slot_of, with_slots}

-- ---- the types of objects

-- what `kind` and `size` of a call ask for
pub data NewObject : Type 0 where
  -- untyped memory of 2 ^ bits bytes
  NewUntyped : ℕ → NewObject
  NewThread : NewObject
  NewEndpoint : NewObject
  NewNotification : NewObject
  -- a CNode of this radix
  NewCNode : ℕ → NewObject
  NewFrame : NewObject
  NewPageTable : NewObject
  NewRootTable : NewObject

-- the type of a number, 1 to 8; the size counts for two of them
abbrev pub type_of : ℕ → ℕ → Option NewObject
type_of kind size =
    if kind == 1 then Some (NewUntyped size) else
    if kind == 2 then Some NewThread else
    if kind == 3 then Some NewEndpoint else
    if kind == 4 then Some NewNotification else
    if kind == 5 then Some (NewCNode size) else
    if kind == 6 then Some NewFrame else
    if kind == 7 then Some NewPageTable else
    if kind == 8 then Some NewRootTable else None

-- the least and the greatest size that a call may ask for
abbrev pub is_large_enough : NewObject → Bool
is_large_enough (NewUntyped bits) = nat_le 4 bits
is_large_enough (NewCNode radix) = nat_le 1 radix
is_large_enough _ = true

abbrev pub is_small_enough : NewObject → Bool
is_small_enough (NewUntyped bits) = nat_le bits 24
is_small_enough (NewCNode radix) = nat_le radix 14
is_small_enough _ = true

-- an object has 2 ^ object_bits bytes
abbrev pub object_bits : NewObject → ℕ
object_bits (NewUntyped bits) = bits
object_bits NewThread = 9
object_bits NewEndpoint = 4
object_bits NewNotification = 4
object_bits (NewCNode radix) = radix + 4
object_bits NewFrame = 12
object_bits NewPageTable = 12
object_bits NewRootTable = 12

-- the first capability to an object: all rights, no badge, guard or mapping
abbrev pub first_capability : NewObject → ℕ → Cap
first_capability (NewUntyped bits) offset = Untyped offset bits 0
first_capability NewThread offset = Tcb offset
first_capability NewEndpoint offset = Endpoint offset endpoint_rights 0
first_capability NewNotification offset = Notification offset endpoint_rights 0
first_capability (NewCNode radix) offset = CNode offset radix 0
first_capability NewFrame offset = Frame offset frame_rights None
first_capability NewPageTable offset = PageTable offset None
first_capability NewRootTable offset = RootTable offset

-- the object itself, all zero; untyped memory is none
abbrev pub object : NewObject → Option Object
object (NewUntyped bits) = None
object NewThread = Some (ThreadObject new_thread)
object NewEndpoint = Some (EndpointObject new_endpoint)
object NewNotification = Some (NotificationObject new_notification)
object (NewCNode radix) = Some (CNodeObject radix)
object NewFrame = Some FrameObject
object NewPageTable = Some PageTableObject
object NewRootTable = Some RootTableObject

abbrev pub is_frame : NewObject → Bool
is_frame NewFrame = true
is_frame _ = false

-- ---- the effect

-- some objects of one type, one after another from an offset on
pub record NewObjects : Type 0 where
  pub kind : NewObject
  pub first : ℕ
  pub count : ℕ

abbrev pub size_of : NewObjects → ℕ
size_of new = 2 ^ object_bits new.kind

abbrev pub place_of_new : NewObjects → ℕ → ℕ
place_of_new new i = new.first + i * size_of new

-- whether this holds of one of them
abbrev pub some_new : NewObjects → (ℕ → Bool) → Bool
some_new new test = list_any test (map (place_of_new new) (range_with_len 0 new.count))

-- the objects with the new ones
abbrev pub with_new_objects : NewObjects → (ℕ → Option Object) → ℕ → Option Object
with_new_objects new objects offset =
    if some_new new (λ at. at == offset) then option_map_or Some (object new.kind) (objects offset) else objects offset

-- the slots with those of the new objects, which are empty
abbrev pub with_new_slots : NewObjects → Slots → Slots
with_new_slots new slots slot =
    if some_new new (λ at. is_within (slot_of at 0) (slot_count (object new.kind)) slot) then Some empty_entry else slots slot

-- the slots with the first capabilities, from a slot on, as children of a slot
abbrev pub with_first_capabilities : NewObjects → ℕ → ℕ → Slots → Slots
with_first_capabilities new window parent slots slot =
    if is_within window new.count slot
    then Some (record { capability = first_capability new.kind (place_of_new new (slot - window)); parent = Some parent })
    else slots slot

-- the bytes with those of the new frames, which are zero
abbrev pub with_new_bytes : NewObjects → (ℕ → Option ℕ) → ℕ → Option ℕ
with_new_bytes new bytes place =
    if is_frame new.kind && is_within new.first (new.count * size_of new) place then Some 0 else bytes place

-- the state with new objects, whose capabilities are in the slots from the slot `window` on, below the slot `parent`
abbrev pub with_new : State → NewObjects → ℕ → ℕ → State
with_new s new window parent = record s {
  slots = with_first_capabilities new window parent (with_new_slots new s.slots);
  objects = with_new_objects new s.objects;
  bytes = with_new_bytes new s.bytes;
}

-- ---- the call

-- the CNode of this name; depth 0 names the root itself
abbrev pub node : Slots → Cap → SlotName → Result Node KError
node slots root name =
    if name.depth == 0
    then wanted (cnode_of root) FailedLookup
    else (argument_slot slots root name >>= λ slot. wanted (cnode_of (capability_at slots slot)) FailedLookup)

abbrev pub any_full : Slots → ℕ → ℕ → Bool
any_full slots first count = list_any (is_full slots) (range_with_len first count)

-- the untyped memory is in `slot`
unfoldable pub retype : State → Cap → ℕ → UntypedMemory → RetypeCall → Result State KError
retype s root slot memory call = do
  kind ← wanted (type_of call.kind call.size) InvalidArgument
  _ ← check (is_large_enough kind) InvalidArgument
  _ ← check (is_small_enough kind) RangeError
  cnode ← node s.slots root call.node
  _ ← check (nat_le 1 call.count && nat_le call.count 256 && nat_le (call.index + call.count) (2 ^ cnode.radix)) RangeError
  _ ← check (not (any_full s.slots (slot_of cnode.offset call.index) call.count)) DeleteFirst
  _ ← may_have_child s.slots slot
  place ← wanted (placement memory.bits memory.watermark (object_bits kind) call.count) NotEnoughMemory
  let new : NewObjects = record { kind = kind; first = memory.offset + place.0; count = call.count } in
      let used = recapped s.slots slot (Untyped memory.offset memory.bits place.1) in
      Ok (with_new (with_slots s used) new (slot_of cnode.offset call.index) slot)
