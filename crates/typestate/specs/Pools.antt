-- Retype at a point, step by step.
use Rattle.std.specs.Prelude.{ℕ, ◌≡◌, ◌+◌, ◌*◌, ◌^◌, ◌&&◌, not, nat_le, nat_lt, is_some, true, Bool, Some, Result, Ok, Err, List, map}
use Rattle.std.specs.List.{list_any, range_with_len}
use Rattle.model.specs.declared.capabilities.Cap.TheVariants.{Untyped}
use Rattle.model.specs.declared.errors.KError.{KError}
use Rattle.model.specs.declared.errors.KError.TheVariants.{DeleteFirst, IllegalOperation, NotEnoughMemory, RangeError}
use Rattle.model.specs.declared.invocations.UntypedMemory.{UntypedMemory}
use Rattle.model.specs.declared.invocations.Invocation.TheVariants.{OnUntyped}
use Rattle.model.specs.declared.invocations.RetypeCall.{RetypeCall}
use Rattle.model.specs.declared.refusals.Point.{Point}
use Rattle.model.specs.declared.refusals.Refusal.TheVariants.{CallRefused}
use Rattle.model.specs.Acceptance.NotedKernel.{noted_root, noted_slots}
use Rattle.model.specs.Acceptance.NotedStates.{NotedSlot, SlotKey, slot_at}
use Rattle.model.specs.Acceptance.ThreadRules.{is_member, reached}
use Rattle.model.specs.Capabilities.CapabilityKinds.{Node}
use Rattle.model.specs.Capabilities.Placement.{placement}
use Rattle.model.specs.Images.Image.{Image, Thread}
use Rattle.model.specs.Kernel.Arguments.{◌>>=◌, check, wanted}
use Rattle.model.specs.Kernel.ObjectTypes.{new_type}
use Rattle.model.specs.Kernel.Retype.{NewObject, any_full, first_capability, node, object_bits}
use Rattle.model.specs.Kernel.State.{slot_of}
use Rattle.typestate.specs.declared.pool_calls.NewPlace.{NewPlace}
use Rattle.typestate.specs.declared.window.Window.{Window}
use Rattle.typestate.specs.Invocations.{held_after}
use Rattle.typestate.specs.SlotChanges.{noted_depth}
use Rattle.typestate.specs.Spaces.{IsWindow}
use Rattle.untyped.specs.NewTypes.{asked_type}

-- whether some of so many slots from one on is full
abbrev pub some_full : List NotedSlot → SlotKey → ℕ → Bool
some_full slots first count = list_any (λ i. is_some (slot_at slots (record { cnode = first.cnode; index = first.index + i }))) (range_with_len 0 count)

-- a CNode of the thread's
pub record IsOwnWindow (image : Image) (t : Thread) (w : Window) : Type 0 where
  pub mine : is_member w.cnode (reached image t) ≡ true
  pub is : IsWindow image w.cnode w

abbrev pub NamesNode : Image → Thread → Result Node KError → Result Window KError → Type 0
NamesNode image t (Ok node) (Ok w) = IsOwnWindow image t w × (w.offset ≡ node.offset) × (w.radix ≡ node.radix)
NamesNode image t (Ok node) (Err error) = ⊥
NamesNode image t (Err error) (Ok w) = ⊥
NamesNode image t (Err error) (Err other) = error ≡ other

-- indices that a CNode has
abbrev pub fits_node : ℕ → ℕ → ℕ → Bool
fits_node radix index count = nat_le 1 count && nat_le count 256 && nat_le (index + count) (2 ^ radix)

-- where the objects stand in the pool, and the watermark behind them, or the kernel's error
abbrev pub room_in : Image → Thread → List NotedSlot → SlotKey → UntypedMemory → Window → ℕ → ℕ → ℕ → Result (ℕ × ℕ) KError
room_in image t slots key memory w bits index count = do
  _ ← check (fits_node w.radix index count) RangeError
  _ ← check (not (any_full (noted_slots image t slots) (slot_of w.offset index) count)) DeleteFirst
  _ ← check (nat_lt (noted_depth 256 slots key) 255) IllegalOperation
  wanted (placement memory.bits memory.watermark bits count) NotEnoughMemory

-- the slot of the first capability to the new object of a number
abbrev pub slot_made : SlotKey → SlotKey → NewObject → ℕ → ℕ → NotedSlot
slot_made first pool new offset i = record {
  key = record { cnode = first.cnode; index = first.index + i };
  capability = first_capability new (offset + i * 2 ^ object_bits new);
  parent = Some pool;
}

abbrev pub slots_made : SlotKey → SlotKey → NewObject → ℕ → ℕ → List NotedSlot
slots_made first pool new offset count = map (slot_made first pool new offset) (range_with_len 0 count)

-- the pool with another watermark
abbrev pub pool_used : NotedSlot → UntypedMemory → ℕ → NotedSlot
pool_used held memory watermark = record { key = held.key; capability = Untyped memory.offset memory.bits watermark; parent = held.parent }

-- ---- the checks together

-- what the checks of a call that passes have found
pub record PlacedNew (image : Image) (t : Thread) (slots : List NotedSlot) (key : SlotKey) (memory : UntypedMemory) (call : RetypeCall) (p : NewPlace) : Type
    0 where
  pub asked : asked_type call.kind call.size ≡ Ok (new_type p.kind)
  pub cnode : Node
  pub named : node (noted_slots image t slots) (noted_root image t) call.node ≡ Ok cnode
  pub w : Window
  pub own : IsOwnWindow image t w
  pub offset : w.offset ≡ cnode.offset
  pub radix : w.radix ≡ cnode.radix
  pub place : ℕ
  pub room : room_in image t slots key memory w (object_bits (new_type p.kind)) call.index call.count ≡ Ok (place, p.watermark)
  pub first : p.offset ≡ memory.offset + place
  pub slot : p.slot ≡ record { cnode = w.cnode; index = call.index }

-- a pool in the slot of a key, and a call on it that is refused, or places new objects
abbrev pub PlaceAnswer : Image → Thread → List NotedSlot → SlotKey → UntypedMemory → RetypeCall → Result NewPlace KError → Type 0
PlaceAnswer image t slots key memory call (Ok p) = PlacedNew image t slots key memory call p
PlaceAnswer image t slots key memory call (Err error) = (at : Point) (held : NotedSlot) → held.key ≡ key →
    held_after image t at slots held (OnUntyped memory call) ≡ Err (CallRefused at error)
