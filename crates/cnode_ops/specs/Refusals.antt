-- What a removal asks of the slots before it takes any away.
-- seL4 Reference Manual, "Deletion, Revocation, and Recycling"; the refusal is our own.
use Rattle.std.specs.Prelude.{ℕ, ◌≡◌, ◌/◌, ◌^◌, ◌<◌, ◌&&◌, Bool, List, Some, None, false, length, not, true, if◌then◌else◌}
use Rattle.std.specs.Option.{option_map_or}
use Rattle.std.specs.List.{list_any, range_with_len}
use Rattle.cnode_ops.specs.Sets.{listed_in, set_of}
use Rattle.cnode_ops.specs.declared.sets.Removed.{Removed}
use Rattle.model.specs.declared.capabilities.Cap.{Cap}
use Rattle.model.specs.declared.capabilities.Cap.TheVariants.{Empty, Untyped, Endpoint, Notification, CNode, Frame, PageTable, Tcb, RootTable, InterruptControl}
use Rattle.model.specs.declared.capabilities.Cap.TheVariants.{InterruptHandler}
use Rattle.model.specs.Capabilities.CapabilityKinds.{names_object, object_of}
use Rattle.model.specs.Capabilities.Orders.{next_in}
use Rattle.model.specs.Capabilities.Slots.{IsOpen, Slots, capability_at, is_full}

-- no slot after the end of memory is open
abbrev pub AreNear : Slots → List ℕ → Type 0
AreNear slots memory = (slot : ℕ) → IsOpen slots slot → slot < length memory / 16

-- whether one of so many slots from one on passes a test
unfoldable pub some_slot : ℕ → ℕ → (ℕ → Bool) → Bool
some_slot first count test = list_any test (range_with_len first count)

-- whether a slot is full and goes, or is full and stays
abbrev pub goes : Slots → Removed → ℕ → Bool
goes slots set slot = is_full slots slot && set_of slots set slot

-- a slot goes, and none that goes comes after it in the store's order
pub record IsLast (order : List ℕ) (slots : Slots) (set : Removed) (last : ℕ) : Type 0 where
  pub goes_too : goes slots set last ≡ true
  pub none_after : next_in (listed_in order slots set) (Some last) ≡ None

abbrev pub stays : Slots → Removed → ℕ → Bool
stays slots set slot = is_full slots slot && not (set_of slots set slot)

-- of the first so many slots one that stays names the object at an offset
abbrev pub is_named_beside : Slots → ℕ → Removed → ℕ → Bool
is_named_beside slots count set offset = some_slot 0 count (λ slot. names_object offset (capability_at slots slot) && stays slots set slot)

-- how many slots the object has that a capability names
abbrev pub slots_named : Cap → ℕ
slots_named Empty = 0
slots_named (Untyped offset bits watermark) = 0
slots_named (Endpoint offset r badge) = 0
slots_named (Notification offset r badge) = 0
slots_named (CNode offset radix guard) = 2 ^ radix
slots_named (Frame offset r mapping) = 0
slots_named (PageTable offset mapping) = 0
slots_named (Tcb offset) = 3
slots_named (RootTable offset) = 0
slots_named InterruptControl = 0
slots_named (InterruptHandler irq_line) = 0

-- the object that a capability names has a full slot that stays, and no slot that stays names it
abbrev pub is_left_filled : Slots → ℕ → Removed → Cap → Bool
is_left_filled slots count set capability =
    option_map_or (λ offset. some_slot (offset / 16) (slots_named capability) (stays slots set) && not (is_named_beside slots count set offset))
    (object_of capability) false

-- the slots of the object that a capability names, by the first and their number: none, where a slot that stays names it too
abbrev pub own_slots : Slots → ℕ → Removed → Cap → ℕ × ℕ
own_slots slots count set capability =
    option_map_or (λ offset. (offset / 16, if is_named_beside slots count set offset then 0 else slots_named capability)) (object_of capability) (0, 0)

-- whether one of an object's slots passes a test
abbrev pub some_own : ℕ × ℕ → (ℕ → Bool) → Bool
some_own own test = some_slot own.0 own.1 test

-- a slot goes, and what its capability names is left so
abbrev pub refuses : Slots → ℕ → Removed → ℕ → Bool
refuses slots count set slot = goes slots set slot && is_left_filled slots count set (capability_at slots slot)

abbrev pub is_some_left_filled : Slots → ℕ → Removed → Bool
is_some_left_filled slots count set = some_slot 0 count (refuses slots count set)
