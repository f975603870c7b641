-- The parts of the kernel, and the state that they represent.
-- seL4 Reference Manual, "System Bootstrapping".
use Rattle.std.specs.Prelude.{ℕ, ◌≡◌, ◌+◌, ◌*◌, ◌%◌, ◌^◌, ◌==◌, ◌<◌, ◌&&◌, nat_le, nat_lt, Bool, true, false, if◌then◌else◌, Option, Some, None, option_map}
use Rattle.std.specs.Prelude.{slice_index}
use Rattle.cnode_ops.specs.Refusals.{some_slot}
use Rattle.kernel_machine.specs.Stores.{Store, bytes_of, slots_of}
use Rattle.objects.specs.Lives as lives
use Rattle.model.specs.Capabilities.Slots.{Slots, capability_at}
use Rattle.model.specs.Kernel.Removal.{slot_count}
use Rattle.model.specs.Kernel.Setup.{memory_end}
use Rattle.model.specs.Kernel.State.{State, ThreadState, slot_of}
use Rattle.model.specs.declared.capabilities.Cap.{Cap}
use Rattle.model.specs.declared.slot_entries.Entry.{Entry}

-- the store, and the tables of objects
abbrev pub Parts : Type 0
Parts = lives.Parts Store

-- the state that they represent
abbrev pub state_in : Parts → State
state_in parts = lives.state_in slots_of bytes_of parts

-- what an operation answers and leaves: nothing changes where its definition gives nothing
abbrev pub GivesIf : Option State → Bool → Parts → Parts → Type 0
GivesIf defined true before after = defined ≡ Some (state_in after)
GivesIf defined false before after = (defined ≡ None) × (after ≡ before)

-- ---- to look

-- the program counter of a thread, or one of its registers 1 to 31
abbrev pub register_in : ThreadState → ℕ → Option ℕ
register_in t index =
    if index == 0 then Some t.registers.pc
    else if nat_le index 31 then Some (slice_index t.registers.words index) else None

-- how many slots a holder has: the boot CNode at 0, the interrupt table after it, and each CNode and thread where it starts
abbrev pub slots_of_holder : State → ℕ → ℕ
slots_of_holder s holder =
    if holder == 0 then 2 ^ s.boot_radix
    else if holder == 16 * 2 ^ s.boot_radix then 64 else slot_count (s.objects holder)

-- what slot `index` of a holder holds, if it has so many
abbrev pub slot_in : State → ℕ → ℕ → Option Entry
slot_in s holder index = if nat_lt index (slots_of_holder s holder) then s.slots (slot_of holder index) else None

-- a slot as (holder, index): its number, and that the holder has it
abbrev pub number_of : (ℕ × ℕ) → ℕ
number_of place = slot_of place.0 place.1

abbrev pub IsPlace : State → (ℕ × ℕ) → Type 0
IsPlace s place = place.1 < slots_of_holder s place.0

-- a capability and the slot that it was derived from, by the slot's number, or by holder and index
abbrev pub entry_of : (Cap × Option ℕ) → Entry
entry_of held = record { capability = held.0; parent = held.1 }

abbrev pub seen_entry : (Cap × Option (ℕ × ℕ)) → Entry
seen_entry seen = record { capability = seen.0; parent = option_map number_of seen.1 }

-- ---- where untyped memory may lie

-- 2^4 to 2^24 bytes, aligned, of so many
abbrev pub is_piece : ℕ → ℕ → ℕ → Bool
is_piece size offset bits = nat_le 4 bits && nat_le bits 24 && (offset % 2 ^ bits == 0) && nat_le (offset + 2 ^ bits) size

-- one of so many slots names memory that ends after an offset
abbrev pub reaches_behind : Slots → ℕ → ℕ → Bool
reaches_behind slots count offset = some_slot 0 count (λ slot. nat_lt offset (memory_end (capability_at slots slot)))
