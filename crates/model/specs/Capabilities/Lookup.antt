-- Capability lookup: which slot an address names in a capability space.
-- seL4 Reference Manual, "Capability Space Addressing".
use Rattle.std.specs.Prelude.{ℕ, zero, suc, ◌==◌, ◌+◌, ◌-◌, ◌/◌, ◌%◌, ◌^◌, ◌||◌, Bool, true, false, not, nat_lt, if◌then◌else◌, Result, Ok, Err}
use Rattle.model.specs.Capabilities.Slots.{Slots, capability_at, is_full}
use Rattle.model.specs.declared.capabilities.Cap.{Cap}
use Rattle.model.specs.declared.capabilities.Cap.TheVariants.{Empty, Untyped, Endpoint, Notification, CNode, Frame, PageTable, Tcb, RootTable, InterruptControl}
use Rattle.model.specs.declared.capabilities.Cap.TheVariants.{InterruptHandler}
use Rattle.model.specs.declared.lookup_failures.LookupFailure.{LookupFailure}
use Rattle.model.specs.declared.lookup_failures.LookupFailure.TheVariants.{InvalidRoot, MissingCapability, DepthMismatch, GuardMismatch}

-- one CNode takes its guard and then its index from the high end of the bits that are left: the index,
-- and how many bits are left after it
abbrev pub resolve : ℕ → ℕ → ℕ → ℕ → Result (ℕ × ℕ) LookupFailure
resolve radix guard_word address left =
    let size = guard_word % 2 ^ 5 in
    let rest = left - (size + radix) in
    if nat_lt left size then Err (GuardMismatch left)
    else if not (address / 2 ^ (left - size) % 2 ^ size == guard_word / 2 ^ 5) then Err (GuardMismatch left)
    else if nat_lt left (size + radix) then Err (DepthMismatch left)
    else Ok (address / 2 ^ rest % 2 ^ radix, rest)

abbrev pub is_cnode : Cap → Bool
is_cnode Empty = false
is_cnode (Untyped _ _ _) = false
is_cnode (Endpoint _ _ _) = false
is_cnode (Notification _ _ _) = false
is_cnode (CNode _ _ _) = true
is_cnode (Frame _ _ _) = false
is_cnode (PageTable _ _) = false
is_cnode (Tcb _) = false
is_cnode (RootTable _) = false
is_cnode InterruptControl = false
is_cnode (InterruptHandler _) = false

-- after a CNode the lookup ends where no bits are left or the slot holds no CNode, and else goes on
abbrev pub go_on : Slots → ℕ → (Cap → ℕ → Result (ℕ × ℕ) LookupFailure) → Result (ℕ × ℕ) LookupFailure → Result (ℕ × ℕ) LookupFailure
go_on slots offset next (Err failure) = Err failure
go_on slots offset next (Ok place) =
    let slot = offset / 16 + place.0 in
    let held = capability_at slots slot in
    if place.1 == 0 || not (is_cnode held) then Ok (slot, place.1) else next held place.1

-- the lookup of the low bits of an address, through at most so many CNodes
unfoldable pub lookup_within : ℕ → Slots → Cap → ℕ → ℕ → Result (ℕ × ℕ) LookupFailure
lookup_within zero slots root address left = Err (DepthMismatch left)
lookup_within (suc n) slots (CNode offset radix guard_word) address left =
    go_on slots offset (λ held rest. lookup_within n slots held address rest) (resolve radix guard_word address left)
lookup_within (suc n) slots _ address left = Err InvalidRoot

-- the slot that the low `depth` bits of an address name, and how many bits are left after it; each CNode
-- takes at least one bit
abbrev pub lookup : Slots → Cap → ℕ → ℕ → Result (ℕ × ℕ) LookupFailure
lookup slots root address depth = lookup_within (suc depth) slots root address depth

-- the slot that a system call names: all 32 bits of the address are there to be used, what is left over is ignored, and
-- an empty slot is a missing capability
abbrev pub called : Slots → Result (ℕ × ℕ) LookupFailure → Result ℕ LookupFailure
called slots (Ok found) = if is_full slots found.0 then Ok found.0 else Err MissingCapability
called slots (Err failure) = Err failure

abbrev pub called_slot : Slots → Cap → ℕ → Result ℕ LookupFailure
called_slot slots root address = called slots (lookup slots root address 32)
