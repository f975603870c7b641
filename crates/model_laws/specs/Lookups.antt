-- Capability lookup as a relation: what a root, an address and the bits that are left lead to.
use Rattle.std.specs.Prelude.{ℕ, ◌≡◌, ◌==◌, ◌+◌, ◌/◌, ◌||◌, true, false, not, Result, Ok, Err}
use Rattle.model.specs.declared.capabilities.Cap.{Cap}
use Rattle.model.specs.declared.capabilities.Cap.TheVariants.{CNode}
use Rattle.model.specs.declared.lookup_failures.LookupFailure.{LookupFailure}
use Rattle.model.specs.declared.lookup_failures.LookupFailure.TheVariants.{InvalidRoot}
use Rattle.model.specs.Capabilities.Lookup.{is_cnode, resolve}
use Rattle.model.specs.Capabilities.Slots.{Slots, capability_at}

-- the slot of an index under a CNode
abbrev pub slot_under : ℕ → ℕ × ℕ → ℕ
slot_under offset place = offset / 16 + place.0

pub data LeadsTo (slots : Slots) (address : ℕ) : Cap → ℕ → Result (ℕ × ℕ) LookupFailure → Type 0 where
  -- the root is no CNode
  no_cnode : (root : Cap) (left : ℕ) → is_cnode root ≡ false → LeadsTo slots address root left (Err InvalidRoot)
  -- the CNode takes more bits than are left, or has another guard
  unresolved : (offset radix guard left : ℕ) (failure : LookupFailure) → resolve radix guard address left ≡ Err failure
      → LeadsTo slots address (CNode offset radix guard) left (Err failure)
  -- no bits are left, or the slot holds no CNode
  ends : (offset radix guard left : ℕ) (place : ℕ × ℕ) → resolve radix guard address left ≡ Ok place
      → (place.1 == 0 || not (is_cnode (capability_at slots (slot_under offset place)))) ≡ true
      → LeadsTo slots address (CNode offset radix guard) left (Ok (slot_under offset place, place.1))
  -- the slot holds a CNode, which takes the bits that are left
  goes_on : (offset radix guard left : ℕ) (place : ℕ × ℕ) (found : Result (ℕ × ℕ) LookupFailure) → resolve radix guard address left ≡ Ok place
      → (place.1 == 0 || not (is_cnode (capability_at slots (slot_under offset place)))) ≡ false
      → LeadsTo slots address (capability_at slots (slot_under offset place)) place.1 found
      → LeadsTo slots address (CNode offset radix guard) left found
