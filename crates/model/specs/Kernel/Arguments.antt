-- The arguments of a call: checks one after another, and the slots that it names.
-- seL4 Reference Manual, "Capability Space Addressing", for slots that are named by an address and a depth.
use Rattle.std.specs.Prelude.{ℕ, ◌==◌, ◌&&◌, Bool, not, nat_le, nat_lt, if◌then◌else◌, Option, Some, None, Result, Ok, Err}
use Rattle.model.specs.declared.capabilities.Cap.{Cap}
use Rattle.model.specs.declared.errors.KError.{KError}
use Rattle.model.specs.declared.errors.KError.TheVariants.{FailedLookup, RangeError, DeleteFirst, IllegalOperation}
use Rattle.model.specs.declared.invocations.SlotName.{SlotName}
use Rattle.model.specs.declared.lookup_failures.LookupFailure.{LookupFailure}
use Rattle.model.specs.Capabilities.Lookup.{lookup}
use Rattle.model.specs.Capabilities.Slots.{Slots, depth_of, is_full}

-- ---- checks: the first that fails gives the error

infixl 10 ◌>>=◌
abbrev pub ◌>>=◌ : {A B : Type 0} → Result A KError → (A → Result B KError) → Result B KError
(Ok x) >>= f = f x
(Err e) >>= f = Err e

-- goes on where the test holds
abbrev pub check : Bool → KError → Result (Unit {0}) KError
check test error = if test then Ok tt else Err error

-- what there is, or the error
abbrev pub wanted : {A : Type 0} → Option A → KError → Result A KError
wanted (Some x) error = Ok x
wanted None error = Err error

-- ---- argument slots: an address, and how many of its low bits count

-- a lookup names a slot only where it used all bits
abbrev pub whole : Result (ℕ × ℕ) LookupFailure → Result ℕ KError
whole (Ok found) = if found.1 == 0 then Ok found.0 else Err FailedLookup
whole (Err failure) = Err FailedLookup

-- the slot of this name under a CNode; 1 to 32 bits count
abbrev pub argument_slot : Slots → Cap → SlotName → Result ℕ KError
argument_slot slots root name = do
  _ ← check (nat_lt 0 name.depth && nat_le name.depth 32) RangeError
  whole (lookup slots root name.address name.depth)

-- the same for a slot that has to hold a capability
abbrev pub source_slot : Slots → Cap → SlotName → Result ℕ KError
source_slot slots root name = do
  slot ← argument_slot slots root name
  _ ← check (is_full slots slot) FailedLookup
  Ok slot

-- the same for a slot that has to be empty
abbrev pub destination_slot : Slots → Cap → SlotName → Result ℕ KError
destination_slot slots root name = do
  slot ← argument_slot slots root name
  _ ← check (not (is_full slots slot)) DeleteFirst
  Ok slot

-- a child may hang below the slot: no depth is above 255
abbrev pub may_have_child : Slots → ℕ → Result (Unit {0}) KError
may_have_child slots slot = check (nat_lt (depth_of slots slot) 255) IllegalOperation

-- ---- the context of a call on a capability

pub record Call : Type 0 where
  -- the root of the capability space in which the call names slots
  pub root : Cap
  -- the thread that calls; nobody where the system is set up
  pub caller : Option ℕ
  -- the invoked capability, and the slot that holds it
  pub slot : ℕ
  pub capability : Cap
