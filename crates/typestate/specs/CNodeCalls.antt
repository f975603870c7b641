-- Calls on CNodes, step by step.
use Rattle.std.specs.Prelude.{ℕ, ◌≡◌, Bool, false, Some, Result, Ok, Err, List, if◌then◌else◌}
use Rattle.model.specs.declared.capabilities.Cap.{Cap}
use Rattle.model.specs.declared.errors.KError.{KError}
use Rattle.model.specs.declared.errors.KError.TheVariants.{IllegalOperation}
use Rattle.model.specs.declared.invocations.CNodeCall.{CNodeCall}
use Rattle.model.specs.declared.invocations.Invocation.TheVariants.{OnCNode}
use Rattle.model.specs.declared.invocations.SlotName.{SlotName}
use Rattle.model.specs.declared.refusals.Point.{Point}
use Rattle.model.specs.declared.refusals.Refusal.{Refusal}
use Rattle.model.specs.declared.refusals.Refusal.TheVariants.{CallRefused}
use Rattle.model.specs.Acceptance.NotedKernel.{key_of, noted_after}
use Rattle.model.specs.Acceptance.NotedStates.{NotedSlot, SlotKey}
use Rattle.model.specs.Acceptance.ThreadRules.{reached}
use Rattle.model.specs.Capabilities.Slots.{Slots, capability_at, inserted, is_empty, is_full}
use Rattle.model.specs.Images.Image.{Image, Thread}
use Rattle.model.specs.Kernel.Arguments.{◌>>=◌, argument_slot, destination_slot, may_have_child, source_slot}
use Rattle.typestate.specs.declared.cnode_calls.Ends.{Ends}
use Rattle.typestate.specs.Calls.{call_on}
use Rattle.typestate.specs.SlotChanges.{slots_after}

-- a slot that an argument names, by its key, and the capability in it
abbrev pub NamesSlot : Image → Thread → Slots → Result ℕ KError → Result (SlotKey × Cap) KError → Type 0
NamesSlot image t slots (Ok slot) (Ok found) = (key_of image (reached image t) slot ≡ Some found.0) × (capability_at slots slot ≡ found.1)
NamesSlot image t slots (Ok slot) (Err error) = ⊥
NamesSlot image t slots (Err error) (Ok found) = ⊥
NamesSlot image t slots (Err error) (Err other) = error ≡ other

-- an empty destination and a full source
abbrev pub ends_of : Slots → Cap → Cap → SlotName → SlotName → Result (ℕ × ℕ) KError
ends_of slots capability root destination_name source_name = do
  destination ← destination_slot slots capability destination_name
  source ← source_slot slots root source_name
  Ok (destination, source)

-- both by their keys
pub record AreEnds (image : Image) (t : Thread) (slots : Slots) (root : Cap) (source_name : SlotName) (destination source : ℕ) (ends : Ends) : Type 0 where
  pub to : key_of image (reached image t) destination ≡ Some ends.to
  pub vacant : is_full slots destination ≡ false
  pub from : key_of image (reached image t) source ≡ Some ends.from
  pub held : capability_at slots source ≡ ends.held
  pub full : is_empty ends.held ≡ false
  pub named : argument_slot slots root source_name ≡ Ok source

abbrev pub NamesEnds : Image → Thread → Slots → Cap → SlotName → Result (ℕ × ℕ) KError → Result Ends KError → Type 0
NamesEnds image t slots root source_name (Ok places) (Ok ends) = AreEnds image t slots root source_name places.0 places.1 ends
NamesEnds image t slots root source_name (Ok places) (Err error) = ⊥
NamesEnds image t slots root source_name (Err error) (Ok ends) = ⊥
NamesEnds image t slots root source_name (Err error) (Err other) = error ≡ other

-- the slots behind a call that the kernel allows, if its source may travel
abbrev pub allowed_slots : Image → Thread → Point → Bool → Result Slots KError → Result (List NotedSlot) Refusal
allowed_slots image t at travels (Err error) = Err (CallRefused at error)
allowed_slots image t at travels (Ok after) = if travels then Ok (noted_after image t after) else Err (CallRefused at IllegalOperation)

-- a child of a source at a destination
abbrev pub with_child : Slots → ℕ → ℕ → Result Cap KError → Result Slots KError
with_child slots destination source made = do
  capability ← made
  _ ← may_have_child slots source
  Ok (inserted slots destination capability (Some source))

-- what a call on a CNode leaves of the slots
abbrev pub cnode_after : Image → Thread → Point → List NotedSlot → Cap → CNodeCall → Result (List NotedSlot) Refusal
cnode_after image t at slots capability call = slots_after image t at slots (call_on image t 0 capability) (OnCNode call)
