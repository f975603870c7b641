-- No slot so far holds a handler of the line.
use Rattle.std.proofs.Common.{ℕ, ◌≡◌, ◌<◌, false}
use Rattle.model.specs.Capabilities.CapabilityKinds.{is_handler_of}
use Rattle.model.specs.Capabilities.Slots.{capability_at}
use Rattle.slots.proofs.stores.SlotStore.is_handled.Given as goal

abbrev pub invariant-slots : goal.invariant-slots
invariant-slots g l = (slot : ℕ) → slot < l.number → is_handler_of l.line (capability_at (g.Self.SlotMap.slots l.self) slot) ≡ false
