-- Slots that map nothing yet.
use Rattle.std.specs.Prelude.{ℕ, ◌≡◌, ◌==◌, ◌&&◌, Bool, true, false, Some, None}
use Rattle.model.specs.Capabilities.Slots.{Slots, capability_at}
use Rattle.model.specs.declared.capabilities.Cap.{Cap}
use Rattle.model.specs.declared.capabilities.Cap.TheVariants.{Empty, Untyped, Endpoint, Notification, CNode, Frame, PageTable, Tcb, RootTable, InterruptControl}
use Rattle.model.specs.declared.capabilities.Cap.TheVariants.{InterruptHandler}

-- whether a capability maps nothing, and names no other root table than the one and no other page table than the
-- other, this in its own slot alone
abbrev pub maps_nothing : ℕ → ℕ → Bool → Cap → Bool
maps_nothing root table here Empty = true
maps_nothing root table here (Untyped _ _ _) = true
maps_nothing root table here (Endpoint _ _ _) = true
maps_nothing root table here (Notification _ _ _) = true
maps_nothing root table here (CNode _ _ _) = true
maps_nothing root table here (Frame _ _ None) = true
maps_nothing root table here (Frame _ _ (Some _)) = false
maps_nothing root table here (PageTable offset None) = offset == table && here
maps_nothing root table here (PageTable offset (Some _)) = false
maps_nothing root table here (Tcb _) = true
maps_nothing root table here (RootTable offset) = offset == root
maps_nothing root table here InterruptControl = true
maps_nothing root table here (InterruptHandler _) = true

-- no slot maps anything
abbrev pub MapNothing : Slots → ℕ → ℕ → ℕ → Type 0
MapNothing slots root slot table = (y : ℕ) → maps_nothing root table (y == slot) (capability_at slots y) ≡ true
