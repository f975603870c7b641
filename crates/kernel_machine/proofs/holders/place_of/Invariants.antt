-- No place so far has a slot.
use Rattle.std.proofs.Common.{ℕ, ◌*◌, ◌-◌, ◌<◌, ◌≤◌}
use Rattle.kernel_machine.proofs.holders.place_of.Given as goal
use Rattle.kernel_machine.specs.Setups.{slots_of_holder}
use Rattle.objects.specs.Lives.{state_in}

abbrev pub invariant-slots : goal.invariant-slots
invariant-slots g l =
    (earlier : ℕ) → earlier < l.index → slots_of_holder (state_in g.S.SlotMap.slots g.S.SlotStore.memory l.kernel) (16 * (l.number - earlier)) ≤ earlier
