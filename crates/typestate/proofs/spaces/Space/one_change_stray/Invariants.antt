-- What is left of the changes decides.
use Rattle.std.proofs.Common.{◌≡◌}
use Rattle.std.specs.List.{list_any}
use Rattle.typestate.specs.Differences.{slots_of}
use Rattle.typestate.specs.Strays.{is_stray_at}
use Rattle.typestate.proofs.spaces.Space.one_change_stray.Given as goal

abbrev pub invariant-loop-change : goal.invariant-loop-change
invariant-loop-change l =
    list_any (λ k. is_stray_at l.fn.self (slots_of l.fn.slots) k.key) l.change-iterator ≡ list_any (λ k. is_stray_at l.fn.self (slots_of l.fn.slots) k.key)
    l.fn.slots.changes.now
