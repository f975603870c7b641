-- No slot so far is one that the thread may not have.
use Rattle.std.proofs.Common.{◌≡◌, drop}
use Rattle.std.specs.List.{list_any}
use Rattle.typestate.specs.Differences.{slots_of}
use Rattle.typestate.specs.Strays.{is_stray_at}
use Rattle.typestate.proofs.spaces.Space.one_stray.Given as goal

abbrev pub invariant-loop-slot : goal.invariant-loop-slot
invariant-loop-slot l = list_any (λ k. is_stray_at l.self (slots_of l.slots) k.key) (drop l.slot-index l.keys) ≡ list_any
    (λ k. is_stray_at l.self (slots_of l.slots) k.key) l.fn.keys
