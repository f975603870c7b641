-- The numbers so far.
use Rattle.std.proofs.Common.{ℕ, ◌≡◌, ◌==◌, ◌||◌, take}
use Rattle.std.specs.List.{list_any}
use Rattle.model.specs.Acceptance.NotedStates.{number_of}
use Rattle.typestate.specs.Descents.{is_found}
use Rattle.typestate.proofs.levels.note_numbers.Given as goal

abbrev pub invariant-loop-slot : goal.invariant-loop-slot
invariant-loop-slot l = (n : ℕ) → is_found l.numbers.keys n ≡ (is_found l.fn.numbers.keys n || list_any (λ c. number_of c.key == n) (take l.slot-index l.slots))
