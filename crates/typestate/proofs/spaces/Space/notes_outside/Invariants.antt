-- No entry so far is outside.
use Rattle.std.proofs.Common.{◌≡◌}
use Rattle.model.specs.Acceptance.NotedStates.{notes_outside, is_own, entry_key}
use Rattle.std.proofs.Common.{not}
use Rattle.std.specs.List.{list_any}
use Rattle.typestate.specs.Strays.{cnodes_of}
use Rattle.typestate.proofs.spaces.Space.notes_outside.Given as goal

abbrev pub invariant-loop-entry : goal.invariant-loop-entry
invariant-loop-entry l =
    list_any (λ e. not (is_own l.self.image.now (cnodes_of l.self) (entry_key e))) l.entry-iterator ≡ notes_outside l.self.image.now (cnodes_of l.self)
    l.fn.noted
