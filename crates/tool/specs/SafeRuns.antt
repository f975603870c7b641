-- What is put of a run whose events are told by names.
use Rattle.std.specs.Prelude.{ℕ, List, Option}
use Rattle.model.specs.declared.events.Event.{Event}
use Rattle.runner.specs.Running.{PutsAll}

-- over some events, the image is accepted and its run is safe, and all lines of its trace were put
abbrev pub PutsSafeRun : List ℕ → Option (List ℕ) → Option (List ℕ) → Type 0
PutsSafeRun bytes old new = (events : List Event) × PutsAll bytes events old new
