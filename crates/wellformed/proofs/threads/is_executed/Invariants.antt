-- What is left of the mappings decides.
use Rattle.std.proofs.Common.{◌≡◌, ◌==◌, ◌&&◌}
use Rattle.std.specs.List.{list_any}
use Rattle.model.specs.Acceptance.WellFormed.{executes}
use Rattle.wellformed.proofs.threads.is_executed.Given as goal

abbrev pub invariant-loop-entry : goal.invariant-loop-entry
invariant-loop-entry l =
    list_any (λ f. f.frame == l.fn.frame && executes f) l.entry-iterator ≡ list_any (λ f. f.frame == l.fn.frame && executes f) l.fn.image.frames
