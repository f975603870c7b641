-- What is left of the capabilities decides.
use Rattle.std.proofs.Common.{◌≡◌, ◌==◌}
use Rattle.std.specs.List.{list_any}
use Rattle.wellformed.proofs.threads.is_source.Given as goal

abbrev pub invariant-loop-entry : goal.invariant-loop-entry
invariant-loop-entry l = list_any (λ c. c.source == l.fn.object) l.entry-iterator ≡ list_any (λ c. c.source == l.fn.object) l.fn.image.capabilities
