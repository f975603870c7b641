-- The labels of so many steps are seen.
use Rattle.std.proofs.Common.{◌≡◌, ◌++◌, replicate}
use Rattle.std.specs.List.{flat_map}
use Rattle.model.specs.declared.labels.Label.TheVariants.{Idle}
use Rattle.kernel.proofs.runs.put_idle.Given as goal

abbrev pub invariant-steps : goal.invariant-steps
invariant-steps g l = g.L.Labels.seen l.labels ≡ g.L.Labels.seen l.fn.labels ++ flat_map g.L.Labels.kept (replicate l.done Idle)
