-- Tests of the ways from point to point, by what is seen of the points of a program.
use Rattle.std.specs.Prelude.{ℕ, ◌+◌, ◌-◌, ◌/◌, Bool, true, false}
use Rattle.std.specs.List.{list_all, range_with_len}
use Rattle.program_rules.specs.Views.{count_of, targets_of, view_at}
use Rattle.program_rules.specs.declared.views.PointView.{PointView}
use Rattle.program_rules.specs.declared.views.PointView.TheVariants.{Unknown, Unclear, GoesOn, Seen}
use Rattle.program_rules.specs.declared.views.PointViews.{PointViews}
use Rattle.program_rules.specs.declared.views.SeenPoint.{SeenPoint}
use Rattle.response.specs.Asking.{Asked, Asks_nothing, asked_known}

abbrev pub asked_seen : SeenPoint → Asked
asked_seen v = asked_known v.call v.capability

-- from a point to each one that a way leads to: one without a state passes, and one that is unclear does not
abbrev pub edges_pass : (Asked → ℕ → ℕ → Bool) → ℕ → ℕ → PointView → Bool
edges_pass test base point Unknown = true
edges_pass test base point Unclear = false
edges_pass test base point GoesOn = test Asks_nothing point (point + 1)
edges_pass test base point (Seen v) = list_all (λ target. test (asked_seen v) point ((target - base) / 4)) (targets_of v)

-- from each point of a program
abbrev pub all_edges_pass : (Asked → ℕ → ℕ → Bool) → ℕ → PointViews → Bool
all_edges_pass test base views = list_all (λ point. edges_pass test base point (view_at views point)) (range_with_len 0 (count_of views))
