-- Tests of what the runs of a program ask, and of the ways from one to another.
use Rattle.std.specs.Prelude.{ℕ, ◌&&◌, Bool}
use Rattle.std.specs.List.{list_all}
use Rattle.response.specs.Asking.{Asked}
use Rattle.responses.specs.Asks.{asked}
use Rattle.responses.specs.Outlines.{targets_of}
use Rattle.responses.specs.declared.outlines.Outline.{Outline}
use Rattle.responses.specs.declared.outlines.Run.{Run}

-- what is unclear does not pass
abbrev pub run_passes : (Asked → Bool) → Run → Bool
run_passes test r = r.is_clear && test (asked r.ask)

-- so of all runs
abbrev pub asks_all : (Asked → Bool) → Outline → Bool
asks_all test o = list_all (run_passes test) o.runs.items

-- from a run to each one that a way leads to
abbrev pub edges_pass : (Asked → ℕ → ℕ → Bool) → Run → Bool
edges_pass test r = r.is_clear && list_all (test (asked r.ask) r.place) (targets_of r)

-- so of all runs
abbrev pub leads_so : (Asked → ℕ → ℕ → Bool) → Outline → Bool
leads_so test o = list_all (edges_pass test) o.runs.items
