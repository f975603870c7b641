-- All points so far pass.
use Rattle.std.proofs.Common.{ℕ, ◌≡◌, ◌<◌, true}
use Rattle.program_rules.specs.Views.{view_at}
use Rattle.answering.proofs.tests.Test.holds.Given as goal
use Rattle.answering.specs.Known.{owes_over}
use Rattle.answering.specs.Seen.{edges_pass}

abbrev pub invariant-loop-point : goal.invariant-loop-point
invariant-loop-point l =
    (k : ℕ) → k < l.point → edges_pass (owes_over l.self.thread.now l.self.badge l.self.known.now) l.base k (view_at l.points k) ≡ true
