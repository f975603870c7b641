-- All points were looked at.
use Rattle.std.proofs.Common.{ℕ, arith}
use Rattle.program_rules.specs.Views.{count_of, view_at}
use Rattle.answering.proofs.Points.{all-below}
use Rattle.answering.proofs.tests.Test.holds.Goals as goal
use Rattle.answering.specs.Known.{owes_over}
use Rattle.answering.specs.Seen.{edges_pass}

pub returns : goal.returns
returns c = λ _.
    let points = c.args.points.now in
    all-below
    (λ (k : ℕ). edges_pass (owes_over c.args.self.now.thread.now c.args.self.now.badge c.args.self.now.known.now) c.args.base k (view_at points k))
    (count_of points)
    (λ k less.
    let count = c.len-point-end.ensures in
    let past = c.loop-point-test.false in
    c.loop-point.invariant k (omega (arith, less, count, past)))
