-- By one line more.
use Rattle.response_lines.proofs.Keeps.{grown}
use Rattle.response_lines.proofs.keeping.kept_of.Goals as goal

pub loop-one-preserved : goal.loop-one-preserved
loop-one-preserved c =
    grown c.args.rows.now c.loop-one.kept.items _ c.in-Some.found c.kept_for.result c.loop-one.invariant c.kept_for.ensures c.in-Some.is
    c.in_ok-push.ensures.items
