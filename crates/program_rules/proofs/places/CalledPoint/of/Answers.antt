-- The call was tried.
use Rattle.program_rules.proofs.Placed.{called-leads}
use Rattle.program_rules.proofs.places.CalledPoint.of.Goals as goal

pub returns-then-is_same : goal.returns-then-is_same
returns-then-is_same c =
    called-leads c.args.program.now.given.space.thread.now.header.budget _ c.args.before.now c.args.after.now _ c.in_ok-next.ensures.called
    (c.is_same.ensures c.if-is_same.true)
