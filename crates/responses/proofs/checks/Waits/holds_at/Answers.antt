-- By where the thread goes on.
use Rattle.responses.proofs.Weighed.{run-so}
use Rattle.responses.proofs.checks.Waits.holds_at.Goals as goal

pub returns : goal.returns
returns c =
    run-so c.args.self.now.priority c.args.self.now.weights.now c.args.self.now.taken.now c.args.self.now.owed.now c.args.program.now c.args.run.now
    c.next_place.result c.fits.result c.if-not-run.false c.next_place.ensures c.fits.ensures
