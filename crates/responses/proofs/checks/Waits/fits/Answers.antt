-- By what the object costs.
use Rattle.responses.proofs.Weighed.{called-so, sent-so, tried-so}
use Rattle.responses.proofs.checks.Waits.fits.Goals as goal

pub returns-in-SendsTo : goal.returns-in-SendsTo
returns-in-SendsTo c =
    sent-so c.args.self.now.priority c.args.self.now.weights.now c.args.self.now.taken.now c.args.self.now.owed.now c.args.program.now c.args.next c.args.ask
    c.in-SendsTo.object _ c.in-SendsTo.is c.sends_to.ensures

pub returns-in-Calls : goal.returns-in-Calls
returns-in-Calls c =
    called-so c.args.self.now.priority c.args.self.now.weights.now c.args.self.now.taken.now c.args.self.now.owed.now c.args.program.now c.args.next c.args.ask
    c.in-Calls.object _ _ c.waiting_price.ensures c.in-Calls.is c.sends.ensures

pub returns-in-Tries : goal.returns-in-Tries
returns-in-Tries c =
    tried-so c.args.self.now.priority c.args.self.now.weights.now c.args.self.now.taken.now c.args.self.now.owed.now c.args.program.now c.args.next c.args.ask
    c.in-Tries.object _ c.in-Tries.is c.leaves.ensures
