-- By what the object costs.
use Rattle.responses.proofs.Weighed.{accepts-so, calls-so, rings-so, sends-so, takes-so, tries-so}
use Rattle.responses.proofs.weights.Weights.pay_for.Goals as goal

pub returns-in-Takes : goal.returns-in-Takes
returns-in-Takes c =
    takes-so c.args.self.now c.args.budget c.args.here c.args.next c.args.ask c.in-Takes.object _ c.price_of.ensures _ c.in-Takes.is c.fits.ensures

pub returns-in-Accepts : goal.returns-in-Accepts
returns-in-Accepts c =
    accepts-so c.args.self.now c.args.budget c.args.here c.args.next c.args.ask c.in-Accepts.endpoint _ c.price_of-in-Accepts.ensures _ c.in-Accepts.replies
    c.in-Accepts.is c.fits-in-Accepts.ensures

pub returns-in-Rings : goal.returns-in-Rings
returns-in-Rings c =
    rings-so c.args.self.now c.args.budget c.args.here c.args.next c.args.ask c.in-Rings.object _ c.price_of-in-Rings.ensures _ c.in-Rings.is
    c.fits-in-Rings.ensures

pub returns-in-Tries : goal.returns-in-Tries
returns-in-Tries c =
    tries-so c.args.self.now c.args.budget c.args.here c.args.next c.args.ask c.in-Tries.object _ c.price_of-in-Tries.ensures _ c.in-Tries.is
    c.fits-in-Tries.ensures

pub returns-in-SendsTo : goal.returns-in-SendsTo
returns-in-SendsTo c =
    sends-so c.args.self.now c.args.budget c.args.here c.args.next c.args.ask c.in-SendsTo.object _ c.price_of-in-SendsTo.ensures _ c.in-SendsTo.is
    c.all_fit.ensures

pub returns-in-Calls : goal.returns-in-Calls
returns-in-Calls c =
    calls-so c.args.self.now c.args.budget c.args.here c.args.next c.args.ask c.in-Calls.object _ c.price_of-in-Calls.ensures _ c.in-Calls.is
    c.all_fit-in-Calls.ensures
