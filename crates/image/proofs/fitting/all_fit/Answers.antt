use Rattle.image.proofs.Lists.{fit-more, fit-none, fit-refused}
use Rattle.image.proofs.fitting.all_fit.Goals as goal

pub loop-entry-preserved : goal.loop-entry-preserved
loop-entry-preserved g c =
    fit-more (g.E.Listed.format c.args.counts) g.E.Listed.next c.loop-entry.least c.args.entries.now c.loop-entry.entry-index c.entry-item.result c.in-Some.next
    _ c.loop-entry-test.true c.entry-item.is c.in-Some.ensures c.loop-entry.invariant

pub returns-in-None : goal.returns-in-None
returns-in-None g c =
    fit-refused (g.E.Listed.format c.args.counts) g.E.Listed.next c.loop-entry.least c.args.entries.now c.loop-entry.entry-index c.entry-item.result
    _ c.loop-entry-test.true c.entry-item.is c.in-None.ensures c.loop-entry.invariant

pub returns : goal.returns
returns g c =
    fit-none (g.E.Listed.format c.args.counts) g.E.Listed.next c.loop-entry.least c.args.entries.now c.loop-entry.entry-index
    _ c.loop-entry-test.false c.loop-entry.invariant
