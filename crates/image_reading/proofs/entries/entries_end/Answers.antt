use Rattle.std.proofs.lemmas.Result.{err_from_is_err_and}
use Rattle.image_reading.proofs.EntryLists.{end_of-more, end_of-refused, end_of-none}
use Rattle.image_reading.proofs.entries.entries_end.Goals as goal

pub returns-in_err-entry : goal.returns-in_err-entry
returns-in_err-entry g c =
    let p = err_from_is_err_and c.from_residual.result c.from_residual.ensures.1 in
    rw (p.1, p.2) (end_of-refused (g.E.Listed.format c.args.counts) g.E.Listed.next c.loop.least c.args.count c.loop.counter c.args.bytes.now c.loop.at
    c.in_err-entry.field-0.0 _ c.loop-test.true c.in_err-entry.ensures.reads c.loop.invariant)

pub loop-preserved : goal.loop-preserved
loop-preserved g c =
    rw c.least_after-least.ensures (end_of-more (g.E.Listed.format c.args.counts) g.E.Listed.next c.loop.least c.args.count c.loop.counter c.args.bytes.now
    c.loop.at
    (c.in_ok-entry.entry, c.in_ok-entry.next) _ c.loop-test.true c.in_ok-entry.ensures.reads c.loop.invariant)

pub returns : goal.returns
returns g c =
    end_of-none (g.E.Listed.format c.args.counts) g.E.Listed.next c.loop.least c.args.count c.loop.counter c.args.bytes.now c.loop.at
    _ c.loop-test.false c.loop.invariant
