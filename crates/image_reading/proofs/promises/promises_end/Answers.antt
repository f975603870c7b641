use Rattle.std.proofs.Common.{◌+◌}
use Rattle.std.proofs.lemmas.Result.{err_from_is_err_and}
use Rattle.model.specs.Images.Image.{promise_format}
use Rattle.image_reading.proofs.EntryLists.{end_of-more, end_of-refused, end_of-none}
use Rattle.image_reading.proofs.promises.promises_end.Goals as goal

pub returns-in_err-promise : goal.returns-in_err-promise
returns-in_err-promise c =
    let p = err_from_is_err_and c.from_residual.result c.from_residual.ensures.1 in
    rw (p.1, p.2) (end_of-refused (promise_format c.args.counts.objects) (λ r. r.header.endpoint + 1) c.loop.least c.args.count c.loop.counter c.args.bytes.now
    c.loop.at
    c.in_err-promise.field-0.0 _ c.loop-test.true c.in_err-promise.ensures c.loop.invariant)

pub loop-preserved : goal.loop-preserved
loop-preserved c =
    rw (c.from-least.ensures, c.header.ensures)
    (end_of-more (promise_format c.args.counts.objects) (λ r. r.header.endpoint + 1) c.loop.least c.args.count c.loop.counter c.args.bytes.now c.loop.at
    (c.in_ok-promise.promise, c.in_ok-promise.next) _ c.loop-test.true c.in_ok-promise.ensures c.loop.invariant)

pub returns : goal.returns
returns c =
    end_of-none (promise_format c.args.counts.objects) (λ r. r.header.endpoint + 1) c.loop.least c.args.count c.loop.counter c.args.bytes.now c.loop.at
    _ c.loop-test.false c.loop.invariant
