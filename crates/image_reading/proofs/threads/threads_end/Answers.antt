use Rattle.std.proofs.lemmas.Result.{err_from_is_err_and}
use Rattle.model.specs.Images.Image.{slots_format, thread_format}
use Rattle.image_reading.proofs.EntryLists.{end_of-more, end_of-refused, end_of-none}
use Rattle.image_reading.proofs.threads.threads_end.Goals as goal

pub returns-in_err-_thread : goal.returns-in_err-_thread
returns-in_err-_thread c =
    let p = err_from_is_err_and c.from_residual.result c.from_residual.ensures.1 in
    rw (p.1, p.2) (end_of-refused (λ _. thread_format (slots_format c.args.counts.objects) c.args.version c.args.counts.objects) (λ _. 0) 0 c.args.count
    c.loop.counter
    c.args.bytes.now c.loop.at
    c.in_err-_thread.field-0.0 _ c.loop-test.true c.in_err-_thread.ensures c.loop.invariant)

pub loop-preserved : goal.loop-preserved
loop-preserved c =
    (end_of-more (λ _. thread_format (slots_format c.args.counts.objects) c.args.version c.args.counts.objects) (λ _. 0) 0 c.args.count c.loop.counter
    c.args.bytes.now
    c.loop.at
    (c.in_ok-_thread._thread, c.in_ok-_thread.next) _ c.loop-test.true c.in_ok-_thread.ensures c.loop.invariant)

pub returns : goal.returns
returns c =
    end_of-none (λ _. thread_format (slots_format c.args.counts.objects) c.args.version c.args.counts.objects) (λ _. 0) 0 c.args.count c.loop.counter
    c.args.bytes.now
    c.loop.at
    _ c.loop-test.false c.loop.invariant
