-- Each thread by itself.
use Rattle.std.proofs.Common.{ap, sym, ◌∙◌}
use Rattle.model.specs.Images.Image.{slots_format, thread_format}
use Rattle.image.proofs.Lists.{fit-more, fit-none, fit-refused, next_if}
use Rattle.image.proofs.checking.threads_fit.Goals as goal

pub loop-thread-preserved : goal.loop-thread-preserved
loop-thread-preserved c =
    fit-more (λ _. thread_format (slots_format c.args.counts.objects) c.args.version c.args.counts.objects) (λ _. 0) 0 c.args.threads.now
    c.loop-thread.thread-index c.thread-item.result 0 _ c.loop-thread-test.true c.thread-item.is
    (ap (λ b. next_if b 0) (sym c.if-not-thread_fits.false ∙ c.thread_fits.ensures)) c.loop-thread.invariant

pub returns-then-not-thread_fits : goal.returns-then-not-thread_fits
returns-then-not-thread_fits c =
    fit-refused (λ _. thread_format (slots_format c.args.counts.objects) c.args.version c.args.counts.objects) (λ _. 0) 0 c.args.threads.now
    c.loop-thread.thread-index c.thread-item.result _ c.loop-thread-test.true c.thread-item.is
    (ap (λ b. next_if b 0) (sym c.if-not-thread_fits.true ∙ c.thread_fits.ensures)) c.loop-thread.invariant

pub returns : goal.returns
returns c =
    fit-none (λ _. thread_format (slots_format c.args.counts.objects) c.args.version c.args.counts.objects) (λ _. 0) 0 c.args.threads.now
    c.loop-thread.thread-index _ c.loop-thread-test.false c.loop-thread.invariant
