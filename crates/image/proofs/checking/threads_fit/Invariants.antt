use Rattle.std.proofs.Common.{◌≡◌, ◌-◌, length, drop}
use Rattle.model.specs.Images.Format.{many_fit}
use Rattle.model.specs.Images.Image.{slots_format, thread_format}
use Rattle.image.proofs.checking.threads_fit.Given as goal

abbrev pub invariant-loop-thread : goal.invariant-loop-thread
invariant-loop-thread l =
    many_fit (λ _. thread_format (slots_format l.counts.objects) l.version l.counts.objects) (λ _. 0) 0 (length l.threads - l.thread-index)
    (drop l.thread-index l.threads)
    ≡ many_fit (λ _. thread_format (slots_format l.counts.objects) l.version l.counts.objects) (λ _. 0) 0 (length l.threads) l.threads
