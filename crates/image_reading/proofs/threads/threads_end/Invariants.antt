use Rattle.std.proofs.Common.{◌≡◌, ◌-◌}
use Rattle.model.specs.Images.Format.{end_of, many_read}
use Rattle.model.specs.Images.Image.{slots_format, thread_format}
use Rattle.image_reading.proofs.threads.threads_end.Given as goal

abbrev pub invariant-loop : goal.invariant-loop
invariant-loop l =
    end_of (many_read (λ _. thread_format (slots_format l.counts.objects) l.version l.counts.objects) (λ _. 0) 0 (l.count - l.counter) l.bytes l.at)
    ≡ end_of (many_read (λ _. thread_format (slots_format l.counts.objects) l.version l.counts.objects) (λ _. 0) 0 l.count l.bytes l.fn.start)
