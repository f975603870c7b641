use Rattle.std.proofs.Common.{◌≡◌, ◌-◌, ◌+◌}
use Rattle.model.specs.Images.Format.{end_of, many_read}
use Rattle.model.specs.Images.Image.{promise_format}
use Rattle.image_reading.proofs.promises.promises_end.Given as goal

abbrev pub invariant-loop : goal.invariant-loop
invariant-loop l =
    end_of (many_read (promise_format l.counts.objects) (λ r. r.header.endpoint + 1) l.least (l.count - l.counter) l.bytes l.at)
    ≡ end_of (many_read (promise_format l.counts.objects) (λ r. r.header.endpoint + 1) 0 l.count l.bytes l.fn.start)
