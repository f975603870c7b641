use Rattle.std.proofs.Common.{◌≡◌, ◌-◌, ◌+◌}
use Rattle.model.specs.Images.Format.{end_of, many_read}
use Rattle.model.specs.Images.Image.{content_format}
use Rattle.image_reading.proofs.contents.contents_end.Given as goal

abbrev pub invariant-loop : goal.invariant-loop
invariant-loop l =
    end_of (many_read (content_format l.objects) (λ r. r.header.frame + 1) l.least (l.count - l.counter) l.bytes l.at)
    ≡ end_of (many_read (content_format l.objects) (λ r. r.header.frame + 1) 0 l.count l.bytes l.fn.start)
