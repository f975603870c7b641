use Rattle.std.proofs.Common.{◌≡◌, ◌-◌, ◌+◌}
use Rattle.model.specs.Images.Format.{end_of, many_read}
use Rattle.model.specs.Images.Image.{record_format, slots_format}
use Rattle.image_reading.proofs.records.records_end.Given as goal

abbrev pub invariant-loop : goal.invariant-loop
invariant-loop l =
    end_of (many_read (record_format (slots_format l.counts.objects) l.counts.words) (λ r. r.header.point + 1) l.least (l.count - l.counter) l.bytes l.at)
    ≡ end_of (many_read (record_format (slots_format l.counts.objects) l.counts.words) (λ r. r.header.point + 1) 0 l.count l.bytes l.fn.start)
