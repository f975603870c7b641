use Rattle.std.proofs.Common.{◌≡◌, ◌-◌}
use Rattle.model.specs.Images.Format.{end_of, many_read}
use Rattle.image_reading.proofs.entries.entries_end.Given as goal

abbrev pub invariant-loop : goal.invariant-loop
invariant-loop g l =
    end_of (many_read (g.E.Listed.format l.counts) g.E.Listed.next l.least (l.count - l.counter) l.bytes l.at)
    ≡ end_of (many_read (g.E.Listed.format l.counts) g.E.Listed.next l.first l.count l.bytes l.fn.start)
