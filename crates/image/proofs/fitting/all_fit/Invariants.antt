use Rattle.std.proofs.Common.{◌≡◌, ◌-◌, length, drop}
use Rattle.model.specs.Images.Format.{many_fit}
use Rattle.image.proofs.fitting.all_fit.Given as goal

abbrev pub invariant-loop-entry : goal.invariant-loop-entry
invariant-loop-entry g l =
    many_fit (g.E.Listed.format l.counts) g.E.Listed.next l.least (length l.entries - l.entry-index) (drop l.entry-index l.entries)
    ≡ many_fit (g.E.Listed.format l.counts) g.E.Listed.next l.fn.first (length l.entries) l.entries
