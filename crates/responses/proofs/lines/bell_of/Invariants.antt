-- The interrupt is found among those that are left.
use Rattle.std.proofs.Common.{◌≡◌, ◌==◌, drop}
use Rattle.std.specs.Prelude.{find}
use Rattle.responses.proofs.lines.bell_of.Given as goal

abbrev pub invariant-loop-number : goal.invariant-loop-number
invariant-loop-number l =
    find (λ i. i.line == l.line) (drop l.number l.fn.placed.image.now.interrupts) ≡ find (λ i. i.line == l.line) l.fn.placed.image.now.interrupts
