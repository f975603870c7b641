-- The lines so far.
use Rattle.responses.proofs.lines.bells_of.Given as goal
use Rattle.responses.specs.Lines.{AreSoFar}

abbrev pub invariant-loop-line : goal.invariant-loop-line
invariant-loop-line l = AreSoFar l.fn.placed.image.now l.line l.bells.items
