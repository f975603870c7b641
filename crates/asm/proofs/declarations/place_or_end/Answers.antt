use Rattle.asm.specs.Sections.{on_line}
use Rattle.asm.proofs.Positions.{found-at, found-nowhere}
use Rattle.asm.proofs.declarations.place_or_end.Goals as goal

pub returns-in-Some : goal.returns-in-Some
returns-in-Some c = found-at (on_line c.args.line) c.args.interrupts.now c.in-Some.place c.in-Some.ensures

pub returns-in-None : goal.returns-in-None
returns-in-None c = found-nowhere (on_line c.args.line) c.args.interrupts.now c.in-None.ensures
