-- So many levels were found.
use Rattle.typestate.specs.Descents.{AreBelow}
use Rattle.typestate.proofs.points.NotedSlots.levels.Given as goal

abbrev pub invariant-loop : goal.invariant-loop
invariant-loop l = AreBelow l.counter l.fn.self l.fn.root l.numbers.keys l.newest.items
