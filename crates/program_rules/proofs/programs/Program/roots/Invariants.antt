use Rattle.part_roots.specs.Rooted.{AreRooted}
use Rattle.program_rules.proofs.programs.Program.roots.Given as goal

abbrev pub invariant-places : goal.invariant-places
invariant-places l = AreRooted l.fn.self.given.slots.now l.fn.points.log l.roots
