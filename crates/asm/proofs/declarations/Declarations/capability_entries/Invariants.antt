use Rattle.std.proofs.Common.{◌≡◌, take}
use Rattle.std.specs.Prelude.{map}
use Rattle.asm.specs.Sections.{entry_of}
use Rattle.asm.proofs.declarations.Declarations.capability_entries.Given as goal

abbrev pub invariant-capabilities : goal.invariant-capabilities
invariant-capabilities l = l.entries.items ≡ map (entry_of l.self) (take l.capability-index l.self.capabilities)
