-- The instruction's registers are registers.
use Rattle.std.proofs.Common.{subst}
use Rattle.model.specs.Machine.Instructions.{IsInstr}
use Rattle.program_rules.proofs.visits.VisitedSlots.is_unmapped.Goals as goal

pub get-range-requires : goal.get-range-requires
get-range-requires c = (subst IsInstr c.in-Load.is (c.args.self.now.visit.valid c.in-Some.instr c.in-Some.is)).1

pub get-range-requires-in-Store : goal.get-range-requires-in-Store
get-range-requires-in-Store c = (subst IsInstr c.in-Store.is (c.args.self.now.visit.valid c.in-Some.instr c.in-Some.is)).0
