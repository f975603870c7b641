-- Instructions on x5 and x6 with given ranges, for rows on ranges.
use Rattle.std.specs.Prelude.{ℕ, Option, option_map, List}
use Rattle.model.specs.declared.instructions.BranchOp.{BranchOp}
use Rattle.model.specs.declared.instructions.ImmediateOp.{ImmediateOp}
use Rattle.model.specs.declared.instructions.Instr.{Instr}
use Rattle.model.specs.declared.instructions.Instr.TheVariants.{Immediate, Registers, Shift}
use Rattle.model.specs.declared.instructions.RegisterOp.{RegisterOp}
use Rattle.model.specs.declared.instructions.ShiftOp.{ShiftOp}
use Rattle.model.specs.declared.ranges.Range.{Range}
use Rattle.model.specs.Acceptance.Edges.{branch_ranges}
use Rattle.model.specs.Acceptance.Measures.{register_numbered}
use Rattle.model.specs.Acceptance.NotedStates.{full_ranges}
use Rattle.model.specs.Acceptance.RangeRules.{ranges_after}
use Rattle.model.specs.Acceptance.Ranges.{range_of, with_range}
use Rattle.std.specs.Prelude.{Bool, ℤ}

abbrev pub with_both : Range → Range → List Range
with_both r s = with_range (with_range full_ranges (register_numbered 5) r) (register_numbered 6) s

-- what an instruction at 0x1000 that writes x7 makes of it
abbrev pub result_of : Instr → Range → Range → Range
result_of instr r s = range_of (ranges_after 0x1000 instr (with_both r s)) (register_numbered 7)

abbrev pub by_registers : RegisterOp → Range → Range → Range
by_registers op r s = result_of (Registers op (register_numbered 7) (register_numbered 5) (register_numbered 6)) r s

abbrev pub by_immediate : ImmediateOp → Range → ℤ → Range
by_immediate op r immediate = result_of (Immediate op (register_numbered 7) (register_numbered 5) immediate) r r

abbrev pub by_shift : ShiftOp → Range → ℕ → Range
by_shift op r amount = result_of (Shift op (register_numbered 7) (register_numbered 5) amount) r r

-- x5 and x6 after a branch that is taken or not, where that can be
abbrev pub both_of : List Range → Range × Range
both_of ranges = (range_of ranges (register_numbered 5), range_of ranges (register_numbered 6))

abbrev pub branched : BranchOp → Bool → Range → Range → Option (Range × Range)
branched op taken r s = option_map both_of (branch_ranges op taken (register_numbered 5) (register_numbered 6) (with_both r s))

-- the same with x5 on both sides
abbrev pub branched_alone : BranchOp → Bool → Range → Option (Range × Range)
branched_alone op taken r = option_map both_of (branch_ranges op taken (register_numbered 5) (register_numbered 5) (with_both r r))
