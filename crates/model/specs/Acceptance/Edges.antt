-- The ways on from an instruction: where each leads, the ranges that a branch leaves possible on it, and the ranges after
-- it. RISC-V Unprivileged ISA, 2.5 "Control Transfer Instructions".
use Rattle.std.specs.Prelude.{ℕ, ◌==◌, ◌+◌, ◌-◌, ◌%◌, ◌^◌, min, max, Bool, true, false, ◌&&◌, ◌||◌, nat_le, nat_lt, List, Option, Some, None, option_map}
use Rattle.std.specs.Prelude.{if◌then◌else◌}
use Rattle.model.specs.declared.ranges.Range.{Range}
use Rattle.model.specs.declared.instructions.Register.{Register}
use Rattle.model.specs.declared.instructions.BranchOp.{BranchOp}
use Rattle.model.specs.declared.instructions.BranchOp.TheVariants.{Beq, Bne, Blt, Bge, Bltu, Bgeu}
use Rattle.model.specs.declared.instructions.Instr.{Instr}
use Rattle.model.specs.declared.instructions.Instr.TheVariants.{Upper, Jal, Jalr, Branch, Load, Store, Immediate, Shift, Registers, Fence, Ecall, Ebreak}
use Rattle.model.specs.Machine.Effects.{plus}
use Rattle.model.specs.Acceptance.Ranges.{range_of, with_range}
use Rattle.model.specs.Acceptance.RangeRules.{range, is_single, ranges_after}

-- ---- what a comparison says of its two sides; a range whose low end is above its high end is empty

abbrev pub is_empty_range : Range → Bool
is_empty_range r = nat_lt r.high r.low

abbrev pub empty_range : Range
empty_range = range 1 0

abbrev pub intersection : Range → Range → Range
intersection r s = range (max r.low s.low) (min r.high s.high)

abbrev pub equal_sides : Range → Range → Range × Range
equal_sides r s = (intersection r s, intersection r s)

-- an end that equals the single value of the other side moves in by 1
abbrev pub without_value : Range → ℕ → Range
without_value r n = range (if r.low == n then n + 1 else r.low) (if r.high == n then n - 1 else r.high)

abbrev pub unequal_side : Range → Range → Range
unequal_side r s = if is_single s then without_value r s.low else r

abbrev pub unequal_sides : Range → Range → Range × Range
unequal_sides r s = (unequal_side r s, unequal_side s r)

-- of unsigned numbers; nothing is less than 0
abbrev pub lesser_sides : Range → Range → Range × Range
lesser_sides r s =
    (if s.high == 0 then empty_range else range r.low (min r.high (s.high - 1)), range (max s.low (r.low + 1)) s.high)

abbrev pub not_lesser_sides : Range → Range → Range × Range
not_lesser_sides r s = (range (max r.low s.low) r.high, range s.low (min s.high r.high))

-- signed numbers compare as unsigned ones where both sides have one sign
abbrev pub have_one_sign : Range → Range → Bool
have_one_sign r s = nat_lt r.high (2 ^ 31) && nat_lt s.high (2 ^ 31) || nat_le (2 ^ 31) r.low && nat_le (2 ^ 31) s.low

abbrev pub if_one_sign : Range → Range → Range × Range → Range × Range
if_one_sign r s sides = if have_one_sign r s then sides else (r, s)

-- the two sides of a branch that is taken, or not
unfoldable pub narrowed : BranchOp → Bool → Range → Range → Range × Range
narrowed Beq true r s = equal_sides r s
narrowed Beq false r s = unequal_sides r s
narrowed Bne true r s = unequal_sides r s
narrowed Bne false r s = equal_sides r s
narrowed Bltu true r s = lesser_sides r s
narrowed Bltu false r s = not_lesser_sides r s
narrowed Bgeu true r s = not_lesser_sides r s
narrowed Bgeu false r s = lesser_sides r s
narrowed Blt true r s = if_one_sign r s (lesser_sides r s)
narrowed Blt false r s = if_one_sign r s (not_lesser_sides r s)
narrowed Bge true r s = if_one_sign r s (not_lesser_sides r s)
narrowed Bge false r s = if_one_sign r s (lesser_sides r s)

-- for one register on both sides both hold
abbrev pub joined : Bool → Range × Range → Range × Range
joined is_one sides = if is_one then equal_sides sides.0 sides.1 else sides

-- the ranges with those of two registers, or none where one of the two is empty
abbrev pub with_sides : List Range → Register → Register → Range × Range → Option (List Range)
with_sides ranges rs1 rs2 sides =
    if is_empty_range sides.0 || is_empty_range sides.1 then None else Some (with_range (with_range ranges rs1 sides.0) rs2 sides.1)

-- the ranges that a branch leaves possible; register 0 stays 0
abbrev pub branch_ranges : BranchOp → Bool → Register → Register → List Range → Option (List Range)
branch_ranges op taken rs1 rs2 ranges =
    with_sides ranges rs1 rs2 (joined (rs1.0 == rs2.0) (narrowed op taken (range_of ranges rs1) (range_of ranges rs2)))

-- ---- edges

pub record Edge : Type 0 where
  -- the address that it leads to
  pub target : ℕ
  -- the ranges before the instruction, for the values that come this way
  pub before : List Range
  -- the ranges after it
  pub ranges : List Range

-- each where there is one
pub record Edges : Type 0 where
  pub fall_through : Option Edge
  pub taken : Option Edge

abbrev pub no_edges : Edges
no_edges = record { fall_through = None; taken = None }

-- the address after an instruction
abbrev pub behind : ℕ → ℕ
behind pc = (pc + 4) % 2 ^ 32

abbrev pub edge_to : ℕ → ℕ → Instr → List Range → Edge
edge_to target pc instr ranges = record { target = target; before = ranges; ranges = ranges_after pc instr ranges }

abbrev pub goes_behind : ℕ → Instr → List Range → Edges
goes_behind pc instr ranges = record { fall_through = Some (edge_to (behind pc) pc instr ranges); taken = None }

abbrev pub branch_edge : ℕ → Option (List Range) → Option Edge
branch_edge target ranges = option_map (λ kept. record { target = target; before = kept; ranges = kept }) ranges

-- The ways on from the instruction at a pc. A computed jump leads nowhere that is known, and a system call has rules of
-- its own.
unfoldable pub after : ℕ → Instr → List Range → Edges
after pc (Jal rd offset) ranges = record { fall_through = None; taken = Some (edge_to (plus pc offset) pc (Jal rd offset) ranges) }
after pc (Branch op rs1 rs2 offset) ranges = record {
  fall_through = branch_edge (behind pc) (branch_ranges op false rs1 rs2 ranges);
  taken = branch_edge (plus pc offset) (branch_ranges op true rs1 rs2 ranges);
}
after pc (Upper op rd immediate) ranges = goes_behind pc (Upper op rd immediate) ranges
after pc (Load op rd rs1 offset) ranges = goes_behind pc (Load op rd rs1 offset) ranges
after pc (Store op rs1 rs2 offset) ranges = goes_behind pc (Store op rs1 rs2 offset) ranges
after pc (Immediate op rd rs1 immediate) ranges = goes_behind pc (Immediate op rd rs1 immediate) ranges
after pc (Shift op rd rs1 amount) ranges = goes_behind pc (Shift op rd rs1 amount) ranges
after pc (Registers op rd rs1 rs2) ranges = goes_behind pc (Registers op rd rs1 rs2) ranges
after pc Fence ranges = goes_behind pc Fence ranges
after pc (Jalr rd rs1 offset) ranges = no_edges
after pc Ecall ranges = no_edges
after pc Ebreak ranges = no_edges
