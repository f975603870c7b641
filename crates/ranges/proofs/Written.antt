-- An instruction that goes on keeps the registers in the ranges after it, so what it writes lies in its range.
use Rattle.std.proofs.Common.{ℕ, zero, suc, ◌≡◌, ◌∙◌, ◌==◌, ◌&&◌, ◌-◌, ◌%◌, ◌^◌, ◌<◌, Bool, true, false, if◌then◌else◌, List, [], ◌∷◌, length, get_or, map}
use Rattle.std.proofs.Common.{Result, Ok, Err, Some, ap, subst, arith}
use Rattle.std.specs.Int.{byte_len, from_le_bytes}
use Rattle.std.proofs.lemmas.Bool.{and_parts}
use Rattle.ranges.proofs.WrittenRegisters.{written_within}
use Rattle.model.specs.declared.instructions.Access.TheVariants as accesses
use Rattle.model.specs.declared.instructions.AccessSize.{AccessSize}
use Rattle.model.specs.declared.instructions.AccessSize.TheVariants.{Byte, Halfword, Word}
use Rattle.model.specs.declared.instructions.Cause.TheVariants.{Misaligned}
use Rattle.model.specs.declared.instructions.Exec.{Exec}
use Rattle.model.specs.declared.instructions.Exec.TheVariants as outcomes
use Rattle.model.specs.declared.instructions.ImmediateOp.{ImmediateOp}
use Rattle.model.specs.declared.instructions.Instr.{Instr}
use Rattle.model.specs.declared.instructions.Instr.TheVariants.{Upper, Jal, Jalr, Branch, Load, Store, Immediate, Shift, Registers, Fence, Ecall, Ebreak}
use Rattle.model.specs.declared.instructions.LoadOp.{LoadOp}
use Rattle.model.specs.declared.instructions.MemoryFault.{MemoryFault}
use Rattle.model.specs.declared.instructions.Register.{Register}
use Rattle.model.specs.declared.instructions.RegisterOp.{RegisterOp}
use Rattle.model.specs.declared.instructions.ShiftOp.{ShiftOp}
use Rattle.model.specs.declared.ranges.Range.{Range}
use Rattle.std.specs.Prelude.{ℤ}
use Rattle.model.specs.Machine.Instructions.{IsImmediate, IsInstr, IsRegister}
use Rattle.model.specs.Machine.ProgramMemory.{Content, FitsSize, RegisterFile, ◌>>=◌, places_from, read, stored, width_of, write}
use Rattle.model.specs.Machine.Effects.{branches, effect, goes_on, immediate_result, is_taken, jumps, load_result, load_size, loads, next_pc, plus}
use Rattle.model.specs.Machine.Effects.{register_result, shift_result, stays, store_size, stores, upper_result}
use Rattle.model.specs.Acceptance.RangeRules.{destination, immediate_range, is_single, load_range, ranges_after, register_range, shift_range, value_or}
use Rattle.model.specs.Acceptance.Ranges.{range_of, single, with_range}
use Rattle.model.specs.Acceptance.ThreadInvariants.{LieWithin}
use Rattle.ranges.specs.Inside.{LiesIn}
use Rattle.ranges.proofs.ResultsInside.{chosen, immediates-in, known, loads-in, registers-in, shifts-in, single-in}

-- ---- results, where sources with one value each have one result

valued : (n value : ℕ) (otherwise : Range) (b : Bool) → LiesIn n otherwise → (b ≡ true → n ≡ value) → LiesIn n (value_or b value otherwise)
valued n value otherwise b inside same = chosen n (single value) otherwise b inside (λ h. subst (λ (m : ℕ). LiesIn n (single m)) (same h) (single-in n))

immediate-valued : (op : ImmediateOp) (a : ℕ) (immediate : ℤ) (r : Range) → a < 2 ^ 32 → IsImmediate immediate → LiesIn a r
    → LiesIn (immediate_result op a immediate) (value_or (is_single r) (immediate_result op r.low immediate) (immediate_range op r immediate))
immediate-valued op a immediate r small fits here =
    valued (immediate_result op a immediate) (immediate_result op r.low immediate) (immediate_range op r immediate) (is_single r)
    (immediates-in op a immediate r small fits here) (λ h. ap (λ (m : ℕ). immediate_result op m immediate) (known a r here h))

shift-valued : (op : ShiftOp) (a amount : ℕ) (r : Range) → a < 2 ^ 32 → amount < 2 ^ 5 → LiesIn a r
    → LiesIn (shift_result op a amount) (value_or (is_single r) (shift_result op r.low amount) (shift_range op r amount))
shift-valued op a amount r small less here =
    valued (shift_result op a amount) (shift_result op r.low amount) (shift_range op r amount) (is_single r)
    (shifts-in op a amount r small less here) (λ h. ap (λ (m : ℕ). shift_result op m amount) (known a r here h))

register-valued : (op : RegisterOp) (a b : ℕ) (r s : Range) → a < 2 ^ 32 → b < 2 ^ 32 → LiesIn a r → LiesIn b s
    → LiesIn (register_result op a b) (value_or (is_single r && is_single s) (register_result op r.low s.low) (register_range op r s))
register-valued op a b r s small less here there =
    valued (register_result op a b) (register_result op r.low s.low) (register_range op r s) (is_single r && is_single s)
    (registers-in op a b r s small less here there)
    (λ h.
    let both = and_parts (is_single r) (is_single s) h in
    ap (λ (m : ℕ). register_result op m b) (known a r here both.0) ∙ ap (λ (m : ℕ). register_result op r.low m) (known b s there both.1))

-- ---- what is loaded has the load's size

abbrev HasBytes : Content → Type 0
HasBytes content = (place : ℕ) → content.byte place < 2 ^ 8

bytes-small : (content : Content) (places : List ℕ) (i : ℕ) → HasBytes content → get_or (map content.byte places) i 0 < 2 ^ 8
bytes-small content [] i small = omega arith
bytes-small content (place ∷ places) zero small = small place
bytes-small content (place ∷ places) (suc i) small = bytes-small content places i small

number-fits : (content : Content) (size : AccessSize) (places : List ℕ) → HasBytes content →
    FitsSize size (from_le_bytes (width_of size) (map content.byte places))
number-fits content Byte places small = omega (arith, bytes-small content places 0 small)
number-fits content Halfword places small = omega (arith, bytes-small content places 0 small, bytes-small content places 1 small)
number-fits content Word places small =
    omega (
      arith,
      bytes-small content places 0 small,
      bytes-small content places 1 small,
      bytes-small content places 2 small,
      bytes-small content places 3 small,
    )

-- ---- the ways on

loaded-keeps : (r : RegisterFile) (content : Content) (ranges : List Range) (op : LoadOp) (rd : Register) (places : Result (List ℕ) MemoryFault) →
    length r.words ≡ 32 → length ranges ≡ 31
    → HasBytes content → IsRegister rd → LieWithin r ranges
    → (loads r content op rd (places >>= (λ (found : List ℕ). Ok (from_le_bytes (width_of (load_size op)) (map content.byte found))))).exec ≡ outcomes.Next
    → LieWithin (loads r content op rd (places >>= (λ (found : List ℕ). Ok (from_le_bytes (width_of (load_size op)) (map content.byte found))))).registers
    (with_range ranges rd (load_range op))
loaded-keeps r content ranges op rd (Ok places) words long small target before goes =
    let n : ℕ = from_le_bytes (width_of (load_size op)) (map content.byte places) in
    written_within r ranges rd (load_result op n) (load_range op) words long target before (loads-in op n (number-fits content (load_size op) places small))
loaded-keeps r content ranges op rd (Err fault) words long small target before goes =
    absurd (let clash : ◌≡◌ {A = Exec} (outcomes.Memory fault.address fault.access) outcomes.Next = goes in cc)

stored-keeps : (r : RegisterFile) (content : Content) (ranges : List Range) (after : Result Content MemoryFault) → LieWithin r ranges →
    LieWithin (stores r content after).registers ranges
stored-keeps r content ranges (Ok after) before = before
stored-keeps r content ranges (Err fault) before = before

pub jump-keeps : (r : RegisterFile) (content : Content) (written : RegisterFile) (target : ℕ) (behind : List Range) → LieWithin written behind
    → (jumps r content written target).exec ≡ outcomes.Next → LieWithin (jumps r content written target).registers behind
jump-keeps r content written target behind kept goes =
    elim (target % 4 == 0) as (λ b. (if b then goes_on (record written { pc = target }) content else stays r content (outcomes.Trap Misaligned)).exec
    ≡ outcomes.Next
    → LieWithin (if b then goes_on (record written { pc = target }) content else stays r content (outcomes.Trap Misaligned)).registers behind) [
      | true ↦ λ h. kept
      | false ↦ λ h. absurd (let clash : ◌≡◌ {A = Exec} (outcomes.Trap Misaligned) outcomes.Next = h in cc)
    ] goes

branch-keeps : (r : RegisterFile) (content : Content) (ranges : List Range) (taken : Bool) (target : ℕ) → LieWithin r ranges
    → (branches r content taken target).exec ≡ outcomes.Next → LieWithin (branches r content taken target).registers ranges
branch-keeps r content ranges true target before goes = jump-keeps r content r target ranges before goes
branch-keeps r content ranges false target before goes = before

-- ---- all instructions

pub instruction-keeps : (r : RegisterFile) (content : Content) (ranges : List Range) (instr : Instr) → length r.words ≡ 32 → length ranges ≡ 31
    → ((x : Register) → read r x < 2 ^ 32) → HasBytes content → IsInstr instr → LieWithin r ranges → (effect r content instr).exec ≡ outcomes.Next
    → LieWithin (effect r content instr).registers (ranges_after r.pc instr ranges)
unfolding effect ranges_after
instruction-keeps r content ranges (Upper op rd immediate) words long small bytes fits before goes =
    written_within r ranges rd (upper_result op r.pc immediate) (single (upper_result op r.pc immediate)) words long fits.0 before
    (single-in (upper_result op r.pc immediate))
instruction-keeps r content ranges (Jal rd offset) words long small bytes fits before goes =
    jump-keeps r content (write r rd (next_pc r)) (plus r.pc offset) (with_range ranges rd (single (next_pc r)))
    (written_within r ranges rd (next_pc r) (single (next_pc r)) words long fits.0 before (single-in (next_pc r))) goes
instruction-keeps r content ranges (Jalr rd rs1 offset) words long small bytes fits before goes =
    jump-keeps r content (write r rd (next_pc r)) (plus (read r rs1) offset - plus (read r rs1) offset % 2) (with_range ranges rd (single (next_pc r)))
    (written_within r ranges rd (next_pc r) (single (next_pc r)) words long fits.0 before (single-in (next_pc r))) goes
instruction-keeps r content ranges (Branch op rs1 rs2 offset) words long small bytes fits before goes =
    branch-keeps r content ranges (is_taken op (read r rs1) (read r rs2)) (plus r.pc offset) before goes
instruction-keeps r content ranges (Load op rd rs1 offset) words long small bytes fits before goes =
    loaded-keeps r content ranges op rd (places_from content accesses.Load (plus (read r rs1) offset) (byte_len (width_of (load_size op)))) words long bytes
    fits.0 before goes
instruction-keeps r content ranges (Store op rs1 rs2 offset) words long small bytes fits before goes =
    stored-keeps r content ranges (stored content (store_size op) (plus (read r rs1) offset) (read r rs2)) before
instruction-keeps r content ranges (Immediate op rd rs1 immediate) words long small bytes fits before goes =
    let s = range_of ranges rs1 in
    written_within r ranges rd (immediate_result op (read r rs1) immediate)
    (value_or (is_single s) (immediate_result op s.low immediate) (immediate_range op s immediate))
    words long fits.0 before (immediate-valued op (read r rs1) immediate s (small rs1) fits.2 (before rs1.0 fits.1))
instruction-keeps r content ranges (Shift op rd rs1 amount) words long small bytes fits before goes =
    let s = range_of ranges rs1 in
    written_within r ranges rd (shift_result op (read r rs1) amount) (value_or (is_single s) (shift_result op s.low amount) (shift_range op s amount))
    words long fits.0 before (shift-valued op (read r rs1) amount s (small rs1) fits.2 (before rs1.0 fits.1))
instruction-keeps r content ranges (Registers op rd rs1 rs2) words long small bytes fits before goes =
    let s = range_of ranges rs1 in
    let t = range_of ranges rs2 in
    written_within r ranges rd (register_result op (read r rs1) (read r rs2))
    (value_or (is_single s && is_single t) (register_result op s.low t.low) (register_range op s t))
    words long fits.0 before (register-valued op (read r rs1) (read r rs2) s t (small rs1) (small rs2) (before rs1.0 fits.1) (before rs2.0 fits.2))
instruction-keeps r content ranges Fence words long small bytes fits before goes = before
instruction-keeps r content ranges Ecall words long small bytes fits before goes = before
instruction-keeps r content ranges Ebreak words long small bytes fits before goes = before

-- ---- what is written

target-fits : (instr : Instr) (rd : Register) → IsInstr instr → destination instr ≡ Some rd → IsRegister rd
target-fits (Upper op other immediate) rd fits is = let same : other ≡ rd = cc in subst IsRegister same fits.0
target-fits (Jal other offset) rd fits is = let same : other ≡ rd = cc in subst IsRegister same fits.0
target-fits (Jalr other rs1 offset) rd fits is = let same : other ≡ rd = cc in subst IsRegister same fits.0
target-fits (Branch op rs1 rs2 offset) rd fits is = absurd cc
target-fits (Load op other rs1 offset) rd fits is = let same : other ≡ rd = cc in subst IsRegister same fits.0
target-fits (Store op rs1 rs2 offset) rd fits is = absurd cc
target-fits (Immediate op other rs1 immediate) rd fits is = let same : other ≡ rd = cc in subst IsRegister same fits.0
target-fits (Shift op other rs1 amount) rd fits is = let same : other ≡ rd = cc in subst IsRegister same fits.0
target-fits (Registers op other rs1 rs2) rd fits is = let same : other ≡ rd = cc in subst IsRegister same fits.0
target-fits Fence rd fits is = absurd cc
target-fits Ecall rd fits is = absurd cc
target-fits Ebreak rd fits is = absurd cc

pub written-in : (r : RegisterFile) (content : Content) (ranges : List Range) (instr : Instr) (rd : Register) → length r.words ≡ 32 → length ranges ≡ 31
    → ((x : Register) → read r x < 2 ^ 32) → HasBytes content → IsInstr instr → LieWithin r ranges → destination instr ≡ Some rd
    → (effect r content instr).exec ≡ outcomes.Next → LiesIn (read (effect r content instr).registers rd) (range_of (ranges_after r.pc instr ranges) rd)
written-in r content ranges instr rd words long small bytes fits before is goes =
    let kept : LieWithin (effect r content instr).registers (ranges_after r.pc instr ranges) =
    instruction-keeps r content ranges instr words long small bytes fits before goes in
    kept rd.0 (target-fits instr rd fits is)
