-- An instruction that goes on, and is no computed jump, takes one of its ways and keeps the registers in the ranges there.
use Rattle.std.proofs.Common.{ℕ, ◌≡◌, ◌==◌, ◌+◌, ◌%◌, ◌^◌, Bool, true, false, if◌then◌else◌, inl, inr, List, length, Result, Ok, Err, Option, Some, refl, sym}
use Rattle.std.proofs.Common.{subst}
use Rattle.std.specs.Prelude.{ℤ, option_map, slice_set}
use Rattle.model.specs.declared.instructions.Access.TheVariants as accesses
use Rattle.model.specs.declared.instructions.BranchOp.{BranchOp}
use Rattle.model.specs.declared.instructions.Cause.TheVariants.{Illegal, Misaligned}
use Rattle.model.specs.declared.instructions.Exec.{Exec}
use Rattle.model.specs.declared.instructions.Exec.TheVariants as outcomes
use Rattle.model.specs.declared.instructions.Instr.{Instr}
use Rattle.model.specs.declared.instructions.Instr.TheVariants.{Upper, Jal, Jalr, Branch, Load, Store, Immediate, Shift, Registers, Fence, Ecall, Ebreak}
use Rattle.model.specs.declared.instructions.LoadOp.{LoadOp}
use Rattle.model.specs.declared.instructions.MemoryFault.{MemoryFault}
use Rattle.model.specs.declared.instructions.Register.{Register}
use Rattle.model.specs.declared.ranges.Range.{Range}
use Rattle.model.specs.Machine.Instructions.{IsInstr}
use Rattle.model.specs.Machine.ProgramMemory.{Content, RegisterFile, loaded, read, stored, write}
use Rattle.model.specs.Machine.Effects.{branches, effect, goes_on, is_taken, jumps, load_size, loads, next_pc, plus, stays, store_size, stores}
use Rattle.model.specs.Acceptance.Edges.{after, behind, branch_edge, branch_ranges}
use Rattle.model.specs.Acceptance.ThreadInvariants.{LieWithin}
use Rattle.ranges.specs.Edges.{way_of, ways_of}
use Rattle.ranges.specs.Standing.{AreWords, StandsOn, TakesWay, is_computed_jump}
use Rattle.ranges.proofs.BranchedRegisters.{branch_kept}
use Rattle.ranges.proofs.Written.{instruction-keeps, jump-keeps}

-- ---- where the pc is

pub behind-written : (r : RegisterFile) (x : Register) (value : ℕ) → ((write r x value).pc + 4) % 2 ^ 32 ≡ behind r.pc
behind-written r x value = elim (x.0 == 0) as (λ b. ((if b then r else record r { words = slice_set r.words x.0 value }).pc + 4) % 2 ^ 32 ≡ behind r.pc) [
  | true ↦ refl
  | false ↦ refl
]

pub jump-leads : (r : RegisterFile) (content : Content) (written : RegisterFile) (target : ℕ) → (jumps r content written target).exec ≡ outcomes.Next
    → (jumps r content written target).registers.pc ≡ target
jump-leads r content written target goes =
    elim (target % 4 == 0) as (λ b. (if b then goes_on (record written { pc = target }) content else stays r content (outcomes.Trap Misaligned)).exec
    ≡ outcomes.Next
    → (if b then goes_on (record written { pc = target }) content else stays r content (outcomes.Trap Misaligned)).registers.pc ≡ target) [
      | true ↦ λ h. refl
      | false ↦ λ h. absurd (let clash : ◌≡◌ {A = Exec} (outcomes.Trap Misaligned) outcomes.Next = h in cc)
    ] goes

load-leads : (r : RegisterFile) (content : Content) (op : LoadOp) (rd : Register) (found : Result ℕ MemoryFault) →
    (loads r content op rd found).exec ≡ outcomes.Next
    → (loads r content op rd found).registers.pc ≡ behind r.pc
load-leads r content op rd (Ok n) goes = behind-written r rd _
load-leads r content op rd (Err fault) goes = absurd (let clash : ◌≡◌ {A = Exec} (outcomes.Memory fault.address fault.access) outcomes.Next = goes in cc)

store-leads : (r : RegisterFile) (content : Content) (left : Result Content MemoryFault) → (stores r content left).exec ≡ outcomes.Next
    → (stores r content left).registers.pc ≡ behind r.pc
store-leads r content (Ok left) goes = refl
store-leads r content (Err fault) goes = absurd (let clash : ◌≡◌ {A = Exec} (outcomes.Memory fault.address fault.access) outcomes.Next = goes in cc)

-- ---- branches

stands-on : (r : RegisterFile) (target : ℕ) (found : Option (List Range)) (kept : List Range) → found ≡ Some kept → r.pc ≡ target → LieWithin r kept
    → StandsOn r (option_map way_of (branch_edge target found))
stands-on r target found kept is there within =
    subst (λ (o : Option (List Range)). StandsOn r (option_map way_of (branch_edge target o))) (sym is) (there, within)

branch-takes : (r : RegisterFile) (content : Content) (ranges : List Range) (op : BranchOp) (rs1 rs2 : Register) (offset : ℤ) (taken : Bool) →
    AreWords r content → length ranges ≡ 31
    → IsInstr (Branch op rs1 rs2 offset) → LieWithin r ranges → is_taken op (read r rs1) (read r rs2) ≡ taken
    → (branches r content taken (plus r.pc offset)).exec ≡ outcomes.Next
    → TakesWay (branches r content taken (plus r.pc offset)).registers (ways_of (after r.pc (Branch op rs1 rs2 offset) ranges))
unfolding after
branch-takes r content ranges op rs1 rs2 offset true are long fits before is goes =
    let kept = branch_kept r ranges op rs1 rs2 true long are.words fits.0 fits.1 before is in
    let target = plus r.pc offset in
    inr (stands-on (jumps r content r target).registers target (branch_ranges op true rs1 rs2 ranges) kept.0 kept.1
    (jump-leads r content r target goes) (jump-keeps r content r target kept.0 kept.2 goes))
branch-takes r content ranges op rs1 rs2 offset false are long fits before is goes =
    let kept = branch_kept r ranges op rs1 rs2 false long are.words fits.0 fits.1 before is in
    inl (stands-on (record r { pc = next_pc r }) (behind r.pc) (branch_ranges op false rs1 rs2 ranges) kept.0 kept.1 refl kept.2)

-- ---- all instructions

pub takes-way : (r : RegisterFile) (content : Content) (ranges : List Range) (instr : Instr) → AreWords r content → length ranges ≡ 31 → IsInstr instr
    → is_computed_jump instr ≡ false → LieWithin r ranges → (effect r content instr).exec ≡ outcomes.Next
    → TakesWay (effect r content instr).registers (ways_of (after r.pc instr ranges))
unfolding effect after
takes-way r content ranges (Upper op rd immediate) are long fits straight before goes =
    inl (behind-written r rd _, instruction-keeps r content ranges (Upper op rd immediate) are.count long are.words are.bytes fits before goes)
takes-way r content ranges (Jal rd offset) are long fits straight before goes =
    inr (
      jump-leads r content (write r rd (next_pc r)) (plus r.pc offset) goes,
      instruction-keeps r content ranges (Jal rd offset) are.count long are.words are.bytes fits before goes,
    )
takes-way r content ranges (Jalr rd rs1 offset) are long fits straight before goes = absurd cc
takes-way r content ranges (Branch op rs1 rs2 offset) are long fits straight before goes =
    branch-takes r content ranges op rs1 rs2 offset (is_taken op (read r rs1) (read r rs2)) are long fits before refl goes
takes-way r content ranges (Load op rd rs1 offset) are long fits straight before goes =
    inl (
      load-leads r content op rd (loaded content accesses.Load (load_size op) (plus (read r rs1) offset)) goes,
      instruction-keeps r content ranges (Load op rd rs1 offset) are.count long are.words are.bytes fits before goes,
    )
takes-way r content ranges (Store op rs1 rs2 offset) are long fits straight before goes =
    inl (
      store-leads r content (stored content (store_size op) (plus (read r rs1) offset) (read r rs2)) goes,
      instruction-keeps r content ranges (Store op rs1 rs2 offset) are.count long are.words are.bytes fits before goes,
    )
takes-way r content ranges (Immediate op rd rs1 immediate) are long fits straight before goes =
    inl (behind-written r rd _, instruction-keeps r content ranges (Immediate op rd rs1 immediate) are.count long are.words are.bytes fits before goes)
takes-way r content ranges (Shift op rd rs1 amount) are long fits straight before goes =
    inl (behind-written r rd _, instruction-keeps r content ranges (Shift op rd rs1 amount) are.count long are.words are.bytes fits before goes)
takes-way r content ranges (Registers op rd rs1 rs2) are long fits straight before goes =
    inl (behind-written r rd _, instruction-keeps r content ranges (Registers op rd rs1 rs2) are.count long are.words are.bytes fits before goes)
takes-way r content ranges Fence are long fits straight before goes =
    inl (refl, instruction-keeps r content ranges Fence are.count long are.words are.bytes fits before goes)
takes-way r content ranges Ecall are long fits straight before goes =
    absurd (let clash : ◌≡◌ {A = Exec} outcomes.Ecall outcomes.Next = goes in cc)
takes-way r content ranges Ebreak are long fits straight before goes =
    absurd (let clash : ◌≡◌ {A = Exec} (outcomes.Trap Illegal) outcomes.Next = goes in cc)
