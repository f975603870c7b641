-- What an instruction does that reaches no memory is the same over each.
use Rattle.std.proofs.Common.{◌≡◌, ◌-◌, ◌%◌, ◌==◌, Bool, true, false, if◌then◌else◌, ℕ, refl}
use Rattle.model.specs.declared.instructions.Cause.TheVariants.{Misaligned}
use Rattle.model.specs.declared.instructions.Exec.TheVariants.{Trap}
use Rattle.model.specs.declared.instructions.Instr.{Instr}
use Rattle.model.specs.declared.instructions.Instr.TheVariants.{Upper, Jal, Jalr, Branch, Load, Store, Immediate, Shift, Registers, Fence, Ecall, Ebreak}
use Rattle.model.specs.Machine.Effects.{Effect, branches, effect, goes_on, is_taken, jumps, next_pc, plus, stays}
use Rattle.model.specs.Machine.ProgramMemory.{Content, RegisterFile, read, write}
use Rattle.user_memory.specs.Reaching.{reaches}

-- the same, over another memory
abbrev over : Effect → Content → Effect
over e content = record e { content = content }

chosen : (test : Bool) (e f : Effect) (c : Content) → (if test then over e c else over f c) ≡ over (if test then e else f) c
chosen true e f c = refl
chosen false e f c = refl

jumps-apart : (r written : RegisterFile) (c d : Content) (target : ℕ) → jumps r c written target ≡ over (jumps r d written target) c
jumps-apart r written c d target = chosen (target % 4 == 0) (goes_on (record written { pc = target }) d) (stays r d (Trap Misaligned)) c

branches-apart : (r : RegisterFile) (c d : Content) (taken : Bool) (target : ℕ) → branches r c taken target ≡ over (branches r d taken target) c
branches-apart r c d true target = jumps-apart r r c d target
branches-apart r c d false target = refl

pub apart : (r : RegisterFile) (c d : Content) (i : Instr) → reaches i ≡ false → effect r c i ≡ over (effect r d i) c
unfolding effect
apart r c d (Upper op rd immediate) is = refl
apart r c d (Jal rd offset) is = jumps-apart r (write r rd (next_pc r)) c d (plus r.pc offset)
apart r c d (Jalr rd rs1 offset) is = jumps-apart r (write r rd (next_pc r)) c d (plus (read r rs1) offset - plus (read r rs1) offset % 2)
apart r c d (Branch op rs1 rs2 offset) is = branches-apart r c d (is_taken op (read r rs1) (read r rs2)) (plus r.pc offset)
apart r c d (Load op rd rs1 offset) is = absurd (let clash : true ≡ false = is in cc)
apart r c d (Store op rs1 rs2 offset) is = absurd (let clash : true ≡ false = is in cc)
apart r c d (Immediate op rd rs1 immediate) is = refl
apart r c d (Shift op rd rs1 amount) is = refl
apart r c d (Registers op rd rs1 rs2) is = refl
apart r c d Fence is = refl
apart r c d Ecall is = refl
apart r c d Ebreak is = refl
