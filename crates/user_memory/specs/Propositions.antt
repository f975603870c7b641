-- That an instruction's fields are in range has one proof at most.
use denote.Struct.Props.{props}
use Rattle.model.specs.Machine.Instructions.{IsInstr}
use Rattle.model.specs.declared.instructions.Instr.{Instr}
use Rattle.model.specs.declared.instructions.Instr.TheVariants.{Upper, Jal, Jalr, Branch, Load, Store, Immediate, Shift, Registers, Fence, Ecall, Ebreak}

pub IsInstr-prop : (instr : Instr) → IsProp (IsInstr instr)
IsInstr-prop (Upper op rd immediate) = Prim.hlevel props
IsInstr-prop (Jal rd offset) = Prim.hlevel props
IsInstr-prop (Jalr rd rs1 offset) = Prim.hlevel props
IsInstr-prop (Branch op rs1 rs2 offset) = Prim.hlevel props
IsInstr-prop (Load op rd rs1 offset) = Prim.hlevel props
IsInstr-prop (Store op rs1 rs2 offset) = Prim.hlevel props
IsInstr-prop (Immediate op rd rs1 immediate) = Prim.hlevel props
IsInstr-prop (Shift op rd rs1 amount) = Prim.hlevel props
IsInstr-prop (Registers op rd rs1 rs2) = Prim.hlevel props
IsInstr-prop Fence = Prim.hlevel props
IsInstr-prop Ecall = Prim.hlevel props
IsInstr-prop Ebreak = Prim.hlevel props
