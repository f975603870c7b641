-- Which instructions reach memory.
use Rattle.std.specs.Prelude.{ℕ, Bool, true, false, if◌then◌else◌, List, length, nat_lt, slice_index, Some, None}
use Rattle.model.specs.declared.instructions.Instr.{Instr}
use Rattle.model.specs.declared.instructions.Instr.TheVariants.{Upper, Jal, Jalr, Branch, Load, Store, Immediate, Shift, Registers, Fence, Ecall, Ebreak}
use Rattle.model.specs.Machine.ProgramMemory.{Content}

-- loads and stores, and no others
abbrev pub reaches : Instr → Bool
reaches (Upper op rd immediate) = false
reaches (Jal rd offset) = false
reaches (Jalr rd rs1 offset) = false
reaches (Branch op rs1 rs2 offset) = false
reaches (Load op rd rs1 offset) = true
reaches (Store op rs1 rs2 offset) = true
reaches (Immediate op rd rs1 immediate) = false
reaches (Shift op rd rs1 amount) = false
reaches (Registers op rd rs1 rs2) = false
reaches Fence = false
reaches Ecall = false
reaches Ebreak = false

-- memory of these bytes, from the address 0 on
abbrev pub one_byte : List ℕ → Content
one_byte bytes = record { place = λ access address. if nat_lt address (length bytes) then Some address else None; byte = λ place. slice_index bytes place }
