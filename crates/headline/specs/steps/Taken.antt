-- The edge that an instruction takes.
use Rattle.std.specs.Prelude.{ℕ, ◌≡◌, ◌%◌, ◌++◌, Ok, List, Contains, option_to_list}
use Rattle.model.specs.declared.instructions.Access.TheVariants as accesses
use Rattle.model.specs.declared.instructions.Exec.TheVariants.{Next}
use Rattle.model.specs.declared.instructions.Instr.{Instr}
use Rattle.model.specs.declared.instructions.Instr.TheVariants.{Jalr, Load, Store, Ecall, Ebreak}
use Rattle.model.specs.declared.ranges.Range.{Range}
use Rattle.model.specs.Acceptance.Edges.{Edge, Edges, after}
use Rattle.model.specs.Acceptance.ThreadInvariants.{LieWithin}
use Rattle.model.specs.Machine.Effects.{effect, load_size, plus, store_size}
use Rattle.model.specs.Machine.ProgramMemory.{Content, RegisterFile, loaded, read, stored}

-- neither a system call, nor a computed jump, nor illegal
abbrev pub IsPlain : Instr → Type 0
IsPlain (Jalr rd rs1 offset) = ⊥
IsPlain Ecall = ⊥
IsPlain Ebreak = ⊥
IsPlain _ = Unit {0}

-- a load or store does not fault
abbrev pub Reaches : RegisterFile → Content → Instr → Type 0
Reaches r content (Load op rd rs1 offset) = (n : ℕ) × (loaded content accesses.Load (load_size op) (plus (read r rs1) offset) ≡ Ok n)
Reaches r content (Store op rs1 rs2 offset) = (left : Content) × (stored content (store_size op) (plus (read r rs1) offset) (read r rs2) ≡ Ok left)
Reaches r content _ = Unit {0}

abbrev pub edges_among : Edges → List Edge
edges_among edges = option_to_list edges.taken ++ option_to_list edges.fall_through

-- The registers lie in the ranges before an edge. The instruction goes on if the edge leads to a multiple of 4, and then it leads
-- there, with the registers in the ranges after it.
pub record MayTake (r : RegisterFile) (content : Content) (ranges : List Range) (instr : Instr) : Type 0 where
  pub edge : Edge
  pub among : Contains (edges_among (after r.pc instr ranges)) edge
  pub before : LieWithin r edge.before
  pub goes : edge.target % 4 ≡ 0 → (effect r content instr).exec ≡ Next
  pub leads : (effect r content instr).exec ≡ Next → ((effect r content instr).registers.pc ≡ edge.target)
      × LieWithin (effect r content instr).registers edge.ranges
