-- What an instruction leaves.
use Rattle.std.proofs.Common.{ℕ, ℤ, pos, ◌≡◌, ◌≤ℤ◌, ◌^◌, ◌<◌, Some, refl, arith}
use Rattle.std.proofs.lemmas.Int.{ints}
use Rattle.model.specs.declared.instructions.Instr.{Instr}
use Rattle.model.specs.declared.instructions.Instr.TheVariants.{Upper, Jal, Jalr, Branch, Load, Store, Immediate, Shift, Registers, Fence, Ecall, Ebreak}
use Rattle.model.specs.Kernel.AddressSpaces.{content_of, with_content}
use Rattle.model.specs.Kernel.Kinds.{kind_at}
use Rattle.model.specs.Kernel.Messages.{with_registers}
use Rattle.model.specs.Kernel.Soundness.{IsSound}
use Rattle.model.specs.Kernel.State.{State, thread_at}
use Rattle.model.specs.Kernel.Steps.{registers_of}
use Rattle.model.specs.Machine.Effects.{Effect, effect}
use Rattle.model.specs.Machine.Instructions.{IsInstr, word_of}
use Rattle.soundness.proofs.Laws.{Fits, byte-less, content-whole, effect-sound, fine-of, registers-of, registers-whole}
use Rattle.model.specs.Kernel.Retype.{NewThread}

-- ---- instructions fit

immediate-word : (z : ℤ) → z ≤ℤ pos 2047 → word_of z < 2 ^ 32
immediate-word z high = grind (arith, ints, high)

instruction-fits : (i : Instr) → IsInstr i → Fits i
instruction-fits (Upper op rd immediate) is = is.1
instruction-fits (Immediate op rd rs1 immediate) is = immediate-word immediate is.2.1
instruction-fits (Jal rd offset) is = tt
instruction-fits (Jalr rd rs1 offset) is = tt
instruction-fits (Branch op rs1 rs2 offset) is = tt
instruction-fits (Load op rd rs1 offset) is = tt
instruction-fits (Store op rs1 rs2 offset) is = tt
instruction-fits (Shift op rd rs1 amount) is = tt
instruction-fits (Registers op rd rs1 rs2) is = tt
instruction-fits Fence is = tt
instruction-fits Ecall is = tt
instruction-fits Ebreak is = tt

module _ (s : State) (thread : ℕ) (i : Instr) where
  abbrev pub effect-on : Effect
  effect-on = effect (registers_of s thread) (content_of s thread) i

  -- the state after an instruction that goes on
  abbrev pub goes-to : State
  goes-to = with_content (with_registers s thread effect-on.registers) effect-on.content

  pub goes-sound : IsSound s → kind_at s thread ≡ Some NewThread → IsInstr i → IsSound goes-to
  goes-sound sound there is =
      let left =
      effect-sound (registers_of s thread) (content_of s thread) (registers-of (thread_at s thread) (fine-of s sound thread there))
      (λ place. byte-less s sound place (s.bytes place) refl) i (instruction-fits i is) in
      content-whole (with_registers s thread effect-on.registers) effect-on.content (registers-whole s sound thread there effect-on.registers left.registers)
      left.bytes
