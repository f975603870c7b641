-- What registers hold stays in words of 32 bits.
use Rattle.std.proofs.Common.{ℕ, ◌∙◌, ◌==◌, ◌^◌, ◌<◌, true, false, if◌then◌else◌, List, [], ◌∷◌, arith}
use Rattle.std.specs.Prelude.{All, slice_set}
use Rattle.std.proofs.Math.ListN.{length-set}
use Rattle.std.proofs.lemmas.List.Elements.{All-head, All-set, All-tail}
use Rattle.model.specs.declared.instructions.Register.{Register}
use Rattle.model.specs.Kernel.Messages.{write_words}
use Rattle.model.specs.Kernel.Soundness.{ThreadIsSound}
use Rattle.model.specs.Kernel.State.{ThreadState}
use Rattle.model.specs.Machine.Effects.{advanced, next_pc}
use Rattle.model.specs.Machine.ProgramMemory.{RegisterFile, write}
use Rattle.soundness.specs.Running.{RegistersAreSound}

pub registers-of : (t : ThreadState) → ThreadIsSound t → RegistersAreSound t.registers
registers-of t fine = record { count = fine.registers; words = fine.words; pc = fine.pc }

pub with-registers : (t : ThreadState) (r : RegisterFile) → ThreadIsSound t → RegistersAreSound r → ThreadIsSound (record t { registers = r })
with-registers t r fine sound = record {
  registers = sound.count;
  words = sound.words;
  pc = sound.pc;
  priority = fine.priority;
  fault_address = fine.fault_address;
  slice = fine.slice;
}

pub with-pc : (r : RegisterFile) (pc : ℕ) → RegistersAreSound r → pc < 2 ^ 32 → RegistersAreSound (record r { pc = pc })
with-pc r pc sound less = record { count = sound.count; words = sound.words; pc = less }

pub written-sound : (r : RegisterFile) (x : Register) (value : ℕ) → RegistersAreSound r → value < 2 ^ 32 → RegistersAreSound (write r x value)
written-sound r x value sound less =
    elim (x.0 == 0) as (λ b. RegistersAreSound (if b then r else record r { words = slice_set r.words x.0 value })) [
      | true ↦ sound
      | false ↦ record {
        count = length-set r.words x.0 value ∙ sound.count;
        words = All-set (λ (word : ℕ). word < 2 ^ 32) r.words x.0 value less sound.words;
        pc = sound.pc;
      }
    ]

pub advanced-sound : (r : RegisterFile) → RegistersAreSound r → RegistersAreSound (advanced r)
advanced-sound r sound = with-pc r (next_pc r) sound (omega arith)

pub words-sound : (r : RegisterFile) (registers : List Register) (words : List ℕ) → RegistersAreSound r → All (λ word. word < 2 ^ 32) words
    → RegistersAreSound (write_words r registers words)
words-sound r registers [] sound less = sound
words-sound r [] (word ∷ words) sound less = sound
words-sound r (x ∷ registers) (word ∷ words) sound less =
    words-sound (write r x word) registers words
    (written-sound r x word sound (All-head (λ (n : ℕ). n < 2 ^ 32) word words less)) (All-tail (λ (n : ℕ). n < 2 ^ 32) word words less)
