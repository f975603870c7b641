-- Terms of measures that name registers.
use Rattle.std.specs.Prelude.{ℕ, ◌<◌, ◌≤◌, ◌≡◌, ◌==◌, false, All, List}
use Rattle.std.specs.List.{list_any}
use Rattle.model.specs.declared.instructions.Register.{Register}
use Rattle.model.specs.Machine.ProgramMemory.{RegisterFile, read}
use Rattle.model.specs.declared.entries.TermEntry.{TermEntry}
use Rattle.model.specs.Acceptance.Measures.{Measure, register_numbered}

-- each term names a register other than register 0
abbrev pub NamesRegisters : Measure → Type 0
NamesRegisters m = All (λ (t : TermEntry). (1 ≤ t.register) × (t.register < 32)) m.terms

-- of the registers only those of a list differ
abbrev pub WritesOnly : RegisterFile → RegisterFile → List Register → Type 0
WritesOnly r s written =
    (k : ℕ) → k < 32 → list_any (λ (x : Register). x.0 == k) written ≡ false → read s (register_numbered k) ≡ read r (register_numbered k)
