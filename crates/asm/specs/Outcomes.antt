-- What comes of a step.
use Rattle.std.specs.Prelude.{◌≡◌, ◌⊎◌, ℕ, Result, MatchResult, Ok, Err}
use Rattle.asm.specs.declared.faults.Fault.{Fault}
use Rattle.asm.specs.declared.faults.SourceFault.{SourceFault}
use Rattle.asm.specs.declared.faults.Fault.TheVariants.{Syntax, UnknownName, Duplicate, Range, Memory}

-- it is done, with this claim, or memory was refused
abbrev pub Gives : {T : Type 0} → Result T Fault → (T → Type 0) → Type 0
Gives result claim = MatchResult result claim (λ fault. fault ≡ Memory)

-- the kind of a fault, as it is reported: 1 for a line that is none of the text form or out of its place, 2 for an unknown
-- name, 3 for a name that is there already, 4 for a number, an order or a count, and 5 for out of memory
abbrev pub kind_of : Fault → ℕ
kind_of Syntax = 1
kind_of UnknownName = 2
kind_of Duplicate = 3
kind_of Range = 4
kind_of Memory = 5

-- what is meant is there, or its fault is reported, or memory was refused
abbrev pub Means : {T A : Type 0} → Result T Fault → (T → A) → Result A ℕ → Type 0
Means result there meant = MatchResult result (λ done. meant ≡ Ok (there done)) (λ fault. (fault ≡ Memory) ⊎ (meant ≡ Err (kind_of fault)))

-- the same of a whole text, whose faults have their lines
abbrev pub MeansText : {A : Type 0} → Result A SourceFault → Result A (ℕ × ℕ) → Type 0
MeansText result meant = MatchResult result (λ done. meant ≡ Ok done) (λ fault. (fault.kind ≡ 5) ⊎ (meant ≡ Err (fault.line, fault.kind)))
