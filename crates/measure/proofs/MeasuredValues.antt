-- The constant of a measure whose registers are constants is its value.
use Rattle.std.proofs.Common.{◌≡◌, ◌∙◌, List, [], ◌∷◌, map, fold, ℤ, pos, ◌+ℤ◌, ◌*ℤ◌, refl, sym, ap}
use Rattle.std.proofs.Math.IntN.{+ℤ_assoc, +ℤ_idr}
use Rattle.model.specs.declared.entries.TermEntry.{TermEntry}
use Rattle.model.specs.Acceptance.Measures.{Measure, constant_form, measured, register_numbered, substituted}
use Rattle.model.specs.Machine.ProgramMemory.{RegisterFile, read}
use Rattle.measure.proofs.LinearSums.{constant-is}

from-start : (value : TermEntry → ℤ) (start more : ℤ) (terms : List TermEntry) →
    fold (λ z t. z +ℤ value t) (start +ℤ more) terms ≡ start +ℤ fold (λ n m. n +ℤ m) more (map value terms)
from-start value start more [] = refl
from-start value start more (t ∷ rest) =
    ap (λ (z : ℤ). fold (λ z t. z +ℤ value t) z rest) (+ℤ_assoc start more (value t)) ∙ from-start value start (more +ℤ value t) rest

pub constant-measured : (m : Measure) (r : RegisterFile)
    → (substituted m (λ register. constant_form (pos (read r (register_numbered register))))).constant ≡ measured m r
constant-measured m r =
    let value : TermEntry → ℤ = λ t. t.coefficient *ℤ pos (read r (register_numbered t.register)) in
    let nothing : m.constant ≡ m.constant +ℤ pos 0 = sym (+ℤ_idr m.constant) in
    constant-is m (λ register. constant_form (pos (read r (register_numbered register))))
    ∙ ap (λ (z : ℤ). fold (λ z t. z +ℤ value t) z m.terms) nothing ∙ from-start value m.constant (pos 0) m.terms
