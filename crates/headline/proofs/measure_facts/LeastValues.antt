-- The least value of a measure over ranges is no more than its value over registers that lie in them.
use Rattle.std.proofs.Common.{ℕ, List, ℤ, refl, subst}
use Rattle.std.specs.Prelude.{◌≤ℤ◌}
use Rattle.model.specs.declared.ranges.Range.{Range}
use Rattle.model.specs.Acceptance.Measures.{After, Before, Measure, Variable, before_form, least_value, measured, register_numbered, substituted}
use Rattle.model.specs.Acceptance.Ranges.{range_of}
use Rattle.model.specs.Acceptance.ThreadInvariants.{LieWithin}
use Rattle.model.specs.Machine.ProgramMemory.{RegisterFile, read}
use Rattle.headline.specs.measure_facts.Terms.{NamesRegisters}
use Rattle.headline.proofs.measure_facts.FormValues.{value-before}
use Rattle.headline.proofs.measure_facts.GreatestValues.{value-below}
use Rattle.headline.proofs.measure_facts.MeasureValues.{measure-valued}

abbrev values_before : RegisterFile → Variable → ℕ
values_before r (Before k) = read r (register_numbered k)
values_before r (After k) = 0

pub least-is : (r : RegisterFile) (m : Measure) (ranges : List Range) → NamesRegisters m → LieWithin r ranges → least_value m ranges ≤ℤ measured m r
least-is r m ranges are within =
    let v : Variable → ℕ = values_before r in
    subst (λ (z : ℤ). least_value m ranges ≤ℤ z) (measure-valued v m before_form r (λ k some less. value-before v k less) are)
    (value-below v (substituted m before_form) (λ k. range_of ranges (register_numbered k)) within (λ k. refl))
