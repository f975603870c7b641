-- A measure that falls over an instruction is less after it.
use Rattle.std.proofs.Common.{ℕ, ◌≡◌, ◌∙◌, true, List, ℤ, pos, negsuc, ◌+ℤ◌, ◌*ℤ◌, refl, ap, subst, arith}
use Rattle.std.specs.Prelude.{◌<ℤ◌, ◌≤ℤ◌, int_lt}
use Rattle.std.proofs.lemmas.Int.{ints}
use Rattle.model.specs.declared.instructions.Instr.{Instr}
use Rattle.model.specs.declared.ranges.Range.{Range}
use Rattle.model.specs.Machine.Effects.{effect}
use Rattle.model.specs.Machine.Instructions.{IsInstr}
use Rattle.model.specs.Machine.ProgramMemory.{Content, RegisterFile, read}
use Rattle.model.specs.Acceptance.Measures.{After, Before, Form, Measure, Variable, before_form, behind_form, difference_form, falls, greatest_on, measured}
use Rattle.model.specs.Acceptance.Measures.{range_at, register_numbered, substituted}
use Rattle.model.specs.Acceptance.ThreadInvariants.{LieWithin}
use Rattle.ranges.specs.Standing.{AreWords}
use Rattle.headline.specs.measure_facts.Terms.{NamesRegisters}
use Rattle.headline.proofs.measure_facts.FormValues.{value, value-before, value-difference}
use Rattle.headline.proofs.measure_facts.GreatestValues.{value-above}
use Rattle.headline.proofs.measure_facts.MeasureValues.{measure-valued}
use Rattle.headline.proofs.measure_facts.WrittenForms.{behind-valued}

-- registers before an edge, and after it
abbrev pub values_on : RegisterFile → RegisterFile → Variable → ℕ
values_on r s (Before k) = read r (register_numbered k)
values_on r s (After k) = read s (register_numbered k)

pub difference-below : (a b g : ℤ) → (a +ℤ (negsuc 0 *ℤ b)) ≤ℤ g → int_lt g (pos 0) ≡ true → a <ℤ b
difference-below a b g under is = omega (arith, ints)

pub falls-is-less : (r : RegisterFile) (content : Content) (instr : Instr) (from to : Measure) (before behind : List Range)
    → AreWords r content → IsInstr instr → NamesRegisters from → NamesRegisters to → LieWithin r before → LieWithin (effect r content instr).registers behind
    → falls from to (behind_form instr before behind) before behind ≡ true → measured to (effect r content instr).registers <ℤ measured from r
unfolding falls
falls-is-less r content instr from to before behind are fits first second within after is =
    let s : RegisterFile = (effect r content instr).registers in
    let v : Variable → ℕ = values_on r s in
    let low : Form = substituted to (behind_form instr before behind) in
    let high : Form = substituted from before_form in
    let later : value v low ≡ measured to s =
    measure-valued v to (behind_form instr before behind) s
    (λ k some less. behind-valued r content v instr before behind k are fits within after (λ j few. refl) (λ j few. refl) some less) second in
    let sooner : value v high ≡ measured from r =
    measure-valued v from before_form r (λ k some less. value-before v k less) first in
    let whole : value v (difference_form low high) ≡ measured to s +ℤ (negsuc 0 *ℤ measured from r) =
    value-difference v low high ∙ ap (λ (z : ℤ). z +ℤ (negsuc 0 *ℤ value v high)) later ∙ ap (λ (z : ℤ). measured to s +ℤ (negsuc 0 *ℤ z)) sooner in
    difference-below (measured to s) (measured from r) (greatest_on before behind (difference_form low high))
    (subst (λ (z : ℤ). z ≤ℤ greatest_on before behind (difference_form low high)) whole
    (value-above v (difference_form low high) (range_at before behind) within after))
    is
