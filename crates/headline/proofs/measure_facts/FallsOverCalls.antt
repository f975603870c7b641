-- A measure over a system call: registers that it writes have new values, and the others stay.
use Rattle.std.proofs.Common.{ℕ, ◌≡◌, ◌∙◌, ◌==◌, ◌<◌, true, false, if◌then◌else◌, List, ℤ, pos, negsuc, ◌+ℤ◌, ◌*ℤ◌, refl, sym, ap, subst, arith}
use Rattle.std.specs.Prelude.{◌<ℤ◌, ◌≤ℤ◌, int_le}
use Rattle.std.specs.List.{list_any}
use Rattle.std.proofs.lemmas.Int.{ints}
use Rattle.model.specs.declared.instructions.Register.{Register}
use Rattle.model.specs.declared.ranges.Range.{Range}
use Rattle.model.specs.Machine.ProgramMemory.{RegisterFile, read}
use Rattle.model.specs.Acceptance.Measures.{Form, Measure, Variable, after_form, before_form, call_form, difference_form, falls, greatest_on, measured}
use Rattle.model.specs.Acceptance.Measures.{range_at, register_numbered, stays_below, substituted}
use Rattle.model.specs.Acceptance.ThreadInvariants.{LieWithin}
use Rattle.headline.specs.measure_facts.Terms.{NamesRegisters, WritesOnly}
use Rattle.headline.proofs.measure_facts.FormValues.{value, value-after, value-before, value-difference}
use Rattle.headline.proofs.measure_facts.GreatestValues.{value-above}
use Rattle.headline.proofs.measure_facts.MeasureValues.{measure-valued}
use Rattle.headline.proofs.measure_facts.FallsIsLess.{difference-below, values_on}

call-valued : (r s : RegisterFile) (written : List Register) (k : ℕ) → WritesOnly r s written → k < 32
    → value (values_on r s) (call_form written k) ≡ pos (read s (register_numbered k))
call-valued r s written k only less =
    elim (list_any (λ (x : Register). x.0 == k) written) as (λ b. list_any (λ (x : Register). x.0 == k) written ≡ b
    → value (values_on r s) (if b then after_form k else before_form k) ≡ pos (read s (register_numbered k))) [
      | true ↦ λ h. value-after (values_on r s) k less
      | false ↦ λ h. value-before (values_on r s) k less ∙ ap pos (sym (only k less h))
    ] refl

pub falls-over : (r s : RegisterFile) (written : List Register) (from to : Measure) (before behind : List Range) → WritesOnly r s written →
    NamesRegisters from → NamesRegisters to
    → LieWithin r before → LieWithin s behind → falls from to (call_form written) before behind ≡ true → measured to s <ℤ measured from r
unfolding falls
falls-over r s written from to before behind only first second within after is =
    let v : Variable → ℕ = values_on r s in
    let low : Form = substituted to (call_form written) in
    let high : Form = substituted from before_form in
    let later : value v low ≡ measured to s = measure-valued v to (call_form written) s (λ k some less. call-valued r s written k only less) second in
    let sooner : value v high ≡ measured from r =
    measure-valued v from before_form r (λ k some less. value-before v k less) first in
    let whole : value v (difference_form low high) ≡ measured to s +ℤ (negsuc 0 *ℤ measured from r) =
    value-difference v low high ∙ ap (λ (z : ℤ). z +ℤ (negsuc 0 *ℤ value v high)) later ∙ ap (λ (z : ℤ). measured to s +ℤ (negsuc 0 *ℤ z)) sooner in
    difference-below (measured to s) (measured from r) (greatest_on before behind (difference_form low high))
    (subst (λ (z : ℤ). z ≤ℤ greatest_on before behind (difference_form low high)) whole
    (value-above v (difference_form low high) (range_at before behind) within after))
    is

no-more-than : (a b c : ℤ) → a ≤ℤ b → int_le b c ≡ true → a ≤ℤ c
no-more-than a b c less is = omega (arith, ints)

pub stays-within : (r s : RegisterFile) (written : List Register) (budget : ℕ) (to : Measure) (before behind : List Range) → WritesOnly r s written →
    NamesRegisters to
    → LieWithin r before → LieWithin s behind → stays_below budget to (call_form written) before behind ≡ true → measured to s ≤ℤ pos budget
unfolding stays_below
stays-within r s written budget to before behind only are within after is =
    let v : Variable → ℕ = values_on r s in
    let form : Form = substituted to (call_form written) in
    no-more-than (measured to s) (greatest_on before behind form) (pos budget)
    (subst (λ (z : ℤ). z ≤ℤ greatest_on before behind form)
    (measure-valued v to (call_form written) s (λ k some less. call-valued r s written k only less) are)
    (value-above v form (range_at before behind) within after))
    is
