-- One more register.
use Rattle.std.proofs.Common.{ℕ, ℤ, ◌≡◌, ◌∙◌, ap, pos, true, rules, to_z, of_z, arith}
use mir.Syntax.{w128}
use Rattle.model.specs.declared.ranges.Range.{Range}
use Rattle.model.specs.Acceptance.Measures.{After, Before, Variable, greatest, greatest_term, range_at}
use Rattle.measure.proofs.LinearSums.{sums-none, sums_below}
use Rattle.measure.proofs.SumSteps.{nothing-times, registers-end, registers-none, registers-step}
use Rattle.measure.proofs.extremes.greatest.Goals as goal

pub loop-register-preserved : goal.loop-register-preserved
loop-register-preserved g c =
    let term : Variable → ℤ = λ v. greatest_term ((g.L.Linear.form c.args.form.now).coefficient v) (range_at c.args.before.now c.args.behind.now v) in
    registers-step (λ (k : ℕ). term (Before k)) (λ (k : ℕ). term (After k)) c.loop-register.register
    (to_z w128 c.loop-register.sum-bits) c.greatest_part-sum.result c.greatest_part-sum-in-loop-register.result
    (search rules) c.loop-register.invariant.0 c.loop-register.invariant.1
    (search rules) c.greatest_part-sum.ensures.small (search rules) c.greatest_part-sum-in-loop-register.ensures.small

pub returns : goal.returns
unfolding greatest
returns g c =
    let term : Variable → ℤ = λ v. greatest_term ((g.L.Linear.form c.args.form.now).coefficient v) (range_at c.args.before.now c.args.behind.now v) in
    registers-end (sums_below (λ (k : ℕ). term (Before k)) (λ (k : ℕ). term (After k))) c.loop-register.register
    c.constant-2.result (to_z w128 c.loop-register.sum-bits) (g.L.Linear.form c.args.form.now).constant
    (omega (arith, c.loop-register.auto.register-end, c.loop-register-test.false))
    c.constant-2.ensures.value c.constant-2.ensures.small c.loop-register.invariant.0 c.loop-register.invariant.1

pub returns-then-is_constant : goal.returns-then-is_constant
unfolding greatest
returns-then-is_constant g c =
    let form = g.L.Linear.form c.args.form.now in
    let range : Variable → Range = range_at c.args.before.now c.args.behind.now in
    let term : Variable → ℤ = λ v. greatest_term (form.coefficient v) (range v) in
    let kept : to_z w128 (of_z w128 c.constant.result) ≡ c.constant.result = search rules in
    let yes : c.is_constant.result ≡ true = search rules in
    let none : (v : Variable) → term v ≡ pos 0 = λ v. ap (λ (z : ℤ). greatest_term z (range v)) (c.is_constant.ensures v yes) ∙ nothing-times (range v).high in
    registers-none (sums_below (λ (k : ℕ). term (Before k)) (λ (k : ℕ). term (After k)) 32)
    (to_z w128 (of_z w128 c.constant.result)) form.constant (kept ∙ c.constant.ensures.value)
    (sums-none (λ (k : ℕ). term (Before k)) (λ (k : ℕ). term (After k)) 32 (λ k less. none (Before k)) (λ k less. none (After k)))
