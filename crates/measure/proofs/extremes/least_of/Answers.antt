-- One more register.
use Rattle.std.proofs.Common.{ℕ, ℤ, ◌≡◌, ◌∙◌, ap, true, rules, to_z, of_z, arith}
use mir.Syntax.{w128}
use Rattle.model.specs.declared.ranges.Range.{Range}
use Rattle.model.specs.Acceptance.Measures.{Before, least, least_term, register_numbered}
use Rattle.model.specs.Acceptance.Ranges.{range_of}
use Rattle.measure.proofs.LinearSums.{sum-none, sum_below}
use Rattle.measure.proofs.SumSteps.{nothing-times, register-step, registers-end, registers-none}
use Rattle.measure.proofs.extremes.least_of.Goals as goal

pub loop-register-preserved : goal.loop-register-preserved
loop-register-preserved g c =
    register-step (λ (k : ℕ). least_term ((g.L.Linear.form c.args.form.now).coefficient (Before k)) (range_of c.args.bounds.now (register_numbered k)))
    c.loop-register.register
    (to_z w128 c.loop-register.sum-bits) c.least_part-sum.result (search rules) c.loop-register.invariant.0 c.loop-register.invariant.1 (search rules)
    c.least_part-sum.ensures.small

pub returns : goal.returns
unfolding least
returns g c =
    registers-end
    (sum_below (λ (k : ℕ). least_term ((g.L.Linear.form c.args.form.now).coefficient (Before k)) (range_of c.args.bounds.now (register_numbered k))))
    c.loop-register.register
    c.constant-2.result (to_z w128 c.loop-register.sum-bits) (g.L.Linear.form c.args.form.now).constant
    (omega (arith, c.loop-register.auto.register-end, c.loop-register-test.false))
    c.constant-2.ensures.value c.constant-2.ensures.small c.loop-register.invariant.0 c.loop-register.invariant.1

pub returns-then-is_constant : goal.returns-then-is_constant
unfolding least
returns-then-is_constant g c =
    let form = g.L.Linear.form c.args.form.now in
    let range : ℕ → Range = λ k. range_of c.args.bounds.now (register_numbered k) in
    let kept : to_z w128 (of_z w128 c.constant.result) ≡ c.constant.result = search rules in
    let yes : c.is_constant.result ≡ true = search rules in
    registers-none (sum_below (λ (k : ℕ). least_term (form.coefficient (Before k)) (range k)) 32)
    (to_z w128 (of_z w128 c.constant.result)) form.constant (kept ∙ c.constant.ensures.value)
    (sum-none (λ (k : ℕ). least_term (form.coefficient (Before k)) (range k)) 32
    (λ k less. ap (λ (z : ℤ). least_term z (range k)) (c.is_constant.ensures (Before k) yes) ∙ nothing-times (range k).low))
