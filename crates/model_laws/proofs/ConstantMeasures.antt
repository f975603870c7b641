-- Measures without terms, as those of the form are: the rules on measures compare constants.
use Rattle.std.proofs.Common.{◌≡◌, ℕ, List, [], ◌∷◌, ℤ, pos, negsuc, ◌+ℤ◌, ◌*ℤ◌, int_lt, int_le, map, fold, refl, ap, ◌∙◌, arith}
use Rattle.std.proofs.Math.IntN.{zero-*ℤ, +ℤ_idr}
use Rattle.std.proofs.lemmas.Int.{by_lt_z, ints}
use Rattle.std.specs.List.{range_with_len}
use Rattle.model.specs.declared.entries.TermEntry.{TermEntry}
use Rattle.model.specs.declared.ranges.Range.{Range}
use Rattle.model.specs.Machine.ProgramMemory.{RegisterFile, read}
use Rattle.model.specs.Acceptance.Measures.{After, Before, Form, Measure, Variable, before_form, constant_form, difference_form, falls, greatest, greatest_term}
use Rattle.model.specs.Acceptance.Measures.{least, least_term, least_value, measured, range_at, register_numbered, stays_below, substituted, sum_form, sum_of}
use Rattle.model.specs.Acceptance.Measures.{sum_over}
use Rattle.model.specs.Acceptance.Measures.{times_form}
use Rattle.model.specs.Acceptance.Ranges.{range_of}

-- a form of no variable
record IsConstant (f : Form) : Type 0 where
  none : (variable : Variable) → f.coefficient variable ≡ pos 0

sum_from : (f : ℕ → ℤ) → ((n : ℕ) → f n ≡ pos 0) → (start : ℤ) (ns : List ℕ) → fold (λ n m. n +ℤ m) start (map f ns) ≡ start
sum_from f each start [] = refl
sum_from f each start (n ∷ ns) = ap (λ (z : ℤ). fold (λ n m. n +ℤ m) (start +ℤ z) (map f ns)) (each n)
    ∙ ap (λ (z : ℤ). fold (λ n m. n +ℤ m) z (map f ns)) (+ℤ_idr start) ∙ sum_from f each start ns

no_greatest : (n : ℤ) (r : Range) → n ≡ pos 0 → greatest_term n r ≡ pos 0
no_greatest n r none = ap (λ (z : ℤ). greatest_term z r) none ∙ zero-*ℤ (pos r.high)

no_least : (n : ℤ) (r : Range) → n ≡ pos 0 → least_term n r ≡ pos 0
no_least n r none = ap (λ (z : ℤ). least_term z r) none ∙ zero-*ℤ (pos r.low)

greatest_is : (f : Form) (range : Variable → Range) → IsConstant f → greatest f range ≡ f.constant
unfolding greatest
greatest_is f range is =
    let term : Variable → ℤ = λ variable. greatest_term (f.coefficient variable) (range variable) in
    let each : (variable : Variable) → term variable ≡ pos 0 = λ variable. no_greatest (f.coefficient variable) (range variable) (is.none variable) in
    ap (λ (z : ℤ). f.constant +ℤ (z +ℤ sum_over (λ k. term (After k)))) (sum_from (λ k. term (Before k)) (λ k. each (Before k)) (pos 0) (range_with_len 0 32))
    ∙ ap (λ (z : ℤ). f.constant +ℤ (pos 0 +ℤ z)) (sum_from (λ k. term (After k)) (λ k. each (After k)) (pos 0) (range_with_len 0 32))
    ∙ +ℤ_idr f.constant

least_is : (f : Form) (range : ℕ → Range) → IsConstant f → least f range ≡ f.constant
unfolding least
least_is f range is =
    ap (λ (z : ℤ). f.constant +ℤ z) (sum_from (λ k. least_term (f.coefficient (Before k)) (range k))
    (λ k. no_least (f.coefficient (Before k)) (range k) (is.none (Before k))) (pos 0) (range_with_len 0 32))
    ∙ +ℤ_idr f.constant

constant_is : (n : ℤ) → IsConstant (constant_form n)
constant_is n = record { none = λ variable. refl }

difference_is : (a b : ℤ) → IsConstant (difference_form (constant_form a) (constant_form b))
difference_is a b = record { none = λ variable. refl }

-- a measure without terms has its constant for a form
substituted_is : (m : Measure) (value_of : ℕ → Form) → m.terms ≡ [] → substituted m value_of ≡ constant_form m.constant
unfolding substituted
substituted_is m value_of none =
    ap (λ (ts : List TermEntry). fold (λ f t. sum_form f (times_form t.coefficient (value_of t.register))) (constant_form m.constant) ts) none

below_by_difference : (a b : ℤ) → int_lt (a +ℤ (negsuc 0 *ℤ b)) (pos 0) ≡ int_lt a b
below_by_difference a b = by_lt_z a b (λ lt. grind (arith, ints)) (λ le. grind (arith, ints))

-- ---- the rules

pub constant_falls : (from to : Measure) (value_of : ℕ → Form) (before behind : List Range) → from.terms ≡ [] → to.terms ≡ [] →
    falls from to value_of before behind ≡ int_lt to.constant from.constant
unfolding falls
constant_falls from to value_of before behind none_from none_to =
    ap (λ (f : Form). int_lt (greatest (difference_form f (substituted from before_form)) (range_at before behind)) (pos 0))
    (substituted_is to value_of none_to)
    ∙ ap (λ (f : Form). int_lt (greatest (difference_form (constant_form to.constant) f) (range_at before behind)) (pos 0))
    (substituted_is from before_form none_from)
    ∙ ap (λ (z : ℤ). int_lt z (pos 0)) (greatest_is (difference_form (constant_form to.constant) (constant_form from.constant)) (range_at before behind)
    (difference_is to.constant from.constant))
    ∙ below_by_difference to.constant from.constant

pub constant_stays_below : (budget : ℕ) (to : Measure) (value_of : ℕ → Form) (before behind : List Range) → to.terms ≡ [] →
    stays_below budget to value_of before behind ≡ int_le to.constant (pos budget)
unfolding stays_below
constant_stays_below budget to value_of before behind none =
    ap (λ (f : Form). int_le (greatest f (range_at before behind)) (pos budget)) (substituted_is to value_of none)
    ∙ ap (λ (z : ℤ). int_le z (pos budget)) (greatest_is (constant_form to.constant) (range_at before behind) (constant_is to.constant))

pub constant_least_value : (m : Measure) (ranges : List Range) → m.terms ≡ [] → least_value m ranges ≡ m.constant
constant_least_value m ranges none =
    ap (λ (f : Form). least f (λ register. range_of ranges (register_numbered register))) (substituted_is m before_form none)
    ∙ least_is (constant_form m.constant) (λ register. range_of ranges (register_numbered register)) (constant_is m.constant)

pub constant_measured : (m : Measure) (r : RegisterFile) → m.terms ≡ [] → measured m r ≡ m.constant
constant_measured m r none =
    ap (λ (ts : List TermEntry). m.constant +ℤ sum_of (map (λ t. t.coefficient *ℤ pos (read r (register_numbered t.register))) ts)) none ∙ +ℤ_idr m.constant
