-- A substituted measure, one coefficient at a time, and sums over the variables.
use Rattle.std.proofs.Common.{ℕ, zero, suc, ◌≡◌, ◌∙◌, ◌+◌, ◌<◌, List, [], ◌∷◌, length, take, get_or, map, fold, ℤ, pos, ◌+ℤ◌, ◌*ℤ◌, ap, refl, arith}
use Rattle.std.proofs.lemmas.Int.{ints}
use Rattle.std.proofs.lemmas.List.FromFn.{map-range_with_len_more}
use Rattle.std.proofs.lemmas.List.Sums.{fold-append, fold_more}
use Rattle.std.specs.List.{range_with_len}
use Rattle.model.specs.declared.entries.TermEntry.{TermEntry}
use Rattle.model.specs.Acceptance.Measures.{Form, Measure, Variable, constant_form, substituted, sum_form, sum_of, times_form}
use Rattle.measure.specs.Sums.{coefficient_sum, constant_sum}

coefficient-from : (value_of : ℕ → Form) (variable : Variable) (start : Form) (terms : List TermEntry)
    → (fold (λ f t. sum_form f (times_form t.coefficient (value_of t.register))) start terms).coefficient variable ≡ coefficient_sum value_of variable
    (start.coefficient variable) terms
coefficient-from value_of variable start [] = refl
coefficient-from value_of variable start (t ∷ ts) = coefficient-from value_of variable (sum_form start (times_form t.coefficient (value_of t.register))) ts

constant-from : (value_of : ℕ → Form) (start : Form) (terms : List TermEntry)
    → (fold (λ f t. sum_form f (times_form t.coefficient (value_of t.register))) start terms).constant ≡ constant_sum value_of start.constant terms
constant-from value_of start [] = refl
constant-from value_of start (t ∷ ts) = constant-from value_of (sum_form start (times_form t.coefficient (value_of t.register))) ts

pub coefficient-is : (m : Measure) (value_of : ℕ → Form) (variable : Variable) →
    (substituted m value_of).coefficient variable ≡ coefficient_sum value_of variable (pos 0) m.terms
unfolding substituted
coefficient-is m value_of variable = coefficient-from value_of variable (constant_form m.constant) m.terms

pub constant-is : (m : Measure) (value_of : ℕ → Form) → (substituted m value_of).constant ≡ constant_sum value_of m.constant m.terms
unfolding substituted
constant-is m value_of = constant-from value_of (constant_form m.constant) m.terms

-- the sum over the registers below a number, and two such sums
abbrev pub sum_below : (ℕ → ℤ) → ℕ → ℤ
sum_below term n = sum_of (map term (range_with_len 0 n))

abbrev pub sums_below : (ℕ → ℤ) → (ℕ → ℤ) → ℕ → ℤ
sums_below before after n = sum_below before n +ℤ sum_below after n

-- one more register
pub sum_more : (term : ℕ → ℤ) (n : ℕ) → sum_below term (n + 1) ≡ sum_below term n +ℤ term n
sum_more term n =
    ap sum_of (map-range_with_len_more term 0 n n (omega arith))
    ∙ fold-append (λ (a : ℤ) (b : ℤ). a +ℤ b) (pos 0) (map term (range_with_len 0 n)) (term n ∷ [])

-- one more term
pub constant-more : (value_of : ℕ → Form) (start : ℤ) (terms : List TermEntry) (i : ℕ) (d : TermEntry) → i < length terms
    → constant_sum value_of start (take (i + 1) terms) ≡ constant_sum value_of start (take i terms) +ℤ
    ((get_or terms i d).coefficient *ℤ (value_of (get_or terms i d).register).constant)
constant-more value_of start terms i d less = fold_more (λ (z : ℤ) (t : TermEntry). z +ℤ (t.coefficient *ℤ (value_of t.register).constant)) start terms i d less

pub coefficient-more : (value_of : ℕ → Form) (variable : Variable) (start : ℤ) (terms : List TermEntry) (i : ℕ) (d : TermEntry) → i < length terms
    → coefficient_sum value_of variable start (take (i + 1) terms) ≡ coefficient_sum value_of variable start (take i terms) +ℤ
    ((get_or terms i d).coefficient *ℤ (value_of (get_or terms i d).register).coefficient variable)
coefficient-more value_of variable start terms i d less =
    fold_more (λ (z : ℤ) (t : TermEntry). z +ℤ (t.coefficient *ℤ (value_of t.register).coefficient variable)) start terms i d less

pub sums-more : (before after : ℕ → ℤ) (n : ℕ) → sums_below before after (n + 1) ≡ (sums_below before after n +ℤ before n) +ℤ after n
sums-more before after n =
    ap (λ (z : ℤ). z +ℤ sum_below after (n + 1)) (sum_more before n)
    ∙ ap (λ (z : ℤ). (sum_below before n +ℤ before n) +ℤ z) (sum_more after n)
    ∙ regrouped (sum_below before n) (before n) (sum_below after n) (after n)
  where
    regrouped : (a b c d : ℤ) → (a +ℤ b) +ℤ (c +ℤ d) ≡ ((a +ℤ c) +ℤ b) +ℤ d
    regrouped a b c d = omega (arith, ints)

-- where no variable counts
pub sum-none : (term : ℕ → ℤ) (n : ℕ) → ((v : ℕ) → v < n → term v ≡ pos 0) → sum_below term n ≡ pos 0
sum-none term zero none = refl
sum-none term (suc n) none =
    let more : suc n ≡ n + 1 = omega arith in
    ap (λ (count : ℕ). sum_below term count) more
    ∙ sum_more term n
    ∙ ap (λ (z : ℤ). z +ℤ term n) (sum-none term n (λ v less. none v (grind (arith, less))))
    ∙ ap (λ (z : ℤ). pos 0 +ℤ z) (none n (grind arith))

pub sums-none : (before after : ℕ → ℤ) (n : ℕ) → ((v : ℕ) → v < n → before v ≡ pos 0) → ((v : ℕ) → v < n → after v ≡ pos 0)
    → sums_below before after n ≡ pos 0
sums-none before after n first second =
    ap (λ (z : ℤ). z +ℤ sum_below after n) (sum-none before n first) ∙ ap (λ (z : ℤ). pos 0 +ℤ z) (sum-none after n second)

pub coefficient_none : (m : Measure) (value_of : ℕ → Form) (variable : Variable) → m.terms ≡ [] → (substituted m value_of).coefficient variable ≡ pos 0
coefficient_none m value_of variable none =
    coefficient-is m value_of variable ∙ ap (λ (terms : List TermEntry). coefficient_sum value_of variable (pos 0) terms) none

-- one more term that does not count the variable
pub coefficient-kept : (value_of : ℕ → Form) (variable : Variable) (terms : List TermEntry) (i : ℕ) (d : TermEntry) → i < length terms
    → coefficient_sum value_of variable (pos 0) (take i terms) ≡ pos 0 → (value_of (get_or terms i d).register).coefficient variable ≡ pos 0
    → coefficient_sum value_of variable (pos 0) (take (i + 1) terms) ≡ pos 0
coefficient-kept value_of variable terms i d less so_far none =
    coefficient-more value_of variable (pos 0) terms i d less
    ∙ ap (λ (z : ℤ). z +ℤ ((get_or terms i d).coefficient *ℤ (value_of (get_or terms i d).register).coefficient variable)) so_far
    ∙ ap (λ (z : ℤ). pos 0 +ℤ ((get_or terms i d).coefficient *ℤ z)) none
    ∙ times-nothing (get_or terms i d).coefficient
  where
    times-nothing : (z : ℤ) → pos 0 +ℤ (z *ℤ pos 0) ≡ pos 0
    times-nothing z = omega (arith, ints)
