-- A measure that is lowered by 1 falls, where none of its registers is written; a whole budget stays within itself.
use Rattle.std.proofs.Common.{ℕ, ◌≡◌, ◌∙◌, ◌==◌, ◌||◌, Bool, true, false, inl, inr, if◌then◌else◌, Option, Some, None, option_to_list, List, [], ◌∷◌, fold}
use Rattle.std.proofs.Common.{nat_le, ℤ, pos, negsuc, ◌+ℤ◌, ◌-ℤ◌, ◌*ℤ◌, int_le, int_lt, ap, refl, sym, arith}
use Rattle.std.proofs.lemmas.Bool.{or_parts}
use Rattle.std.proofs.lemmas.Bool.Decides.{eqb_tells, nat_tests}
use Rattle.std.proofs.lemmas.Int.{ints}
use Rattle.std.specs.List.{list_any}
use Rattle.std.specs.Option.{option_map_or}
use Rattle.model.specs.Acceptance.Measures.{After, Before, Form, Measure, Variable, after_form, before_form, behind_form, call_form, constant_form}
use Rattle.model.specs.Acceptance.Measures.{difference_form, exact_sum, falls, greatest, greatest_on, greatest_term, has_term, is_register, lowered}
use Rattle.model.specs.Acceptance.Measures.{other_value}
use Rattle.model.specs.Acceptance.Measures.{range_at, stays_below, substituted, sum_form, times_form}
use Rattle.model.specs.Acceptance.RangeRules.{destination}
use Rattle.model.specs.declared.entries.TermEntry.{TermEntry}
use Rattle.model.specs.declared.instructions.Instr.{Instr}
use Rattle.model.specs.declared.instructions.Register.{Register}
use Rattle.model.specs.declared.ranges.Range.{Range}
use Rattle.measure.specs.Sums.{coefficient_sum, constant_sum}
use Rattle.measure.proofs.LinearSums.{coefficient-is, constant-is, sums-none}
use Rattle.measure.proofs.SumSteps.{nothing-times}

-- ---- no register of the terms is written

abbrev is_written : List Register → ℕ → Bool
is_written written register = list_any (λ x. x.0 == register) written

abbrev are_written : List TermEntry → List Register → Bool
are_written terms written = list_any (λ x. list_any (λ t. t.register == x.0) terms) written

abbrev added : (ℕ → Form) → Form → TermEntry → Form
added value_of f t = sum_form f (times_form t.coefficient (value_of t.register))

is-own : (a : ℕ) → (a == a) ≡ true
is-own a = elim (eqb_tells a a) [
  | inl same ↦ same.0
  | inr other ↦ absurd (other.1 refl)
]

other-way : (a b : ℕ) → (a == b) ≡ false → (b == a) ≡ false
other-way a b apart = elim (eqb_tells b a) [
  | inl same ↦ absurd (let clash : true ≡ false = sym (ap (λ (n : ℕ). a == n) same.1 ∙ is-own a) ∙ apart in cc)
  | inr other ↦ other.0
]

first-unwritten : (t : TermEntry) (rest : List TermEntry) (written : List Register) → are_written (t ∷ rest) written ≡ false
    → (is_written written t.register ≡ false) × (are_written rest written ≡ false)
first-unwritten t rest [] none = (refl, refl)
first-unwritten t rest (x ∷ more) none =
    let parts = or_parts (t.register == x.0 || list_any (λ u. u.register == x.0) rest) (are_written (t ∷ rest) more) none in
    let own = or_parts (t.register == x.0) (list_any (λ u. u.register == x.0) rest) parts.0 in
    let others = first-unwritten t rest more parts.1 in (
      ap (λ (b : Bool). b || is_written more t.register) (other-way t.register x.0 own.0) ∙ others.0,
      ap (λ (b : Bool). b || are_written rest more) own.1 ∙ others.1,
    )

-- what each register is after it, where those that are not written stay
abbrev Leaves : List Register → (ℕ → Form) → Type 0
Leaves written value_of = (register : ℕ) → is_written written register ≡ false → value_of register ≡ before_form register

same-forms : (written : List Register) (value_of : ℕ → Form) (start : Form) (terms : List TermEntry) → Leaves written value_of →
    are_written terms written ≡ false
    → fold (added value_of) start terms ≡ fold (added before_form) start terms
same-forms written value_of start [] leaves none = refl
same-forms written value_of start (t ∷ rest) leaves none =
    let parts = first-unwritten t rest written none in
    ap (λ (f : Form). fold (added value_of) (sum_form start (times_form t.coefficient f)) rest) (leaves t.register parts.0)
    ∙ same-forms written value_of (added before_form start t) rest leaves parts.1

-- ---- a form that counts no variable

nothing-of : (z : ℤ) → z *ℤ pos 0 ≡ pos 0
nothing-of z = omega (arith, ints)

nothing-more : (z : ℤ) → z +ℤ pos 0 ≡ z
nothing-more z = omega (arith, ints)

greatest-none : (before behind : List Range) (f : Form) → ((variable : Variable) → f.coefficient variable ≡ pos 0) → greatest_on before behind f ≡ f.constant
unfolding greatest
greatest-none before behind f none =
    let term : Variable → ℤ = λ v. greatest_term (f.coefficient v) (range_at before behind v) in
    let nothing : (v : Variable) → term v ≡ pos 0 =
    λ v. ap (λ (z : ℤ). greatest_term z (range_at before behind v)) (none v) ∙ nothing-times (range_at before behind v).high in
    ap (λ (z : ℤ). f.constant +ℤ z)
    (sums-none (λ k. term (Before k)) (λ k. term (After k)) 32 (λ k less. nothing (Before k)) (λ k less. nothing (After k)))
    ∙ nothing-more f.constant

-- ---- the difference

no-constant : (start : ℤ) (terms : List TermEntry) → constant_sum before_form start terms ≡ start
no-constant start [] = refl
no-constant start (t ∷ rest) =
    let same : start +ℤ (t.coefficient *ℤ pos 0) ≡ start = ap (λ (z : ℤ). start +ℤ z) (nothing-of t.coefficient) ∙ nothing-more start in
    ap (λ (z : ℤ). constant_sum before_form z rest) same ∙ no-constant start rest

less-itself : (z : ℤ) → z +ℤ (negsuc 0 *ℤ z) ≡ pos 0
less-itself z = omega (arith, ints)

one-less : (z : ℤ) → (z -ℤ pos 1) +ℤ (negsuc 0 *ℤ z) ≡ negsuc 0
one-less z = omega (arith, ints)

abbrev change : Measure → Form
change m = difference_form (substituted (lowered m (pos 1)) before_form) (substituted m before_form)

change-constant : (m : Measure) → (change m).constant ≡ negsuc 0
change-constant m =
    ap (λ (z : ℤ). z +ℤ (negsuc 0 *ℤ (substituted m before_form).constant))
    (constant-is (lowered m (pos 1)) before_form ∙ no-constant (m.constant -ℤ pos 1) m.terms)
    ∙ ap (λ (z : ℤ). (m.constant -ℤ pos 1) +ℤ (negsuc 0 *ℤ z)) (constant-is m before_form ∙ no-constant m.constant m.terms)
    ∙ one-less m.constant

change-coefficient : (m : Measure) (v : Variable) → (change m).coefficient v ≡ pos 0
change-coefficient m v =
    let sum = coefficient_sum before_form v (pos 0) m.terms in
    ap (λ (z : ℤ). z +ℤ (negsuc 0 *ℤ (substituted m before_form).coefficient v)) (coefficient-is (lowered m (pos 1)) before_form v)
    ∙ ap (λ (z : ℤ). sum +ℤ (negsuc 0 *ℤ z)) (coefficient-is m before_form v)
    ∙ less-itself sum

unwritten-falls : (m : Measure) (written : List Register) (value_of : ℕ → Form) (before behind : List Range) → Leaves written value_of →
    are_written m.terms written ≡ false
    → falls m (lowered m (pos 1)) value_of before behind ≡ true
unfolding falls substituted
unwritten-falls m written value_of before behind leaves none =
    ap (λ (f : Form). int_lt (greatest_on before behind (difference_form f (substituted m before_form))) (pos 0))
    (same-forms written value_of (constant_form (m.constant -ℤ pos 1)) m.terms leaves none)
    ∙ ap (λ (z : ℤ). int_lt z (pos 0)) (greatest-none before behind (change m) (change-coefficient m) ∙ change-constant m)

-- ---- after an instruction, and after a call

of-destination : (written : Option Register) (value : ℕ → Form) →
    Leaves (option_to_list written) (λ register. if is_register written register then value register else before_form register)
of-destination None value register none = refl
of-destination (Some x) value register none = ap (λ (b : Bool). if b then value register else before_form register) (or_parts (x.0 == register) false none).0

none-written : (terms : List TermEntry) (written : Option Register) → option_map_or (λ x. list_any (λ t. t.register == x.0) terms) written false ≡ false
    → are_written terms (option_to_list written) ≡ false
none-written terms None none = refl
none-written terms (Some x) none = ap (λ (b : Bool). b || false) none

pub lowered-falls : (m : Measure) (instr : Instr) (before behind : List Range) → option_map_or (λ rd. has_term m rd.0) (destination instr) false ≡ false
    → falls m (lowered m (pos 1)) (behind_form instr before behind) before behind ≡ true
lowered-falls m instr before behind none =
    unwritten-falls m (option_to_list (destination instr)) (behind_form instr before behind) before behind
    (of-destination (destination instr) (λ register. option_map_or (λ form. form) (exact_sum instr before) (other_value behind register)))
    (none-written m.terms (destination instr) none)

pub falls-behind-call : (m : Measure) (written : List Register) (before behind : List Range) → list_any (λ x. has_term m x.0) written ≡ false
    → falls m (lowered m (pos 1)) (call_form written) before behind ≡ true
falls-behind-call m written before behind none =
    unwritten-falls m written (call_form written) before behind (λ register left.
    ap (λ (b : Bool). if b then after_form register else before_form register) left) none

-- ---- a budget is not above itself

not-above : (n : ℕ) → nat_le n n ≡ true
not-above n = grind (arith, nat_tests)

pub budget-stays : (budget : ℕ) (value_of : ℕ → Form) (before behind : List Range) →
    stays_below budget (record { constant = pos budget; terms = [] }) value_of before behind ≡ true
unfolding stays_below substituted
budget-stays budget value_of before behind =
    ap (λ (z : ℤ). int_le z (pos budget)) (greatest-none before behind (constant_form (pos budget)) (λ variable. refl)) ∙ not-above budget
