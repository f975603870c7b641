-- The value of a linear form where each variable has a value.
use Rattle.std.proofs.Common.{ℕ, zero, suc, ◌≡◌, ◌∙◌, ◌==◌, ◌<◌, ◌≤◌, Bool, true, false, if◌then◌else◌, inl, inr, ℤ, pos, negsuc, ◌+ℤ◌, ◌*ℤ◌, refl, sym, ap}
use Rattle.std.proofs.Common.{arith}
use Rattle.std.proofs.lemmas.Int.{ints}
use Rattle.std.proofs.lemmas.Bool.Decides.{eqb_tells}
use Rattle.std.proofs.Math.IntN.{zero-*ℤ, +ℤ_idr, +ℤ_idl, *ℤ_comm, *ℤ-negsuc, neg_ℤ, neg_ℤ-+ℤ}
use Rattle.model.specs.Acceptance.Measures.{After, Before, Form, Variable, after_form, before_form, constant_form, difference_form, sum_form, times_form}

-- the sum over the registers below a number
unfoldable pub total : (ℕ → ℤ) → (ℕ → ℕ) → ℕ → ℤ
total coefficient v zero = pos 0
total coefficient v (suc n) = total coefficient v n +ℤ (coefficient n *ℤ pos (v n))

-- the sum over the variables
abbrev pub whole : (Variable → ℤ) → (Variable → ℕ) → ℤ
whole coefficient v =
    total (λ k. coefficient (Before k)) (λ k. v (Before k)) 32 +ℤ total (λ k. coefficient (After k)) (λ k. v (After k)) 32

abbrev pub value : (Variable → ℕ) → Form → ℤ
value v f = f.constant +ℤ whole f.coefficient v

-- ---- sums and products

times-suc : (z : ℤ) (n : ℕ) → z *ℤ pos (suc n) ≡ (z *ℤ pos n) +ℤ z
times-suc z n = omega (arith, ints)

times-zero : (z : ℤ) → z *ℤ pos 0 ≡ pos 0
times-zero z = omega (arith, ints)

exchanged : (a b x y : ℤ) → (a +ℤ b) +ℤ (x +ℤ y) ≡ (a +ℤ x) +ℤ (b +ℤ y)
exchanged a b x y = omega (arith, ints)

sum-times : (a b : ℤ) (n : ℕ) → (a +ℤ b) *ℤ pos n ≡ (a *ℤ pos n) +ℤ (b *ℤ pos n)
sum-times a b zero = times-zero (a +ℤ b) ∙ sym (ap (λ (z : ℤ). z +ℤ (b *ℤ pos 0)) (times-zero a) ∙ ap (λ (z : ℤ). pos 0 +ℤ z) (times-zero b))
sum-times a b (suc n) =
    times-suc (a +ℤ b) n
    ∙ ap (λ (z : ℤ). z +ℤ (a +ℤ b)) (sum-times a b n)
    ∙ exchanged (a *ℤ pos n) (b *ℤ pos n) a b
    ∙ sym (ap (λ (z : ℤ). z +ℤ (b *ℤ pos (suc n))) (times-suc a n) ∙ ap (λ (z : ℤ). ((a *ℤ pos n) +ℤ a) +ℤ z) (times-suc b n))

times-sum : (a x y : ℤ) → a *ℤ (x +ℤ y) ≡ (a *ℤ x) +ℤ (a *ℤ y)
times-sum (pos n) x y =
    *ℤ_comm (pos n) (x +ℤ y) ∙ sum-times x y n ∙ ap (λ (z : ℤ). z +ℤ (y *ℤ pos n)) (*ℤ_comm x (pos n)) ∙ ap (λ (z : ℤ). (pos n *ℤ x) +ℤ z) (*ℤ_comm y (pos n))
times-sum (negsuc n) x y =
    *ℤ_comm (negsuc n) (x +ℤ y) ∙ *ℤ-negsuc (x +ℤ y) n ∙ ap neg_ℤ (sum-times x y (suc n)) ∙ neg_ℤ-+ℤ (x *ℤ pos (suc n)) (y *ℤ pos (suc n))
    ∙ ap (λ (z : ℤ). z +ℤ neg_ℤ (y *ℤ pos (suc n))) (sym (*ℤ-negsuc x n) ∙ *ℤ_comm x (negsuc n))
    ∙ ap (λ (z : ℤ). (negsuc n *ℤ x) +ℤ z) (sym (*ℤ-negsuc y n) ∙ *ℤ_comm y (negsuc n))

times-times : (a b : ℤ) (n : ℕ) → (a *ℤ b) *ℤ pos n ≡ a *ℤ (b *ℤ pos n)
times-times a b zero = times-zero (a *ℤ b) ∙ sym (ap (λ (z : ℤ). a *ℤ z) (times-zero b) ∙ times-zero a)
times-times a b (suc n) =
    times-suc (a *ℤ b) n
    ∙ ap (λ (z : ℤ). z +ℤ (a *ℤ b)) (times-times a b n)
    ∙ sym (ap (λ (z : ℤ). a *ℤ z) (times-suc b n) ∙ times-sum a (b *ℤ pos n) b)

total-sum : (a b : ℕ → ℤ) (v : ℕ → ℕ) (n : ℕ) → total (λ k. a k +ℤ b k) v n ≡ total a v n +ℤ total b v n
unfolding total
total-sum a b v zero = refl
total-sum a b v (suc n) =
    ap (λ (z : ℤ). z +ℤ ((a n +ℤ b n) *ℤ pos (v n))) (total-sum a b v n)
    ∙ ap (λ (z : ℤ). (total a v n +ℤ total b v n) +ℤ z) (sum-times (a n) (b n) (v n))
    ∙ exchanged (total a v n) (total b v n) (a n *ℤ pos (v n)) (b n *ℤ pos (v n))

total-times : (c : ℤ) (a : ℕ → ℤ) (v : ℕ → ℕ) (n : ℕ) → total (λ k. c *ℤ a k) v n ≡ c *ℤ total a v n
unfolding total
total-times c a v zero = sym (times-zero c)
total-times c a v (suc n) =
    ap (λ (z : ℤ). z +ℤ ((c *ℤ a n) *ℤ pos (v n))) (total-times c a v n)
    ∙ ap (λ (z : ℤ). (c *ℤ total a v n) +ℤ z) (times-times c (a n) (v n))
    ∙ sym (times-sum c (total a v n) (a n *ℤ pos (v n)))

total-nothing : (v : ℕ → ℕ) (n : ℕ) → total (λ k. pos 0) v n ≡ pos 0
unfolding total
total-nothing v zero = refl
total-nothing v (suc n) =
    ap (λ (z : ℤ). z +ℤ (pos 0 *ℤ pos (v n))) (total-nothing v n) ∙ +ℤ_idl (pos 0 *ℤ pos (v n)) ∙ zero-*ℤ (pos (v n))

pub total-none : (a : ℕ → ℤ) (v : ℕ → ℕ) (n : ℕ) → ((k : ℕ) → v k ≡ 0) → total a v n ≡ pos 0
unfolding total
total-none a v zero none = refl
total-none a v (suc n) none =
    ap (λ (z : ℤ). z +ℤ (a n *ℤ pos (v n))) (total-none a v n none)
    ∙ ap (λ (z : ℤ). pos 0 +ℤ z) (ap (λ (x : ℕ). a n *ℤ pos x) (none n) ∙ times-zero (a n))

-- ---- one variable

abbrev chosen : ℕ → ℕ → ℤ
chosen i k = if k == i then pos 1 else pos 0

term-other : (i k x : ℕ) → (k == i) ≡ false → chosen i k *ℤ pos x ≡ pos 0
term-other i k x other = ap (λ (b : Bool). (if b then pos 1 else pos 0) *ℤ pos x) other ∙ zero-*ℤ (pos x)

one-times : (x : ℕ) → pos 1 *ℤ pos x ≡ pos x
one-times x = omega (arith, ints)

term-same : (i k x : ℕ) → (k == i) ≡ true → chosen i k *ℤ pos x ≡ pos x
term-same i k x same = ap (λ (b : Bool). (if b then pos 1 else pos 0) *ℤ pos x) same ∙ one-times x

total-before : (v : ℕ → ℕ) (i n : ℕ) → n ≤ i → total (chosen i) v n ≡ pos 0
unfolding total
total-before v i zero less = refl
total-before v i (suc n) less =
    elim (eqb_tells n i) [
      | inl same ↦ absurd (omega (arith, same.1))
      | inr other ↦
          ap (λ (z : ℤ). z +ℤ (chosen i n *ℤ pos (v n))) (total-before v i n (omega arith))
          ∙ ap (λ (z : ℤ). pos 0 +ℤ z) (term-other i n (v n) other.0)
    ]

total-chosen : (v : ℕ → ℕ) (i n : ℕ) → i < n → total (chosen i) v n ≡ pos (v i)
unfolding total
total-chosen v i zero less = absurd (omega arith)
total-chosen v i (suc n) less =
    elim (eqb_tells n i) [
      | inl same ↦
          ap (λ (z : ℤ). z +ℤ (chosen i n *ℤ pos (v n))) (total-before v i n (omega (arith, same.1)))
          ∙ ap (λ (z : ℤ). pos 0 +ℤ z) (term-same i n (v n) same.0 ∙ ap (λ (k : ℕ). pos (v k)) same.1)
          ∙ +ℤ_idl (pos (v i))
      | inr other ↦
          let apart = other.1 in
          ap (λ (z : ℤ). z +ℤ (chosen i n *ℤ pos (v n))) (total-chosen v i n (omega (arith, apart)))
          ∙ ap (λ (z : ℤ). pos (v i) +ℤ z) (term-other i n (v n) other.0) ∙ +ℤ_idr (pos (v i))
    ]

-- ---- forms

pub value-constant : (v : Variable → ℕ) (z : ℤ) → value v (constant_form z) ≡ z
value-constant v z =
    ap (λ (y : ℤ). z +ℤ (y +ℤ total (λ k. pos 0) (λ k. v (After k)) 32)) (total-nothing (λ k. v (Before k)) 32)
    ∙ ap (λ (y : ℤ). z +ℤ (pos 0 +ℤ y)) (total-nothing (λ k. v (After k)) 32)
    ∙ +ℤ_idr z

pub value-before : (v : Variable → ℕ) (i : ℕ) → i < 32 → value v (before_form i) ≡ pos (v (Before i))
value-before v i less =
    ap (λ (y : ℤ). pos 0 +ℤ (y +ℤ total (λ k. pos 0) (λ k. v (After k)) 32)) (total-chosen (λ k. v (Before k)) i 32 less)
    ∙ ap (λ (y : ℤ). pos 0 +ℤ (pos (v (Before i)) +ℤ y)) (total-nothing (λ k. v (After k)) 32)
    ∙ ap (λ (y : ℤ). pos 0 +ℤ y) (+ℤ_idr (pos (v (Before i))))
    ∙ +ℤ_idl (pos (v (Before i)))

pub value-after : (v : Variable → ℕ) (i : ℕ) → i < 32 → value v (after_form i) ≡ pos (v (After i))
value-after v i less =
    ap (λ (y : ℤ). pos 0 +ℤ (y +ℤ total (chosen i) (λ k. v (After k)) 32)) (total-nothing (λ k. v (Before k)) 32)
    ∙ ap (λ (y : ℤ). pos 0 +ℤ (pos 0 +ℤ y)) (total-chosen (λ k. v (After k)) i 32 less)
    ∙ ap (λ (y : ℤ). pos 0 +ℤ y) (+ℤ_idl (pos (v (After i))))
    ∙ +ℤ_idl (pos (v (After i)))

pub value-sum : (v : Variable → ℕ) (f g : Form) → value v (sum_form f g) ≡ value v f +ℤ value v g
value-sum v f g =
    let before : ℕ → ℕ = λ k. v (Before k) in
    let after : ℕ → ℕ = λ k. v (After k) in
    let a : ℤ = total (λ k. f.coefficient (Before k)) before 32 in
    let b : ℤ = total (λ k. g.coefficient (Before k)) before 32 in
    let x : ℤ = total (λ k. f.coefficient (After k)) after 32 in
    let y : ℤ = total (λ k. g.coefficient (After k)) after 32 in
    ap (λ (z : ℤ). (f.constant +ℤ g.constant) +ℤ (z +ℤ total (λ k. f.coefficient (After k) +ℤ g.coefficient (After k)) after 32))
    (total-sum (λ k. f.coefficient (Before k)) (λ k. g.coefficient (Before k)) before 32)
    ∙ ap (λ (z : ℤ). (f.constant +ℤ g.constant) +ℤ ((a +ℤ b) +ℤ z)) (total-sum (λ k. f.coefficient (After k)) (λ k. g.coefficient (After k)) after 32)
    ∙ ap (λ (z : ℤ). (f.constant +ℤ g.constant) +ℤ z) (exchanged a b x y)
    ∙ exchanged f.constant g.constant (a +ℤ x) (b +ℤ y)

pub value-times : (v : Variable → ℕ) (c : ℤ) (f : Form) → value v (times_form c f) ≡ c *ℤ value v f
value-times v c f =
    let before : ℕ → ℕ = λ k. v (Before k) in
    let after : ℕ → ℕ = λ k. v (After k) in
    let a : ℤ = total (λ k. f.coefficient (Before k)) before 32 in
    let x : ℤ = total (λ k. f.coefficient (After k)) after 32 in
    ap (λ (z : ℤ). (c *ℤ f.constant) +ℤ (z +ℤ total (λ k. c *ℤ f.coefficient (After k)) after 32)) (total-times c (λ k. f.coefficient (Before k)) before 32)
    ∙ ap (λ (z : ℤ). (c *ℤ f.constant) +ℤ ((c *ℤ a) +ℤ z)) (total-times c (λ k. f.coefficient (After k)) after 32)
    ∙ ap (λ (z : ℤ). (c *ℤ f.constant) +ℤ z) (sym (times-sum c a x))
    ∙ sym (times-sum c f.constant (a +ℤ x))

pub value-difference : (v : Variable → ℕ) (f g : Form) → value v (difference_form f g) ≡ value v f +ℤ (negsuc 0 *ℤ value v g)
value-difference v f g = value-sum v f (times_form (negsuc 0) g) ∙ ap (λ (y : ℤ). value v f +ℤ y) (value-times v (negsuc 0) g)
