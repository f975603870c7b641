-- No value of a form is above its greatest over ranges, or below its least.
use Rattle.std.proofs.Common.{ℕ, zero, suc, ◌≡◌, ◌∙◌, ◌+◌, ◌*◌, ◌<◌, ◌≤◌, [], ◌∷◌, ℤ, pos, negsuc, ◌+ℤ◌, ◌*ℤ◌, map, sym, ap, subst, arith}
use Rattle.std.specs.Prelude.{◌≤ℤ◌}
use Rattle.std.specs.List.{range_with_len}
use Rattle.std.proofs.Math.IntN.{+ℤ_idr}
use Rattle.std.proofs.lemmas.Int.{ints}
use Rattle.std.proofs.lemmas.Nat.{mul-le}
use Rattle.std.proofs.lemmas.List.FromFn.{map-range_with_len_more}
use Rattle.std.proofs.lemmas.List.Sums.{fold-append}
use Rattle.model.specs.declared.ranges.Range.{Range}
use Rattle.model.specs.Acceptance.Measures.{After, Before, Form, Variable, greatest, greatest_term, least, least_term, sum_of, sum_over}
use Rattle.ranges.specs.Inside.{LiesIn}
use Rattle.headline.proofs.measure_facts.FormValues.{total, total-none, value}

-- one more variable
sum-more : (term : ℕ → ℤ) (n : ℕ) → sum_of (map term (range_with_len 0 (suc n))) ≡ sum_of (map term (range_with_len 0 n)) +ℤ term n
sum-more term n =
    let next : suc n ≡ n + 1 = omega arith in
    ap (λ (count : ℕ). sum_of (map term (range_with_len 0 count))) next
    ∙ ap sum_of (map-range_with_len_more term 0 n n (omega arith))
    ∙ fold-append (λ (a : ℤ) (b : ℤ). a +ℤ b) (pos 0) (map term (range_with_len 0 n)) (term n ∷ [])

above : (c : ℤ) (r : Range) (x : ℕ) → LiesIn x r → (c *ℤ pos x) ≤ℤ greatest_term c r
above (pos n) r x inside =
    let product : n * x ≤ n * r.high = mul-le n x n r.high (omega arith) inside.1 in
    grind (arith, ints, product)
above (negsuc n) r x inside =
    let product : suc n * r.low ≤ suc n * x = mul-le (suc n) r.low (suc n) x (omega arith) inside.0 in
    omega (arith, ints, product)

below : (c : ℤ) (r : Range) (x : ℕ) → LiesIn x r → least_term c r ≤ℤ (c *ℤ pos x)
below (pos n) r x inside =
    let product : n * r.low ≤ n * x = mul-le n r.low n x (omega arith) inside.0 in
    grind (arith, ints, product)
below (negsuc n) r x inside =
    let product : suc n * x ≤ suc n * r.high = mul-le (suc n) x (suc n) r.high (omega arith) inside.1 in
    omega (arith, ints, product)

both-less : (a b c d : ℤ) → a ≤ℤ c → b ≤ℤ d → (a +ℤ b) ≤ℤ (c +ℤ d)
both-less a b c d left right = omega (arith, ints)

no-more : (a : ℤ) → a ≤ℤ a
no-more a = omega (arith, ints)

total-above : (c : ℕ → ℤ) (v : ℕ → ℕ) (range : ℕ → Range) (n : ℕ) → ((k : ℕ) → k < n → LiesIn (v k) (range k))
    → total c v n ≤ℤ sum_of (map (λ k. greatest_term (c k) (range k)) (range_with_len 0 n))
unfolding total
total-above c v range zero inside = no-more (pos 0)
total-above c v range (suc n) inside =
    subst (λ (z : ℤ). (total c v n +ℤ (c n *ℤ pos (v n))) ≤ℤ z) (sym (sum-more (λ k. greatest_term (c k) (range k)) n))
    (both-less (total c v n) (c n *ℤ pos (v n)) (sum_of (map (λ k. greatest_term (c k) (range k)) (range_with_len 0 n))) (greatest_term (c n) (range n))
    (total-above c v range n (λ k less. inside k (omega arith))) (above (c n) (range n) (v n) (inside n (omega arith))))

total-below : (c : ℕ → ℤ) (v : ℕ → ℕ) (range : ℕ → Range) (n : ℕ) → ((k : ℕ) → k < n → LiesIn (v k) (range k))
    → sum_of (map (λ k. least_term (c k) (range k)) (range_with_len 0 n)) ≤ℤ total c v n
unfolding total
total-below c v range zero inside = no-more (pos 0)
total-below c v range (suc n) inside =
    subst (λ (z : ℤ). z ≤ℤ (total c v n +ℤ (c n *ℤ pos (v n)))) (sym (sum-more (λ k. least_term (c k) (range k)) n))
    (both-less (sum_of (map (λ k. least_term (c k) (range k)) (range_with_len 0 n))) (least_term (c n) (range n)) (total c v n) (c n *ℤ pos (v n))
    (total-below c v range n (λ k less. inside k (omega arith))) (below (c n) (range n) (v n) (inside n (omega arith))))

pub value-above : (v : Variable → ℕ) (f : Form) (range : Variable → Range)
    → ((k : ℕ) → k < 32 → LiesIn (v (Before k)) (range (Before k))) → ((k : ℕ) → k < 32 → LiesIn (v (After k)) (range (After k)))
    → value v f ≤ℤ greatest f range
unfolding greatest
value-above v f range sooner later =
    let term : Variable → ℤ = λ k. greatest_term (f.coefficient k) (range k) in
    let before : ℤ = total (λ k. f.coefficient (Before k)) (λ k. v (Before k)) 32 in
    let after : ℤ = total (λ k. f.coefficient (After k)) (λ k. v (After k)) 32 in
    let first : ℤ = sum_over (λ k. term (Before k)) in
    let second : ℤ = sum_over (λ k. term (After k)) in
    both-less f.constant (before +ℤ after) f.constant (first +ℤ second) (no-more f.constant)
    (both-less before after first second (total-above (λ k. f.coefficient (Before k)) (λ k. v (Before k)) (λ k. range (Before k)) 32 sooner)
    (total-above (λ k. f.coefficient (After k)) (λ k. v (After k)) (λ k. range (After k)) 32 later))

-- where what registers are after an edge does not count
pub value-below : (v : Variable → ℕ) (f : Form) (range : ℕ → Range) → ((k : ℕ) → k < 32 → LiesIn (v (Before k)) (range k)) → ((k : ℕ) → v (After k) ≡ 0)
    → least f range ≤ℤ value v f
unfolding least
value-below v f range inside none =
    let before : ℤ = total (λ k. f.coefficient (Before k)) (λ k. v (Before k)) 32 in
    let after : ℤ = total (λ k. f.coefficient (After k)) (λ k. v (After k)) 32 in
    let low : ℤ = sum_over (λ k. least_term (f.coefficient (Before k)) (range k)) in
    let nothing : before ≡ before +ℤ after =
    sym (ap (λ (z : ℤ). before +ℤ z) (total-none (λ k. f.coefficient (After k)) (λ k. v (After k)) 32 none) ∙ +ℤ_idr before) in
    both-less f.constant low f.constant (before +ℤ after) (no-more f.constant)
    (subst (λ (z : ℤ). low ≤ℤ z) nothing (total-below (λ k. f.coefficient (Before k)) (λ k. v (Before k)) range 32 inside))
