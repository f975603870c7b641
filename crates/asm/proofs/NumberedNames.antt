-- The names that listings give: each stands for its own number, and no name stands for two.
use Rattle.std.proofs.Common.{◌≡◌, ℕ, ◌+◌, ◌-◌, ◌^◌, ◌<◌, ◌≤◌, zero, suc, Bool, true, false, cond, not, List, [], ◌∷◌, ◌++◌, length, Some, None, unwrap_or}
use Rattle.std.proofs.Common.{refl, ap, sym, ◌∙◌, arith, ltb, lt-ltb, decimal}
use Rattle.std.specs.Prelude.{map, nat_lt, position, ◌==◌, slice_index_or}
use Rattle.std.specs.List.{enumerate_from, list_any, position_or_len, range_with_len}
use Rattle.std.specs.Map.{lookup}
use Rattle.std.specs.Str.{bytes_eq}
use Rattle.std.proofs.lemmas.Bool.{ltb-true, ltb-false}
use Rattle.std.proofs.lemmas.Fmt.{decimal_injective}
use Rattle.std.proofs.lemmas.List.FromFn.{length-map-range_with_len}
use Rattle.std.proofs.lemmas.Slice.Eq.{bytes_eq-Decides}
use Rattle.model.specs.declared.entries.InterruptEntry.{InterruptEntry}
use Rattle.model.specs.Images.Listing.{Text, interrupt_name}
use Rattle.asm.specs.Names.{IsNamed, number_of}

bytes-differ : (xs ys : Text) → (xs ≡ ys → ⊥) → bytes_eq xs ys ≡ false
bytes-differ xs ys differ = by (bytes_eq xs ys) refl
  where
    by : (b : Bool) → bytes_eq xs ys ≡ b → b ≡ false
    by true e = absurd (differ ((bytes_eq-Decides xs ys).0 e))
    by false e = refl

pub bytes-same : (xs : Text) → bytes_eq xs xs ≡ true
bytes-same xs = (bytes_eq-Decides xs xs).1 refl

behind-first : Text → Text
behind-first [] = []
behind-first (x ∷ xs) = xs

pub name-differs : (c j k : ℕ) → j < 2 ^ 32 → k < 2 ^ 32 → (j ≡ k → ⊥) → bytes_eq (c ∷ decimal j) (c ∷ decimal k) ≡ false
unfolding behind-first
name-differs c j k small less differ =
    bytes-differ (c ∷ decimal j) (c ∷ decimal k) (λ e. differ (decimal_injective j k (omega arith) (omega arith) (ap behind-first e)))

-- ---- names of one sort

abbrev pub names_from : ℕ → ℕ → ℕ → List Text
names_from c a n = map (λ k. c ∷ decimal k) (range_with_len a n)

pub names-longer : (c a n : ℕ) → names_from c a (n + 1) ≡ names_from c a n ++ (c ∷ decimal (a + n)) ∷ []
names-longer c a zero = let same : a + 0 ≡ a = omega arith in ap (λ k. (c ∷ decimal k) ∷ []) (sym same)
names-longer c a (suc n) =
    let step : suc n + 1 ≡ suc (n + 1) = omega arith in
    let last : a + 1 + n ≡ a + suc n = omega arith in
    ap (names_from c a) step ∙ ap (λ ns. (c ∷ decimal a) ∷ ns) (names-longer c (a + 1) n ∙ ap (λ k. names_from c (a + 1) n ++ (c ∷ decimal k) ∷ []) last)

-- a name of another sort
pub name-absent : (c d a n k : ℕ) → (c == d) ≡ false → list_any (bytes_eq (c ∷ decimal k)) (names_from d a n) ≡ false
name-absent c d a zero k other = refl
name-absent c d a (suc n) k other = rw other (name-absent c d (a + 1) n k other)

-- the name of a number behind these
pub name-fresh : (c a n k : ℕ) → a + n ≤ k → k < 2 ^ 32 → list_any (bytes_eq (c ∷ decimal k)) (names_from c a n) ≡ false
name-fresh c a zero k behind small = refl
name-fresh c a (suc n) k behind small =
    rw (name-differs c k a small (omega (arith, behind, small)) (λ same. omega (arith, behind, same))) (name-fresh c (a + 1) n k (omega (arith, behind)) small)

place : (c a n k : ℕ) → a ≤ k → k < a + n → a + n ≤ 2 ^ 32 → position_or_len (bytes_eq (c ∷ decimal k)) (names_from c a n) ≡ k - a
place c a zero k low high small = absurd (omega (arith, low, high))
place c a (suc n) k low high small = by (ltb a k) refl (λ less. place c (a + 1) n k (omega (arith, less)) (omega (arith, high)) (omega (arith, small)))
  where
    by : (b : Bool) → ltb a k ≡ b → (a < k → position_or_len (bytes_eq (c ∷ decimal k)) (names_from c (a + 1) n) ≡ k - (a + 1))
        → position_or_len (bytes_eq (c ∷ decimal k)) (names_from c a (suc n)) ≡ k - a
    by true e others =
        let less = ltb-true a k e in
        let rest = others less in
        rw (name-differs c k a (omega (arith, high, small)) (omega (arith, low, high, small)) (λ same. omega (arith, less, same))) (omega (arith, rest, less))
    by false e others =
        let above = ltb-false a k e in
        let same : k ≡ a = omega (arith, low, above) in
        ap (λ b. cond (not b) (1 + position_or_len (bytes_eq (c ∷ decimal k)) (names_from c (a + 1) n)) 0)
        (ap (λ j. bytes_eq (c ∷ decimal k) (c ∷ decimal j)) (sym same) ∙ bytes-same (c ∷ decimal k))
        ∙ omega (arith, same)

position-named : (c n k : ℕ) → k < n → n ≤ 2 ^ 32 → position (bytes_eq (c ∷ decimal k)) (names_from c 0 n) ≡ Some k
position-named c n k less small =
    let found = place c 0 n k (omega arith) (omega (arith, less)) (omega (arith, small)) in
    let at : position_or_len (bytes_eq (c ∷ decimal k)) (names_from c 0 n) ≡ k = omega (arith, found) in
    let long = length-map-range_with_len (λ (j : ℕ). c ∷ decimal j) 0 n in
    ap (λ i. cond (nat_lt i (length (names_from c 0 n))) (Some i) None) at
    ∙ rw (lt-ltb k (length (names_from c 0 n)) (omega (arith, less, long))) refl

pub number-named : (c n k : ℕ) → k < n → n ≤ 2 ^ 32 → number_of (names_from c 0 n) (c ∷ decimal k) ≡ k
number-named c n k less small = ap (λ o. unwrap_or o 0) (position-named c n k less small)

pub is-named : (c n k : ℕ) → k < n → n ≤ 2 ^ 32 → IsNamed (names_from c 0 n) (c ∷ decimal k)
is-named c n k less small =
    let number = number-named c n k less small in
    record { known = position-named c n k less small ∙ ap Some (sym number); small = omega (arith, number, less, small) }

-- ---- names of interrupts, with their lines

abbrev pub interrupts_from : ℕ → List InterruptEntry → List (Text × ℕ)
interrupts_from a xs = map (λ (i : ℕ × InterruptEntry). (interrupt_name i.0, (i.1).line)) (enumerate_from a xs)

pub interrupts-longer : (a : ℕ) (xs : List InterruptEntry) (y : InterruptEntry)
    → interrupts_from a (xs ++ y ∷ []) ≡ interrupts_from a xs ++ (interrupt_name (a + length xs), y.line) ∷ []
interrupts-longer a [] y = let same : a + 0 ≡ a = omega arith in ap (λ k. (interrupt_name k, y.line) ∷ []) (sym same)
interrupts-longer a (x ∷ xs) y =
    let last : a + 1 + length xs ≡ a + suc (length xs) = omega arith in
    ap (λ is. (interrupt_name a, x.line) ∷ is) (interrupts-longer (a + 1) xs y ∙ ap (λ k. interrupts_from (a + 1) xs ++ (interrupt_name k, y.line) ∷ []) last)

pub interrupt-absent : (c k a : ℕ) (xs : List InterruptEntry) → (c == 105) ≡ false → lookup (bytes_eq (c ∷ decimal k)) (interrupts_from a xs) ≡ None
interrupt-absent c k a [] other = refl
interrupt-absent c k a (x ∷ xs) other = rw other (interrupt-absent c k (a + 1) xs other)

pub interrupt-fresh : (k a : ℕ) (xs : List InterruptEntry) → a + length xs ≤ k → k < 2 ^ 32 → lookup (bytes_eq (interrupt_name k)) (interrupts_from a xs) ≡ None
interrupt-fresh k a [] behind small = refl
interrupt-fresh k a (x ∷ xs) behind small =
    rw (name-differs 105 k a small (omega (arith, behind, small)) (λ same. omega (arith, behind, same)))
    (interrupt-fresh k (a + 1) xs (omega (arith, behind)) small)

pub interrupt-found : (k a : ℕ) (xs : List InterruptEntry) (d : InterruptEntry) → a ≤ k → k < a + length xs → a + length xs ≤ 2 ^ 32
    → lookup (bytes_eq (interrupt_name k)) (interrupts_from a xs) ≡ Some (slice_index_or xs (k - a) d).line
interrupt-found k a [] d low high small = absurd (omega (arith, low, high))
interrupt-found k a (x ∷ xs) d low high small =
    by (ltb a k) refl (λ less. interrupt-found k (a + 1) xs d (omega (arith, less)) (omega (arith, high)) (omega (arith, small)))
  where
    by : (b : Bool) → ltb a k ≡ b → (a < k → lookup (bytes_eq (interrupt_name k)) (interrupts_from (a + 1) xs) ≡ Some (slice_index_or xs (k - (a + 1)) d).line)
        → lookup (bytes_eq (interrupt_name k)) (interrupts_from a (x ∷ xs)) ≡ Some (slice_index_or (x ∷ xs) (k - a) d).line
    by true e others =
        let less = ltb-true a k e in
        let at : k - a ≡ suc (k - (a + 1)) = omega (arith, less) in
        rw (name-differs 105 k a (omega (arith, high, small)) (omega (arith, low, high, small)) (λ same. omega (arith, less, same)))
        (others less ∙ ap (λ i. Some (slice_index_or (x ∷ xs) i d).line) (sym at))
    by false e others =
        let above = ltb-false a k e in
        let same : k ≡ a = omega (arith, low, above) in
        let at : k - a ≡ 0 = omega (arith, same) in
        ap (λ b. cond b (Some x.line) (lookup (bytes_eq (interrupt_name k)) (interrupts_from (a + 1) xs)))
        (ap (λ j. bytes_eq (interrupt_name k) (interrupt_name j)) (sym same) ∙ bytes-same (interrupt_name k))
        ∙ ap (λ i. Some (slice_index_or (x ∷ xs) i d).line) (sym at)
