-- What listings write of numbers, names and registers is read as these.
use Rattle.std.specs.Prelude.{◌==◌}
use Rattle.std.proofs.Common.{◌≡◌, ℕ, suc, ◌+◌, ◌-◌, ◌*◌, ◌/◌, ◌%◌, ◌^◌, ◌<◌, ◌≤◌, Bool, true, false, ◌&&◌, cond, List, [], ◌∷◌, ◌++◌, length, Some, Ok, Err, ℤ}
use Rattle.std.proofs.Common.{pos, negsuc, refl, ap, ◌∙◌, arith, ltb, lt-ltb, min}
use Rattle.std.specs.Fmt.{decimal}
use Rattle.std.specs.Str.{all_ascii_digits}
use Rattle.std.specs.Char.{is_ascii_digit, digit_value}
use Rattle.std.specs.Prelude.{neg_ℤ}
use Rattle.std.proofs.lemmas.Bool.{and_parts, and_right, ltb-true, ltb-false}
use Rattle.std.proofs.lemmas.Bool.Decides.{nat_tests}
use Rattle.std.proofs.lemmas.Fmt.{decimal_nonempty, decimal_by_steps, decimal_digit, decimal_step}
use Rattle.model.specs.Images.Listing.{Text, whole_number, register_name}
use Rattle.asm_line.specs.Words.{◌>>=◌, is_name_start, name_of, object_first, number_of, number_first, value_on, magnitude, digit_in, small_number_of}
use Rattle.asm_line.specs.Words.{register_numbered, register_of, register_first}
use Rattle.asm_line.proofs.PlainWords.{decimal-digits, digits-name}
use Rattle.asm_line.specs.declared.faults.LineFault.TheVariants as fault

-- ---- values

value-append : (radix m : ℕ) (xs ys : Text) → value_on radix m (xs ++ ys) ≡ (value_on radix m xs >>= λ k. value_on radix k ys)
value-append radix m [] ys = refl
value-append radix m (x ∷ xs) ys =
    let rest = value-append radix (min (m * radix + digit_value x) (2 ^ 63 - 1)) xs ys in
    elim (ltb (digit_value x) radix)
    as (λ b. ((cond b (Ok (digit_value x)) (Err fault.Syntax)) >>= λ digit. value_on radix (min (m * radix + digit) (2 ^ 63 - 1)) (xs ++ ys))
    ≡ (((cond b (Ok (digit_value x)) (Err fault.Syntax)) >>= λ digit. value_on radix (min (m * radix + digit) (2 ^ 63 - 1)) xs) >>= λ k. value_on radix k ys))
    [ true ↦ rest | false ↦ refl ]

digit-value : (d : ℕ) → d < 10 → digit_value (48 + d) ≡ d
digit-value d h = grind (arith, nat_tests)

digit-in : (d : ℕ) → d < 10 → digit_in 10 (48 + d) ≡ Ok d
digit-in d h = rw (digit-value d h) (rw (lt-ltb d 10 h) refl)

digit-last : (m d : ℕ) → d < 10 → m * 10 + d < 2 ^ 63 → value_on 10 m ((48 + d) ∷ []) ≡ Ok (m * 10 + d)
digit-last m d h small =
    let least : min (m * 10 + d) (2 ^ 63 - 1) ≡ m * 10 + d = omega arith in
    ap (λ r. r >>= λ digit. value_on 10 (min (m * 10 + digit) (2 ^ 63 - 1)) []) (digit-in d h) ∙ ap Ok least

abbrev Valued : ℕ → Text → Type 0
Valued n ds = n < 2 ^ 63 → value_on 10 0 ds ≡ Ok n

value-decimal : (n : ℕ) → n < 2 ^ 63 → value_on 10 0 (decimal n) ≡ Ok n
value-decimal n small = decimal_by_steps Valued one more n (omega arith) small
  where
    one : (k : ℕ) → k < 10 → Valued k ((48 + k) ∷ [])
    one k h less = let same : 0 * 10 + k ≡ k = omega arith in digit-last 0 k h (omega arith) ∙ ap Ok same

    more : (k : ℕ) (ds : Text) → 10 ≤ k → Valued (k / 10) ds → Valued k (ds ++ ((48 + k % 10) ∷ []))
    more k ds least front less =
        let same : k / 10 * 10 + k % 10 ≡ k = omega arith in
        value-append 10 0 ds ((48 + k % 10) ∷ [])
        ∙ (ap (λ r. r >>= λ m. value_on 10 m ((48 + k % 10) ∷ [])) (front (omega arith))
        ∙ (digit-last (k / 10) (k % 10) (omega arith) (omega arith) ∙ ap Ok same))

magnitude-some : (radix : ℕ) (ds : Text) → 0 < length ds → magnitude radix ds ≡ value_on radix 0 ds
magnitude-some radix [] h = absurd (omega arith)
magnitude-some radix (d ∷ ds) h = refl

not-minus : (b : ℕ) → is_ascii_digit b ≡ true → (b == 45) ≡ false
not-minus b h = grind (arith, nat_tests)

not-x : (b : ℕ) → is_ascii_digit b ≡ true → (b == 120) ≡ false
not-x b h = grind (arith, nat_tests)

number-digits : (ds : Text) (n : ℕ) → all_ascii_digits ds ≡ true → 0 < length ds → value_on 10 0 ds ≡ Ok n → number_of ds ≡ Ok (pos n)
unfolding number_of
number-digits [] n h some e = absurd (omega arith)
number-digits (d ∷ []) n h some e =
    let minus = not-minus d (and_parts (is_ascii_digit d) true h).0 in
    let hex : (d == 48) && false ≡ false = and_right (d == 48) false refl in
    rw minus (rw hex (ap (λ r. r >>= λ k. Ok (pos k)) e))
number-digits (d ∷ b ∷ ds) n h some e =
    let first = and_parts (is_ascii_digit d) (all_ascii_digits (b ∷ ds)) h in
    let second = and_parts (is_ascii_digit b) (all_ascii_digits ds) first.1 in
    let minus = not-minus d first.0 in
    let hex : (d == 48) && (b == 120) ≡ false = and_right (d == 48) (b == 120) (not-x b second.0) in
    rw minus (rw hex (ap (λ r. r >>= λ k. Ok (pos k)) e))

pub number-decimal : (n : ℕ) → n < 2 ^ 63 → number_of (decimal n) ≡ Ok (pos n)
number-decimal n small = number-digits (decimal n) n (decimal-digits n (omega arith)) (decimal_nonempty n (omega arith)) (value-decimal n small)

number-negative : (ds : Text) (n : ℕ) → 0 < length ds → value_on 10 0 ds ≡ Ok (suc n) → number_of (45 ∷ ds) ≡ Ok (negsuc n)
unfolding number_of
number-negative ds n some e = ap (λ r. r >>= λ k. Ok (neg_ℤ (pos k))) (magnitude-some 10 ds some ∙ e)

-- the numbers that a line may have
abbrev pub IsSmall : ℤ → Type 0
IsSmall (pos n) = n < 2 ^ 63
IsSmall (negsuc n) = suc n < 2 ^ 63

pub number-whole : (z : ℤ) → IsSmall z → number_of (whole_number z) ≡ Ok z
number-whole (pos n) small = number-decimal n small
number-whole (negsuc n) small = number-negative (decimal (suc n)) n (decimal_nonempty (suc n) (omega arith)) (value-decimal (suc n) small)

-- ---- names

pub name-digits : (c : ℕ) (ds : Text) → is_name_start c ≡ true → all_ascii_digits ds ≡ true → name_of (c ∷ ds) ≡ Ok (c ∷ ds)
unfolding name_of
name-digits c ds start h = rw start (rw (digits-name ds h) refl)

-- ---- registers

digit-is : (d : ℕ) → d < 10 → is_ascii_digit (48 + d) ≡ true
digit-is d h = grind (arith, nat_tests)

small-one : (n : ℕ) → n < 10 → small_number_of ((48 + n) ∷ []) ≡ Some n
small-one n h = let same : 48 + n - 48 ≡ n = omega arith in rw (digit-is n h) (ap Some same)

not-zero-digit : (d : ℕ) → 0 < d → (48 + d == 48) ≡ false
not-zero-digit d h = grind (arith, nat_tests)

small-two : (tens ones : ℕ) → 0 < tens → tens < 10 → ones < 10 → small_number_of ((48 + tens) ∷ (48 + ones) ∷ []) ≡ Some (tens * 10 + ones)
small-two tens ones some less small =
    let same : (48 + tens - 48) * 10 + (48 + ones - 48) ≡ tens * 10 + ones = omega arith in
    rw (digit-is tens less) (rw (digit-is ones small) (rw (not-zero-digit tens some) (ap Some same)))

small-decimal : (n : ℕ) → n < 32 → small_number_of (decimal n) ≡ Some n
small-decimal n less = by (ltb n 10) refl
  where
    by : (b : Bool) → ltb n 10 ≡ b → small_number_of (decimal n) ≡ Some n
    by true e = let one : n < 10 = ltb-true n 10 e in ap small_number_of (decimal_digit n one) ∙ small-one n one
    by false e =
        let many : 10 ≤ n = ltb-false n 10 e in
        let same : n / 10 * 10 + n % 10 ≡ n = omega arith in
        ap small_number_of (decimal_step n many (omega arith) ∙ ap (λ ds. ds ++ ((48 + n % 10) ∷ [])) (decimal_digit (n / 10) (omega arith)))
        ∙ (small-two (n / 10) (n % 10) (omega arith) (omega arith) (omega arith) ∙ ap Some same)

pub register-name : (n : ℕ) → n < 32 → register_of (register_name n) ≡ Ok n
unfolding register_of
register-name n less = ap register_numbered (small-decimal n less) ∙ (rw (lt-ltb n 32 less) refl)

-- ---- first words

pub first-number : (z : ℤ) (words : List Text) → IsSmall z → number_first (whole_number z ∷ words) ≡ Ok (z, words)
unfolding number_first
first-number z words small = ap (λ r. r >>= λ number. Ok (number, words)) (number-whole z small)

pub first-decimal : (n : ℕ) (words : List Text) → n < 2 ^ 63 → number_first (decimal n ∷ words) ≡ Ok (pos n, words)
first-decimal n words small = first-number (pos n) words small

pub first-register : (n : ℕ) (words : List Text) → n < 32 → register_first (register_name n ∷ words) ≡ Ok (n, words)
unfolding register_first
first-register n words less = ap (λ r. r >>= λ number. Ok (number, words)) (register-name n less)

-- a name that begins otherwise than `boot`
pub first-object : (c n : ℕ) (words : List Text) → is_name_start c ≡ true → (c == 98) ≡ false → n < 2 ^ 63 →
    object_first ((c ∷ decimal n) ∷ words) ≡ Ok (c ∷ decimal n, words)
unfolding object_first
first-object c n words start other small =
    rw other (ap (λ r. r >>= λ name. Ok (name, words)) (name-digits c (decimal n) start (decimal-digits n (omega arith))))
