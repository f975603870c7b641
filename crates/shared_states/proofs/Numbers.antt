-- Paths are numbers.
use Rattle.std.proofs.Common.{ℕ, ◌≡◌, ◌∙◌, ◌+◌, ◌-◌, ◌*◌, ◌/◌, ◌%◌, ◌^◌, ◌<◌, ◌≤◌, ◌==◌, Bool, true, false, List, [], ◌∷◌, zero, suc, length, ap, sym}
use Rattle.std.proofs.Common.{subst, arith, refl}
use Rattle.std.proofs.Math.Nat.{add-mul-div_left, add-mul-mod_self_left, pow-succ', mod-eq_of_lt}
use Rattle.std.proofs.lemmas.Nat.{div-mul-add, pow-add, mod-pow-add}
use Rattle.shared_states.specs.Entries.{AreSame, held_at, is_high, path_of}
use Rattle.shared_states.specs.Puts.{bit_number, number_of}
use Rattle.shared_states.specs.declared.entries.Entry.{Entry}

power_some : (h : ℕ) → 0 < 2 ^ h
power_some zero = omega arith
power_some (suc h) = let s = power_some h in let p = pow-succ' 2 h in omega (arith, s, p)

-- what is added above leaves the bits below
shift_high : (h l k n : ℕ) → h < l → is_high (n + 2 ^ l * k) h ≡ is_high n h
unfolding is_high
shift_high h l k n less =
    let d = l - (h + 1) in
    let at : l ≡ h + suc d = omega (arith, less) in
    let power : 2 ^ l ≡ 2 ^ h * (2 * 2 ^ d) = ap (λ x. 2 ^ x) at ∙ pow-add 2 h (suc d) ∙ ap (λ x. 2 ^ h * x) (pow-succ' 2 d) in
    let whole : 2 ^ l * k ≡ 2 ^ h * (2 * (2 ^ d * k)) = let p = ap (λ x. x * k) power in omega (arith, p) in
    let halves : (n + 2 ^ l * k) / 2 ^ h ≡ n / 2 ^ h + 2 * (2 ^ d * k) =
    ap (λ x. (n + x) / 2 ^ h) whole ∙ add-mul-div_left n (2 * (2 ^ d * k)) (power_some h) in
    ap (λ x. x % 2 == 1) halves ∙ ap (λ x. x == 1) (add-mul-mod_self_left (n / 2 ^ h) 2 (2 ^ d * k))

path_shift : (h l k n : ℕ) → h ≤ l → path_of h (n + 2 ^ l * k) ≡ path_of h n
path_shift zero l k n less = refl
path_shift (suc h) l k n less =
    ap (λ b. b ∷ path_of h (n + 2 ^ l * k)) (shift_high h l k n (omega (arith, less)))
    ∙ ap (λ p. is_high n h ∷ p) (path_shift h l k n (omega (arith, less)))

top_high : (l n : ℕ) → n < 2 ^ l → is_high (n + 2 ^ l * 1) l ≡ true
unfolding is_high
top_high l n small =
    let e : n + 2 ^ l * 1 ≡ 1 * 2 ^ l + n = omega arith in
    ap (λ x. x / 2 ^ l % 2 == 1) e ∙ ap (λ x. x % 2 == 1) (div-mul-add 1 (2 ^ l) n small)

top_low : (l n : ℕ) → n < 2 ^ l → is_high (n + 2 ^ l * 0) l ≡ false
unfolding is_high
top_low l n small =
    let e : n + 2 ^ l * 0 ≡ 0 * 2 ^ l + n = omega arith in
    ap (λ x. x / 2 ^ l % 2 == 1) e ∙ ap (λ x. x % 2 == 1) (div-mul-add 0 (2 ^ l) n small)

pub number_small : (path : List Bool) → number_of path < 2 ^ length path
number_small [] = omega arith
number_small (true ∷ path) = let s = number_small path in let p = pow-succ' 2 (length path) in omega (arith, s, p)
number_small (false ∷ path) = let s = number_small path in let p = pow-succ' 2 (length path) in omega (arith, s, p)

-- each path is that of its number
path_number : (path : List Bool) → path_of (length path) (number_of path) ≡ path
path_number [] = refl
path_number (true ∷ path) =
    let l = length path in
    ap (λ b. b ∷ path_of l (number_of path + 2 ^ l * 1)) (top_high l (number_of path) (number_small path))
    ∙ ap (λ p. true ∷ p) (path_shift l l 1 (number_of path) (omega arith) ∙ path_number path)
path_number (false ∷ path) =
    let l = length path in
    ap (λ b. b ∷ path_of l (number_of path + 2 ^ l * 0)) (top_low l (number_of path) (number_small path))
    ∙ ap (λ p. false ∷ p) (path_shift l l 0 (number_of path) (omega arith) ∙ path_number path)

pub length_path : (h n : ℕ) → length (path_of h n) ≡ h
length_path zero n = refl
length_path (suc h) n = ap (λ x. suc x) (length_path h n)

-- trees that hold the same at all numbers are the same
pub same_by_numbers : (entries : List Entry) (height one other : ℕ) → ((key : ℕ) → key < 2 ^ height
    → held_at entries (path_of height key) one ≡ held_at entries (path_of height key) other) → AreSame entries height one other
same_by_numbers entries height one other same path l =
    let P : ℕ → Type 0 = λ n. number_of path < 2 ^ n in
    let back : path_of height (number_of path) ≡ path = ap (λ n. path_of n (number_of path)) (sym l) ∙ path_number path in
    let at = same (number_of path) (subst P l (number_small path)) in
    ap (λ p. held_at entries p one) (sym back) ∙ at ∙ ap (λ p. held_at entries p other) back

bit_cases : (r : ℕ) → r < 2 → bit_number (r == 1) ≡ r
bit_cases zero h = refl
bit_cases (suc zero) h = refl
bit_cases (suc (suc r)) h = absurd (omega (arith, h))

bit_is : (h n : ℕ) → bit_number (is_high n h) ≡ n / 2 ^ h % 2
unfolding is_high
bit_is h n = bit_cases (n / 2 ^ h % 2) (omega arith)

-- the number of a path to a number
pub number_path : (h n : ℕ) → number_of (path_of h n) ≡ n % 2 ^ h
number_path zero n = omega arith
number_path (suc h) n =
    let next : 1 + h ≡ suc h = omega arith in
    let here : number_of (path_of h n) ≡ n % 2 ^ h = number_path h n in
    let bit : 2 ^ length (path_of h n) * bit_number (is_high n h) ≡ 2 ^ h * (n / 2 ^ h % 2) =
    ap (λ l. 2 ^ l * bit_number (is_high n h)) (length_path h n) ∙ ap (λ b. 2 ^ h * b) (bit_is h n) in
    let parts : n % 2 ^ suc h ≡ (n / 2 ^ h % 2) * 2 ^ h + n % 2 ^ h = ap (λ l. n % 2 ^ l) (sym next) ∙ mod-pow-add n 1 h in
    omega (arith, here, bit, parts)

-- the number of a path to a small number is that number
pub number_back : (h n : ℕ) → n < 2 ^ h → 0 + number_of (path_of h n) ≡ n
number_back h n small = let p = number_path h n in let m = mod-eq_of_lt small in omega (arith, p, m)
