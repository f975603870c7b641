-- Where Retype places new objects: one after another, in the free part of untyped memory, each at a multiple of its size.
use Rattle.std.proofs.Common.{ℕ, zero, suc, ◌≡◌, ◌∙◌, ◌||◌, ◌+◌, ◌-◌, ◌*◌, ◌/◌, ◌%◌, ◌^◌, ◌<◌, ◌≤◌, inl, inr, Bool, true, false, if◌then◌else◌, nat_le, get_or}
use Rattle.std.proofs.Common.{length, map, pow_pos, List, [], ◌∷◌, Option, Some, None, refl, sym, ap, arith}
use Rattle.std.specs.List.{list_any, range_with_len}
use Rattle.std.proofs.Math.Nat.{mul-le-mul_right}
use Rattle.std.proofs.Math.Pow.{pow_mono}
use Rattle.std.proofs.lemmas.Bool.{cases_lt, leb-true, or_cases}
use Rattle.std.proofs.lemmas.List.FromFn.{get_or-range_with_len, length-range_with_len}
use Rattle.std.proofs.lemmas.Nat.{div-add-mod', mod-mul-add, pow-add}
use Rattle.model.specs.Capabilities.Placement.{align, place_of_object, placement}
use Rattle.model.specs.Kernel.Retype.{NewObjects, place_of_new, some_new}

-- ---- numbers

pub record IsLaid (offset bits watermark object_bits count first mark : ℕ) : Type 0 where
  pub behind : offset + watermark ≤ first
  pub ends : first + count * 2 ^ object_bits ≡ offset + mark
  pub fits : mark ≤ 2 ^ bits
  pub aligned : (i : ℕ) → (first + i * 2 ^ object_bits) % 2 ^ object_bits ≡ 0

align-behind : (place size : ℕ) → 0 < size → place ≤ align place size
align-behind place size positive = grind arith

placed : (bits watermark object_bits count : ℕ) (place : ℕ × ℕ) → placement bits watermark object_bits count ≡ Some place
    → (align watermark (2 ^ object_bits) ≡ place.0) × (place_of_object watermark object_bits count ≡ place.1)
    × (place_of_object watermark object_bits count ≤ 2 ^ bits)
placed bits watermark object_bits count place is =
    let end : ℕ = place_of_object watermark object_bits count in
    elim (nat_le end (2 ^ bits)) as (λ b. nat_le end (2 ^ bits) ≡ b →
    ◌≡◌ {A = Option (ℕ × ℕ)} (if b then Some (align watermark (2 ^ object_bits), end) else None) (Some place)
    → (align watermark (2 ^ object_bits) ≡ place.0) × (end ≡ place.1) × (end ≤ 2 ^ bits)) [
      | true ↦ λ test h.
          let same : ◌≡◌ {A = ℕ × ℕ} (align watermark (2 ^ object_bits), end) place = cc h in
          (ap (λ (p : ℕ × ℕ). p.0) same, ap (λ (p : ℕ × ℕ). p.1) same, leb-true end (2 ^ bits) test)
      | false ↦ λ _ h. absurd (let clash : ◌≡◌ {A = Option (ℕ × ℕ)} None (Some place) = h in cc)
    ] refl is

-- an object is no larger than the memory that it fits into
bits-less : (a b : ℕ) → 2 ^ a ≤ 2 ^ b → a ≤ b
bits-less a b less = elim (cases_lt b a) [
  | inl larger ↦
      let wide : 2 ^ suc b ≤ 2 ^ a = pow_mono larger in
      let twice : 2 ^ (b + 1) ≡ 2 ^ b * 2 ^ 1 = pow-add 2 b 1 in
      let next : 2 ^ suc b ≡ 2 ^ (b + 1) = ap (λ (n : ℕ). 2 ^ n) (omega arith) in
      let positive = pow_pos b in
      absurd (omega (arith, wide, twice, next, positive, less))
  | inr fits ↦ fits
]

multiple : (a b i size : ℕ) → 0 < size → (a * size + b * size + i * size) % size ≡ 0
multiple a b i size positive =
    let sum : (a + b + i) * size + 0 ≡ a * size + b * size + i * size = grind arith in
    ap (λ (n : ℕ). n % size) (sym sum) ∙ mod-mul-add (a + b + i) size 0 positive

small-first : (size count end limit : ℕ) → 1 ≤ count → count * size ≤ limit → size ≤ limit
small-first size count end limit some less = let one : 1 * size ≤ count * size = mul-le-mul_right size some in omega (arith, one, less)

pub laid : (offset bits watermark object_bits count : ℕ) (place : ℕ × ℕ) → placement bits watermark object_bits count ≡ Some place
    → offset % 2 ^ bits ≡ 0 → 1 ≤ count
    → IsLaid offset bits watermark object_bits count (offset + place.0) place.1
laid offset bits watermark object_bits count place is whole some =
    let parts = placed bits watermark object_bits count place is in
    let size : ℕ = 2 ^ object_bits in
    let start = parts.0 in
    let end = parts.1 in
    let less = parts.2 in
    let above = align-behind watermark (2 ^ object_bits) (pow_pos object_bits) in
    let fits : object_bits ≤ bits = bits-less object_bits bits (small-first (2 ^ object_bits) count 0 (2 ^ bits) some (omega (arith, less))) in
    let product : 2 ^ (bits - object_bits + object_bits) ≡ 2 ^ (bits - object_bits) * 2 ^ object_bits = pow-add 2 (bits - object_bits) object_bits in
    let all : 2 ^ (bits - object_bits + object_bits) ≡ 2 ^ bits = ap (λ (n : ℕ). 2 ^ n) (omega (arith, fits)) in
    let split = div-add-mod' offset (2 ^ bits) in
    record {
      behind = omega (arith, start, above);
      ends = omega (arith, start, end);
      fits = omega (arith, end, less);
      aligned = λ i.
          let many : ℕ = offset / 2 ^ bits * 2 ^ (bits - object_bits) in
          let whole_times : offset / 2 ^ bits * 2 ^ bits ≡ offset / 2 ^ bits * (2 ^ (bits - object_bits) * 2 ^ object_bits) =
          ap (λ (n : ℕ). offset / 2 ^ bits * n) (sym all ∙ product) in
          let is_many : offset ≡ many * 2 ^ object_bits = omega (arith, split, whole, whole_times) in
          let is : offset + place.0 + i * 2 ^ object_bits ≡ many * 2 ^ object_bits + (watermark + (2 ^ object_bits - 1)) / 2 ^ object_bits * 2 ^ object_bits + i
          * 2 ^ object_bits =
          omega (arith, is_many, start) in
          ap (λ (n : ℕ). n % 2 ^ object_bits) is ∙ multiple many ((watermark + (2 ^ object_bits - 1)) / 2 ^ object_bits) i (2 ^ object_bits)
          (pow_pos object_bits);
    }

-- ---- one of the new objects

pub next-within : (i count size : ℕ) → i < count → i * size + size ≤ count * size
next-within i count size less = let step : (i + 1) * size ≤ count * size = mul-le-mul_right size (omega (arith, less)) in grind (arith, step)

any-map : (test : ℕ → Bool) (f : ℕ → ℕ) (l : List ℕ) → list_any test (map f l) ≡ true → (k : ℕ) × (k < length l) × (test (f (get_or l k 0)) ≡ true)
any-map test f [] is = let e : false ≡ true = is in absurd cc
any-map test f (n ∷ l) is = elim (or_cases (test (f n)) (list_any test (map f l)) is) [
  | inl here ↦ (0, omega arith, here)
  | inr later ↦ let more = any-map test f l later in let less = more.1 in (suc more.0, omega (arith, less), more.2)
]

map-any : (test : ℕ → Bool) (f : ℕ → ℕ) (l : List ℕ) (k : ℕ) → k < length l → test (f (get_or l k 0)) ≡ true → list_any test (map f l) ≡ true
map-any test f [] k less is = absurd (omega (arith, less))
map-any test f (n ∷ l) zero less is = ap (λ (b : Bool). b || list_any test (map f l)) is
map-any test f (n ∷ l) (suc k) less is =
    ap (λ (b : Bool). test (f n) || b) (map-any test f l k (omega (arith, less)) is)
    ∙ elim (test (f n)) as (λ b. (b || true) ≡ true) [ true ↦ refl | false ↦ refl ]

pub some-place : (new : NewObjects) (test : ℕ → Bool) → some_new new test ≡ true → (i : ℕ) × (i < new.count) × (test (place_of_new new i) ≡ true)
some-place new test is =
    let found = any-map test (place_of_new new) (range_with_len 0 new.count) is in
    let less = found.1 in
    let size = length-range_with_len 0 new.count in
    let inside : found.0 < new.count = omega (arith, less, size) in
    let at = get_or-range_with_len 0 new.count found.0 0 inside in
    (found.0, inside, ap (λ (n : ℕ). test (place_of_new new n)) (sym (at ∙ omega arith)) ∙ found.2)

pub place-some : (new : NewObjects) (test : ℕ → Bool) (i : ℕ) → i < new.count → test (place_of_new new i) ≡ true → some_new new test ≡ true
place-some new test i less is =
    let size = length-range_with_len 0 new.count in
    let at = get_or-range_with_len 0 new.count i 0 less in
    map-any test (place_of_new new) (range_with_len 0 new.count) i (omega (arith, less, size))
    (ap (λ (n : ℕ). test (place_of_new new n)) (at ∙ omega arith) ∙ is)
