-- A sum over a list of which one entry changes.
use Rattle.std.proofs.Common.{ℕ, zero, suc, ◌≡◌, ◌≢◌, ◌∙◌, ◌+◌, ◌<◌, ◌≤◌, inl, inr, Bool, if◌then◌else◌, List, [], ◌∷◌, map, length, get_or, refl, sym, ap}
use Rattle.std.proofs.Common.{arith}
use Rattle.std.specs.Prelude.{Contains}
use Rattle.std.specs.List.{enumerate_from, range_with_len}
use Rattle.std.proofs.lemmas.Bool.{eq-eqb, ne_eqb}
use Rattle.std.proofs.lemmas.Bool.Decides.{eqb_tells}
use Rattle.model.specs.Acceptance.ThreadInvariants.{tcb_of}
use Rattle.model.specs.Images.Described.{Numbered, numbered_threads}
use Rattle.model.specs.Images.Image.{Image, Thread}
use Rattle.model.specs.Shared.Lists.{times_in}
use Rattle.headline.proofs.Laws.{with_number}
use Rattle.response.specs.Left.{total}

times-here : (n place : ℕ) (rest : List ℕ) → n ≡ place → times_in (n ∷ rest) place ≡ times_in rest place + 1
times-here n place rest same = ap (λ (b : Bool). if b then times_in rest place + 1 else times_in rest place) (eq-eqb n place same)

pub times-other : (n place : ℕ) (rest : List ℕ) → n ≢ place → times_in (n ∷ rest) place ≡ times_in rest place
times-other n place rest apart = ap (λ (b : Bool). if b then times_in rest place + 1 else times_in rest place) (ne_eqb n place apart)

pub further : {A : Type 0} (x y : A) (xs : List A) → Contains xs y → Contains (x ∷ xs) y
further x y xs at = let inside = at.1 in (suc at.0, omega (arith, inside), at.2)

module _ {A : Type 0} (key : A → ℕ) (f g : A → ℕ) (place more : ℕ) where
  none-there : (xs : List A) → ((x : A) → Contains xs x → key x ≢ place → g x ≤ f x) → times_in (map key xs) place ≡ 0 → total g xs ≤ total f xs
  none-there [] less none = omega arith
  none-there (x ∷ xs) less none = elim (eqb_tells (key x) place) [
    | inl here ↦ absurd (let one = times-here (key x) place (map key xs) here.1 in omega (arith, none, one))
    | inr apart ↦
        let first = less x (0, omega arith, refl) apart.1 in
        let same = times-other (key x) place (map key xs) apart.1 in
        let rest = none-there xs (λ y at. less y (further x y xs at)) (omega (arith, none, same)) in
        omega (arith, first, rest)
  ]

  -- where one entry at most has this key, and no other grows
  pub changed-once : (xs : List A) → ((x : A) → Contains xs x → key x ≢ place → g x ≤ f x) → ((x : A) → Contains xs x → key x ≡ place → g x ≤ f x + more)
      → times_in (map key xs) place ≤ 1 → total g xs ≤ total f xs + more
  changed-once [] less grows once = omega arith
  changed-once (x ∷ xs) less grows once = elim (eqb_tells (key x) place) [
    | inl here ↦
        let first = grows x (0, omega arith, refl) here.1 in
        let one = times-here (key x) place (map key xs) here.1 in
        let rest = none-there xs (λ y at. less y (further x y xs at)) (omega (arith, once, one)) in
        omega (arith, first, rest)
    | inr apart ↦
        let first = less x (0, omega arith, refl) apart.1 in
        let same = times-other (key x) place (map key xs) apart.1 in
        let rest = changed-once xs (λ y at. less y (further x y xs at)) (λ y at. grows y (further x y xs at)) (omega (arith, once, same)) in
        omega (arith, first, rest)
  ]

-- ---- lists in which each is once

-- numbers from one on
range-low : (from count place : ℕ) → place < from → times_in (map (λ (n : ℕ). n) (range_with_len from count)) place ≡ 0
range-low from zero place low = refl
range-low from (suc count) place low =
    times-other from place (map (λ (n : ℕ). n) (range_with_len (from + 1) count)) (λ same. omega (arith, low, same))
    ∙ range-low (from + 1) count place (omega (arith, low))

pub range-once : (from count place : ℕ) → times_in (map (λ (n : ℕ). n) (range_with_len from count)) place ≤ 1
range-once from zero place = omega arith
range-once from (suc count) place = elim (eqb_tells from place) [
  | inl here ↦
      let one = times-here from place (map (λ (n : ℕ). n) (range_with_len (from + 1) count)) here.1 in
      let at = here.1 in
      let none = range-low (from + 1) count place (omega (arith, at)) in
      omega (arith, one, none)
  | inr apart ↦
      let same = times-other from place (map (λ (n : ℕ). n) (range_with_len (from + 1) count)) apart.1 in
      let rest = range-once (from + 1) count place in
      omega (arith, same, rest)
]

-- threads, of which no two have one control block
number-from : (n : ℕ) (threads : List Thread) (k : ℕ) (t : Numbered) → k < length (map with_number (enumerate_from n threads))
    → get_or (map with_number (enumerate_from n threads)) k t ≡ t → n ≤ t.number
number-from n [] k t inside is = absurd (omega (arith, inside))
number-from n (x ∷ rest) zero t inside is = let same : n ≡ t.number = ap (λ (u : Numbered). u.number) is in omega (arith, same)
number-from n (x ∷ rest) (suc k) t inside is = let less = number-from (n + 1) rest k t (omega (arith, inside)) is in omega (arith, less)

module _ (image : Image) (place : ℕ) where
  abbrev Same : List Numbered → Type 0
  Same ts = (t u : Numbered) → Contains ts t → Contains ts u → tcb_of image t ≡ place → tcb_of image u ≡ place → t ≡ u

  nobody-else : (ts : List Numbered) → ((t : Numbered) → Contains ts t → tcb_of image t ≢ place) → times_in (map (tcb_of image) ts) place ≡ 0
  nobody-else [] apart = refl
  nobody-else (t ∷ ts) apart =
      times-other (tcb_of image t) place (map (tcb_of image) ts) (apart t (0, omega arith, refl))
      ∙ nobody-else ts (λ u at. apart u (further t u ts at))

  once-from : (n : ℕ) (threads : List Thread) → Same (map with_number (enumerate_from n threads))
      → times_in (map (tcb_of image) (map with_number (enumerate_from n threads))) place ≤ 1
  once-from n [] same = omega arith
  once-from n (x ∷ rest) same =
      let head = with_number (n, x) in
      let others = map with_number (enumerate_from (n + 1) rest) in
      elim (eqb_tells (tcb_of image head) place) [
        | inl here ↦
            let one = times-here (tcb_of image head) place (map (tcb_of image) others) here.1 in
            let none = nobody-else others (λ u at there.
            let equal : n ≡ u.number = ap (λ (v : Numbered). v.number) (same head u (0, omega arith, refl) (further head u others at) here.1 there) in
            let least = number-from (n + 1) rest at.0 u at.1 at.2 in
            omega (arith, equal, least)) in
            omega (arith, one, none)
        | inr apart ↦
            let less = times-other (tcb_of image head) place (map (tcb_of image) others) apart.1 in
            let few = once-from (n + 1) rest (λ t u a b. same t u (further head t others a) (further head u others b)) in
            omega (arith, less, few)
      ]

  pub threads-once : ((t u : Numbered) → Contains (numbered_threads image) t → Contains (numbered_threads image) u → tcb_of image t ≡ tcb_of image u → t ≡ u)
      → times_in (map (tcb_of image) (numbered_threads image)) place ≤ 1
  threads-once own = once-from 0 image.threads (λ t u a b here there. own t u a b (here ∙ sym there))
