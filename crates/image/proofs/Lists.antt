-- Lists of entries: whether they fit, as a loop tests it, and how they are spelled.
use Rattle.std.proofs.Common.{◌≡◌, ℕ, suc, ◌-◌, ◌+◌, ◌^◌, ◌<◌, ◌≤◌, Bool, true, false, cond, ◌&&◌, ltb, List, [], ◌∷◌, ◌++◌, length, get_or, drop, Option}
use Rattle.std.proofs.Common.{Some, None, refl, sym, ap, ◌∙◌, arith, drop-cons, append_assoc, Result, Ok, Err, IfOk}
use Rattle.std.proofs.Math.ListN.{drop_of_length-le}
use Rattle.std.specs.List.{flat_map}
use Rattle.model.specs.Images.Format.{Format, field, many_fit, many_spelling}
use Rattle.model.specs.Images.Image.{anything}
use Rattle.std.proofs.lemmas.Bool.{lt-ltb}

-- ---- whether entries fit

-- the answer of a test of one entry: its next key, where it fits
abbrev pub next_if : Bool → ℕ → Option ℕ
next_if fits next = cond fits (Some next) None

passed : (fits : Bool) (next found : ℕ) → Some found ≡ next_if fits next → (fits ≡ true) × (found ≡ next)
passed true next found h = (refl, cc)
passed false next found h = absurd cc

refused : (fits : Bool) (next : ℕ) → None ≡ next_if fits next → fits ≡ false
refused true next h = absurd cc
refused false next h = refl

-- what is left to test is the entry at hand and the ones after it
fit-split : {A : Type 0} (format : ℕ → Format A) (next : A → ℕ) (least : ℕ) (xs : List A) (i : ℕ) (x : A) → i < length xs → x ≡ get_or xs i x
    → many_fit format next least (length xs - i) (drop i xs) ≡ ((format least).fits x && many_fit format next (next x) (length xs - (i + 1)) (drop (i + 1) xs))
unfolding many_fit
fit-split format next least xs i x lt here =
    let count : length xs - i ≡ suc (length xs - (i + 1)) = omega arith in
    let one : i + 1 ≡ suc i = omega arith in
    rw (count, drop-cons xs i x lt, ← here, ← one) refl

-- the test of the rest after an entry that fits
pub fit-more : {A : Type 0} (format : ℕ → Format A) (next : A → ℕ) (least : ℕ) (xs : List A) (i : ℕ) (x : A) (found : ℕ) (total : Bool) → i < length xs →
    x ≡ get_or xs i x
    → Some found ≡ next_if ((format least).fits x) (next x) → many_fit format next least (length xs - i) (drop i xs) ≡ total
    → many_fit format next found (length xs - (i + 1)) (drop (i + 1) xs) ≡ total
fit-more format next least xs i x found total lt here h so_far =
    let p = passed ((format least).fits x) (next x) found h in
    let rest = λ (k : ℕ). many_fit format next k (length xs - (i + 1)) (drop (i + 1) xs) in
    ap rest p.1 ∙ sym (ap (λ (b : Bool). b && rest (next x)) p.0) ∙ sym (fit-split format next least xs i x lt here) ∙ so_far

-- an entry that does not fit
pub fit-refused : {A : Type 0} (format : ℕ → Format A) (next : A → ℕ) (least : ℕ) (xs : List A) (i : ℕ) (x : A) (total : Bool) → i < length xs →
    x ≡ get_or xs i x
    → None ≡ next_if ((format least).fits x) (next x) → many_fit format next least (length xs - i) (drop i xs) ≡ total → false ≡ total
fit-refused format next least xs i x total lt here h so_far =
    sym (ap (λ (b : Bool). b && many_fit format next (next x) (length xs - (i + 1)) (drop (i + 1) xs)) (refused ((format least).fits x) (next x) h))
    ∙ sym (fit-split format next least xs i x lt here) ∙ so_far

-- with no entry left all of them fit
pub fit-none : {A : Type 0} (format : ℕ → Format A) (next : A → ℕ) (least : ℕ) (xs : List A) (i : ℕ) (total : Bool) → length xs ≤ i
    → many_fit format next least (length xs - i) (drop i xs) ≡ total → true ≡ total
unfolding many_fit
fit-none format next least xs i total le so_far =
    let count : length xs - i ≡ 0 = omega arith in
    let one : many_fit format next least (length xs - i) (drop i xs) ≡ true = rw (count, drop_of_length-le xs le) refl in
    sym one ∙ so_far

-- ---- how entries are spelled

-- one after the other, where the spelling of an entry does not depend on its least key
pub spelled-each : {A : Type 0} (format : ℕ → Format A) (next : A → ℕ) (spelling : A → List ℕ) → ((least : ℕ) (x : A) → (format least).spelling x ≡ spelling x)
    → (least : ℕ) (xs : List A) → many_spelling format next least xs ≡ flat_map spelling xs
unfolding many_spelling
spelled-each format next spelling same least [] = refl
spelled-each format next spelling same least (x ∷ xs) =
    ap (λ (s : List ℕ). s ++ many_spelling format next (next x) xs) (same least x)
    ∙ ap (λ (s : List ℕ). spelling x ++ s) (spelled-each format next spelling same (next x) xs)

-- words fit, whatever they are
pub words-fit : (words : List ℕ) → ((i : ℕ) → get_or words i 0 < 2 ^ 32) → many_fit (λ _. field anything) (λ _. 0) 0 (length words) words ≡ true
unfolding many_fit
words-fit [] small = refl
words-fit (x ∷ xs) small =
    let here : ltb x (2 ^ 32) ≡ true = lt-ltb x (2 ^ 32) (small 0) in
    let rest : many_fit (λ (k : ℕ). field anything) (λ (y : ℕ). 0) 0 (length xs) xs ≡ true = words-fit xs (λ i. small (suc i)) in
    ap (λ (b : Bool). (b && true) && many_fit (λ (k : ℕ). field anything) (λ (y : ℕ). 0) 0 (length xs) xs) here ∙ rest

-- ---- what is appended in several steps

pub appended : {T E : Type 0} (r : Result T E) (new mid old a b whole : List ℕ) → IfOk r (λ _. new ≡ mid ++ b) → mid ≡ old ++ a → a ++ b ≡ whole →
    IfOk r (λ _. new ≡ old ++ whole)
appended (Ok x) new mid old a b whole last before same = last ∙ ap (λ (l : List ℕ). l ++ b) before ∙ append_assoc old a b ∙ ap (λ (l : List ℕ). old ++ l) same
appended (Err e) new mid old a b whole last before same = tt

pub appended-more : (new mid old a b : List ℕ) → new ≡ mid ++ b → mid ≡ old ++ a → new ≡ old ++ (a ++ b)
appended-more new mid old a b last before = last ∙ ap (λ (l : List ℕ). l ++ b) before ∙ append_assoc old a b
