-- Reading entries one after the other, as a loop does.
use Rattle.std.proofs.Common.{◌≡◌, ℕ, zero, suc, ◌-◌, ◌+◌, ◌*◌, ◌<◌, ◌≤◌, true, false, is_ok, Some, None, List, [], ◌∷◌, length, slice_get, Result, Ok, Err}
use Rattle.std.proofs.Common.{refl, sym, ap, subst, ◌∙◌, arith}
use Rattle.std.proofs.Math.Nat.{mul-suc}
use Rattle.model.specs.declared.refusals.Refusal.{Refusal}
use Rattle.model.specs.Images.Format.{Format, ◌>>=◌, end_of, values_of, many_read}
use Rattle.image_reading.specs.Sizes.{HasSize}
use Rattle.image_reading.proofs.FormatLaws.{bind_ok, ok_is}

end_of-put : {A : Type 0} (x : A) (read : Result (List A × ℕ) Refusal) → end_of (read >>= λ xs. Ok (x ∷ xs.0, xs.1)) ≡ end_of read
end_of-put x (Ok xs) = refl
end_of-put x (Err e) = refl

-- where the rest ends after one more entry is where it ended before
pub end_of-more : {A : Type 0} (format : ℕ → Format A) (next : A → ℕ) (least count i : ℕ) (bytes : List ℕ) (at : ℕ) (x : A × ℕ) (total : Result ℕ Refusal) →
    i < count
    → Ok x ≡ (format least).reads bytes at → end_of (many_read format next least (count - i) bytes at) ≡ total
    → end_of (many_read format next (next x.0) (count - (i + 1)) bytes x.1) ≡ total
unfolding many_read
end_of-more format next least count i bytes at x total lt e so_far =
    let k : count - i ≡ suc (count - (i + 1)) = omega arith in
    let one : end_of (many_read format next least (count - i) bytes at) ≡ end_of (many_read format next (next x.0) (count - (i + 1)) bytes x.1) =
    rw (k, ← e) (end_of-put x.0 (many_read format next (next x.0) (count - (i + 1)) bytes x.1)) in
    sym one ∙ so_far

-- an entry that is refused refuses the whole
pub end_of-refused : {A : Type 0} (format : ℕ → Format A) (next : A → ℕ) (least count i : ℕ) (bytes : List ℕ) (at : ℕ) (refusal : Refusal)
    (total : Result ℕ Refusal) → i < count
    → Err refusal ≡ (format least).reads bytes at → end_of (many_read format next least (count - i) bytes at) ≡ total → Err refusal ≡ total
unfolding many_read
end_of-refused format next least count i bytes at refusal total lt e so_far =
    let k : count - i ≡ suc (count - (i + 1)) = omega arith in
    let one : end_of (many_read format next least (count - i) bytes at) ≡ Err refusal = rw (k, ← e) refl in
    sym one ∙ so_far

-- with no entry left the end is here
pub end_of-none : {A : Type 0} (format : ℕ → Format A) (next : A → ℕ) (least count i : ℕ) (bytes : List ℕ) (at : ℕ) (total : Result ℕ Refusal) → count ≤ i
    → end_of (many_read format next least (count - i) bytes at) ≡ total → Ok at ≡ total
unfolding many_read
end_of-none format next least count i bytes at total le so_far =
    let k : count - i ≡ 0 = omega arith in
    let one : end_of (many_read format next least (count - i) bytes at) ≡ Ok at = rw k refl in
    sym one ∙ so_far

-- reading from where it ends
pub read_from_end : {A : Type 0} (r : Result (List A × ℕ) Refusal) (e : ℕ) → Ok e ≡ end_of r → r ≡ Ok (values_of r, e)
read_from_end (Ok x) e h = let k : e ≡ x.1 = cc in rw k refl
read_from_end (Err d) e h = absurd cc

pub refused_from_end : {A : Type 0} (r : Result (List A × ℕ) Refusal) (e : Refusal) → Err e ≡ end_of r → r ≡ Err e
refused_from_end (Ok x) e h = absurd cc
refused_from_end (Err d) e h = let k : e ≡ d = cc in rw k refl

-- ---- entries one by one, where all of them can be read

pub values_of-none : {A : Type 0} (format : ℕ → Format A) (next : A → ℕ) (least left : ℕ) (bytes : List ℕ) (at : ℕ) → left ≡ 0 →
    values_of (many_read format next least left bytes at) ≡ []
unfolding many_read
values_of-none format next least left bytes at e = rw e refl

pub record FirstOf {A : Type 0} (format : ℕ → Format A) (next : A → ℕ) (least left n : ℕ) (bytes : List ℕ) (at : ℕ) (x : A) (after : ℕ) : Type 0 where
  pub rest : is_ok (many_read format next (next x) n bytes after) ≡ true
  pub values : values_of (many_read format next least left bytes at) ≡ x ∷ values_of (many_read format next (next x) n bytes after)

abbrev pub ok_put : {A : Type 0} → A → List A × ℕ → Result (List A × ℕ) Refusal
ok_put x xs = Ok (x ∷ xs.0, xs.1)

first_from : {A : Type 0} (x : A) (r : Result (List A × ℕ) Refusal) → is_ok (r >>= λ xs. ok_put x xs) ≡ true → (is_ok r ≡ true)
    × (values_of (r >>= λ xs. ok_put x xs) ≡ x ∷ values_of r)
first_from x (Ok xs) h = (refl, refl)
first_from x (Err e) h = absurd cc

pub first_of : {A : Type 0} (format : ℕ → Format A) (next : A → ℕ) (least left n : ℕ) (bytes : List ℕ) (at : ℕ) (x : A) (after : ℕ) → left ≡ suc n
    → is_ok (many_read format next least left bytes at) ≡ true → Ok (x, after) ≡ (format least).reads bytes at →
    FirstOf format next least left n bytes at x after
unfolding many_read
first_of format next least left n bytes at x after k h e =
    let all : many_read format next least left bytes at ≡ (many_read format next (next x) n bytes after >>= λ xs. ok_put x xs) = rw (k, ← e) refl in
    let p = first_from x (many_read format next (next x) n bytes after) (ap (λ r. is_ok r) (sym all) ∙ h) in
    record { rest = p.0; values = ap (λ r. values_of r) all ∙ p.1 }

pub first_not_refused : {A : Type 0} (format : ℕ → Format A) (next : A → ℕ) (least left : ℕ) (bytes : List ℕ) (at : ℕ) (refusal : Refusal) → 0 < left
    → is_ok (many_read format next least left bytes at) ≡ true → Err refusal ≡ (format least).reads bytes at → ⊥
unfolding many_read
first_not_refused format next least left bytes at refusal lt h e =
    let k : left ≡ suc (left - 1) = omega arith in
    let all : many_read format next least left bytes at ≡ Err refusal = rw (k, ← e) refl in
    let no : false ≡ true = ap (λ r. is_ok r) (sym all) ∙ h in
    absurd cc

-- ---- entries of one size, by their numbers

pub record EntryFound {A : Type 0} (loose : Format A) (size : ℕ) (xs : List A) (i : ℕ) (bytes : List ℕ) (at : ℕ) : Type 0 where
  pub entry : A
  pub value : slice_get xs i ≡ Some entry
  pub reads : loose.reads bytes (at + size * i) ≡ Ok (entry, at + size * i + size)
  pub within : at + size * i + size ≤ length bytes

module _ {A : Type 0} (format : ℕ → Format A) (next : A → ℕ) (size : ℕ) (sized : (least : ℕ) → HasSize size (format least) (format 0)) where
  -- the first entry, and the rest
  record FirstEntry (n : ℕ) (bytes : List ℕ) (at : ℕ) (xs : List A) (e : ℕ) : Type 0 where
    entry : A
    others : List A
    all : entry ∷ others ≡ xs
    reads : (format 0).reads bytes at ≡ Ok (entry, at + size)
    within : at + size ≤ length bytes
    rest : many_read format next (next entry) n bytes (at + size) ≡ Ok (others, e)

  first_entry : (n least : ℕ) (bytes : List ℕ) (at : ℕ) (xs : List A) (e : ℕ) → many_read format next least (suc n) bytes at ≡ Ok (xs, e) →
      FirstEntry n bytes at xs e
  unfolding many_read
  first_entry n least bytes at xs e h =
      let p = bind_ok ((format least).reads bytes at) (λ first. many_read format next (next first.0) n bytes first.1 >>= λ others.
      Ok (first.0 ∷ others.0, others.1)) (xs, e) h in
      let x : A = p.0.0 in
      let s = (sized least).reads bytes at x p.0.1 p.1 in
      let q = bind_ok (many_read format next (next x) n bytes p.0.1) (λ others. Ok (x ∷ others.0, others.1)) (xs, e) p.2 in
      let both = ok_is (x ∷ q.0.0, q.0.1) (xs, e) q.2 in
      let end-is : q.0.1 ≡ e = ap (λ (y : List A × ℕ). y.1) both in
      record {
        entry = x;
        others = q.0.0;
        all = ap (λ (y : List A × ℕ). y.0) both;
        reads = subst (λ (k : ℕ). (format 0).reads bytes at ≡ Ok (x, k)) s.0 s.2;
        within = omega (arith, s.0, s.1);
        rest = subst (λ (k : ℕ). many_read format next (next x) n bytes k ≡ Ok (q.0.0, e)) s.0
            (subst (λ (k : ℕ). many_read format next (next x) n bytes p.0.1 ≡ Ok (q.0.0, k)) end-is q.1);
      }

  pub entry_found : (count i least : ℕ) (bytes : List ℕ) (at : ℕ) (xs : List A) (e : ℕ) → i < count → many_read format next least count bytes at ≡ Ok (xs, e) →
      EntryFound (format 0) size xs i bytes at
  entry_found zero i least bytes at xs e lt h = absurd (omega arith)
  entry_found (suc n) zero least bytes at xs e lt h =
      let f = first_entry n least bytes at xs e h in
      let here : at ≡ at + size * 0 = omega arith in
      record {
        entry = f.entry;
        value = ap (λ (l : List A). slice_get l 0) (sym f.all);
        reads = subst (λ (k : ℕ). (format 0).reads bytes k ≡ Ok (f.entry, k + size)) here f.reads;
        within = subst (λ (k : ℕ). k + size ≤ length bytes) here f.within;
      }
  entry_found (suc n) (suc j) least bytes at xs e lt h =
      let f = first_entry n least bytes at xs e h in
      let g = entry_found n j (next f.entry) bytes (at + size) f.others e (omega arith) f.rest in
      let there : at + size + size * j ≡ at + size * suc j = omega (arith, mul-suc size j) in
      record {
        entry = g.entry;
        value = ap (λ (l : List A). slice_get l (suc j)) (sym f.all) ∙ g.value;
        reads = subst (λ (k : ℕ). (format 0).reads bytes k ≡ Ok (g.entry, k + size)) there g.reads;
        within = subst (λ (k : ℕ). k + size ≤ length bytes) there g.within;
      }

-- what is read has an end
pub ends : {A : Type 0} (r : Result (List A × ℕ) Refusal) → is_ok r ≡ true → is_ok (end_of r) ≡ true
ends (Ok x) h = refl
ends (Err e) h = absurd cc

-- what is read to its end
pub all_read : {A : Type 0} (r : Result (List A × ℕ) Refusal) → is_ok (end_of r) ≡ true → (e : ℕ) × (r ≡ Ok (values_of r, e))
all_read (Ok x) h = (x.1, refl)
all_read (Err d) h = absurd cc

pub read_is : {A : Type 0} (format : Format A) (bytes : List ℕ) (at : ℕ) (x : A) (after : ℕ) (y : A × ℕ) → format.reads bytes at ≡ Ok (x, after) →
    Ok y ≡ format.reads bytes at → y.0 ≡ x
read_is {A} format bytes at x after y h k = ap (λ (p : A × ℕ). p.0) (ok_is y (x, after) (k ∙ h))

refused_or_read : {A : Type 0} (r : Result (A × ℕ) Refusal) (refusal : Refusal) (y : A × ℕ) → r ≡ Err refusal → r ≡ Ok y → ⊥
refused_or_read r refusal y h k = absurd cc

pub read_not_refused : {A : Type 0} (format : Format A) (bytes : List ℕ) (at : ℕ) (x : A) (after : ℕ) (refusal : Refusal) →
    format.reads bytes at ≡ Ok (x, after) → Err refusal ≡ format.reads bytes at → ⊥
read_not_refused format bytes at x after refusal h k = refused_or_read (format.reads bytes at) refusal (x, after) (sym k) h

-- ---- how many entries there are

many_length : {A : Type 0} (format : ℕ → Format A) (next : A → ℕ) (count least : ℕ) (bytes : List ℕ) (at : ℕ) (xs : List A) (e : ℕ) →
    many_read format next least count bytes at ≡ Ok (xs, e) → length xs ≡ count
unfolding many_read
many_length {A} format next zero least bytes at xs e h = ap (λ (y : List A × ℕ). length y.0) (sym (ok_is ([], at) (xs, e) h))
many_length {A} format next (suc n) least bytes at xs e h =
    let p = bind_ok ((format least).reads bytes at) (λ first. many_read format next (next first.0) n bytes first.1 >>= λ others.
    Ok (first.0 ∷ others.0, others.1)) (xs, e) h in
    let q = bind_ok (many_read format next (next p.0.0) n bytes p.0.1) (λ others. Ok (p.0.0 ∷ others.0, others.1)) (xs, e) p.2 in
    let rest = many_length format next n (next p.0.0) bytes p.0.1 q.0.0 q.0.1 q.1 in
    let all = ap (λ (y : List A × ℕ). length y.0) (ok_is (p.0.0 ∷ q.0.0, q.0.1) (xs, e) q.2) in
    omega (arith, rest, all)

pub list_length : {A : Type 0} (format : ℕ → Format A) (next : A → ℕ) (least count : ℕ) (bytes : List ℕ) (at : ℕ) →
    is_ok (end_of (many_read format next least count bytes at)) ≡ true
    → length (values_of (many_read format next least count bytes at)) ≡ count
list_length format next least count bytes at h = let all = all_read (many_read format next least count bytes at) h in
    many_length format next count least bytes at (values_of (many_read format next least count bytes at))
    all.0 all.1

pub not_past : {A : Type 0} (xs : List A) (i : ℕ) → i < length xs → None ≡ slice_get xs i → ⊥
not_past [] i lt h = absurd (omega arith)
not_past (x ∷ xs) zero lt h = absurd cc
not_past (x ∷ xs) (suc i) lt h = not_past xs i (omega (arith, lt)) h
