-- The words of a program, one by one.
use Rattle.std.proofs.Common.{◌≡◌, ℕ, zero, suc, ◌+◌, ◌-◌, ◌*◌, ◌<◌, ◌≤◌, true, false, is_ok, ltb, List, [], ◌∷◌, ◌++◌, length, take, drop, get_or, Result, Ok}
use Rattle.std.proofs.Common.{Err, refl, sym, ap, subst, ◌∙◌, arith}
use Rattle.std.specs.Int.{w32, to_le_bytes}
use Rattle.std.proofs.lemmas.Bool.{ltb-false, le-ltb}
use Rattle.model.specs.declared.refusals.Refusal.{Refusal}
use Rattle.model.specs.declared.refusals.Refusal.TheVariants.{Truncated}
use Rattle.model.specs.Images.Format.{◌>>=◌, end_of, values_of, many_read, number_at, field}
use Rattle.std.proofs.Math.Seq.{take-add}
use Rattle.std.proofs.lemmas.List.{drop-drop, length-drop, length-take}
use Rattle.model.specs.Images.Fills.{bytes_of}
use Rattle.model.specs.Images.Image.{anything, words_format}
use Rattle.image_reading.proofs.FormatLaws.{IsBytes, IsBytes-drop, IsBytes-take, bind_ok, guard_ok, ok_is, wide32}
use Rattle.image_reading.proofs.EntryLists.{all_read}

-- the words from a place on
abbrev pub words_read : ℕ → List ℕ → ℕ → Result (List ℕ × ℕ) Refusal
words_read count bytes at = many_read (λ _. field anything) (λ _. 0) 0 count bytes at

pub record WordFound (xs : List ℕ) (i : ℕ) (bytes : List ℕ) (at : ℕ) : Type 0 where
  pub value : get_or xs i 0 ≡ number_at w32 bytes (at + 4 * i)
  pub within : at + 4 * i + 4 ≤ length bytes

abbrev put : ℕ → List ℕ × ℕ → Result (List ℕ × ℕ) Refusal
put x xs = Ok (x ∷ xs.0, xs.1)

pub read_within : (bytes : List ℕ) (at : ℕ) → at + 4 ≤ length bytes → (field anything).reads bytes at ≡ Ok (number_at w32 bytes at, at + 4)
read_within bytes at h = let long : ltb (length bytes - at) 4 ≡ false = le-ltb _ _ (omega arith) in rw long refl

-- the first word, and the rest
record Parts (n : ℕ) (bytes : List ℕ) (at : ℕ) (xs : List ℕ) (e : ℕ) : Type 0 where
  others : List ℕ
  long : 4 ≤ length bytes - at
  rest : words_read n bytes (at + 4) ≡ Ok (others, e)
  all : number_at w32 bytes at ∷ others ≡ xs

parts_of : (n : ℕ) (bytes : List ℕ) (at : ℕ) (xs : List ℕ) (e : ℕ) → words_read (suc n) bytes at ≡ Ok (xs, e) → Parts n bytes at xs e
unfolding many_read
parts_of n bytes at xs e h =
    let b = bind_ok ((field anything).reads bytes at) (λ first. words_read n bytes first.1 >>= λ others. Ok (first.0 ∷ others.0, others.1)) (xs, e) h in
    let g = guard_ok (ltb (length bytes - at) 4) (Truncated at) (Ok (number_at w32 bytes at, at + 4)) b.0 b.1 in
    let first-is : (number_at w32 bytes at, at + 4) ≡ b.0 = ok_is (number_at w32 bytes at, at + 4) b.0 g.1 in
    let h' = subst (λ (first : ℕ × ℕ). (words_read n bytes first.1 >>= put first.0) ≡ Ok (xs, e)) (sym first-is) b.2 in
    let q = bind_ok (words_read n bytes (at + 4)) (put (number_at w32 bytes at)) (xs, e) h' in
    let both = ok_is (number_at w32 bytes at ∷ q.0.0, q.0.1) (xs, e) q.2 in
    let end-is : q.0.1 ≡ e = ap (λ (p : List ℕ × ℕ). p.1) both in
    record {
      others = q.0.0;
      long = ltb-false _ _ g.0;
      rest = subst (λ (k : ℕ). words_read n bytes (at + 4) ≡ Ok (q.0.0, k)) end-is q.1;
      all = ap (λ (p : List ℕ × ℕ). p.0) both;
    }

pub word_found : (count i : ℕ) (bytes : List ℕ) (at : ℕ) (xs : List ℕ) (e : ℕ) → i < count → words_read count bytes at ≡ Ok (xs, e) → WordFound xs i bytes at
word_found zero i bytes at xs e lt h = absurd (omega arith)
word_found (suc n) zero bytes at xs e lt h =
    let p = parts_of n bytes at xs e h in
    let here : at + 4 * 0 ≡ at = omega arith in
    record { value = rw (← p.all, here) refl; within = omega (arith, p.long) }
word_found (suc n) (suc j) bytes at xs e lt h =
    let p = parts_of n bytes at xs e h in
    let f = word_found n j bytes (at + 4) p.others e (omega arith) p.rest in
    let there : at + 4 + 4 * j ≡ at + 4 * suc j = omega arith in
    record { value = rw (← p.all) (f.value ∙ ap (number_at w32 bytes) there); within = omega (arith, f.within) }

-- a word of a program whose words can all be read
pub word_in : (count i : ℕ) (bytes : List ℕ) (at : ℕ) → i < count → is_ok (end_of ((words_format count).reads bytes at)) ≡ true →
    WordFound (values_of ((words_format count).reads bytes at)) i bytes at
unfolding words_format
word_in count i bytes at lt h = let all = all_read (words_read count bytes at) h in
    word_found count i bytes at (values_of (words_read count bytes at)) all.0 lt all.1

not_both : {A : Type 0} (r : Result A Refusal) (e : Refusal) (x : A) → r ≡ Err e → r ≡ Ok x → ⊥
not_both r e x h h' = absurd cc

pub not_refused : (bytes : List ℕ) (at : ℕ) (refusal : Refusal) → at + 4 ≤ length bytes → Err refusal ≡ (field anything).reads bytes at → ⊥
not_refused bytes at refusal within h = not_both ((field anything).reads bytes at) refusal (number_at w32 bytes at, at + 4) (sym h)
    (read_within bytes at within)

pub read_as : (bytes : List ℕ) (at : ℕ) (x : ℕ × ℕ) → at + 4 ≤ length bytes → Ok x ≡ (field anything).reads bytes at → x.0 ≡ number_at w32 bytes at
read_as bytes at x within h = ap (λ (p : ℕ × ℕ). p.0) (ok_is x (number_at w32 bytes at, at + 4) (h ∙ read_within bytes at within))

-- the bytes that words were read from
words_are : (count : ℕ) (bytes : List ℕ) (at : ℕ) (xs : List ℕ) (e : ℕ) → IsBytes bytes → words_read count bytes at ≡ Ok (xs, e) →
    take (4 * count) (drop at bytes) ≡ bytes_of xs
unfolding many_read
words_are zero bytes at xs e fits h = ap (λ (l : List ℕ × ℕ). bytes_of l.0) (ok_is ([], at) (xs, e) h)
words_are (suc n) bytes at xs e fits h =
    let p = parts_of n bytes at xs e h in
    let here : List ℕ = take 4 (drop at bytes) in
    let long : length here ≡ 4 = omega (arith, length-take 4 (drop at bytes), length-drop at bytes, p.long) in
    let back : to_le_bytes w32 (number_at w32 bytes at) ≡ here = wide32.back here long (IsBytes-take 4 (drop at bytes) (IsBytes-drop at bytes fits)) in
    let rest : take (4 * n) (drop (at + 4) bytes) ≡ bytes_of p.others = words_are n bytes (at + 4) p.others e fits p.rest in
    let split : take (4 + 4 * n) (drop at bytes) ≡ here ++ take (4 * n) (drop 4 (drop at bytes)) = take-add 4 (4 * n) (drop at bytes) in
    let more : 4 * suc n ≡ 4 + 4 * n = omega arith in
    rw (more) split ∙ ap (λ (l : List ℕ). here ++ take (4 * n) l) (drop-drop 4 at bytes)
    ∙ ap (λ (l : List ℕ). here ++ l) rest ∙ ap (λ (l : List ℕ). l ++ bytes_of p.others) (sym back) ∙ ap bytes_of p.all

pub words_taken : (count : ℕ) (bytes : List ℕ) (at : ℕ) → IsBytes bytes → is_ok (end_of ((words_format count).reads bytes at)) ≡ true
    → take (4 * count) (drop at bytes) ≡ bytes_of (values_of ((words_format count).reads bytes at))
unfolding words_format
words_taken count bytes at fits h = let all = all_read (words_read count bytes at) h in
    words_are count bytes at (values_of (words_read count bytes at)) all.0 fits all.1
