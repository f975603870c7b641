-- How bytes fall into words.
use Rattle.std.proofs.Common.{◌≡◌, ℕ, suc, ◌+◌, ◌<◌, ◌≤◌, Bool, true, false, not, cond, List, [], ◌∷◌, ◌++◌, length, take, drop, get_or, Some, None, refl}
use Rattle.std.proofs.Common.{sym, ap, ◌∙◌, arith, ltb, unwrap_or}
use Rattle.std.specs.List.{onto_first, slice_split, position_or_len, prefix_len, position, filter}
use Rattle.std.proofs.lemmas.List.Elements.{filter-append}
use Rattle.std.proofs.lemmas.Bool.{ltb-true, ltb-false, lt-ltb}
use Rattle.std.proofs.lemmas.List.Sums.{passes_at_first}
use Rattle.std.proofs.Math.ListN.{drop_of_length-le}
use Rattle.std.proofs.Common.{drop-cons}
use Rattle.std.proofs.lemmas.List.Splits.{slice_split-cons_yes, slice_split-cons_no}
use Rattle.model.specs.Images.Listing.{Text}
use Rattle.certified_texts.specs.Lines.{parts_words, words_of}

abbrev pub is_full : Text → Bool
is_full word = ltb 0 (length word)

abbrev pub is_other : ℕ → Bool
is_other byte = not (parts_words byte)

prefix-le : {X : Type 0} (p : X → Bool) (xs : List X) → prefix_len p xs ≤ length xs
prefix-le p [] = omega arith
prefix-le p (x ∷ xs) =
    let rest : prefix_len p xs ≤ length xs = prefix-le p xs in
    elim (p x) as (λ b. cond b (1 + prefix_len p xs) 0 ≤ length (x ∷ xs)) [ true ↦ omega arith | false ↦ omega arith ]

-- ---- what a position says

pub record Found (p : ℕ → Bool) (xs : Text) (i : ℕ) : Type 0 where
  pub place : position_or_len p xs ≡ i
  pub inside : i < length xs

pub found : (p : ℕ → Bool) (xs : Text) (i : ℕ) → position p xs ≡ Some i → Found p xs i
found p xs i = by (ltb (position_or_len p xs) (length xs)) refl
  where
    by : (b : Bool) → ltb (position_or_len p xs) (length xs) ≡ b → cond b (Some (position_or_len p xs)) None ≡ Some i → Found p xs i
    by true e h = let same : position_or_len p xs ≡ i = cc in
        record { place = same; inside = let less : position_or_len p xs < length xs = ltb-true _ _ e in omega arith }
    by false e h = absurd (cc)

pub absent : (p : ℕ → Bool) (xs : Text) → position p xs ≡ None → length xs ≤ position_or_len p xs
absent p xs = by (ltb (position_or_len p xs) (length xs)) refl
  where
    by : (b : Bool) → ltb (position_or_len p xs) (length xs) ≡ b → cond b (Some (position_or_len p xs)) None ≡ None → length xs ≤ position_or_len p xs
    by true e h = absurd (cc)
    by false e h = ltb-false _ _ e

pub position-or : (p : ℕ → Bool) (xs : Text) → unwrap_or (position p xs) (length xs) ≡ position_or_len p xs
position-or p xs = by (ltb (position_or_len p xs) (length xs)) refl
  where
    by : (b : Bool) → ltb (position_or_len p xs) (length xs) ≡ b → unwrap_or (cond b (Some (position_or_len p xs)) None) (length xs) ≡ position_or_len p xs
    by true e = refl
    by false e =
        let most : position_or_len p xs ≤ length xs = prefix-le (λ x. not (p x)) xs in
        let least : length xs ≤ position_or_len p xs = ltb-false _ _ e in
        omega arith

-- ---- blanks before a word

pub blank-first : (b : ℕ) (text : Text) → parts_words b ≡ true → words_of (b ∷ text) ≡ words_of text
unfolding words_of
blank-first b text h = rw (slice_split-cons_yes parts_words b text h) refl

skipped : (text : Text) → words_of (drop (position_or_len is_other text) text) ≡ words_of text
skipped [] = refl
skipped (b ∷ text) = by (skipped text) (parts_words b) refl
  where
    by : words_of (drop (position_or_len is_other text) text) ≡ words_of text → (v : Bool) → parts_words b ≡ v
        → words_of (drop (cond (not (not v)) (1 + position_or_len is_other text) 0) (b ∷ text)) ≡ words_of (b ∷ text)
    by behind true e =
        let one : 1 + position_or_len is_other text ≡ suc (position_or_len is_other text) = omega arith in
        rw one (behind ∙ sym (blank-first b text e))
    by behind false e = refl

pub words-none : (text : Text) → position is_other text ≡ None → words_of text ≡ []
unfolding words_of
words-none text h = sym (skipped text) ∙ ap words_of (drop_of_length-le text (absent is_other text h))

-- ---- a word

-- what the text splits into: what is before the first blank, and parts of which the full ones are the words after it
record Parts (text : Text) : Type 0 where
  pub rest : List Text
  pub split : slice_split parts_words text ≡ take (position_or_len parts_words text) text ∷ rest
  pub words : filter is_full rest ≡ words_of (drop (position_or_len parts_words text) text)

parts : (text : Text) → Parts text
unfolding words_of
parts [] = record { rest = []; split = refl; words = refl }
parts (b ∷ text) = by (parts text) (parts_words b) refl
  where
    by : Parts text → (v : Bool) → parts_words b ≡ v → Parts (b ∷ text)
    by others true e = record {
      rest = slice_split parts_words text;
      split = rw (slice_split-cons_yes parts_words b text e) (rw e refl);
      words = rw e (sym (blank-first b text e));
    }
    by others false e =
        let one : 1 + position_or_len parts_words text ≡ suc (position_or_len parts_words text) = omega arith in record {
          rest = others.rest;
          split = rw (slice_split-cons_no parts_words b text e) (rw others.split (rw e (rw one refl)));
          words = rw e (rw one others.words);
        }

abbrev pub word_size : Text → ℕ
word_size text = position_or_len parts_words text

full : (xs : Text) (p : Parts xs) → is_full (take (word_size xs) xs) ≡ true → words_of xs ≡ take (word_size xs) xs ∷ words_of (drop (word_size xs) xs)
unfolding words_of
full xs p e = ap (filter is_full) p.split ∙ (rw e (ap (λ words. take (word_size xs) xs ∷ words) p.words))

word-first : (b : ℕ) (text : Text) → parts_words b ≡ false
    → words_of (b ∷ text) ≡ take (word_size (b ∷ text)) (b ∷ text) ∷ words_of (drop (word_size (b ∷ text)) (b ∷ text))
word-first b text h =
    let found : Parts (b ∷ text) = parts (b ∷ text) in
    let one : word_size (b ∷ text) ≡ suc (word_size text) = rw h (omega arith) in
    let some : is_full (take (word_size (b ∷ text)) (b ∷ text)) ≡ true = rw one (lt-ltb 0 _ (omega arith)) in
    full (b ∷ text) found some

-- the first word of a text and the words after it
pub words-some : (text : Text) (i : ℕ) → position is_other text ≡ Some i
    → words_of text ≡ take (word_size (drop i text)) (drop i text) ∷ words_of (drop (word_size (drop i text)) (drop i text))
words-some text i h =
    let place : Found is_other text i = found is_other text i h in
    let other : is_other (get_or text i 0) ≡ true = rw place.place at (passes_at_first is_other text 0 (omega (arith, place.place, place.inside))) in
    let cut : drop i text ≡ get_or text i 0 ∷ drop (suc i) text = drop-cons text i 0 place.inside in
    let blank : parts_words (get_or text i 0) ≡ false = not-true (parts_words (get_or text i 0)) other in
    let same : words_of (drop i text) ≡ words_of text = rw place.place at (skipped text) in
    sym same ∙ (rw cut (word-first _ _ blank))
  where
    not-true : (b : Bool) → not b ≡ true → b ≡ false
    not-true true e = sym e
    not-true false e = refl

-- the same of what two cuts of a text give
pub words-cut : (text rest front back : Text) (i n : ℕ) → position is_other text ≡ Some i → rest ≡ drop i text
    → n ≡ unwrap_or (position parts_words rest) (length rest) → front ≡ take n rest → back ≡ drop n rest → words_of text ≡ front ∷ words_of back
words-cut text rest front back i n h cut size f b =
    let whole = words-some text i h in
    let long : n ≡ word_size (drop i text) = size ∙ (position-or parts_words rest ∙ ap word_size cut) in
    let first : front ≡ take (word_size (drop i text)) (drop i text) = f ∙ (ap (λ k. take k rest) long ∙ ap (take (word_size (drop i text))) cut) in
    let behind : back ≡ drop (word_size (drop i text)) (drop i text) = b ∙ (ap (λ k. drop k rest) long ∙ ap (drop (word_size (drop i text))) cut) in
    whole ∙ (ap (λ x. x ∷ words_of (drop (word_size (drop i text)) (drop i text))) (sym first) ∙ ap (λ x. front ∷ words_of x) (sym behind))

-- ---- bytes on both sides of one that parts words

nonempty : (text : Text) → (first : Text) × (others : List Text) × (slice_split parts_words text ≡ first ∷ others)
nonempty text = let found = parts text in (_, found.rest, found.split)

onto-both : (x : ℕ) (first : Text) (others more all : List Text) → all ≡ first ∷ others → onto_first x (all ++ more) ≡ onto_first x all ++ more
onto-both x first others more all e = rw e refl

split-at : (a : Text) (s : ℕ) (b : Text) → parts_words s ≡ true → slice_split parts_words (a ++ s ∷ b) ≡ slice_split parts_words a ++ slice_split parts_words b
split-at [] s b h = slice_split-cons_yes parts_words s b h
split-at (x ∷ a) s b h = by (split-at a s b h) (parts_words x) refl
  where
    by : slice_split parts_words (a ++ s ∷ b) ≡ slice_split parts_words a ++ slice_split parts_words b → (v : Bool) → parts_words x ≡ v
        → slice_split parts_words (x ∷ (a ++ s ∷ b)) ≡ slice_split parts_words (x ∷ a) ++ slice_split parts_words b
    by behind true e =
        slice_split-cons_yes parts_words x (a ++ s ∷ b) e ∙ (ap (λ (l : List Text). [] ∷ l) behind
        ∙ ap (λ (l : List Text). l ++ slice_split parts_words b) (sym (slice_split-cons_yes parts_words x a e)))
    by behind false e =
        let some = nonempty a in
        let joined = onto-both x some.0 some.1 (slice_split parts_words b) (slice_split parts_words a) some.2 in
        slice_split-cons_no parts_words x (a ++ s ∷ b) e ∙ (ap (onto_first x) behind ∙ (joined
        ∙ ap (λ (l : List Text). l ++ slice_split parts_words b) (sym (slice_split-cons_no parts_words x a e))))

-- the words before such a byte, and those after it
pub words-at : (a : Text) (s : ℕ) (b : Text) → parts_words s ≡ true → words_of (a ++ s ∷ b) ≡ words_of a ++ words_of b
unfolding words_of
words-at a s b h = ap (filter is_full) (split-at a s b h) ∙ filter-append is_full (slice_split parts_words a) (slice_split parts_words b)
