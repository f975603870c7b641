-- The words of a `data` line, those of a `promise` line and the terms of a `measure` line, as a loop reads them.
use Rattle.std.specs.Prelude.{nat_le, nat_lt, Result, if◌then◌else◌}
use Rattle.std.proofs.Common.{◌≡◌, ℕ, ◌<◌, ◌≤◌, ◌+◌, Bool, true, false, List, [], ◌∷◌, ◌++◌, length, Option, Some, None, Ok, Err, ℤ, refl, sym, ap, ◌∙◌}
use Rattle.std.proofs.Common.{arith, length-append, append_assoc}
use Rattle.std.specs.Result.{result_ok}
use Rattle.std.proofs.lemmas.Bool.{le-leb, lt-leb, ltb-true, ltb-false}
use Rattle.std.proofs.lemmas.List.{append-nil}
use Rattle.model.specs.declared.entries.PromisedWord.{PromisedWord}
use Rattle.model.specs.declared.entries.TermEntry.{TermEntry}
use Rattle.model.specs.Images.Listing.{Text}
use Rattle.asm_line.specs.Words.{◌>>=◌, number_of}
use Rattle.asm_line.specs.Lines.{promised_first, promised_of, term_first, term_of, word, word_first}
use Rattle.asm.specs.Keys.{has_room, must, sorted_with}
use Rattle.asm.specs.Meaning.{promised_said, sorted_terms, terms_said, values_of, words_said}
use Rattle.asm.specs.Sections.{promised_values}
use Rattle.asm_line.specs.declared.faults.LineFault.{LineFault}

-- ---- room

pub has-room : {E : Type 0} (most : ℕ) (xs : List E) → has_room most xs ≡ Ok tt → length xs < most
has-room most xs e = by (nat_lt (length xs) most) refl e
  where
    by : (b : Bool) → nat_lt (length xs) most ≡ b → ◌≡◌ {A = Result (Unit {0}) ℕ} (if b then Ok tt else Err 4) (Ok tt) → length xs < most
    by true q h = ltb-true _ _ q
    by false q h = absurd (let no : ◌≡◌ {A = Result (Unit {0}) ℕ} (Err 4) (Ok tt) = h in cc)

pub record IsFull (most count kind : ℕ) : Type 0 where
  pub full : most ≤ count
  pub range : kind ≡ 4

pub has-none : {E : Type 0} (most : ℕ) (xs : List E) (kind : ℕ) → has_room most xs ≡ Err kind → IsFull most (length xs) kind
has-none most xs kind e = by (nat_lt (length xs) most) refl e
  where
    by : (b : Bool) → nat_lt (length xs) most ≡ b → ◌≡◌ {A = Result (Unit {0}) ℕ} (if b then Ok tt else Err 4) (Err kind) → IsFull most (length xs) kind
    by true q h = absurd (let no : ◌≡◌ {A = Result (Unit {0}) ℕ} (Ok tt) (Err kind) = h in cc)
    by false q h = record { full = ltb-false _ _ q; range = let same : ◌≡◌ {A = Result (Unit {0}) ℕ} (Err 4) (Err kind) = h in cc }

-- ---- words

abbrev shown : Option (ℕ × List Text) → List ℕ
shown (Some first) = first.0 ∷ values_of first.1
shown None = []

shown-word : (r : Result ℕ LineFault) (ws : List Text) → elim r [ Ok value ↦ value ∷ values_of ws | Err e ↦ [] ] ≡ shown
    (result_ok (r >>= λ value. Ok (value, ws)))
shown-word (Ok value) ws = refl
shown-word (Err e) ws = refl

shown-number : (r : Result ℤ LineFault) (ws : List Text)
    → elim (r >>= λ number. word number) [ Ok value ↦ value ∷ values_of ws | Err e ↦ [] ] ≡ shown
    (result_ok (r >>= λ number. word number >>= λ value. Ok (value, ws)))
shown-number (Ok z) ws = shown-word (word z) ws
shown-number (Err e) ws = refl

values-shown : (words : List Text) → values_of words ≡ shown (result_ok (word_first words))
values-shown [] = refl
values-shown (w ∷ ws) = shown-number (number_of w) ws

pub no-values : (words : List Text) → None ≡ result_ok (word_first words) → values_of words ≡ []
no-values words e = values-shown words ∙ sym (ap shown e)

pub first-value : (words : List Text) (n : ℕ) (rest : List Text) → Some (n, rest) ≡ result_ok (word_first words) → values_of words ≡ n ∷ values_of rest
first-value words n rest e = values-shown words ∙ sym (ap shown e)

pub record ValuesLeft (read : List ℕ) (rest all : List Text) : Type 0 where
  pub so_far : read ++ values_of rest ≡ values_of all
  pub few : length read ≤ 1024

pub one-value-more : (read grown : List ℕ) (words all : List Text) (n : ℕ) (rest : List Text) → ValuesLeft read words all →
    Some (n, rest) ≡ result_ok (word_first words)
    → has_room 1024 read ≡ Ok tt → grown ≡ read ++ n ∷ [] → ValuesLeft grown rest all
one-value-more read grown words all n rest now first room same = record {
  so_far = ap (λ xs. xs ++ values_of rest) same ∙ append_assoc read (n ∷ []) (values_of rest) ∙ ap (λ xs. read ++ xs) (sym (first-value words n rest first))
      ∙ now.so_far;
  few = let long : length grown ≡ length read + 1 = ap length same ∙ length-append read (n ∷ []) in omega (arith, long, has-room 1024 read room);
}

pub values-full : (read : List ℕ) (words all : List Text) (n : ℕ) (rest : List Text) (kind : ℕ) → ValuesLeft read words all →
    Some (n, rest) ≡ result_ok (word_first words)
    → has_room 1024 read ≡ Err kind → words_said all ≡ Err kind
unfolding words_said
values-full read words all n rest kind now first none =
    let full = has-none 1024 read kind none in
    let long : length (values_of all) ≡ length read + length (n ∷ values_of rest) =
    ap length (sym now.so_far ∙ ap (λ xs. read ++ xs) (first-value words n rest first)) ∙ length-append read (n ∷ values_of rest) in
    let over : nat_le (length (values_of all)) 1024 ≡ false = lt-leb _ _ (omega (arith, long, full.full)) in
    ap (λ (b : Bool). must b 4 >>= λ short. Ok (values_of all)) over ∙ ap (λ (k : ℕ). Err k) (sym full.range)

pub values-done : (read : List ℕ) (words all : List Text) → ValuesLeft read words all → None ≡ result_ok (word_first words) → words_said all ≡ Ok read
unfolding words_said
values-done read words all now none =
    let same : read ≡ values_of all = sym (append-nil read) ∙ ap (λ xs. read ++ xs) (sym (no-values words none)) ∙ now.so_far in
    let count : length read ≡ length (values_of all) = ap length same in
    let short : nat_le (length (values_of all)) 1024 ≡ true = le-leb _ _ (omega (arith, count, now.few)) in
    ap (λ (b : Bool). must b 4 >>= λ short. Ok (values_of all)) short ∙ ap (λ (xs : List ℕ). Ok xs) (sym same)

-- ---- promised words

abbrev shown_promised : Option (PromisedWord × List Text) → List PromisedWord
shown_promised (Some first) = first.0 ∷ promised_values first.1
shown_promised None = []

shown-pair : (r : Result PromisedWord LineFault) (ws : List Text) → elim r [ Ok word ↦ word ∷ promised_values ws | Err e ↦ [] ] ≡ shown_promised
    (result_ok (r >>= λ promised. Ok (promised, ws)))
shown-pair (Ok word) ws = refl
shown-pair (Err e) ws = refl

promised-shown : (words : List Text) → promised_values words ≡ shown_promised (result_ok (promised_first words))
promised-shown [] = refl
promised-shown (low ∷ []) = refl
promised-shown (low ∷ high ∷ ws) = shown-pair (promised_of low high) ws

no-promised : (words : List Text) → None ≡ result_ok (promised_first words) → promised_values words ≡ []
no-promised words e = promised-shown words ∙ sym (ap shown_promised e)

first-promised : (words : List Text) (w : PromisedWord) (rest : List Text) → Some (w, rest) ≡ result_ok (promised_first words) →
    promised_values words ≡ w ∷ promised_values rest
first-promised words w rest e = promised-shown words ∙ sym (ap shown_promised e)

pub record PromisedLeft (read : List PromisedWord) (rest all : List Text) : Type 0 where
  pub so_far : read ++ promised_values rest ≡ promised_values all
  pub few : length read ≤ 8

pub one-promised-more : (read grown : List PromisedWord) (words all : List Text) (w : PromisedWord) (rest : List Text) → PromisedLeft read words all →
    Some (w, rest) ≡ result_ok (promised_first words)
    → has_room 8 read ≡ Ok tt → grown ≡ read ++ w ∷ [] → PromisedLeft grown rest all
one-promised-more read grown words all w rest now first room same = record {
  so_far = ap (λ xs. xs ++ promised_values rest) same ∙ append_assoc read (w ∷ []) (promised_values rest)
      ∙ ap (λ xs. read ++ xs) (sym (first-promised words w rest first)) ∙ now.so_far;
  few = let long : length grown ≡ length read + 1 = ap length same ∙ length-append read (w ∷ []) in omega (arith, long, has-room 8 read room);
}

pub promised-full : (read : List PromisedWord) (words all : List Text) (w : PromisedWord) (rest : List Text) (kind : ℕ) → PromisedLeft read words all →
    Some (w, rest) ≡ result_ok (promised_first words)
    → has_room 8 read ≡ Err kind → promised_said all ≡ Err kind
unfolding promised_said
promised-full read words all w rest kind now first none =
    let full = has-none 8 read kind none in
    let long : length (promised_values all) ≡ length read + length (w ∷ promised_values rest) =
    ap length (sym now.so_far ∙ ap (λ xs. read ++ xs) (first-promised words w rest first)) ∙ length-append read (w ∷ promised_values rest) in
    let over : nat_le (length (promised_values all)) 8 ≡ false = lt-leb _ _ (omega (arith, long, full.full)) in
    ap (λ (b : Bool). must b 4 >>= λ few. Ok (promised_values all)) over ∙ ap (λ (k : ℕ). Err k) (sym full.range)

pub promised-done : (read : List PromisedWord) (words all : List Text) → PromisedLeft read words all → None ≡ result_ok (promised_first words) →
    promised_said all ≡ Ok read
unfolding promised_said
promised-done read words all now none =
    let same : read ≡ promised_values all = sym (append-nil read) ∙ ap (λ xs. read ++ xs) (sym (no-promised words none)) ∙ now.so_far in
    let count : length read ≡ length (promised_values all) = ap length same in
    let short : nat_le (length (promised_values all)) 8 ≡ true = le-leb _ _ (omega (arith, count, now.few)) in
    ap (λ (b : Bool). must b 4 >>= λ few. Ok (promised_values all)) short ∙ ap (λ (xs : List PromisedWord). Ok xs) (sym same)

-- ---- terms

abbrev shown_terms : Option (TermEntry × List Text) → List TermEntry
shown_terms (Some first) = first.0 ∷ terms_said first.1
shown_terms None = []

shown-term : (r : Result TermEntry LineFault) (ws : List Text) → elim r [ Ok term ↦ term ∷ terms_said ws | Err e ↦ [] ] ≡ shown_terms
    (result_ok (r >>= λ term. Ok (term, ws)))
shown-term (Ok term) ws = refl
shown-term (Err e) ws = refl

terms-shown : (words : List Text) → terms_said words ≡ shown_terms (result_ok (term_first words))
terms-shown [] = refl
terms-shown (name ∷ []) = refl
terms-shown (name ∷ factor ∷ ws) = shown-term (term_of name factor) ws

pub no-terms : (words : List Text) → None ≡ result_ok (term_first words) → terms_said words ≡ []
no-terms words e = terms-shown words ∙ sym (ap shown_terms e)

pub first-term-said : (words : List Text) (t : TermEntry) (rest : List Text) → Some (t, rest) ≡ result_ok (term_first words) →
    terms_said words ≡ t ∷ terms_said rest
first-term-said words t rest e = terms-shown words ∙ sym (ap shown_terms e)

abbrev pub register_key : TermEntry → ℕ
register_key t = t.register

-- what is left is sorted into what is read
pub one-term-sorted : (read grown : List TermEntry) (words all : List Text) (t : TermEntry) (rest : List Text)
    → sorted_terms read (terms_said words) ≡ sorted_terms [] (terms_said all) → Some (t, rest) ≡ result_ok (term_first words)
    → sorted_with register_key 4 t read ≡ Ok grown → sorted_terms grown (terms_said rest) ≡ sorted_terms [] (terms_said all)
one-term-sorted read grown words all t rest now first made =
    sym (ap (λ ts. sorted_terms read ts) (first-term-said words t rest first)
    ∙ ap (λ (r : Result (List TermEntry) ℕ). r >>= λ more. sorted_terms more (terms_said rest)) made) ∙ now

pub term-refused : (read : List TermEntry) (words all : List Text) (t : TermEntry) (rest : List Text) (kind : ℕ)
    → sorted_terms read (terms_said words) ≡ sorted_terms [] (terms_said all) → Some (t, rest) ≡ result_ok (term_first words)
    → sorted_with register_key 4 t read ≡ Err kind → sorted_terms [] (terms_said all) ≡ Err kind
term-refused read words all t rest kind now first refused =
    sym now ∙ ap (λ ts. sorted_terms read ts) (first-term-said words t rest first)
    ∙ ap (λ (r : Result (List TermEntry) ℕ). r >>= λ more. sorted_terms more (terms_said rest)) refused

pub terms-done : (read : List TermEntry) (words all : List Text) → sorted_terms read (terms_said words) ≡ sorted_terms [] (terms_said all) →
    None ≡ result_ok (term_first words)
    → sorted_terms [] (terms_said all) ≡ Ok read
terms-done read words all now none = sym now ∙ ap (λ ts. sorted_terms read ts) (no-terms words none)
