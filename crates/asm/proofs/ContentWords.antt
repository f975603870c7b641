-- The words of a `data` line, read one after another.
use Rattle.std.specs.Prelude.{map}
use Rattle.std.proofs.Common.{◌≡◌, ℕ, ◌+◌, ◌<◌, ◌≤◌, List, [], ◌∷◌, ◌++◌, length, Some, None, Ok, Err, ℤ, refl, sym, ap, ◌∙◌, arith, length-append}
use Rattle.std.proofs.Common.{append_assoc}
use Rattle.std.specs.Prelude.{Result}
use Rattle.std.specs.Result.{result_ok}
use Rattle.std.proofs.lemmas.List.{length-map}
use Rattle.std.proofs.lemmas.Option.{same_Some}
use Rattle.model.specs.Images.Listing.{Text}
use Rattle.asm_line.specs.Words.{◌>>=◌, number_of}
use Rattle.asm_line.specs.Lines.{word, word_first, all_words}
use Rattle.asm.specs.Sections.{value_of, number_or_zero}
use Rattle.asm_line.specs.declared.faults.LineFault.{LineFault}

-- a word is a number of 32 bits, or at fault
pub data WordSays (w : Text) : Type 0 where
  number : (n : ℕ) → ((ws : List Text) → word_first (w ∷ ws) ≡ Ok (n, ws)) → ((ws : List Text) → all_words (w ∷ ws) ≡ all_words ws) → value_of w ≡ n →
      WordSays w
  fault : (e : LineFault) → ((ws : List Text) → word_first (w ∷ ws) ≡ Err e) → ((ws : List Text) → all_words (w ∷ ws) ≡ Err e) → WordSays w

ranged : (w : Text) (z : ℤ) → number_of w ≡ Ok z → (r : Result ℕ LineFault) → word z ≡ r → WordSays w
ranged w z q (Ok n) e = number n
    (λ ws. ap (λ (r : Result ℤ LineFault). r >>= λ number. word number >>= λ value. Ok (value, ws)) q
    ∙ ap (λ (r : Result ℕ LineFault). r >>= λ value. Ok (value, ws)) e)
    (λ ws. ap (λ (r : Result ℤ LineFault). r >>= λ number. word number >>= λ _. all_words ws) q ∙ ap (λ (r : Result ℕ LineFault). r >>= λ _. all_words ws) e)
    (ap (λ (r : Result ℤ LineFault). number_or_zero (r >>= λ number. word number)) q ∙ ap number_or_zero e)
ranged w z q (Err f) e = fault f
    (λ ws. ap (λ (r : Result ℤ LineFault). r >>= λ number. word number >>= λ value. Ok (value, ws)) q
    ∙ ap (λ (r : Result ℕ LineFault). r >>= λ value. Ok (value, ws)) e)
    (λ ws. ap (λ (r : Result ℤ LineFault). r >>= λ number. word number >>= λ _. all_words ws) q ∙ ap (λ (r : Result ℕ LineFault). r >>= λ _. all_words ws) e)

spelled : (w : Text) (r : Result ℤ LineFault) → number_of w ≡ r → WordSays w
spelled w (Ok z) q = ranged w z q (word z) refl
spelled w (Err f) q = fault f
    (λ ws. ap (λ (r : Result ℤ LineFault). r >>= λ number. word number >>= λ value. Ok (value, ws)) q)
    (λ ws. ap (λ (r : Result ℤ LineFault). r >>= λ number. word number >>= λ _. all_words ws) q)

pub word-says : (w : Text) → WordSays w
word-says w = spelled w (number_of w) refl

-- the first word, and those behind it
pub record FirstWord (words : List Text) (n : ℕ) (rest : List Text) : Type 0 where
  pub text : Text
  pub is : words ≡ text ∷ rest
  pub value : value_of text ≡ n
  pub others : all_words words ≡ all_words rest

split-word : (w : Text) (ws : List Text) (n : ℕ) (rest : List Text) → WordSays w → Some (n, rest) ≡ result_ok (word_first (w ∷ ws)) → FirstWord (w ∷ ws) n rest
split-word w ws n rest (number m first all value) e =
    let same : Some (n, rest) ≡ Some (m, ws) = e ∙ ap result_ok (first ws) in
    let pair = same_Some (n, rest) (m, ws) same in
    record {
      text = w;
      is = ap (λ (p : ℕ × List Text). w ∷ p.1) (sym pair);
      value = value ∙ ap (λ (p : ℕ × List Text). p.0) (sym pair);
      others = all ws
          ∙ ap (λ (p : ℕ × List Text). all_words p.1) (sym pair);
    }
split-word w ws n rest (fault f first all) e = absurd (let no : Some (n, rest) ≡ None = e ∙ ap result_ok (first ws) in cc)

pub first-word : (words : List Text) (n : ℕ) (rest : List Text) → Some (n, rest) ≡ result_ok (word_first words) → FirstWord words n rest
first-word [] n rest e = absurd (let no : Some (n, rest) ≡ None = e in cc)
first-word (w ∷ ws) n rest e = split-word w ws n rest (word-says w) e

no-word-by : (w : Text) (ws : List Text) → WordSays w → None ≡ result_ok (word_first (w ∷ ws)) → all_words (w ∷ ws) ≡ Ok tt → w ∷ ws ≡ []
no-word-by w ws (number m first all value) e said = absurd (let no : None ≡ Some (m, ws) = e ∙ ap result_ok (first ws) in cc)
no-word-by w ws (fault f first all) e said = absurd (let no : Err f ≡ Ok tt = sym (all ws) ∙ said in cc)

pub no-word : (words : List Text) → None ≡ result_ok (word_first words) → all_words words ≡ Ok tt → words ≡ []
no-word [] e said = refl
no-word (w ∷ ws) e said = no-word-by w ws (word-says w) e said

-- ---- the loop over them

pub record WordsLeft (read : List ℕ) (rest all : List Text) : Type 0 where
  pub said : all_words rest ≡ Ok tt
  pub so_far : read ++ map value_of rest ≡ map value_of all

pub one-word-more : (read : List ℕ) (words all : List Text) (n : ℕ) (rest : List Text) → WordsLeft read words all → FirstWord words n rest →
    WordsLeft (read ++ n ∷ []) rest all
one-word-more read words all n rest now first = record {
  said = sym first.others ∙ now.said;
  so_far = append_assoc read (n ∷ []) (map value_of rest) ∙ ap (λ m. read ++ m ∷ map value_of rest) (sym first.value)
      ∙ ap (λ ws. read ++ map value_of ws) (sym first.is) ∙ now.so_far;
}

-- there is room for a word that is left
pub word-has-room : (read : List ℕ) (words all : List Text) (n : ℕ) (rest : List Text) → WordsLeft read words all → FirstWord words n rest → length all ≤ 1024
    → length read < 1024
word-has-room read words all n rest now first short =
    let whole : length read + length (map value_of words) ≡ length (map value_of all) = sym (length-append read (map value_of words)) ∙ ap length now.so_far in
    let left : length words ≡ length (first.text ∷ rest) = ap length first.is in
    omega (arith, whole, left, length-map words value_of, length-map all value_of)
