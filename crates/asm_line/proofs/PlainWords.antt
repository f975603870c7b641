-- Words as listings write them: no byte parts words, begins a comment or is no ASCII.
use Rattle.std.specs.Prelude.{◌==◌, None}
use Rattle.std.specs.List.{position, prefix_len}
use Rattle.std.proofs.Common.{le-ltb}
use Rattle.std.proofs.lemmas.List.Folds.{list_all-append}
use Rattle.std.proofs.Common.{◌≡◌, ℕ, ◌^◌, ◌<◌, Bool, true, false, not, ◌&&◌, List, [], ◌∷◌, length, refl, ap, ◌∙◌, arith, ltb, lt-ltb}
use Rattle.std.specs.List.{list_all, filter, AllByRecursion}
use Rattle.std.specs.Fmt.{decimal}
use Rattle.std.specs.Str.{all_ascii_digits}
use Rattle.std.specs.Char.{is_ascii_digit}
use Rattle.std.specs.Str.Parse.{digits_value}
use Rattle.std.proofs.lemmas.Bool.{and_parts, and_from}
use Rattle.std.proofs.lemmas.Bool.Decides.{nat_tests}
use Rattle.std.proofs.lemmas.Fmt.{digits_decimal, decimal_nonempty}
use Rattle.std.proofs.lemmas.Str.Parse.{IsNumeralModel, numerals_by_value, tells_all_ascii_digits}
use Rattle.std.proofs.lemmas.List.Elements.{All-from_recursion}
use Rattle.std.proofs.lemmas.List.Splits.{slice_split_at, slice_split_none}
use Rattle.model.specs.Images.Listing.{Text, line}
use Rattle.asm_line.specs.Words.{is_blank, words_of, is_name_byte}
use Rattle.asm_line.proofs.Splitting.{is_full}

abbrev pub is_plain : ℕ → Bool
is_plain byte = ltb 32 byte && ltb byte 127 && not (byte == 44) && not (byte == 35)

pub record IsPlainWord (word : Text) : Type 0 where
  pub some : 0 < length word
  pub plain : list_all is_plain word ≡ true

-- ---- numbers

own : IsNumeralModel (λ ds. all_ascii_digits ds ≡ true) (digits_value 10)
own = numerals_by_value _ tells_all_ascii_digits

pub decimal-digits : (n : ℕ) → n < 2 ^ 64 → all_ascii_digits (decimal n) ≡ true
decimal-digits n small = digits_decimal own n small

digit-plain : (b : ℕ) → is_ascii_digit b ≡ true → is_plain b ≡ true
digit-plain b h = grind (arith, nat_tests)

digit-name : (b : ℕ) → is_ascii_digit b ≡ true → is_name_byte b ≡ true
digit-name b h = grind (arith, nat_tests)

pub digits-plain : (ds : Text) → all_ascii_digits ds ≡ true → list_all is_plain ds ≡ true
digits-plain [] h = refl
digits-plain (d ∷ ds) h = let both = and_parts (is_ascii_digit d) (all_ascii_digits ds) h in and_from _ _ (digit-plain d both.0) (digits-plain ds both.1)

pub digits-name : (ds : Text) → all_ascii_digits ds ≡ true → list_all is_name_byte ds ≡ true
digits-name [] h = refl
digits-name (d ∷ ds) h = let both = and_parts (is_ascii_digit d) (all_ascii_digits ds) h in and_from _ _ (digit-name d both.0) (digits-name ds both.1)

pub decimal-plain : (n : ℕ) → n < 2 ^ 64 → IsPlainWord (decimal n)
decimal-plain n small = record { some = decimal_nonempty n small; plain = digits-plain (decimal n) (decimal-digits n small) }

-- ---- the words of a line

plain-blank : (b : ℕ) → is_plain b ≡ true → is_blank b ≡ false
plain-blank b h = grind (arith, nat_tests)

plain-all : (ws : Text) → list_all is_plain ws ≡ true → AllByRecursion (λ b. is_blank b ≡ false) ws
plain-all [] h = tt
plain-all (b ∷ bs) h = let both = and_parts (is_plain b) (list_all is_plain bs) h in (plain-blank b both.0, plain-all bs both.1)

word-all : (p : ℕ → Bool) → ((b : ℕ) → is_plain b ≡ true → p b ≡ true) → (w : Text) → list_all is_plain w ≡ true → list_all p w ≡ true
word-all p each [] h = refl
word-all p each (b ∷ bs) h = let both = and_parts (is_plain b) (list_all is_plain bs) h in and_from _ _ (each b both.0) (word-all p each bs both.1)

abbrev pub AllPlain : List Text → Type 0
AllPlain [] = Unit {0}
AllPlain (w ∷ ws) = IsPlainWord w × AllPlain ws

pub words-line : (ws : List Text) → AllPlain ws → words_of (line ws) ≡ ws
unfolding words_of
words-line [] h = refl
words-line (w ∷ []) h =
    ap (filter is_full) (slice_split_none is_blank w (All-from_recursion _ w (plain-all w h.0.plain))) ∙ (rw (lt-ltb 0 (length w) h.0.some) refl)
words-line (w ∷ v ∷ ws) h =
    ap (filter is_full) (slice_split_at is_blank w 32 (line (v ∷ ws)) (All-from_recursion _ w (plain-all w h.0.plain)) refl)
    ∙ (rw (lt-ltb 0 (length w) h.0.some) (ap (λ xs. w ∷ xs) (words-line (v ∷ ws) h.1)))

-- what holds of each plain byte and of a space holds of each byte of a line
pub line-all : (p : ℕ → Bool) → ((b : ℕ) → is_plain b ≡ true → p b ≡ true) → p 32 ≡ true → (ws : List Text) → AllPlain ws → list_all p (line ws) ≡ true
line-all p each blank [] h = refl
line-all p each blank (w ∷ []) h = word-all p each w h.0.plain
line-all p each blank (w ∷ v ∷ ws) h =
    list_all-append p w (32 ∷ line (v ∷ ws)) ∙ and_from _ _ (word-all p each w h.0.plain) (and_from _ _ blank (line-all p each blank (v ∷ ws) h.1))

all-prefix : (q : ℕ → Bool) (xs : Text) → list_all q xs ≡ true → prefix_len q xs ≡ length xs
all-prefix q [] h = refl
all-prefix q (x ∷ xs) h =
    let both = and_parts (q x) (list_all q xs) h in
    let rest = all-prefix q xs both.1 in
    rw both.0 (omega (arith, rest))

pub none-there : (q : ℕ → Bool) (xs : Text) → list_all (λ b. not (q b)) xs ≡ true → position q xs ≡ None
none-there q xs h = let long = all-prefix (λ b. not (q b)) xs h in let less : ltb (prefix_len (λ b. not (q b)) xs) (length xs) ≡ false =
    le-ltb _ _ (omega (arith, long)) in rw less refl
