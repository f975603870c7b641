-- The text of a listing parts into its lines.
use Rattle.std.proofs.Common.{◌≡◌, ℕ, ◌-◌, ◌≤◌, suc, Bool, true, false, not, List, [], ◌∷◌, ◌++◌, length, refl, ap, sym, ◌∙◌, arith, append_assoc}
use Rattle.std.specs.Prelude.{flat_map, ◌==◌, slice_index, if◌then◌else◌, take}
use Rattle.std.specs.List.{AllByRecursion, AllZip, list_all, slice_split}
use Rattle.std.specs.Str.Lines.{lines, lines_of_parts, strip_carriage_return}
use Rattle.std.proofs.lemmas.Bool.{and_parts}
use Rattle.std.proofs.lemmas.Bool.Decides.{nat_tests}
use Rattle.std.proofs.lemmas.List.Elements.{All-from_recursion}
use Rattle.std.proofs.lemmas.List.Splits.{length-slice_split, slice_split_at}
use Rattle.model.specs.Images.Listing.{Text}
use Rattle.asm_line.specs.declared.lines.Line.{Line}
use Rattle.asm_line.specs.Listed.{Lists}
use Rattle.asm_line.proofs.Laws.{Reads, is_plain, line-all, reads}

abbrev pub is_feed : ℕ → Bool
is_feed byte = byte == 10

abbrev pub is_return : ℕ → Bool
is_return byte = byte == 13

-- no byte of a text ends a line
pub record IsOneLine (text : Text) : Type 0 where
  pub fed : list_all (λ b. not (is_feed b)) text ≡ true
  pub returned : list_all (λ b. not (is_return b)) text ≡ true

plain-feed : (b : ℕ) → is_plain b ≡ true → not (is_feed b) ≡ true
plain-feed b h = grind (arith, nat_tests)

plain-return : (b : ℕ) → is_plain b ≡ true → not (is_return b) ≡ true
plain-return b h = grind (arith, nat_tests)

pub one-line : (l : Line) (text : Text) → Lists l text → IsOneLine text
one-line l text h =
    let r : Reads l text = reads l text h in
    record {
      fed = ap (list_all (λ b. not (is_feed b))) r.spelled ∙ line-all (λ b. not (is_feed b)) plain-feed refl r.words r.plain;
      returned = ap (list_all (λ b. not (is_return b))) r.spelled ∙ line-all (λ b. not (is_return b)) plain-return refl r.words r.plain;
    }

pub all-one-line : (said : List Line) (texts : List Text) → AllZip Lists said texts → AllByRecursion IsOneLine texts
all-one-line [] [] h = tt
all-one-line [] (t ∷ ts) h = absurd h
all-one-line (l ∷ ls) [] h = absurd h
all-one-line (l ∷ ls) (t ∷ ts) h = (one-line l t h.0, all-one-line ls ts h.1)

-- ---- parts and lines

not-true : (b : Bool) → not b ≡ true → b ≡ false
not-true true e = sym e
not-true false e = refl

none-fed : (text : Text) → list_all (λ b. not (is_feed b)) text ≡ true → AllByRecursion (λ b. is_feed b ≡ false) text
none-fed [] h = tt
none-fed (b ∷ bs) h =
    let both = and_parts (not (is_feed b)) (list_all (λ b. not (is_feed b)) bs) h in (not-true (is_feed b) both.0, none-fed bs both.1)

last-stays : (b : ℕ) (bs : Text) → list_all (λ b. not (is_return b)) (b ∷ bs) ≡ true → is_return (slice_index (b ∷ bs) (length (b ∷ bs) - 1)) ≡ false
last-stays b [] h = not-true (is_return b) (and_parts (not (is_return b)) true h).0
last-stays b (d ∷ ds) h =
    let both = and_parts (not (is_return b)) (list_all (λ b. not (is_return b)) (d ∷ ds)) h in
    let last : length (b ∷ d ∷ ds) - 1 ≡ suc (length (d ∷ ds) - 1) = omega arith in
    ap (λ i. is_return (slice_index (b ∷ d ∷ ds) i)) last ∙ last-stays d ds both.1

strip-same : (text : Text) → list_all (λ b. not (is_return b)) text ≡ true → strip_carriage_return text ≡ text
strip-same [] h = refl
strip-same (b ∷ bs) h = ap (λ c. if c then take (length (b ∷ bs) - 1) (b ∷ bs) else (b ∷ bs)) (last-stays b bs h)

strip-first : (text : Text) (parts : List Text) → 1 ≤ length parts → lines_of_parts (text ∷ parts) ≡ strip_carriage_return text ∷ lines_of_parts parts
strip-first text [] h = absurd (omega (arith, h))
strip-first text (p ∷ ps) h = refl

pub lines-back : (texts : List Text) → AllByRecursion IsOneLine texts → lines (flat_map (λ text. text ++ 10 ∷ []) texts) ≡ texts
lines-back [] h = refl
lines-back (t ∷ ts) h =
    let rest = flat_map (λ text. text ++ 10 ∷ []) ts in
    let some = length-slice_split is_feed rest in
    ap lines (append_assoc t (10 ∷ []) rest)
    ∙ (ap lines_of_parts (slice_split_at is_feed t 10 rest (All-from_recursion _ t (none-fed t h.0.fed)) refl)
    ∙ (strip-first t (slice_split is_feed rest) (omega (arith, some))
    ∙ ((λ i. strip-same t h.0.returned i ∷ lines_of_parts (slice_split is_feed rest)) ∙ ap (λ ls. t ∷ ls) (lines-back ts h.1))))
