-- The first line of a text, and those after it.
use Rattle.std.proofs.Common.{◌≡◌, ℕ, suc, ◌+◌, ◌<◌, ◌≤◌, Bool, true, false, not, cond, List, [], ◌∷◌, length, take, drop, Some, None, refl, sym, ap}
use Rattle.std.proofs.Common.{◌∙◌, arith}
use Rattle.std.specs.Prelude.{◌==◌, filter}
use Rattle.std.specs.List.{onto_first, position, position_or_len}
use Rattle.model.specs.Images.Listing.{Text}
use Rattle.certified_texts.specs.Lines.{is_certificate, kept_lines, lines_of}
use Rattle.certified_texts.proofs.Splitting.{absent, found}

abbrev is_feed : ℕ → Bool
is_feed byte = byte == 10

abbrev feed_place : Text → ℕ
feed_place text = position_or_len is_feed text

feed-first : (text : Text) → feed_place text < length text
    → lines_of text ≡ take (suc (feed_place text)) text ∷ lines_of (drop (suc (feed_place text)) text)
feed-first [] h = absurd (omega arith)
feed-first (b ∷ text) h = by (feed-first text) (is_feed b) refl h
  where
    by : (feed_place text < length text → lines_of text ≡ take (suc (feed_place text)) text ∷ lines_of (drop (suc (feed_place text)) text))
        → (v : Bool) → is_feed b ≡ v → cond (not v) (1 + feed_place text) 0 < length (b ∷ text)
        → cond v ((b ∷ []) ∷ lines_of text) (onto_first b (lines_of text))
        ≡ take (suc (cond (not v) (1 + feed_place text) 0)) (b ∷ text) ∷ lines_of (drop (suc (cond (not v) (1 + feed_place text) 0)) (b ∷ text))
    by behind true e inside = refl
    by behind false e inside =
        let one : 1 + feed_place text ≡ suc (feed_place text) = omega arith in
        let less : feed_place text < length text = omega arith in
        rw one (ap (onto_first b) (behind less))

abbrev alone : Text → List Text
alone [] = []
alone (b ∷ text) = (b ∷ text) ∷ []

onto-alone : (b : ℕ) (text : Text) → onto_first b (alone text) ≡ (b ∷ text) ∷ []
onto-alone b [] = refl
onto-alone b (c ∷ text) = refl

feed-none : (text : Text) → length text ≤ feed_place text → lines_of text ≡ alone text
feed-none [] h = refl
feed-none (b ∷ text) h = by (feed-none text) (is_feed b) refl h
  where
    by : (length text ≤ feed_place text → lines_of text ≡ alone text) → (v : Bool) → is_feed b ≡ v
        → length (b ∷ text) ≤ cond (not v) (1 + feed_place text) 0 → cond v ((b ∷ []) ∷ lines_of text) (onto_first b (lines_of text)) ≡ (b ∷ text) ∷ []
    by behind true e past = absurd (omega arith)
    by behind false e past = let most : length text ≤ feed_place text = omega arith in ap (onto_first b) (behind most) ∙ onto-alone b text

-- a text up to a line feed
pub line-cut : (text front back : Text) (at : ℕ) → position is_feed text ≡ Some at → front ≡ take (at + 1) text → back ≡ drop (at + 1) text
    → lines_of text ≡ front ∷ lines_of back
line-cut text front back at h f b =
    let place = found is_feed text at h in
    let more : at + 1 ≡ suc (feed_place text) = omega (arith, place.place) in
    let less : feed_place text < length text = omega (arith, place.place, place.inside) in
    feed-first text less ∙ (ap (λ l. l ∷ lines_of (drop (suc (feed_place text)) text)) (sym (f ∙ ap (λ n. take n text) more))
    ∙ ap (λ l. front ∷ lines_of l) (sym (b ∙ ap (λ n. drop n text) more)))

-- a text with no line feed
pub line-alone : (text front back : Text) → 0 < length text → position is_feed text ≡ None → front ≡ text → back ≡ [] → lines_of text ≡ front ∷ lines_of back
line-alone text front back some h f b =
    feed-none text (absent is_feed text h) ∙ (alone-is text some ∙ (ap (λ l. l ∷ []) (sym f) ∙ ap (λ l. front ∷ lines_of l) (sym b)))
  where
    alone-is : (text : Text) → 0 < length text → alone text ≡ text ∷ []
    alone-is [] h = absurd (omega arith)
    alone-is (b ∷ text) h = refl

-- ---- lines that are none of a certificate

abbrev is_kept : Text → Bool
is_kept line = not (is_certificate line)

pub kept-none : (text : Text) → lines_of text ≡ [] → kept_lines text ≡ []
unfolding kept_lines
kept-none text h = ap (filter is_kept) h

pub kept-next : (text line behind : Text) → lines_of text ≡ line ∷ lines_of behind → is_certificate line ≡ false → kept_lines text ≡ line ∷ kept_lines behind
unfolding kept_lines
kept-next text line behind h other =
    let others = filter is_kept (lines_of behind) in
    ap (filter is_kept) h ∙ ap (λ b. cond (not b) (line ∷ others) others) other

pub kept-other : (text line behind : Text) → lines_of text ≡ line ∷ lines_of behind → is_certificate line ≡ true → kept_lines text ≡ kept_lines behind
unfolding kept_lines
kept-other text line behind h certificate =
    let others = filter is_kept (lines_of behind) in
    ap (filter is_kept) h ∙ ap (λ b. cond (not b) (line ∷ others) others) certificate
