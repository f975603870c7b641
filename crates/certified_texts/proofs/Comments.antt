-- What is before a comment, of bytes that are put together; and the budget of a thread's line.
use Rattle.std.proofs.Common.{◌≡◌, ℕ, suc, ◌+◌, ◌||◌, Bool, true, false, not, cond, [], ◌∷◌, ◌++◌, length, take, Some, None, refl, sym, ap, ◌∙◌}
use Rattle.std.proofs.Common.{arith, ltb, append_assoc}
use Rattle.std.specs.Prelude.{◌==◌, codes}
use Rattle.std.specs.List.{position_or_len}
use Rattle.std.specs.Option.{option_map_or}
use Rattle.std.proofs.lemmas.Bool.{ltb-false}
use Rattle.std.proofs.lemmas.List.{take_all}
use Rattle.model.specs.Images.Listing.{Text}
use Rattle.asm_line.specs.Parsing.{before_comment}
use Rattle.certified_texts.specs.Lines.{has_hash, is_thread, line_words, words_of}
use Rattle.certified_texts.specs.SameTexts.{AreAroundBudget, IsOpenAround}
use Rattle.certified_texts.proofs.WholeWords.{whole-word}

abbrev is_hash : ℕ → Bool
is_hash byte = byte == 35

abbrev hash_place : Text → ℕ
hash_place bytes = position_or_len is_hash bytes

said-is : (bytes : Text) → before_comment bytes ≡ take (hash_place bytes) bytes
said-is bytes = by (ltb (hash_place bytes) (length bytes)) refl
  where
    by : (b : Bool) → ltb (hash_place bytes) (length bytes) ≡ b
        → option_map_or (λ end. take end bytes) (cond b (Some (hash_place bytes)) None) bytes ≡ take (hash_place bytes) bytes
    by true e = refl
    by false e = sym (take_all (hash_place bytes) bytes (ltb-false _ _ e))

plain-append : (a b : Text) → has_hash a ≡ false → take (hash_place (a ++ b)) (a ++ b) ≡ a ++ take (hash_place b) b
plain-append [] b h = refl
plain-append (x ∷ a) b h = by (plain-append a b) (is_hash x) refl h
  where
    by : (has_hash a ≡ false → take (hash_place (a ++ b)) (a ++ b) ≡ a ++ take (hash_place b) b) → (v : Bool) → is_hash x ≡ v → v || has_hash a ≡ false
        → take (cond (not v) (1 + hash_place (a ++ b)) 0) (x ∷ (a ++ b)) ≡ x ∷ (a ++ take (hash_place b) b)
    by behind true e h = absurd (cc)
    by behind false e h =
        let one : 1 + hash_place (a ++ b) ≡ suc (hash_place (a ++ b)) = omega arith in
        rw one (ap (λ l. x ∷ l) (behind h))

-- bytes with no comment, and what is before a comment of those after them
said-append : (a b : Text) → has_hash a ≡ false → before_comment (a ++ b) ≡ a ++ before_comment b
said-append a b h = said-is (a ++ b) ∙ (plain-append a b h ∙ ap (λ l. a ++ l) (sym (said-is b)))

alone : words_of (codes "auto") ≡ codes "auto" ∷ []
unfolding words_of
alone = refl

pub open-around : (line before behind : Text) → is_thread line ≡ true → line ≡ before ++ (codes "auto" ++ behind)
    → AreAroundBudget before (before_comment behind) → IsOpenAround line before behind
open-around line before behind begins cut around = record {
  is = cut ∙ sym (append_assoc before (codes "auto") behind);
  thread = begins;
  later = words_of (before_comment behind);
  words =
      ap line_words cut ∙ (ap words_of (said-append before (codes "auto" ++ behind) around.plain
      ∙ ap (λ l. before ++ l) (said-append (codes "auto") behind refl))
      ∙ whole-word before (codes "auto") (before_comment behind) around.blank alone around.apart);
  seventh = around.sixth;
}
