-- Registers of words, one after another.
use Rattle.std.proofs.Common.{ℕ, ◌≡◌, ◌∙◌, ◌+◌, ◌<◌, ◌&&◌, List, [], ◌∷◌, drop, refl, ap, sym, add-one, drop-cons}
use Rattle.std.specs.Prelude.{slice_index_or}
use Rattle.model.specs.declared.entries.PromisedWord.{PromisedWord}
use Rattle.model.specs.declared.instructions.Register.{Register}
use Rattle.model.specs.declared.ranges.Range.{Range}
use Rattle.model.specs.Acceptance.Promises.{keep_words, keeps_word, range_promised, with_words}
use Rattle.model.specs.Acceptance.Ranges.{full, range_of, with_range}
use Rattle.model.specs.Kernel.Messages.{a0, word_registers}
use Rattle.typestate.specs.Promises.{range_at, with_each}

pub words-each : (ranges : List Range) (xs : List Register) (words : List PromisedWord) → with_each ranges xs (range_at words) ≡ with_words ranges xs words
words-each ranges [] words = refl
words-each ranges (x ∷ xs) [] = words-each (with_range ranges x full) xs []
words-each ranges (x ∷ xs) (word ∷ words) = words-each (with_range ranges x (range_promised word)) xs words

-- ---- the words that are left

pub word-left : (ranges : List Range) (k : ℕ) (w : PromisedWord) (ws : List PromisedWord) → k < 8 → keep_words ranges (drop k word_registers) (w ∷ ws)
    ≡ (keeps_word (range_of ranges (slice_index_or word_registers k a0)) w && keep_words ranges (drop (k + 1) word_registers) ws)
unfolding word_registers
word-left ranges k w ws less =
    ap (λ (xs : List Register). keep_words ranges xs (w ∷ ws)) (drop-cons word_registers k a0 less)
    ∙ ap (λ n. keeps_word (range_of ranges (slice_index_or word_registers k a0)) w && keep_words ranges (drop n word_registers) ws) (sym (add-one k))
