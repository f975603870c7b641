-- Which words and bytes writes of a record leave as they are.
use Rattle.std.proofs.Common.{ℕ, zero, suc, ◌≡◌, ◌∙◌, ◌+◌, ◌*◌, ◌<◌, ◌≤◌, ◌⊎◌, inl, inr, List, ◌∷◌, length, refl, ap, arith}
use Rattle.std.specs.Prelude.{slice_index, slice_set}
use Rattle.model.proofs.BytesLemmas.{length-written, slice_index-written_before, slice_index-written_behind, word_at-same}
use Rattle.model.specs.Shared.Bytes.{word_at, written}
use Rattle.pmem.proofs.Laws.{length-words_bytes, words-same}
use Rattle.pmem.specs.Words.{words_at, words_bytes}
use Rattle.objects.specs.thread_records.Records.{SameBeside}

pub written-beside : (m : List ℕ) (at : ℕ) (piece : List ℕ) (to : ℕ) → at + length piece ≡ to → to ≤ length m → SameBeside at to m (written m at piece)
written-beside m at piece to is inside = record {
  size = length-written m at piece (omega (arith, is, inside));
  bytes = λ place apart. elim apart [
    | inl before ↦ slice_index-written_before m at piece place (omega (arith, is, inside)) before
    | inr behind ↦ slice_index-written_behind m at piece place (omega (arith, is, inside)) (omega (arith, is, behind))
  ];
}

pub word-stays : (from to : ℕ) (old new : List ℕ) (at : ℕ) → SameBeside from to old new → (at + 4 ≤ from) ⊎ (to ≤ at) → word_at new at ≡ word_at old at
word-stays from to old new at same apart =
    word_at-same old new at (λ place least less. same.bytes place (elim apart [
      | inl before ↦ inl (omega (arith, before, less))
      | inr behind ↦ inr (omega (arith, behind, least))
    ]))

pub words-stay : (from to : ℕ) (old new : List ℕ) (at n : ℕ) → SameBeside from to old new → (at + 4 * n ≤ from) ⊎ (to ≤ at) →
    words_at new at n ≡ words_at old at n
words-stay from to old new at n same apart =
    words-same old new at n (λ place least less. same.bytes place (elim apart [
      | inl before ↦ inl (omega (arith, before, less))
      | inr behind ↦ inr (omega (arith, behind, least))
    ]))

pub beside-words : (m : List ℕ) (at : ℕ) (words : List ℕ) (to : ℕ) → at + 4 * length words ≡ to → to ≤ length m →
    SameBeside at to m (written m at (words_bytes words))
beside-words m at words to is inside =
    let long = length-words_bytes words in
    written-beside m at (words_bytes words) to (omega (arith, long, is)) inside

pub same-size : (m n : List ℕ) (at : ℕ) (words : List ℕ) → n ≡ written m at (words_bytes words) → at + 4 * length words ≤ length m → length n ≡ length m
same-size m n at words is inside = ap length is ∙ (beside-words m at words (at + 4 * length words) refl inside).size

-- ---- one of several words

pub word-of : (m : List ℕ) (at count i : ℕ) → i < count → slice_index (words_at m at count) i ≡ word_at m (at + 4 * i)
word-of m at zero i less = absurd (omega (arith, less))
word-of m at (suc count) zero less = ap (word_at m) (omega arith)
word-of m at (suc count) (suc i) less = word-of m (at + 4) count i (omega (arith, less)) ∙ ap (word_at m) (omega arith)

-- it is written
pub word-changed : (m n : List ℕ) (place word : ℕ) → SameBeside place (place + 4) m n → word_at n place ≡ word → (at count i : ℕ) → i < count →
    at + 4 * i ≡ place → words_at n at count ≡ slice_set (words_at m at count) i word
word-changed m n place word same is at zero i less here = absurd (omega (arith, less))
word-changed m n place word same is at (suc count) zero less here =
    let own : at ≡ place = omega (arith, here) in
    λ j. (ap (word_at n) own ∙ is) j ∷ words-stay place (place + 4) m n (at + 4) count same (inr (omega (arith, here))) j
word-changed m n place word same is at (suc count) (suc i) less here =
    λ j. word-stays place (place + 4) m n at same (inl (omega (arith, here))) j
    ∷ word-changed m n place word same is (at + 4) count i (omega (arith, less)) (omega (arith, here)) j
