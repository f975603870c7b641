-- Words of memory one after the other: how they are read and written.
use Rattle.std.proofs.Common.{ℕ, zero, suc, ◌≡◌, ◌∙◌, ◌+◌, ◌*◌, ◌^◌, ◌<◌, ◌≤◌, List, [], ◌∷◌, ◌++◌, length, slice_index, take, drop, refl, sym, ap}
use Rattle.std.proofs.Common.{append_assoc, length-append, arith}
use Rattle.std.proofs.Math.Seq.{take-append_seam}
use Rattle.std.proofs.lemmas.Grind.{common_steps, same_number_lists}
use Rattle.std.proofs.lemmas.List.{get_or-drop, get_or-take, length-drop, length-take-le}
use Rattle.std.proofs.lemmas.Slice.{drop-append-drop}
use Rattle.byteorder.specs.Endian.{little_number}
use Rattle.model.proofs.BytesLemmas.{length-written, word_at-same, word_at-written, word_at-written_before}
use Rattle.model.specs.Shared.Bytes.{word_at, word_bytes, written}
use Rattle.pmem.specs.Words.{words_at, words_bytes}

-- words are the same where their bytes are
pub words-same : (old new : List ℕ) (at n : ℕ) → ((place : ℕ) → at ≤ place → place < at + 4 * n → slice_index new place ≡ slice_index old place)
    → words_at new at n ≡ words_at old at n
words-same old new at zero same = refl
words-same old new at (suc n) same =
    let first : word_at new at ≡ word_at old at = word_at-same old new at (λ place least less. same place least (omega (arith, less))) in
    let rest : words_at new (at + 4) n ≡ words_at old (at + 4) n =
    words-same old new (at + 4) n (λ place least less. same place (omega (arith, least)) (omega (arith, less))) in
    ap (λ (w : ℕ). w ∷ words_at new (at + 4) n) first ∙ ap (λ (ws : List ℕ). word_at old at ∷ ws) rest

-- what is written in two pieces
pub written-append : (m : List ℕ) (at : ℕ) (first rest : List ℕ) → at + length first ≤ length m
    → written m at (first ++ rest) ≡ written (written m at first) (at + length first) rest
written-append m at first rest inside =
    let left = take at m ++ first in
    let end = at + length first in
    let long : length left ≡ end = length-append (take at m) first ∙ ap (λ (n : ℕ). n + length first) (length-take-le at m (omega (arith, inside))) in
    let front : take end (left ++ drop end m) ≡ left = ap (λ (n : ℕ). take n (left ++ drop end m)) (sym long) ∙ take-append_seam left (drop end m) in
    let back : drop (end + length rest) (left ++ drop end m) ≡ drop (end + length rest) m =
    drop-append-drop end m left (end + length rest) (omega arith) long in
    let both : at + length (first ++ rest) ≡ end + length rest = ap (λ (n : ℕ). at + n) (length-append first rest) ∙ omega arith in
    ap (λ (n : ℕ). take at m ++ (first ++ rest) ++ drop n m) both
    ∙ ap (λ (xs : List ℕ). xs ++ drop (end + length rest) m) (sym (append_assoc (take at m) first rest))
    ∙ ap (λ (xs : List ℕ). left ++ rest ++ xs) (sym back)
    ∙ ap (λ (xs : List ℕ). xs ++ rest ++ drop (end + length rest) (left ++ drop end m)) (sym front)

pub length-words_bytes : (words : List ℕ) → length (words_bytes words) ≡ 4 * length words
length-words_bytes [] = refl
length-words_bytes (w ∷ ws) = grind (arith, common_steps, length-words_bytes ws)

-- words that were written are read back
pub words-written : (m : List ℕ) (at : ℕ) (words : List ℕ) → at + 4 * length words ≤ length m → ((k : ℕ) → slice_index words k < 2 ^ 32)
    → words_at (written m at (words_bytes words)) at (length words) ≡ words
words-written m at [] inside fits = refl
words-written m at (w ∷ ws) inside fits =
    let one = written m at (word_bytes w) in
    let size : length one ≡ length m = length-written m at (word_bytes w) (omega (arith, inside)) in
    let long = length-words_bytes ws in
    let split : written m at (words_bytes (w ∷ ws)) ≡ written one (at + 4) (words_bytes ws) =
    written-append m at (word_bytes w) (words_bytes ws) (omega (arith, inside)) in
    let first : word_at (written one (at + 4) (words_bytes ws)) at ≡ w =
    word_at-written_before one (at + 4) (words_bytes ws) at (omega (arith, inside, long, size)) (omega arith)
    ∙ word_at-written m at w (omega (arith, inside)) (fits 0) in
    let rest : words_at (written one (at + 4) (words_bytes ws)) (at + 4) (length ws) ≡ ws =
    words-written one (at + 4) ws (omega (arith, inside, size)) (λ k. fits (suc k)) in
    ap (λ (n : List ℕ). words_at n at (length (w ∷ ws))) split
    ∙ ap (λ (x : ℕ). x ∷ words_at (written one (at + 4) (words_bytes ws)) (at + 4) (length ws)) first
    ∙ ap (λ (xs : List ℕ). w ∷ xs) rest

-- ---- words as they are read

pub length-words_at : (m : List ℕ) (at n : ℕ) → length (words_at m at n) ≡ n
length-words_at m at zero = refl
length-words_at m at (suc n) = ap suc (length-words_at m (at + 4) n)

words-index : (m : List ℕ) (at n k : ℕ) → k < n → slice_index (words_at m at n) k ≡ word_at m (at + 4 * k)
words-index m at zero k less = absurd (omega (arith, less))
words-index m at (suc n) zero less = ap (word_at m) (omega arith)
words-index m at (suc n) (suc k) less =
    let place : at + 4 + 4 * k ≡ at + 4 * suc k = omega arith in
    words-index m (at + 4) n k (omega (arith, less)) ∙ ap (word_at m) place

-- a word of a part of the bytes
part-word : (m : List ℕ) (at count k : ℕ) → k < count → little_number 4 (drop (4 * k) (take (4 * count) (drop at m))) ≡ word_at m (at + 4 * k)
part-word m at count k less =
    let byte : (j : ℕ) → j < 4 → slice_index (drop (4 * k) (take (4 * count) (drop at m))) j ≡ slice_index m (at + 4 * k + j) =
    λ j few. get_or-drop (4 * k) (take (4 * count) (drop at m)) j 0 ∙ get_or-take (4 * count) (drop at m) (4 * k + j) 0 (omega (arith, less, few))
    ∙ get_or-drop at m (4 * k + j) 0 ∙ ap (slice_index m) (omega arith) in
    let first : slice_index (drop (4 * k) (take (4 * count) (drop at m))) 0 ≡ slice_index m (at + 4 * k) = byte 0 (omega arith)
    ∙ ap (slice_index m) (omega arith) in
    let second = byte 1 (omega arith) in
    let third = byte 2 (omega arith) in
    let fourth = byte 3 (omega arith) in
    omega (arith, first, second, third, fourth)

pub read-part : (m src words : List ℕ) (at : ℕ) → src ≡ take (4 * length words) (drop at m)
    → ((k : ℕ) → k < length words → slice_index words k ≡ little_number 4 (drop (4 * k) src)) → words ≡ words_at m at (length words)
read-part m src words at is reads =
    same_number_lists words (words_at m at (length words)) (sym (length-words_at m at (length words)))
    (λ k less. reads k less ∙ ap (λ (part : List ℕ). little_number 4 (drop (4 * k) part)) is ∙ part-word m at (length words) k less
    ∙ sym (words-index m at (length words) k less))

-- ---- bytes that are copied

pub length-part : (m : List ℕ) (from size : ℕ) → from + size ≤ length m → length (take size (drop from m)) ≡ size
length-part m from size inside = length-take-le size (drop from m) (omega (arith, inside, length-drop from m))
