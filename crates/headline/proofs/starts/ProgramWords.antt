-- The words of a program are words of 32 bits.
use Rattle.std.proofs.Common.{ℕ, ◌≡◌, ◌^◌, ◌<◌, inl, inr, true, List, length, Some, arith}
use Rattle.std.specs.Prelude.{slice_get, slice_index}
use Rattle.std.proofs.lemmas.Bool.{and_parts, cases_lt}
use Rattle.std.proofs.lemmas.List.{get_or_past}
use Rattle.std.proofs.lemmas.Option.{slice_get-get_or}
use Rattle.format_laws.proofs.Laws.{field-parts, many-each}
use Rattle.model.specs.Images.Format.{field}
use Rattle.model.specs.Images.Image.{Image, Thread, anything, image_with, records_format, registers_format, sections_format, slots_format, thread_format}
use Rattle.model.specs.Images.Image.{thread_header_format, whole_image, words_format}

each-small : (count : ℕ) (words : List ℕ) → (words_format count).fits words ≡ true → (k w : ℕ) → slice_get words k ≡ Some w → w < 2 ^ 32
unfolding words_format
each-small count words is k w at = (field-parts anything w (many-each (λ _. field anything) (λ _. 0) 0 count words is k w at).1).0

any-small : (words : List ℕ) (k : ℕ) → ((j w : ℕ) → slice_get words j ≡ Some w → w < 2 ^ 32) → slice_index words k < 2 ^ 32
any-small words k each = elim (cases_lt k (length words)) [
  | inl less ↦ each k (slice_index words k) (slice_get-get_or words k 0 less)
  | inr most ↦ let none : slice_index words k ≡ 0 = get_or_past words k 0 most in omega (arith, none)
]

thread-words : (version objects : ℕ) (t : Thread) → (thread_format (slots_format objects) version objects).fits t ≡ true → (k : ℕ) →
    slice_index t.words k < 2 ^ 32
unfolding thread_format
thread-words version objects t is k =
    let a = and_parts ((thread_header_format version objects).fits t.header) _ is in
    let b = and_parts ((registers_format t.header.registers).fits t.registers) _ a.1 in
    let c = and_parts ((words_format t.header.words).fits t.words) ((records_format (slots_format objects) t.header.words t.header.records).fits t.records)
    b.1 in
    any-small t.words k (each-small t.header.words t.words c.0)

pub words-small : (image : Image) (number : ℕ) (t : Thread) → whole_image.fits image ≡ true → slice_get image.threads number ≡ Some t → (k : ℕ) →
    slice_index t.words k < 2 ^ 32
unfolding image_with sections_format
words-small image number t is at k =
    let whole = and_parts _ _ is in
    let h = image.header in
    thread-words h.version h.objects t (many-each (λ _. thread_format (slots_format h.objects) h.version h.objects) (λ _. 0) 0 h.threads image.threads whole.1
    number t at).1 k
