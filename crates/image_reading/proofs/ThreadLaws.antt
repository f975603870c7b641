-- The laws of the formats of a thread.
use Rattle.std.proofs.Common.{ℕ, ◌+◌, ◌^◌, ◌-◌, Bool, ltb, leb, eqb, ◌&&◌, ◌||◌, List, refl}
use Rattle.std.specs.Int.{w32, w64}
use Rattle.model.specs.declared.entries.RecordHeader.{RecordHeader}
use Rattle.model.specs.declared.entries.ThreadHeader.{ThreadHeader}
use Rattle.model.specs.declared.entries.RangeEntry.{RangeEntry}
use Rattle.model.specs.declared.entries.RegisterEntry.{RegisterEntry}
use Rattle.model.specs.declared.entries.SlotEntry.{SlotEntry}
use Rattle.model.specs.declared.refusals.Refusal.TheVariants.{Limit}
use Rattle.model.specs.Images.Format.{field}
use Rattle.model.specs.Images.Image.{SlotFormat, anything, below, between, has_buffers, no_buffer, not_zero, is_constant, register_format, range_format}
use Rattle.model.specs.Images.Image.{term_format}
use Rattle.model.specs.Images.Image.{record_header_format, ranges_format, terms_format, record_format, registers_format, words_format, records_format}
use Rattle.model.specs.Images.Image.{thread_header_format, thread_format}
use Rattle.image_reading.proofs.FormatLaws.{only_if_law, IsLawful, number_law, both_law, named_law, ordered_law, signed_law, wide32, wide64, signed_wide32}
use Rattle.image_reading.proofs.FormatLaws.{signed_wide64}

pub field_law : (test : ℕ → Bool) → IsLawful (field test)
field_law test = number_law Limit w32 test wide32

register_law : (least : ℕ) → IsLawful (register_format least)
unfolding register_format
register_law least = named_law _ _ _ (λ x h. refl) (λ y. refl) (both_law _ _ (field_law (between least 31)) (λ (k : ℕ). field_law (ltb 0)))

range_law : (least : ℕ) → IsLawful (range_format least)
unfolding range_format
range_law least = named_law _ _ _ (λ x h. refl) (λ y. refl)
    (both_law _ _ (field_law (between least 31)) (λ (k : ℕ).
    both_law _ _ (field_law anything) (λ (low : ℕ).
    field_law (λ high. leb low high && (ltb 0 low || ltb high (2 ^ 32 - 1))))))

term_law : (least : ℕ) → IsLawful (term_format least)
unfolding term_format
term_law least = named_law _ _ _ (λ x h. refl) (λ y. refl)
    (both_law _ _ (field_law (between least 31)) (λ (k : ℕ). signed_law w32 not_zero wide32 signed_wide32))

pub registers_law : (count : ℕ) → IsLawful (registers_format count)
unfolding registers_format
registers_law count = ordered_law 1 register_format (λ e. e.register + 1) count register_law

ranges_law : (count : ℕ) → IsLawful (ranges_format count)
unfolding ranges_format
ranges_law count = ordered_law 1 range_format (λ e. e.register + 1) count range_law

terms_law : (count : ℕ) → IsLawful (terms_format count)
unfolding terms_format
terms_law count = ordered_law 1 term_format (λ e. e.register + 1) count term_law

pub words_law : (count : ℕ) → IsLawful (words_format count)
unfolding words_format
words_law count = ordered_law 0 (λ _. field anything) (λ _. 0) count (λ k. field_law anything)

-- ---- records and threads, by the laws of the slots that a record notes

pub record AreLawful (slots : SlotFormat) : Type 0 where
  pub count : IsLawful slots.count
  pub entries : (count : ℕ) → IsLawful (slots.entries count)

record_header_law : (slots : SlotFormat) → AreLawful slots → (words least : ℕ) → IsLawful (record_header_format slots words least)
unfolding record_header_format
record_header_law slots laws words least = named_law _ _ _ (λ x h. refl) (λ y. refl)
    (both_law _ _ (field_law (λ point. leb least point && ltb point words)) (λ (a : ℕ).
    both_law _ _ (field_law (between 0 31)) (λ (b : ℕ).
    both_law _ _ laws.count (λ (c : ℕ).
    both_law _ _ (field_law (between 0 4)) (λ (d : ℕ).
    signed_law w64 is_constant wide64 signed_wide64)))))

record_law : (slots : SlotFormat) → AreLawful slots → (words least : ℕ) → IsLawful (record_format slots words least)
unfolding record_format
record_law slots laws words least = named_law _ _ _ (λ x h. refl) (λ y. refl)
    (both_law _ _ (record_header_law slots laws words least) (λ (header : RecordHeader).
    both_law _ _ (ranges_law header.ranges) (λ (a : List RangeEntry).
    both_law _ _ (laws.entries header.slots) (λ (b : List SlotEntry).
    terms_law header.terms))))

records_law : (slots : SlotFormat) → AreLawful slots → (words count : ℕ) → IsLawful (records_format slots words count)
unfolding records_format
records_law slots laws words count = ordered_law 0 (record_format slots words) (λ r. r.header.point + 1) count (record_law slots laws words)

thread_header_law : (version objects : ℕ) → IsLawful (thread_header_format version objects)
unfolding thread_header_format
thread_header_law version objects = named_law _ _ _ (λ x h. refl) (λ y. refl)
    (both_law _ _ (field_law (below objects)) (λ (a : ℕ).
    both_law _ _ (field_law (below objects)) (λ (b : ℕ).
    both_law _ _ (field_law anything) (λ (c : ℕ).
    both_law _ _ (field_law (below objects)) (λ (d : ℕ).
    both_law _ _ (field_law (between 0 255)) (λ (e : ℕ).
    both_law _ _ (number_law Limit w64 (between 1 (2 ^ 62)) wide64) (λ (f : ℕ).
    both_law _ _ (field_law anything) (λ (g : ℕ).
    both_law _ _ (only_if_law (has_buffers version) no_buffer (field (λ n. ltb n objects || eqb n no_buffer))
    (field_law (λ n. ltb n objects || eqb n no_buffer)))
    (λ (buffer : ℕ).
    both_law _ _ (field_law anything) (λ (h : ℕ).
    both_law _ _ (field_law anything) (λ (i : ℕ).
    both_law _ _ (field_law (between 0 31)) (λ (j : ℕ).
    both_law _ _ (field_law (between 1 65536)) (λ (words : ℕ).
    field_law (between 0 words))))))))))))))

pub thread_law : (slots : SlotFormat) → AreLawful slots → (version objects : ℕ) → IsLawful (thread_format slots version objects)
unfolding thread_format
thread_law slots laws version objects = named_law _ _ _ (λ x h. refl) (λ y. refl)
    (both_law _ _ (thread_header_law version objects) (λ (header : ThreadHeader).
    both_law _ _ (registers_law header.registers) (λ (a : List RegisterEntry).
    both_law _ _ (words_law header.words) (λ (b : List ℕ).
    records_law slots laws header.words header.records))))
