-- The certificates of the threads of an image that fits its format: numbers lie in their ranges, and points rise.
use Rattle.std.proofs.Common.{ℕ, ℤ, pos, negsuc, ◌≡◌, ◌+◌, ◌^◌, ◌<◌, ◌≤◌, ◌==◌, ◌&&◌, ◌||◌, true, Some, refl, arith}
use Rattle.std.proofs.lemmas.Int.{ints}
use Rattle.std.specs.Prelude.{◌≤ℤ◌, nat_le, nat_lt, slice_get}
use Rattle.std.specs.Int.{w64}
use mir.Val.{bits}
use Rattle.std.proofs.lemmas.Bool.{and_parts, leb-true, ltb-true}
use Rattle.model.specs.Images.Format.{field, fits_signed, number, only_if}
use Rattle.model.specs.Images.Image.{Image, StateRecord, Thread, anything, between, image_with, is_constant, record_format, record_header_format}
use Rattle.model.specs.Images.Image.{records_format, sections_format, slots_format, term_format, terms_format, thread_format, thread_header_format, below}
use Rattle.model.specs.Images.Image.{has_buffers, no_buffer, whole_image, words_format}
use Rattle.model.specs.declared.entries.RecordHeader.{RecordHeader}
use Rattle.model.specs.declared.entries.ThreadHeader.{ThreadHeader}
use Rattle.format_laws.specs.Fitting.{CertificateFits, RecordFits}
use Rattle.format_laws.proofs.FormatFits.{between-bounds, field-between, field-parts, many-each, many-length, many-rises}

-- a constant is no less than -2^62
constant-low : (z : ℤ) → is_constant z ≡ true → negsuc (2 ^ 62) ≤ℤ z
constant-low (pos n) is = grind (arith, ints)
constant-low (negsuc n) is = let small = ltb-true n (2 ^ 62) is in grind (arith, ints, small)

record-header : (objects words least : ℕ) (h : RecordHeader) → (record_header_format (slots_format objects) words least).fits h ≡ true
    → (least ≤ h.point) × (h.point < words) × (h.terms ≤ 4) × (negsuc (2 ^ 62) ≤ℤ h.constant)
unfolding record_header_format
record-header objects words least h is =
    let a = and_parts _ _ is in
    let b = and_parts _ _ a.1 in
    let c = and_parts _ _ b.1 in
    let d = and_parts _ _ c.1 in
    let point = and_parts _ _ (field-parts (λ point. nat_le least point && nat_lt point words) h.point a.0).1 in (
      leb-true least h.point point.0,
      ltb-true h.point words point.1,
      (field-between 0 4 h.terms d.0).1,
      constant-low h.constant (and_parts (fits_signed w64 h.constant) (is_constant h.constant) d.1).1,
    )

pub record-fits : (objects words least : ℕ) (r : StateRecord) → (record_format (slots_format objects) words least).fits r ≡ true
    → RecordFits words r × (least ≤ r.header.point)
unfolding record_format terms_format
record-fits objects words least r is =
    let a = and_parts _ _ is in
    let b = and_parts _ _ a.1 in
    let c = and_parts _ _ b.1 in
    let header = record-header objects words least r.header a.0 in
    let count = many-length term_format (λ e. e.register + 1) 1 r.header.terms r.terms c.1 in
    (record { point = header.1; constant = header.3; terms = omega (arith, count, header.2) }, header.0)

words-of : (version objects : ℕ) (h : ThreadHeader) → (thread_header_format version objects).fits h ≡ true → (1 ≤ h.words) × (h.words ≤ 65536)
    × (h.budget ≤ 2 ^ 62)
unfolding thread_header_format
words-of version objects h is =
    let a = and_parts ((field (below objects)).fits h.tcb) _ is in
    let b = and_parts ((field (below objects)).fits h.cnode) _ a.1 in
    let c = and_parts ((field anything).fits h.guard) _ b.1 in
    let d = and_parts ((field (below objects)).fits h.root) _ c.1 in
    let e = and_parts ((field (between 0 255)).fits h.priority) _ d.1 in
    let budget = and_parts ((number w64 (between 1 (2 ^ 62))).fits h.budget) _ e.1 in
    let f = and_parts ((field anything).fits h.fault) _ budget.1 in
    let buffer = only_if (has_buffers version) no_buffer (field (λ n. nat_lt n objects || (n == no_buffer))) in
    let absent = and_parts (buffer.fits h.buffer) _ f.1 in
    let g = and_parts ((field anything).fits h.entry) _ absent.1 in
    let k = and_parts ((field anything).fits h.base) _ g.1 in
    let m = and_parts ((field (between 0 31)).fits h.registers) _ k.1 in
    let n = and_parts _ _ m.1 in
    let words = field-between 1 65536 h.words n.0 in
    (words.0, words.1, (between-bounds 1 (2 ^ 62) h.budget (and_parts (nat_lt h.budget (2 ^ bits w64)) _ budget.0).1).1)

pub certificate-fits : (version objects : ℕ) (t : Thread) → (thread_format (slots_format objects) version objects).fits t ≡ true → CertificateFits t
unfolding thread_format words_format records_format
certificate-fits version objects t is =
    let a = and_parts _ _ is in
    let b = and_parts _ _ a.1 in
    let c = and_parts _ _ b.1 in
    let header = words-of version objects t.header a.0 in
    let each = record_format (slots_format objects) t.header.words in
    record {
      some_words = header.0;
      few_words = header.1;
      budget = header.2;
      words = many-length (λ _. field anything) (λ _. 0) 0 t.header.words t.words c.0;
      records = many-length each (λ r. r.header.point + 1) 0 t.header.records t.records c.1;
      each = λ k r at. let one = many-each each (λ r. r.header.point + 1) 0 t.header.records t.records c.1 k r at in
          (record-fits objects t.header.words one.0 r one.1).0;
      points_rise = many-rises each (λ r. r.header.point + 1) (λ r. r.header.point) (λ l r fits. (record-fits objects t.header.words l r fits).1) (λ r. refl) 0
          t.header.records t.records c.1;
    }

pub certificates-fit : (image : Image) (k : ℕ) (t : Thread) → whole_image.fits image ≡ true → slice_get image.threads k ≡ Some t → CertificateFits t
unfolding image_with sections_format
certificates-fit image k t is at =
    let whole = and_parts _ _ is in
    let h = image.header in
    certificate-fits h.version h.objects t
    (many-each (λ _. thread_format (slots_format h.objects) h.version h.objects) (λ _. 0) 0 h.threads image.threads whole.1 k t at).1
