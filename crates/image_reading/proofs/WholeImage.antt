-- The format of images is lawful: an image has one spelling, and bytes spell one image.
use Rattle.std.proofs.Common.{◌≡◌, ℕ, ◌+◌, ◌^◌, ◌-◌, true, false, min, ltb, leb, ◌&&◌, ◌||◌, eqb, List, [], ◌++◌, length, drop, Result, Ok, Err, refl, sym, ap}
use Rattle.std.proofs.Common.{subst, ◌∙◌, inl, inr, arith}
use Rattle.std.specs.Int.{w32}
use Rattle.std.specs.Prelude.{is_some, if◌then◌else◌}
use Rattle.std.proofs.lemmas.Bool.{and_parts, cases_lt, eqb-true, le-ltb, ltb-false}
use Rattle.std.proofs.lemmas.List.{append-nil, drop_all, get_or_past}
use Rattle.model.specs.declared.entries.ImageHeader.{ImageHeader}
use Rattle.model.specs.declared.entries.UntypedEntry.{UntypedEntry}
use Rattle.model.specs.declared.entries.ObjectEntry.{ObjectEntry}
use Rattle.model.specs.declared.entries.CapabilityEntry.{CapabilityEntry}
use Rattle.model.specs.declared.entries.InterruptEntry.{InterruptEntry}
use Rattle.model.specs.declared.entries.TableEntry.{TableEntry}
use Rattle.model.specs.declared.entries.FrameEntry.{FrameEntry}
use Rattle.model.specs.declared.refusals.Refusal.{Refusal}
use Rattle.model.specs.declared.refusals.Refusal.TheVariants.{Magic, Version, Trailing}
use Rattle.model.specs.Shared.Bytes.{AreBytes}
use Rattle.model.specs.Capabilities.CapabilityFields.{unpacked}
use Rattle.model.specs.Images.Format.{IsSpelling, field, reading}
use Rattle.model.specs.Images.Image.{Image, ImageContent, Sections, has_promises, latest_version, promise_format, promised_word_format}
use Rattle.model.specs.Images.Image.{anything, below, between, capability_format, content_format, frame_format, header_fields, header_format}
use Rattle.model.specs.Images.Image.{image_with, interrupt_format, magic, names_parent, no_parent, object_format, pair_key, sections_format, size_fits_in}
use Rattle.model.specs.Images.Image.{slot_format, slots_format, table_format, untyped_format, whole_image, words_format}
use Rattle.image_reading.proofs.FormatLaws.{IsBytes, IsLawful, bind_ok, guard_ok, ok_is, number_law, both_law, named_law, only_if_law, ordered_law, wide32}
use Rattle.image_reading.proofs.ThreadLaws.{AreLawful, field_law, thread_law, words_law}

magic_first : (n : ℕ) → (ltb n (2 ^ 32) && eqb n magic) ≡ true → magic ≡ n
magic_first n h = sym (eqb-true n magic (and_parts (ltb n (2 ^ 32)) (eqb n magic) h).1)

header_law : IsLawful header_format
unfolding header_format
header_law = named_law _ header_fields _ (λ x h. ap (λ (m : ℕ). (m, x.1)) (magic_first x.0 (and_parts _ _ h).0)) (λ y. refl)
    (both_law _ _ (number_law (λ _. Magic) w32 (λ n. eqb n magic) wide32) (λ (a : ℕ).
    both_law _ _ (number_law (λ _. Version) w32 (between 1 latest_version) wide32) (λ (version : ℕ).
    both_law _ _ (field_law (between 16 24)) (λ (memory_bits : ℕ).
    both_law _ _ (field_law (between 1 (min 14 (memory_bits - 5)))) (λ (c : ℕ).
    both_law _ _ (field_law (between 1 64)) (λ (d : ℕ).
    both_law _ _ (field_law (between 0 4096)) (λ (e : ℕ).
    both_law _ _ (field_law (between 0 16384)) (λ (f : ℕ).
    both_law _ _ (field_law (between 0 64)) (λ (g : ℕ).
    both_law _ _ (field_law (between 0 1024)) (λ (i : ℕ).
    both_law _ _ (field_law (between 0 4096)) (λ (j : ℕ).
    both_law _ _ (field_law (between 0 4096)) (λ (k : ℕ).
    both_law _ _ (only_if_law (has_promises version) 0 (field (between 0 4096)) (field_law (between 0 4096))) (λ (l : ℕ).
    field_law (between 1 64))))))))))))))

untyped_law : IsLawful untyped_format
unfolding untyped_format
untyped_law = named_law _ _ _ (λ x h. refl) (λ y. refl) (both_law _ _ (field_law anything) (λ (a : ℕ). field_law (between 4 24)))

object_law : (version untypeds least : ℕ) → IsLawful (object_format version untypeds least)
unfolding object_format
object_law version untypeds least = named_law _ _ _ (λ x h. refl) (λ y. refl)
    (both_law _ _ (field_law (λ n. leb least n && ltb n untypeds)) (λ (a : ℕ).
    both_law _ _ (field_law (between 1 8)) (λ (kind : ℕ).
    field_law (size_fits_in version kind))))

capability_law : (objects interrupts least : ℕ) → IsLawful (capability_format objects interrupts least)
unfolding capability_format
capability_law objects interrupts least = named_law _ _ _ (λ x h. refl) (λ y. refl)
    (both_law _ _ (field_law (below objects)) (λ (cnode : ℕ).
    both_law _ _ (field_law (λ index. leb least (pair_key cnode index))) (λ (a : ℕ).
    both_law _ _ (field_law (below (objects + interrupts))) (λ (b : ℕ).
    both_law _ _ (field_law anything) (λ (c : ℕ).
    field_law anything)))))

interrupt_law : (objects least : ℕ) → IsLawful (interrupt_format objects least)
unfolding interrupt_format
interrupt_law objects least = named_law _ _ _ (λ x h. refl) (λ y. refl)
    (both_law _ _ (field_law (between least 63)) (λ (a : ℕ).
    both_law _ _ (field_law (below objects)) (λ (b : ℕ).
    field_law (below (2 ^ 28)))))

table_law : (objects least : ℕ) → IsLawful (table_format objects least)
unfolding table_format
table_law objects least = named_law _ _ _ (λ x h. refl) (λ y. refl)
    (both_law _ _ (field_law (below objects)) (λ (root : ℕ).
    both_law _ _ (field_law (λ address. leb least (pair_key root address))) (λ (a : ℕ).
    field_law (below objects))))

frame_law : (objects least : ℕ) → IsLawful (frame_format objects least)
unfolding frame_format
frame_law objects least = named_law _ _ _ (λ x h. refl) (λ y. refl)
    (both_law _ _ (field_law (below objects)) (λ (root : ℕ).
    both_law _ _ (field_law (λ address. leb least (pair_key root address))) (λ (a : ℕ).
    both_law _ _ (field_law (below objects)) (λ (b : ℕ).
    field_law (between 0 7)))))

content_law : (objects least : ℕ) → IsLawful (content_format objects least)
unfolding content_format words_format
content_law objects least = named_law _ _ _ (λ x h. refl) (λ y. refl)
    (both_law _ _ (field_law (λ frame. leb least frame && ltb frame objects)) (λ (a : ℕ).
    both_law _ _ (field_law (between 1 1024)) (λ (count : ℕ).
    words_law count)))

promised_word_law : IsLawful promised_word_format
unfolding promised_word_format
promised_word_law = named_law _ _ _ (λ x h. refl) (λ y. refl) (both_law _ _ (field_law anything) (λ (low : ℕ). field_law (leb low)))

promise_law : (objects least : ℕ) → IsLawful (promise_format objects least)
unfolding promise_format
promise_law objects least = named_law _ _ _ (λ x h. refl) (λ y. refl)
    (both_law _ _ (field_law (λ endpoint. leb least endpoint && ltb endpoint objects)) (λ (a : ℕ).
    both_law _ _ (field_law anything) (λ (low : ℕ).
    both_law _ _ (field_law (λ high. leb low high && ltb high (2 ^ 28))) (λ (b : ℕ).
    both_law _ _ (field_law (between 0 8)) (λ (count : ℕ).
    ordered_law 0 (λ _. promised_word_format) (λ _. 0) count (λ k. promised_word_law))))))

-- ---- the slots that a record notes

slot_law : (objects least : ℕ) → IsLawful (slot_format objects least)
unfolding slot_format
slot_law objects least = named_law _ _ _ (λ x h. refl) (λ y. refl)
    (both_law _ _ (field_law (below objects)) (λ (cnode : ℕ).
    both_law _ _ (field_law (λ index. leb least (pair_key cnode index) && ltb index (2 ^ 14))) (λ (a : ℕ).
    both_law _ _ (field_law anything) (λ (word0 : ℕ).
    both_law _ _ (field_law (λ word1. is_some (unpacked word0 word1))) (λ (word1 : ℕ).
    both_law _ _ (field_law (λ parent. ltb parent objects || (eqb parent no_parent))) (λ (parent : ℕ).
    field_law (names_parent (eqb word0 0 && eqb word1 0) parent)))))))

slots_laws : (objects : ℕ) → AreLawful (slots_format objects)
slots_laws objects = record {
  count = field_law (between 0 256);
  entries = λ count. ordered_law 0 (slot_format objects) (λ e. pair_key e.cnode e.index + 1) count (slot_law objects);
}

-- ---- the whole

pub sections_law : IsLawful sections_format
unfolding sections_format
sections_law =
    both_law _ _ header_law (λ (header : ImageHeader).
    both_law _ _ (ordered_law 0 (λ _. untyped_format) (λ _. 0) header.untypeds (λ k. untyped_law)) (λ (a : List UntypedEntry).
    both_law _ _ (ordered_law 0 (object_format header.version header.untypeds) (λ e. e.untyped) header.objects (object_law header.version header.untypeds))
    (λ (b : List ObjectEntry).
    both_law _ _ (ordered_law 0 (capability_format header.objects header.interrupts) (λ e. pair_key e.cnode e.index + 1) header.capabilities
    (capability_law header.objects header.interrupts)) (λ (c : List CapabilityEntry).
    both_law _ _ (ordered_law 0 (interrupt_format header.objects) (λ e. e.line + 1) header.interrupts (interrupt_law header.objects))
    (λ (d : List InterruptEntry).
    both_law _ _ (ordered_law 0 (table_format header.objects) (λ e. pair_key e.root e.address + 1) header.tables (table_law header.objects))
    (λ (e : List TableEntry).
    both_law _ _ (ordered_law 0 (frame_format header.objects) (λ e. pair_key e.root e.address + 1) header.frames (frame_law header.objects))
    (λ (f : List FrameEntry).
    both_law _ _ (ordered_law 0 (content_format header.objects) (λ c. c.header.frame + 1) header.contents (content_law header.objects))
    (λ (g : List ImageContent).
    ordered_law 0 (promise_format header.objects) (λ p. p.header.endpoint + 1) header.promises (promise_law header.objects)))))))))

pub image_law : IsLawful whole_image
unfolding image_with
image_law = named_law _ _ _ (λ x h. refl) (λ y. refl)
    (both_law _ _ sections_law (λ (sections : Sections).
    ordered_law 0 (λ _. _) (λ _. 0) sections.0.threads
    (λ k. thread_law (slots_format sections.0.objects) (slots_laws sections.0.objects) sections.0.version sections.0.objects)))

-- ---- reading and spelling

abbrev ReadImage : Type 0
ReadImage = Result (Image × ℕ) Refusal

spelled-read : (bytes : List ℕ) (image : Image) → IsSpelling whole_image bytes image → whole_image.reads bytes 0 ≡ Ok (image, length bytes)
spelled-read bytes image s =
    let all : List ℕ = whole_image.spelling image in
    let long : length bytes ≡ length all = ap (λ (t : List ℕ). length t) s.spelled in
    let text : drop 0 bytes ≡ all ++ [] = s.spelled ∙ sym (append-nil all) in
    let read = image_law.again bytes 0 image [] (omega arith) s.fits text in
    let end : 0 + length all ≡ length bytes = omega (arith, long) in
    read ∙ ap (λ (n : ℕ). Ok (image, n)) end

pub one-image : (bytes : List ℕ) (one other : Image) → IsSpelling whole_image bytes one → IsSpelling whole_image bytes other → one ≡ other
one-image bytes one other s t =
    let same : ◌≡◌ {A = ReadImage} (Ok (one, length bytes)) (Ok (other, length bytes)) = sym (spelled-read bytes one s) ∙ spelled-read bytes other t in
    ap (λ (x : Image × ℕ). x.0) (ok_is (one, length bytes) (other, length bytes) same)

pub one-spelling : (image : Image) (one other : List ℕ) → IsSpelling whole_image one image → IsSpelling whole_image other image → one ≡ other
one-spelling image one other s t = s.spelled ∙ sym t.spelled

pub spelled-reading : (bytes : List ℕ) (image : Image) → IsSpelling whole_image bytes image → reading whole_image bytes ≡ Ok image
spelled-reading bytes image s =
    let end : ltb (length bytes) (length bytes) ≡ false = le-ltb _ _ (omega arith) in
    rw (spelled-read bytes image s, end) refl

pub reading-spelled : (bytes : List ℕ) (image : Image) → IsBytes bytes → reading whole_image bytes ≡ Ok image → IsSpelling whole_image bytes image
reading-spelled bytes image fits h =
    let b = bind_ok (whole_image.reads bytes 0) (λ x. if ltb x.1 (length bytes) then Err (Trailing x.1) else Ok x.0) image h in
    let found : Image = b.0.0 in
    let at : ℕ = b.0.1 in
    let end = guard_ok (ltb at (length bytes)) (Trailing at) (Ok found) image b.2 in
    let is : found ≡ image = ok_is found image end.1 in
    let taken = image_law.takes bytes 0 found at fits (omega arith) b.1 in
    let rest : drop at bytes ≡ [] = drop_all at bytes (ltb-false at (length bytes) end.0) in
    let text : bytes ≡ whole_image.spelling found = taken.spelled ∙ ap (λ (r : List ℕ). whole_image.spelling found ++ r) rest
    ∙ append-nil (whole_image.spelling found) in
    subst (λ (i : Image). IsSpelling whole_image bytes i) is (record { fits = taken.fits; spelled = text })

pub bytes-fit : (bytes : List ℕ) → AreBytes bytes → IsBytes bytes
bytes-fit bytes all i = elim (cases_lt i (length bytes)) [
  | inl inside ↦ all i 0 inside
  | inr past ↦ rw (get_or_past bytes i 0 past) (omega arith)
]
