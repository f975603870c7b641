-- Reading never answers that memory was refused: it takes none.
use Rattle.std.proofs.Common.{◌≡◌, ◌≢◌, ℕ, zero, suc, ◌+◌, ◌-◌, ◌^◌, Bool, true, false, cond, ltb, leb, eqb, min, ◌&&◌, ◌||◌, List, [], ◌∷◌, length, Result, Ok}
use Rattle.std.proofs.Common.{Err, ℤ, ap}
use Rattle.std.specs.Int.{Width, w32, w64, byte_len, cast_signed}
use Rattle.std.specs.Prelude.{if◌then◌else◌, is_some}
use Rattle.model.specs.declared.entries.CapabilityEntry.{CapabilityEntry}
use Rattle.model.specs.declared.entries.FrameEntry.{FrameEntry}
use Rattle.model.specs.declared.entries.ImageHeader.{ImageHeader}
use Rattle.model.specs.declared.entries.InterruptEntry.{InterruptEntry}
use Rattle.model.specs.declared.entries.ObjectEntry.{ObjectEntry}
use Rattle.model.specs.declared.entries.RangeEntry.{RangeEntry}
use Rattle.model.specs.declared.entries.RecordHeader.{RecordHeader}
use Rattle.model.specs.declared.entries.RegisterEntry.{RegisterEntry}
use Rattle.model.specs.declared.entries.SlotEntry.{SlotEntry}
use Rattle.model.specs.declared.entries.TableEntry.{TableEntry}
use Rattle.model.specs.declared.entries.ThreadHeader.{ThreadHeader}
use Rattle.model.specs.declared.entries.UntypedEntry.{UntypedEntry}
use Rattle.model.specs.declared.refusals.Refusal.{Refusal}
use Rattle.model.specs.declared.refusals.Refusal.TheVariants.{Limit, Magic, OutOfMemory, Trailing, Truncated, Version}
use Rattle.model.specs.Capabilities.CapabilityFields.{unpacked}
use Rattle.model.specs.Images.Format.{Format, ◌>>=◌, both, field, many_read, named, number, number_at, number_or, only_if, ordered, reading, signed_number}
use Rattle.model.specs.Images.Image.{ImageContent, Sections, has_buffers, has_promises, header_fields, latest_version, no_buffer, promise_format}
use Rattle.model.specs.Images.Image.{promised_word_format}
use Rattle.model.specs.Images.Image.{anything, below, between, capability_format, content_format, frame_format, header_format, image_with}
use Rattle.model.specs.Images.Image.{interrupt_format, is_constant, magic, names_parent, no_parent, not_zero, object_format, pair_key, range_format}
use Rattle.model.specs.Images.Image.{ranges_format, record_format, record_header_format, records_format, register_format, registers_format, sections_format}
use Rattle.model.specs.Images.Image.{size_fits_in, slot_format, slots_format, table_format, term_format, terms_format, thread_format, thread_header_format}
use Rattle.model.specs.Images.Image.{untyped_format, whole_image, words_format}

abbrev refused : {A : Type 0} → Refusal → Result A Refusal
refused refusal = Err refusal

-- a result that is not out of memory
abbrev IsNoWant : {A : Type 0} → Result A Refusal → Type 0
IsNoWant {A} r = ◌≡◌ {A = Result A Refusal} r (Err OutOfMemory) → ⊥

pub record IsCalm {A : Type 0} (format : Format A) : Type 0 where
  pub calm : (bytes : List ℕ) (at : ℕ) → IsNoWant (format.reads bytes at)

-- the refusal alone decides
same_want : {A B : Type 0} (refusal : Refusal) → ◌≡◌ {A = Result A Refusal} (Err refusal) (Err OutOfMemory) →
    ◌≡◌ {A = Result B Refusal} (Err refusal) (Err OutOfMemory)
same_want {A} {B} refusal h = let same : refusal ≡ OutOfMemory = cc h in ap (λ (r : Refusal). refused {A = B} r) same

bind_calm : {A B : Type 0} (r : Result A Refusal) (f : A → Result B Refusal) → IsNoWant r → ((x : A) → IsNoWant (f x)) → IsNoWant (r >>= f)
bind_calm (Ok x) f first rest = rest x
bind_calm {A} {B} (Err refusal) f first rest = λ h. first (same_want {A = B} {B = A} refusal h)

ok_calm : {A : Type 0} (x : A) → IsNoWant (Ok x)
ok_calm {A} x h = absurd (let clash : ◌≡◌ {A = Result A Refusal} (Ok x) (Err OutOfMemory) = h in cc)

cond_calm : {A : Type 0} (b : Bool) (r s : Result A Refusal) → IsNoWant r → IsNoWant s → IsNoWant (cond b r s)
cond_calm true r s one other = one
cond_calm false r s one other = other

-- the refusals that reading gives
truncated_calm : {A : Type 0} (at : ℕ) → IsNoWant (refused {A = A} (Truncated at))
truncated_calm at h = absurd (let clash : Truncated at ≡ OutOfMemory = cc h in cc)

limit_calm : {A : Type 0} (at : ℕ) → IsNoWant (refused {A = A} (Limit at))
limit_calm at h = absurd (let clash : Limit at ≡ OutOfMemory = cc h in cc)

magic_calm : {A : Type 0} → IsNoWant (refused {A = A} Magic)
magic_calm h = absurd (let clash : Magic ≡ OutOfMemory = cc h in cc)

version_calm : {A : Type 0} → IsNoWant (refused {A = A} Version)
version_calm h = absurd (let clash : Version ≡ OutOfMemory = cc h in cc)

trailing_calm : {A : Type 0} (at : ℕ) → IsNoWant (refused {A = A} (Trailing at))
trailing_calm at h = absurd (let clash : Trailing at ≡ OutOfMemory = cc h in cc)

-- ---- formats

number_or_calm : (refusal : ℕ → Refusal) (w : Width) (test : ℕ → Bool) → ((at : ℕ) → IsNoWant (refused {A = ℕ × ℕ} (refusal at))) →
    IsCalm (number_or refusal w test)
number_or_calm refusal w test each = record {
  calm = λ bytes at. cond_calm (ltb (length bytes - at) (byte_len w)) _ _ (truncated_calm at)
      (cond_calm (test (number_at w bytes at)) _ _ (ok_calm (number_at w bytes at, at + byte_len w)) (each at));
}

number_calm : (w : Width) (test : ℕ → Bool) → IsCalm (number w test)
number_calm w test = number_or_calm Limit w test (λ at. limit_calm at)

signed_calm : (w : Width) (test : ℤ → Bool) → IsCalm (signed_number w test)
signed_calm w test = record {
  calm = λ bytes at. bind_calm ((number w (λ n. test (cast_signed w n))).reads bytes at) (λ x. Ok (cast_signed w x.0, x.1))
      ((number_calm w (λ n. test (cast_signed w n))).calm bytes at) (λ x. ok_calm (cast_signed w x.0, x.1));
}

both_calm : {A B : Type 0} (first : Format A) (second : A → Format B) → IsCalm first → ((a : A) → IsCalm (second a)) → IsCalm (both first second)
both_calm first second one other = record {
  calm = λ bytes at. bind_calm (first.reads bytes at) (λ a. (second a.0).reads bytes a.1 >>= λ b. Ok ((a.0, b.0), b.1)) (one.calm bytes at)
      (λ a. bind_calm ((second a.0).reads bytes a.1) (λ b. Ok ((a.0, b.0), b.1)) ((other a.0).calm bytes a.1) (λ b. ok_calm ((a.0, b.0), b.1)));
}

named_calm : {A B : Type 0} (to : A → B) (from : B → A) (format : Format A) → IsCalm format → IsCalm (named to from format)
named_calm to from format one = record {
  calm = λ bytes at. bind_calm (format.reads bytes at) (λ x. Ok (to x.0, x.1)) (one.calm bytes at) (λ x. ok_calm (to x.0, x.1));
}

many_calm : {A : Type 0} (format : ℕ → Format A) (next : A → ℕ) → ((k : ℕ) → IsCalm (format k)) → (count least : ℕ) (bytes : List ℕ) (at : ℕ)
    → IsNoWant (many_read format next least count bytes at)
unfolding many_read
many_calm format next each zero least bytes at = ok_calm ([], at)
many_calm format next each (suc n) least bytes at =
    bind_calm ((format least).reads bytes at) (λ first. many_read format next (next first.0) n bytes first.1 >>= λ others. Ok (first.0 ∷ others.0, others.1))
    ((each least).calm bytes at)
    (λ first. bind_calm (many_read format next (next first.0) n bytes first.1) (λ others. Ok (first.0 ∷ others.0, others.1))
    (many_calm format next each n (next first.0) bytes first.1) (λ others. ok_calm (first.0 ∷ others.0, others.1)))

ordered_calm : {A : Type 0} (least : ℕ) (format : ℕ → Format A) (next : A → ℕ) (count : ℕ) → ((k : ℕ) → IsCalm (format k)) →
    IsCalm (ordered least format next count)
ordered_calm least format next count each = record { calm = many_calm format next each count least }

field_calm : (test : ℕ → Bool) → IsCalm (field test)
field_calm test = number_calm w32 test

only_if_calm : (test : Bool) (absent : ℕ) (format : Format ℕ) → IsCalm format → IsCalm (only_if test absent format)
only_if_calm test absent format one = record { calm = λ bytes at. cond_calm test _ _ (one.calm bytes at) (ok_calm (absent, at)) }

-- ---- a thread

register_calm : (least : ℕ) → IsCalm (register_format least)
unfolding register_format
register_calm least = named_calm _ _ _ (both_calm _ _ (field_calm (between least 31)) (λ (k : ℕ). field_calm (ltb 0)))

range_calm : (least : ℕ) → IsCalm (range_format least)
unfolding range_format
range_calm least = named_calm _ _ _
    (both_calm _ _ (field_calm (between least 31)) (λ (k : ℕ).
    both_calm _ _ (field_calm anything) (λ (low : ℕ).
    field_calm (λ high. leb low high && (ltb 0 low || ltb high (2 ^ 32 - 1))))))

term_calm : (least : ℕ) → IsCalm (term_format least)
unfolding term_format
term_calm least = named_calm _ (λ e. (e.register, e.coefficient)) _ (both_calm _ _ (field_calm (between least 31)) (λ (k : ℕ). signed_calm w32 not_zero))

registers_calm : (count : ℕ) → IsCalm (registers_format count)
unfolding registers_format
registers_calm count = ordered_calm 1 register_format (λ e. e.register + 1) count register_calm

ranges_calm : (count : ℕ) → IsCalm (ranges_format count)
unfolding ranges_format
ranges_calm count = ordered_calm 1 range_format (λ e. e.register + 1) count range_calm

terms_calm : (count : ℕ) → IsCalm (terms_format count)
unfolding terms_format
terms_calm count = ordered_calm 1 term_format (λ e. e.register + 1) count term_calm

words_calm : (count : ℕ) → IsCalm (words_format count)
unfolding words_format
words_calm count = ordered_calm 0 (λ _. field anything) (λ _. 0) count (λ k. field_calm anything)

slot_calm : (objects least : ℕ) → IsCalm (slot_format objects least)
unfolding slot_format
slot_calm objects least = named_calm _ _ _
    (both_calm _ _ (field_calm (below objects)) (λ (cnode : ℕ).
    both_calm _ _ (field_calm (λ index. leb least (pair_key cnode index) && ltb index (2 ^ 14))) (λ (a : ℕ).
    both_calm _ _ (field_calm anything) (λ (word0 : ℕ).
    both_calm _ _ (field_calm (λ word1. is_some (unpacked word0 word1))) (λ (word1 : ℕ).
    both_calm _ _ (field_calm (λ parent. ltb parent objects || eqb parent no_parent)) (λ (parent : ℕ).
    field_calm (names_parent (eqb word0 0 && eqb word1 0) parent)))))))

slots_calm : (objects count : ℕ) → IsCalm ((slots_format objects).entries count)
slots_calm objects count = ordered_calm 0 (slot_format objects) (λ e. pair_key e.cnode e.index + 1) count (slot_calm objects)

record_header_calm : (objects words least : ℕ) → IsCalm (record_header_format (slots_format objects) words least)
unfolding record_header_format
record_header_calm objects words least = named_calm _ (λ h. (h.point, (h.ranges, (h.slots, (h.terms, h.constant))))) _
    (both_calm _ _ (field_calm (λ point. leb least point && ltb point words)) (λ (a : ℕ).
    both_calm _ _ (field_calm (between 0 31)) (λ (b : ℕ).
    both_calm _ _ (field_calm (between 0 256)) (λ (c : ℕ).
    both_calm _ _ (field_calm (between 0 4)) (λ (d : ℕ).
    signed_calm w64 is_constant)))))

record_calm : (objects words least : ℕ) → IsCalm (record_format (slots_format objects) words least)
unfolding record_format
record_calm objects words least = named_calm _ _ _
    (both_calm _ _ (record_header_calm objects words least) (λ (header : RecordHeader).
    both_calm _ _ (ranges_calm header.ranges) (λ (a : List RangeEntry).
    both_calm _ _ (slots_calm objects header.slots) (λ (b : List SlotEntry).
    terms_calm header.terms))))

records_calm : (objects words count : ℕ) → IsCalm (records_format (slots_format objects) words count)
unfolding records_format
records_calm objects words count = ordered_calm 0 (record_format (slots_format objects) words) (λ r. r.header.point + 1) count (record_calm objects words)

thread_header_calm : (version objects : ℕ) → IsCalm (thread_header_format version objects)
unfolding thread_header_format
thread_header_calm version objects = named_calm _ _ _
    (both_calm _ _ (field_calm (below objects)) (λ (a : ℕ).
    both_calm _ _ (field_calm (below objects)) (λ (b : ℕ).
    both_calm _ _ (field_calm anything) (λ (c : ℕ).
    both_calm _ _ (field_calm (below objects)) (λ (d : ℕ).
    both_calm _ _ (field_calm (between 0 255)) (λ (e : ℕ).
    both_calm _ _ (number_calm w64 (between 1 (2 ^ 62))) (λ (f : ℕ).
    both_calm _ _ (field_calm anything) (λ (g : ℕ).
    both_calm _ _ (only_if_calm (has_buffers version) no_buffer (field (λ n. ltb n objects || eqb n no_buffer))
    (field_calm (λ n. ltb n objects || eqb n no_buffer)))
    (λ (buffer : ℕ).
    both_calm _ _ (field_calm anything) (λ (h : ℕ).
    both_calm _ _ (field_calm anything) (λ (i : ℕ).
    both_calm _ _ (field_calm (between 0 31)) (λ (j : ℕ).
    both_calm _ _ (field_calm (between 1 65536)) (λ (words : ℕ).
    field_calm (between 0 words))))))))))))))

thread_calm : (version objects : ℕ) → IsCalm (thread_format (slots_format objects) version objects)
unfolding thread_format
thread_calm version objects = named_calm _ _ _
    (both_calm _ _ (thread_header_calm version objects) (λ (header : ThreadHeader).
    both_calm _ _ (registers_calm header.registers) (λ (a : List RegisterEntry).
    both_calm _ _ (words_calm header.words) (λ (b : List ℕ).
    records_calm objects header.words header.records))))

-- ---- the sections

header_calm : IsCalm header_format
unfolding header_format
header_calm = named_calm _ header_fields _
    (both_calm _ _ (number_or_calm (λ _. Magic) w32 (λ n. eqb n magic) (λ at. magic_calm)) (λ (a : ℕ).
    both_calm _ _ (number_or_calm (λ _. Version) w32 (between 1 latest_version) (λ at. version_calm)) (λ (version : ℕ).
    both_calm _ _ (field_calm (between 16 24)) (λ (memory_bits : ℕ).
    both_calm _ _ (field_calm (between 1 (min 14 (memory_bits - 5)))) (λ (c : ℕ).
    both_calm _ _ (field_calm (between 1 64)) (λ (d : ℕ).
    both_calm _ _ (field_calm (between 0 4096)) (λ (e : ℕ).
    both_calm _ _ (field_calm (between 0 16384)) (λ (f : ℕ).
    both_calm _ _ (field_calm (between 0 64)) (λ (g : ℕ).
    both_calm _ _ (field_calm (between 0 1024)) (λ (i : ℕ).
    both_calm _ _ (field_calm (between 0 4096)) (λ (j : ℕ).
    both_calm _ _ (field_calm (between 0 4096)) (λ (k : ℕ).
    both_calm _ _ (only_if_calm (has_promises version) 0 (field (between 0 4096)) (field_calm (between 0 4096))) (λ (l : ℕ).
    field_calm (between 1 64))))))))))))))

untyped_calm : IsCalm untyped_format
unfolding untyped_format
untyped_calm = named_calm _ _ _ (both_calm _ _ (field_calm anything) (λ (a : ℕ). field_calm (between 4 24)))

object_calm : (version untypeds least : ℕ) → IsCalm (object_format version untypeds least)
unfolding object_format
object_calm version untypeds least = named_calm _ _ _
    (both_calm _ _ (field_calm (λ n. leb least n && ltb n untypeds)) (λ (a : ℕ).
    both_calm _ _ (field_calm (between 1 8)) (λ (kind : ℕ).
    field_calm (size_fits_in version kind))))

capability_calm : (objects interrupts least : ℕ) → IsCalm (capability_format objects interrupts least)
unfolding capability_format
capability_calm objects interrupts least = named_calm _ _ _
    (both_calm _ _ (field_calm (below objects)) (λ (cnode : ℕ).
    both_calm _ _ (field_calm (λ index. leb least (pair_key cnode index))) (λ (a : ℕ).
    both_calm _ _ (field_calm (below (objects + interrupts))) (λ (b : ℕ).
    both_calm _ _ (field_calm anything) (λ (c : ℕ).
    field_calm anything)))))

interrupt_calm : (objects least : ℕ) → IsCalm (interrupt_format objects least)
unfolding interrupt_format
interrupt_calm objects least = named_calm _ _ _
    (both_calm _ _ (field_calm (between least 63)) (λ (a : ℕ).
    both_calm _ _ (field_calm (below objects)) (λ (b : ℕ).
    field_calm (below (2 ^ 28)))))

table_calm : (objects least : ℕ) → IsCalm (table_format objects least)
unfolding table_format
table_calm objects least = named_calm _ _ _
    (both_calm _ _ (field_calm (below objects)) (λ (root : ℕ).
    both_calm _ _ (field_calm (λ address. leb least (pair_key root address))) (λ (a : ℕ).
    field_calm (below objects))))

frame_calm : (objects least : ℕ) → IsCalm (frame_format objects least)
unfolding frame_format
frame_calm objects least = named_calm _ _ _
    (both_calm _ _ (field_calm (below objects)) (λ (root : ℕ).
    both_calm _ _ (field_calm (λ address. leb least (pair_key root address))) (λ (a : ℕ).
    both_calm _ _ (field_calm (below objects)) (λ (b : ℕ).
    field_calm (between 0 7)))))

content_calm : (objects least : ℕ) → IsCalm (content_format objects least)
unfolding content_format words_format
content_calm objects least = named_calm _ _ _
    (both_calm _ _ (field_calm (λ frame. leb least frame && ltb frame objects)) (λ (a : ℕ).
    both_calm _ _ (field_calm (between 1 1024)) (λ (count : ℕ).
    words_calm count)))

promised_word_calm : IsCalm promised_word_format
unfolding promised_word_format
promised_word_calm = named_calm _ _ _ (both_calm _ _ (field_calm anything) (λ (low : ℕ). field_calm (leb low)))

promise_calm : (objects least : ℕ) → IsCalm (promise_format objects least)
unfolding promise_format
promise_calm objects least = named_calm _ _ _
    (both_calm _ _ (field_calm (λ endpoint. leb least endpoint && ltb endpoint objects)) (λ (a : ℕ).
    both_calm _ _ (field_calm anything) (λ (low : ℕ).
    both_calm _ _ (field_calm (λ high. leb low high && ltb high (2 ^ 28))) (λ (b : ℕ).
    both_calm _ _ (field_calm (between 0 8)) (λ (count : ℕ).
    ordered_calm 0 (λ _. promised_word_format) (λ _. 0) count (λ k. promised_word_calm))))))

sections_calm : IsCalm sections_format
unfolding sections_format
sections_calm =
    both_calm _ _ header_calm (λ (header : ImageHeader).
    both_calm _ _ (ordered_calm 0 (λ _. untyped_format) (λ _. 0) header.untypeds (λ k. untyped_calm)) (λ (a : List UntypedEntry).
    both_calm _ _ (ordered_calm 0 (object_format header.version header.untypeds) (λ e. e.untyped) header.objects
    (object_calm header.version header.untypeds)) (λ (b : List ObjectEntry).
    both_calm _ _ (ordered_calm 0 (capability_format header.objects header.interrupts) (λ e. pair_key e.cnode e.index + 1) header.capabilities
    (capability_calm header.objects header.interrupts)) (λ (c : List CapabilityEntry).
    both_calm _ _ (ordered_calm 0 (interrupt_format header.objects) (λ e. e.line + 1) header.interrupts (interrupt_calm header.objects))
    (λ (d : List InterruptEntry).
    both_calm _ _ (ordered_calm 0 (table_format header.objects) (λ e. pair_key e.root e.address + 1) header.tables (table_calm header.objects))
    (λ (e : List TableEntry).
    both_calm _ _ (ordered_calm 0 (frame_format header.objects) (λ e. pair_key e.root e.address + 1) header.frames (frame_calm header.objects))
    (λ (f : List FrameEntry).
    both_calm _ _ (ordered_calm 0 (content_format header.objects) (λ c. c.header.frame + 1) header.contents (content_calm header.objects))
    (λ (g : List ImageContent).
    ordered_calm 0 (promise_format header.objects) (λ p. p.header.endpoint + 1) header.promises (promise_calm header.objects)))))))))

image_calm : IsCalm whole_image
unfolding image_with
image_calm = named_calm _ _ _
    (both_calm _ _ sections_calm (λ (sections : Sections).
    ordered_calm 0 (λ _. _) (λ _. 0) sections.0.threads (λ k. thread_calm sections.0.version sections.0.objects)))

pub whole_calm : (bytes : List ℕ) → reading whole_image bytes ≢ Err OutOfMemory
whole_calm bytes =
    bind_calm (whole_image.reads bytes 0) (λ x. if ltb x.1 (length bytes) then Err (Trailing x.1) else Ok x.0) (image_calm.calm bytes 0)
    (λ x. cond_calm (ltb x.1 (length bytes)) _ _ (trailing_calm x.1) (ok_calm x.0))
