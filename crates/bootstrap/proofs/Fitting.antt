-- What fits the format keeps to its limits: counts are lengths, and what entries name is there.
use Rattle.std.proofs.Common.{ℕ, zero, suc, ◌≡◌, ◌≢◌, ◌==◌, ◌+◌, ◌<◌, ◌≤◌, ◌^◌, ◌&&◌, ◌||◌, inl, inr, Bool, true, false, List, [], ◌∷◌, length, refl, ap, arith}
use Rattle.std.specs.Int.{w64}
use Rattle.std.specs.Prelude.{nat_le, nat_lt}
use Rattle.std.specs.List.{AllByRecursion}
use Rattle.std.proofs.lemmas.Bool.{and_parts, eqb-true, ltb-true, leb-true, or_cases}
use Rattle.model.specs.declared.entries.ImageHeader.{ImageHeader}
use Rattle.model.specs.Images.Format.{Format, field, many_fit, number, only_if}
use Rattle.model.specs.Images.Image.{Image, ImageContent, Thread, anything, below, between, capability_format, content_format, frame_format, has_buffers}
use Rattle.model.specs.Images.Image.{image_with, interrupt_format, no_buffer, object_format, pair_key, register_format, registers_format, sections_format}
use Rattle.model.specs.Images.Image.{size_fits, slots_format, table_format, thread_format, thread_header_format, untyped_format, whole_image, words_format}
use Rattle.format_laws.proofs.Laws.{field-between, field-parts, is-fitting, many-length}
use Rattle.bootstrap.specs.Limits.{ContentFits, IsLimited, ThreadFits}

-- ---- lists that are gone over

list-fits : {A : Type 0} (Holds : A → Type 0) (format : ℕ → Format A) (next : A → ℕ) (each : (least : ℕ) (x : A) → (format least).fits x ≡ true → Holds x)
    (least count : ℕ) (xs : List A) → many_fit format next least count xs ≡ true → AllByRecursion Holds xs × (length xs ≡ count)
unfolding many_fit
list-fits Holds format next each least zero [] fits = (tt, refl)
list-fits Holds format next each least zero (x ∷ xs) fits = absurd (let clash : false ≡ true = fits in cc)
list-fits Holds format next each least (suc n) [] fits = absurd (let clash : false ≡ true = fits in cc)
list-fits Holds format next each least (suc n) (x ∷ xs) fits =
    let parts = and_parts ((format least).fits x) (many_fit format next (next x) n xs) fits in
    let rest = list-fits Holds format next each (next x) n xs parts.1 in
    ((each least x parts.0, rest.0), ap suc rest.1)

below-of : (limit n : ℕ) → (field (below limit)).fits n ≡ true → n < limit
below-of limit n fits = ltb-true n limit (field-parts (below limit) n fits).1

-- ---- entries

size-most : (kind size : ℕ) → size_fits kind size ≡ true → size ≤ 24
size-most kind size is =
    elim (nat_le size 24) as (λ b. nat_le size 24 ≡ b → size ≤ 24) [
      | true ↦ λ small. leb-true size 24 small
      | false ↦ λ large. grind arith
    ] refl

content-fits : (h : ImageHeader) (least : ℕ) (c : ImageContent) → (content_format h.objects least).fits c ≡ true → ContentFits h c
unfolding content_format
content-fits h least c is =
    let a = and_parts _ _ is in
    let frame = and_parts _ _ (field-parts (λ frame. nat_le least frame && nat_lt frame h.objects) c.header.frame a.0).1 in
    record { frame = ltb-true c.header.frame h.objects frame.1 }

-- a thread's buffer is an object, if there is one
buffer-below : (test : Bool) (objects n : ℕ) → (only_if test no_buffer (field (λ k. nat_lt k objects || (k == no_buffer)))).fits n ≡ true
    → n ≢ no_buffer → n < objects
buffer-below true objects n is some =
    elim (or_cases (nat_lt n objects) (n == no_buffer) (field-parts (λ k. nat_lt k objects || (k == no_buffer)) n is).1) [
      | inl less ↦ ltb-true n objects less
      | inr none ↦ absurd (some (eqb-true n no_buffer none))
    ]
buffer-below false objects n is some = absurd (some (eqb-true n no_buffer is))

thread-header-fits : (h : ImageHeader) (t : Thread) → (thread_header_format h.version h.objects).fits t.header ≡ true → length t.registers ≡ t.header.registers
    → length t.words ≡ t.header.words → ThreadFits h t
unfolding thread_header_format
thread-header-fits h t is registers words =
    let a = and_parts _ _ is in
    let b = and_parts _ _ a.1 in
    let c = and_parts _ _ b.1 in
    let d = and_parts _ _ c.1 in
    let e = and_parts ((field (between 0 255)).fits t.header.priority) _ d.1 in
    let o = and_parts ((number w64 (between 1 (2 ^ 62))).fits t.header.budget) _ e.1 in
    let f = and_parts ((field anything).fits t.header.fault) _ o.1 in
    let buffer = only_if (has_buffers h.version) no_buffer (field (λ n. nat_lt n h.objects || (n == no_buffer))) in
    let absent = and_parts (buffer.fits t.header.buffer) _ f.1 in
    let g = and_parts ((field anything).fits t.header.entry) _ absent.1 in
    let k = and_parts ((field anything).fits t.header.base) _ g.1 in
    let m = and_parts _ _ k.1 in
    let n = and_parts ((field (between 1 65536)).fits t.header.words) ((field (between 0 t.header.words)).fits t.header.records) m.1 in
    let few = field-between 0 31 t.header.registers m.0 in
    record {
      tcb = below-of h.objects t.header.tcb a.0;
      cnode = below-of h.objects t.header.cnode b.0;
      root = below-of h.objects t.header.root d.0;
      buffer = buffer-below (has_buffers h.version) h.objects t.header.buffer absent.0;
      registers = omega (arith, few, registers);
      words = words;
      most_words = (field-between 1 65536 t.header.words n.0).1;
    }

thread-fits : (h : ImageHeader) (least : ℕ) (t : Thread) → (thread_format (slots_format h.objects) h.version h.objects).fits t ≡ true → ThreadFits h t
unfolding thread_format registers_format words_format
thread-fits h least t is =
    let a = and_parts _ _ is in
    let b = and_parts _ _ a.1 in
    let c = and_parts _ _ b.1 in
    let registers = many-length register_format (λ e. e.register + 1) 1 t.header.registers t.registers b.0 in
    let words = many-length (λ _. field anything) (λ _. 0) 0 t.header.words t.words c.0 in
    thread-header-fits h t a.0 registers words

-- ---- the whole

pub limited : (image : Image) → whole_image.fits image ≡ true → IsLimited image
unfolding image_with sections_format
limited image is =
    let h = image.header in
    let whole = and_parts _ _ is in
    let a = and_parts _ _ whole.0 in
    let b = and_parts (many_fit (λ _. untyped_format) (λ _. 0) 0 h.untypeds image.untypeds) _ a.1 in
    let c = and_parts (many_fit (object_format h.version h.untypeds) (λ o. o.untyped) 0 h.objects image.objects) _ b.1 in
    let d = and_parts (many_fit (capability_format h.objects h.interrupts) (λ x. pair_key x.cnode x.index + 1) 0 h.capabilities image.capabilities) _ c.1 in
    let e = and_parts (many_fit (interrupt_format h.objects) (λ x. x.line + 1) 0 h.interrupts image.interrupts) _ d.1 in
    let f = and_parts (many_fit (table_format h.objects) (λ x. pair_key x.root x.address + 1) 0 h.tables image.tables) _ e.1 in
    let g = and_parts (many_fit (frame_format h.objects) (λ x. pair_key x.root x.address + 1) 0 h.frames image.frames) _ f.1 in
    let j = and_parts (many_fit (content_format h.objects) (λ c. c.header.frame + 1) 0 h.contents image.contents) _ g.1 in
    let contents = list-fits (ContentFits h) (content_format h.objects) (λ c. c.header.frame + 1) (content-fits h) 0 h.contents image.contents j.0 in
    let threads = list-fits (ThreadFits h) (λ _. thread_format (slots_format h.objects) h.version h.objects) (λ _. 0) (thread-fits h) 0 h.threads image.threads
    whole.1 in
    let fitting = is-fitting image is in
    record {
      header = fitting.header;
      untypeds = record { count = fitting.untypeds; entries = λ k u at. record { bits = (fitting.untyped k u at).high } };
      objects = record {
        count = fitting.objects;
        entries = λ k o at. let fits = fitting.object k o at in
            record { untyped = fits.untyped; size = size-most o.kind o.size fits.size };
      };
      capabilities = record {
        count = fitting.capabilities;
        entries = λ k c at. let fits = fitting.capability k c at in
            record { cnode = fits.cnode; source = fits.source };
      };
      interrupts = record { count = fitting.interrupts; entries = λ k i at. record { notification = (fitting.interrupt k i at).notification } };
      tables = record { count = fitting.tables; entries = λ k t at. let fits = fitting.table k t at in record { root = fits.root; table = fits.table } };
      frames = record {
        count = fitting.frames;
        entries = λ k f at. let fits = fitting.frame k f at in
            record { root = fits.root; frame = fits.frame; address = fits.address };
      };
      pages_rise = fitting.pages_rise;
      contents = contents.0;
      content_count = contents.1;
      threads = threads.0;
      thread_count = threads.1;
    }
