-- The entries of an image that fit their formats have their numbers in their ranges.
use Rattle.std.proofs.Common.{ℕ, ◌≡◌, ◌==◌, ◌+◌, ◌-◌, ◌^◌, ◌≤◌, ◌&&◌, ◌||◌, Bool, true, false, min, arith}
use Rattle.std.specs.Prelude.{nat_le, nat_lt}
use Rattle.std.proofs.lemmas.Bool.{and_parts, eqb-true, ltb-true, leb-true}
use Rattle.model.specs.declared.entries.CapabilityEntry.{CapabilityEntry}
use Rattle.model.specs.declared.entries.FrameEntry.{FrameEntry}
use Rattle.model.specs.declared.entries.ImageHeader.{ImageHeader}
use Rattle.model.specs.declared.entries.InterruptEntry.{InterruptEntry}
use Rattle.model.specs.declared.entries.ObjectEntry.{ObjectEntry}
use Rattle.model.specs.declared.entries.PromisedWord.{PromisedWord}
use Rattle.model.specs.declared.entries.TableEntry.{TableEntry}
use Rattle.model.specs.declared.entries.ThreadHeader.{ThreadHeader}
use Rattle.model.specs.declared.entries.UntypedEntry.{UntypedEntry}
use Rattle.format_laws.specs.Fitting.{CapabilityFits, FrameFits, HeaderFits, InterruptFits, ObjectFits, PromiseFits, PromisedWordFits, TableFits, ThreadFits}
use Rattle.format_laws.specs.Fitting.{UntypedFits}
use Rattle.format_laws.proofs.FormatFits.{between-bounds, field-between, field-parts, many-each, many-length}
use Rattle.model.specs.Images.Image.{Image, ImagePromise, Thread, anything, below, between, capability_format, frame_format, header_format, interrupt_format}
use Rattle.model.specs.Images.Image.{magic}
use Rattle.model.specs.Images.Image.{has_buffers, has_promises, latest_version, no_buffer, object_format, pair_key, promise_format, promised_word_format}
use Rattle.model.specs.Images.Image.{size_fits, size_fits_in}
use Rattle.model.specs.Images.Image.{slots_format, table_format, thread_format, thread_header_format, untyped_format}
use Rattle.model.specs.Images.Format.{Format, both, field, number_or, only_if}
use Rattle.model.specs.declared.refusals.Refusal.TheVariants.{Magic, Version}
use Rattle.std.specs.Int.{w32}

-- ---- fields and their tests

-- a field that is not there has the value for an absent one
absent-is : (test : Bool) (absent : ℕ) (format : Format ℕ) (n : ℕ) → test ≡ false → (only_if test absent format).fits n ≡ true → n ≡ absent
absent-is true absent format n none is = absurd cc
absent-is false absent format n none is = eqb-true n absent is

few-or-none : (test : Bool) (most n : ℕ) → (only_if test 0 (field (between 0 most))).fits n ≡ true → n ≤ most
few-or-none true most n is = (field-between 0 most n is).1
few-or-none false most n is = omega (arith, eqb-true n 0 is)

pub header-fits : (h : ImageHeader) → header_format.fits h ≡ true → HeaderFits h
unfolding header_format
header-fits h is =
    let first = and_parts ((number_or (λ _. Magic) w32 (λ n. n == magic)).fits magic) _ is in
    let second = and_parts ((number_or (λ _. Version) w32 (between 1 latest_version)).fits h.version) _ first.1 in
    let version = between-bounds 1 latest_version h.version (and_parts _ (between 1 latest_version h.version) second.0).1 in
    let a = and_parts _ _ second.1 in
    let memory = field-between 16 24 h.memory_bits a.0 in
    let b = and_parts _ _ a.1 in
    let radix = field-between 1 (min 14 (h.memory_bits - 5)) h.boot_radix b.0 in
    let c = and_parts _ _ b.1 in
    let d = and_parts _ _ c.1 in
    let e = and_parts _ _ d.1 in
    let f = and_parts _ _ e.1 in
    let g = and_parts _ _ f.1 in
    let promised = only_if (has_promises h.version) 0 (field (between 0 4096)) in
    let last = both {B = ℕ} promised (λ _. field (between 1 64)) in
    let k = and_parts _ ((both {B = ℕ × ℕ} (field (between 0 4096)) (λ _. last)).fits (h.contents, (h.promises, h.threads))) g.1 in
    let m = and_parts ((field (between 0 4096)).fits h.contents) (last.fits (h.promises, h.threads)) k.1 in
    let p = and_parts (promised.fits h.promises) ((field (between 1 64)).fits h.threads) m.1 in
    record {
      version_low = version.0;
      version_high = version.1;
      memory_low = memory.0;
      memory_high = memory.1;
      radix_low = radix.0;
      radix_high = omega (arith, radix);
      radix_memory = omega (arith, radix);
      untypeds = (field-between 1 64 h.untypeds c.0).1;
      objects = (field-between 0 4096 h.objects d.0).1;
      capabilities = (field-between 0 16384 h.capabilities e.0).1;
      interrupts = (field-between 0 64 h.interrupts f.0).1;
      tables = (field-between 0 1024 h.tables g.0).1;
      frames = (field-between 0 4096 h.frames k.0).1;
      contents = (field-between 0 4096 h.contents m.0).1;
      promises = few-or-none (has_promises h.version) 4096 h.promises p.0;
      no_promises = λ none. absent-is (has_promises h.version) 0 (field (between 0 4096)) h.promises none p.0;
      threads = (field-between 1 64 h.threads p.1).1;
    }

pub untyped-fits : (u : UntypedEntry) → untyped_format.fits u ≡ true → UntypedFits u
unfolding untyped_format
untyped-fits u is =
    let a = and_parts _ _ is in
    let bits = field-between 4 24 u.bits a.1 in
    record { offset = (field-parts anything u.offset a.0).0; low = bits.0; high = bits.1 }

pub object-fits : (image : Image) (least : ℕ) (o : ObjectEntry) → (object_format image.header.version image.header.untypeds least).fits o ≡ true
    → ObjectFits image o
unfolding object_format
object-fits image least o is =
    let a = and_parts _ _ is in
    let b = and_parts _ _ a.1 in
    let kind = field-between 1 8 o.kind b.0 in
    let untyped = and_parts _ _ (field-parts (λ n. nat_le least n && nat_lt n image.header.untypeds) o.untyped a.0).1 in
    let size = and_parts (size_fits o.kind o.size) _ (field-parts (size_fits_in image.header.version o.kind) o.size b.1).1 in
    record { untyped = ltb-true o.untyped image.header.untypeds untyped.1; low = kind.0; high = kind.1; size = size.0 }

pub capability-fits : (image : Image) (least : ℕ) (c : CapabilityEntry)
    → (capability_format image.header.objects image.header.interrupts least).fits c ≡ true → CapabilityFits image c × (least ≤ pair_key c.cnode c.index)
unfolding capability_format
capability-fits image least c is =
    let a = and_parts _ _ is in
    let b = and_parts _ _ a.1 in
    let d = and_parts _ _ b.1 in
    let e = and_parts _ _ d.1 in
    let index = field-parts (λ index. nat_le least (pair_key c.cnode index)) c.index b.0 in (
      record {
        cnode = ltb-true c.cnode image.header.objects (field-parts (below image.header.objects) c.cnode a.0).1;
        index = index.0;
        source = ltb-true c.source (image.header.objects + image.header.interrupts)
            (field-parts (below (image.header.objects + image.header.interrupts)) c.source d.0).1;
        rights = (field-parts anything c.rights e.0).0;
        payload = (field-parts anything c.payload e.1).0;
      },
      leb-true least (pair_key c.cnode c.index) index.1,
    )

pub interrupt-fits : (image : Image) (least : ℕ) (i : InterruptEntry) → (interrupt_format image.header.objects least).fits i ≡ true → InterruptFits image i
    × (least ≤ i.line)
unfolding interrupt_format
interrupt-fits image least i is =
    let a = and_parts _ _ is in
    let b = and_parts _ _ a.1 in
    let line = field-between least 63 i.line a.0 in (
      record {
        line = line.1;
        notification = ltb-true i.notification image.header.objects (field-parts (below image.header.objects) i.notification b.0).1;
        badge = ltb-true i.badge (2 ^ 28) (field-parts (below (2 ^ 28)) i.badge b.1).1;
      },
      line.0,
    )

pub table-fits : (image : Image) (least : ℕ) (t : TableEntry) → (table_format image.header.objects least).fits t ≡ true → TableFits image t
    × (least ≤ pair_key t.root t.address)
unfolding table_format
table-fits image least t is =
    let a = and_parts _ _ is in
    let b = and_parts _ _ a.1 in
    let address = field-parts (λ address. nat_le least (pair_key t.root address)) t.address b.0 in (
      record {
        root = ltb-true t.root image.header.objects (field-parts (below image.header.objects) t.root a.0).1;
        address = address.0;
        table = ltb-true t.table image.header.objects (field-parts (below image.header.objects) t.table b.1).1;
      },
      leb-true least (pair_key t.root t.address) address.1,
    )

pub frame-fits : (image : Image) (least : ℕ) (f : FrameEntry) → (frame_format image.header.objects least).fits f ≡ true → FrameFits image f
    × (least ≤ pair_key f.root f.address)
unfolding frame_format
frame-fits image least f is =
    let a = and_parts _ _ is in
    let b = and_parts _ _ a.1 in
    let d = and_parts _ _ b.1 in
    let address = field-parts (λ address. nat_le least (pair_key f.root address)) f.address b.0 in (
      record {
        root = ltb-true f.root image.header.objects (field-parts (below image.header.objects) f.root a.0).1;
        address = address.0;
        frame = ltb-true f.frame image.header.objects (field-parts (below image.header.objects) f.frame d.0).1;
        rights = (field-between 0 7 f.rights d.1).1;
      },
      leb-true least (pair_key f.root f.address) address.1,
    )

promised-word-fits : (word : PromisedWord) → promised_word_format.fits word ≡ true → PromisedWordFits word
unfolding promised_word_format
promised-word-fits word is =
    let a = and_parts _ _ is in
    let high = field-parts (nat_le word.low) word.high a.1 in
    record { ordered = leb-true word.low word.high high.1; high = high.0 }

pub promise-fits : (image : Image) (least : ℕ) (p : ImagePromise) → (promise_format image.header.objects least).fits p ≡ true → PromiseFits image p
    × (least ≤ p.header.endpoint)
unfolding promise_format
promise-fits image least p is =
    let a = and_parts _ _ is in
    let b = and_parts _ _ a.1 in
    let c = and_parts _ _ b.1 in
    let d = and_parts _ _ c.1 in
    let endpoint = and_parts _ _ (field-parts (λ n. nat_le least n && nat_lt n image.header.objects) p.header.endpoint a.0).1 in
    let high = and_parts _ _ (field-parts (λ n. nat_le p.header.badge_low n && nat_lt n (2 ^ 28)) p.header.badge_high c.0).1 in (
      record {
        endpoint = ltb-true p.header.endpoint image.header.objects endpoint.1;
        badges = leb-true p.header.badge_low p.header.badge_high high.0;
        badge_high = ltb-true p.header.badge_high (2 ^ 28) high.1;
        count = many-length (λ _. promised_word_format) (λ _. 0) 0 p.header.words p.words d.1;
        few = (field-between 0 8 p.header.words d.0).1;
        word = λ k word at.
            promised-word-fits word (many-each (λ _. promised_word_format) (λ _. 0) 0 p.header.words p.words d.1 k word at).1;
      },
      leb-true least p.header.endpoint endpoint.0,
    )

header-of-thread : (image : Image) (t : ThreadHeader) → (thread_header_format image.header.version image.header.objects).fits t ≡ true → ThreadFits image t
unfolding thread_header_format
header-of-thread image t is =
    let a = and_parts _ _ is in
    let b = and_parts _ _ a.1 in
    let c = and_parts _ _ b.1 in
    let d = and_parts _ _ c.1 in
    let e = and_parts _ _ d.1 in
    let f = and_parts _ _ (and_parts _ _ e.1).1 in
    let absent = and_parts _ _ f.1 in
    let g = and_parts _ _ absent.1 in
    let k = and_parts _ _ g.1 in
    record {
      tcb = ltb-true t.tcb image.header.objects (field-parts (below image.header.objects) t.tcb a.0).1;
      cnode = ltb-true t.cnode image.header.objects (field-parts (below image.header.objects) t.cnode b.0).1;
      guard = (field-parts anything t.guard c.0).0;
      root = ltb-true t.root image.header.objects (field-parts (below image.header.objects) t.root d.0).1;
      priority = (field-between 0 255 t.priority e.0).1;
      fault = (field-parts anything t.fault f.0).0;
      entry = (field-parts anything t.entry g.0).0;
      base = (field-parts anything t.base k.0).0;
      no_buffer = λ none. absent-is (has_buffers image.header.version) no_buffer
          (field (λ n. nat_lt n image.header.objects || (n == no_buffer))) t.buffer none absent.0;
    }

pub thread-fits : (image : Image) (t : Thread) → (thread_format (slots_format image.header.objects) image.header.version image.header.objects).fits t ≡ true →
    ThreadFits image t.header
unfolding thread_format
thread-fits image t is = header-of-thread image t.header (and_parts _ _ is).0
