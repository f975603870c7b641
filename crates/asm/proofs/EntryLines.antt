-- What the lines of entries say stands in the texts that listings have for them.
use Rattle.std.proofs.Common.{ℕ, ◌≡◌, ◌+◌, ◌^◌, ◌<◌, ◌≤◌, ◌&&◌, true, zero, suc, false, List, [], ◌∷◌, length, arith}
use Rattle.std.specs.Prelude.{nat_le, nat_lt}
use Rattle.std.specs.List.{AllByRecursion}
use Rattle.std.proofs.lemmas.Bool.{and_parts, ltb-true, leb-true}
use Rattle.std.proofs.lemmas.Bool.Decides.{nat_tests}
use Rattle.model.specs.declared.entries.CapabilityEntry.{CapabilityEntry}
use Rattle.model.specs.declared.entries.FrameEntry.{FrameEntry}
use Rattle.model.specs.declared.entries.InterruptEntry.{InterruptEntry}
use Rattle.model.specs.declared.entries.ObjectEntry.{ObjectEntry}
use Rattle.model.specs.declared.entries.PromisedWord.{PromisedWord}
use Rattle.model.specs.declared.entries.TableEntry.{TableEntry}
use Rattle.model.specs.declared.entries.UntypedEntry.{UntypedEntry}
use Rattle.model.specs.Images.Format.{field, many_fit}
use Rattle.model.specs.Images.Image.{Image, ImageContent, ImagePromise, anything, below, between, capability_format, content_format, frame_format}
use Rattle.model.specs.Images.Image.{interrupt_format}
use Rattle.model.specs.Images.Image.{object_format, pair_key, promise_format, promised_word_format, size_fits, size_fits_in, table_format, untyped_format}
use Rattle.model.specs.Images.Listing.{untyped_line, object_line, interrupt_line, capability_line, table_line, frame_line, content_line, promise_line}
use Rattle.asm_line.specs.Listed.{Lists, untyped, object, interrupt, capability, table, frame, content, promise, IsPromisedWord, IsWord}
use Rattle.format_laws.proofs.Laws.{field-between, field-parts, many-length}
use Rattle.asm.proofs.Said.{untyped_said, object_said, interrupt_said, capability_said, table_said, frame_said, content_said, promise_said}

pub untyped-lists : (k : ℕ) (u : UntypedEntry) → k < 2 ^ 32 → untyped_format.fits u ≡ true → Lists (untyped_said (k, u)) (untyped_line (k, u))
unfolding untyped_format
untyped-lists k u small is =
    let a = and_parts _ _ is in
    untyped k u small (field-parts anything u.offset a.0).0 (field-parts (between 4 24) u.bits a.1).1

pub object-parts : (version untypeds least : ℕ) (o : ObjectEntry) → (object_format version untypeds least).fits o ≡ true
    → (least ≤ o.untyped) × (o.untyped < untypeds) × (between 1 8 o.kind ≡ true) × (o.size < 2 ^ 32) × (size_fits o.kind o.size ≡ true)
unfolding object_format
object-parts version untypeds least o is =
    let a = and_parts _ _ is in
    let b = and_parts _ _ a.1 in
    let untyped = and_parts _ _ (field-parts (λ n. nat_le least n && nat_lt n untypeds) o.untyped a.0).1 in
    let size = field-parts (size_fits_in version o.kind) o.size b.1 in
    let fits = (and_parts (size_fits o.kind o.size) _ size.1).0 in
    (leb-true least o.untyped untyped.0, ltb-true o.untyped untypeds untyped.1, (field-parts (between 1 8) o.kind b.0).1, size.0, fits)

pub object-lists : (version untypeds least k : ℕ) (o : ObjectEntry) → untypeds ≤ 2 ^ 32 → k < 2 ^ 32 → (object_format version untypeds least).fits o ≡ true
    → Lists (object_said (k, o)) (object_line (k, o))
object-lists version untypeds least k o few small is =
    let p = object-parts version untypeds least o is in
    let inside = p.1 in
    object k o small (omega (arith, few, inside)) p.2 p.3 p.4

pub interrupt-parts : (objects least : ℕ) (i : InterruptEntry) → (interrupt_format objects least).fits i ≡ true
    → (least ≤ i.line) × (i.line ≤ 63) × (i.notification < objects) × (nat_lt i.badge (2 ^ 28) ≡ true)
unfolding interrupt_format
interrupt-parts objects least i is =
    let a = and_parts _ _ is in
    let b = and_parts _ _ a.1 in
    let line = field-between least 63 i.line a.0 in
    (line.0, line.1, ltb-true i.notification objects (field-parts (below objects) i.notification b.0).1, (field-parts (below (2 ^ 28)) i.badge b.1).1)

line-fits : (n : ℕ) → n ≤ 63 → between 0 63 n ≡ true
line-fits n h = grind (arith, nat_tests)

pub interrupt-lists : (objects least k : ℕ) (i : InterruptEntry) → objects ≤ 2 ^ 32 → k < 2 ^ 32 → (interrupt_format objects least).fits i ≡ true
    → Lists (interrupt_said (k, i)) (interrupt_line (k, i))
interrupt-lists objects least k i few small is =
    let p = interrupt-parts objects least i is in
    let inside = p.2 in
    interrupt k i small (line-fits i.line p.1) (omega (arith, few, inside)) p.3

pub capability-parts : (objects interrupts least : ℕ) (c : CapabilityEntry) → (capability_format objects interrupts least).fits c ≡ true
    → (least ≤ pair_key c.cnode c.index) × (c.cnode < objects) × (c.index < 2 ^ 32) × (c.source < objects + interrupts) × (c.rights < 2 ^ 32)
    × (c.payload < 2 ^ 32)
unfolding capability_format
capability-parts objects interrupts least c is =
    let a = and_parts _ _ is in
    let b = and_parts _ _ a.1 in
    let d = and_parts _ _ b.1 in
    let e = and_parts _ _ d.1 in
    let index = field-parts (λ index. nat_le least (pair_key c.cnode index)) c.index b.0 in (
      leb-true least (pair_key c.cnode c.index) index.1,
      ltb-true c.cnode objects (field-parts (below objects) c.cnode a.0).1,
      index.0,
      ltb-true c.source (objects + interrupts) (field-parts (below (objects + interrupts)) c.source d.0).1,
      (field-parts anything c.rights e.0).0,
      (field-parts anything c.payload e.1).0,
    )

pub capability-lists : (i : Image) (objects interrupts least : ℕ) (c : CapabilityEntry) → objects ≤ 2 ^ 16 → interrupts ≤ 2 ^ 16
    → (capability_format objects interrupts least).fits c ≡ true → Lists (capability_said i c) (capability_line i c)
capability-lists i objects interrupts least c few less is =
    let p = capability-parts objects interrupts least c is in
    let inside = p.1 in
    let source = p.3 in
    capability i c (omega (arith, few, inside)) p.2 (omega (arith, few, less, source)) p.4 p.5

pub table-parts : (objects least : ℕ) (t : TableEntry) → (table_format objects least).fits t ≡ true
    → (least ≤ pair_key t.root t.address) × (t.root < objects) × (t.address < 2 ^ 32) × (t.table < objects)
unfolding table_format
table-parts objects least t is =
    let a = and_parts _ _ is in
    let b = and_parts _ _ a.1 in
    let address = field-parts (λ address. nat_le least (pair_key t.root address)) t.address b.0 in (
      leb-true least (pair_key t.root t.address) address.1,
      ltb-true t.root objects (field-parts (below objects) t.root a.0).1,
      address.0,
      ltb-true t.table objects (field-parts (below objects) t.table b.1).1,
    )

pub table-lists : (objects least : ℕ) (t : TableEntry) → objects ≤ 2 ^ 32 → (table_format objects least).fits t ≡ true → Lists (table_said t) (table_line t)
table-lists objects least t few is =
    let p = table-parts objects least t is in
    let root = p.1 in
    let under = p.3 in
    table t (omega (arith, few, root)) p.2 (omega (arith, few, under))

pub frame-parts : (objects least : ℕ) (f : FrameEntry) → (frame_format objects least).fits f ≡ true
    → (least ≤ pair_key f.root f.address) × (f.root < objects) × (f.address < 2 ^ 32) × (f.frame < objects) × (between 0 7 f.rights ≡ true)
unfolding frame_format
frame-parts objects least f is =
    let a = and_parts _ _ is in
    let b = and_parts _ _ a.1 in
    let d = and_parts _ _ b.1 in
    let address = field-parts (λ address. nat_le least (pair_key f.root address)) f.address b.0 in (
      leb-true least (pair_key f.root f.address) address.1,
      ltb-true f.root objects (field-parts (below objects) f.root a.0).1,
      address.0,
      ltb-true f.frame objects (field-parts (below objects) f.frame d.0).1,
      (field-parts (between 0 7) f.rights d.1).1,
    )

pub frame-lists : (objects least : ℕ) (f : FrameEntry) → objects ≤ 2 ^ 32 → (frame_format objects least).fits f ≡ true → Lists (frame_said f) (frame_line f)
frame-lists objects least f few is =
    let p = frame-parts objects least f is in
    let root = p.1 in
    let under = p.3 in
    frame f (omega (arith, few, root)) p.2 (omega (arith, few, under)) p.4

-- ---- contents

pub words-fit : (least count : ℕ) (ns : List ℕ) → many_fit (λ _. field anything) (λ _. 0) least count ns ≡ true → AllByRecursion IsWord ns
unfolding many_fit
words-fit least zero [] is = tt
words-fit least zero (n ∷ ns) is = absurd (let clash : false ≡ true = is in cc)
words-fit least (suc k) [] is = tt
words-fit least (suc k) (n ∷ ns) is =
    let both = and_parts ((field anything).fits n) (many_fit (λ _. field anything) (λ _. 0) 0 k ns) is in
    ((field-parts anything n both.0).0, words-fit 0 k ns both.1)

pub record ContentFits (objects least : ℕ) (c : ImageContent) : Type 0 where
  pub behind : least ≤ c.header.frame
  pub frame : c.header.frame < objects
  pub some : 0 < length c.words
  pub short : length c.words ≤ 1024
  pub long : length c.words ≡ c.header.words
  pub words : AllByRecursion IsWord c.words

pub content-parts : (objects least : ℕ) (c : ImageContent) → (content_format objects least).fits c ≡ true → ContentFits objects least c
unfolding content_format
content-parts objects least c is =
    let a = and_parts _ _ is in
    let b = and_parts _ _ a.1 in
    let frame = and_parts _ _ (field-parts (λ n. nat_le least n && nat_lt n objects) c.header.frame a.0).1 in
    let count = field-between 1 1024 c.header.words b.0 in
    let long = many-length (λ _. field anything) (λ _. 0) 0 c.header.words c.words b.1 in
    let low = count.0 in
    let high = count.1 in
    record {
      behind = leb-true least c.header.frame frame.0;
      frame = ltb-true c.header.frame objects frame.1;
      some = omega (arith, low, long);
      short = omega (arith, high, long);
      long = long;
      words = words-fit 0 c.header.words c.words b.1;
    }

pub content-lists : (objects least : ℕ) (c : ImageContent) → objects ≤ 2 ^ 32 → (content_format objects least).fits c ≡ true →
    Lists (content_said c) (content_line c)
content-lists objects least c few is =
    let p = content-parts objects least c is in
    let inside = p.frame in
    content c (omega (arith, few, inside)) p.some p.words

-- ---- promises

promised-word : (word : PromisedWord) → promised_word_format.fits word ≡ true → IsPromisedWord word
unfolding promised_word_format
promised-word word is =
    let a = and_parts _ _ is in
    let high = field-parts (nat_le word.low) word.high a.1 in
    ((field-parts anything word.low a.0).0, high.0, high.1)

promised-fit : (least count : ℕ) (words : List PromisedWord) → many_fit (λ _. promised_word_format) (λ _. 0) least count words ≡ true
    → AllByRecursion IsPromisedWord words
unfolding many_fit
promised-fit least zero [] is = tt
promised-fit least zero (word ∷ words) is = absurd (let clash : false ≡ true = is in cc)
promised-fit least (suc k) [] is = tt
promised-fit least (suc k) (word ∷ words) is =
    let both = and_parts (promised_word_format.fits word) (many_fit (λ _. promised_word_format) (λ _. 0) 0 k words) is in
    (promised-word word both.0, promised-fit 0 k words both.1)

pub record PromiseLineFits (objects least : ℕ) (p : ImagePromise) : Type 0 where
  pub behind : least ≤ p.header.endpoint
  pub endpoint : p.header.endpoint < objects
  pub rises : nat_le p.header.badge_low p.header.badge_high ≡ true
  pub small : nat_lt p.header.badge_high (2 ^ 28) ≡ true
  pub few : length p.words ≤ 8
  pub long : length p.words ≡ p.header.words
  pub words : AllByRecursion IsPromisedWord p.words

pub promise-parts : (objects least : ℕ) (p : ImagePromise) → (promise_format objects least).fits p ≡ true → PromiseLineFits objects least p
unfolding promise_format
promise-parts objects least p is =
    let a = and_parts _ _ is in
    let b = and_parts _ _ a.1 in
    let c = and_parts _ _ b.1 in
    let d = and_parts _ _ c.1 in
    let endpoint = and_parts _ _ (field-parts (λ n. nat_le least n && nat_lt n objects) p.header.endpoint a.0).1 in
    let high = and_parts _ _ (field-parts (λ n. nat_le p.header.badge_low n && nat_lt n (2 ^ 28)) p.header.badge_high c.0).1 in
    let count = (field-between 0 8 p.header.words d.0).1 in
    let long = many-length (λ _. promised_word_format) (λ _. 0) 0 p.header.words p.words d.1 in
    record {
      behind = leb-true least p.header.endpoint endpoint.0;
      endpoint = ltb-true p.header.endpoint objects endpoint.1;
      rises = high.0;
      small = high.1;
      few = rw long count;
      long = long;
      words = promised-fit 0 p.header.words p.words d.1;
    }

pub promise-lists : (objects least : ℕ) (p : ImagePromise) → objects ≤ 2 ^ 32 → (promise_format objects least).fits p ≡ true →
    Lists (promise_said p) (promise_line p)
promise-lists objects least p few is =
    let parts = promise-parts objects least p is in
    let inside = parts.endpoint in
    promise p (omega (arith, few, inside)) parts.rises parts.small parts.words
