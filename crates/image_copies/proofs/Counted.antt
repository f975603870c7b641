-- In an image that fits its format counts are lengths, those of threads, records and promises too.
use Rattle.std.proofs.Common.{ℕ, zero, suc, ◌≡◌, ◌∙◌, ◌+◌, true, false, List, [], ◌∷◌, All, get_or, length, sym, ap, arith}
use Rattle.std.proofs.lemmas.Bool.{and_parts}
use Rattle.std.proofs.lemmas.List.Elements.{All-cons}
use Rattle.format_laws.proofs.Laws.{is-fitting, many-length}
use Rattle.std.proofs.lemmas.Option.{slice_get-get_or}
use Rattle.image_copies.specs.Counts.{HasPromiseCount, HasRecordCounts, HasThreadCounts}
use Rattle.image_reading.specs.Sections.{HasCounts}
use Rattle.model.specs.declared.entries.ThreadHeader.{ThreadHeader}
use Rattle.model.specs.Images.Format.{Format, field, many_fit}
use Rattle.model.specs.Images.Image.{Image, ImageContent, ImagePromise, StateRecord, Thread, anything, image_with, pair_key, range_format, ranges_format}
use Rattle.model.specs.Images.Image.{record_format, records_format, register_format, registers_format, sections_format, slot_format, slots_format}
use Rattle.model.specs.Images.Image.{term_format, terms_format, thread_format, whole_image, words_format}

-- what each entry is that fits
many-all : {A : Type 0} (format : ℕ → Format A) (next : A → ℕ) (P : A → Type 0) → ((l : ℕ) (x : A) → (format l).fits x ≡ true → P x)
    → (least count : ℕ) (xs : List A) → many_fit format next least count xs ≡ true → All P xs
unfolding many_fit
many-all format next P gives least count [] is = λ k d lt. absurd (omega (arith, lt))
many-all format next P gives least zero (x ∷ xs) is = absurd (let clash : false ≡ true = is in cc)
many-all format next P gives least (suc n) (x ∷ xs) is =
    let parts = and_parts ((format least).fits x) (many_fit format next (next x) n xs) is in
    All-cons P x xs (gives least x parts.0) (many-all format next P gives (next x) n xs parts.1)

record-counts : (objects words least : ℕ) (r : StateRecord) → (record_format (slots_format objects) words least).fits r ≡ true → HasRecordCounts r
unfolding record_format ranges_format terms_format
record-counts objects words least r is =
    let a = and_parts _ _ is in
    let b = and_parts _ _ a.1 in
    let c = and_parts _ _ b.1 in
    record {
      ranges = many-length range_format (λ e. e.register + 1) 1 r.header.ranges r.ranges b.0;
      slots = many-length (slot_format objects) (λ e. pair_key e.cnode e.index + 1) 0 r.header.slots r.slots c.0;
      terms = many-length term_format (λ e. e.register + 1) 1 r.header.terms r.terms c.1;
    }

thread-counts : (version objects least : ℕ) (t : Thread) → (thread_format (slots_format objects) version objects).fits t ≡ true → HasThreadCounts t
unfolding thread_format registers_format words_format records_format
thread-counts version objects least t is =
    let a = and_parts _ _ is in
    let b = and_parts _ _ a.1 in
    let c = and_parts _ _ b.1 in
    let each = record_format (slots_format objects) t.header.words in
    record {
      registers = many-length register_format (λ e. e.register + 1) 1 t.header.registers t.registers b.0;
      words = many-length (λ _. field anything) (λ _. 0) 0 t.header.words t.words c.0;
      records = many-length each (λ r. r.header.point + 1) 0 t.header.records t.records c.1;
      each = many-all each (λ r. r.header.point + 1) HasRecordCounts (record-counts objects t.header.words) 0 t.header.records t.records c.1;
    }

module _ (image : Image) (fits : whole_image.fits image ≡ true) where
  pub threads-counted : All HasThreadCounts image.threads
  unfolding image_with sections_format
  threads-counted =
      let whole = and_parts _ _ fits in
      let h = image.header in
      many-all (λ _. thread_format (slots_format h.objects) h.version h.objects) (λ _. 0) HasThreadCounts (thread-counts h.version h.objects) 0 h.threads
      image.threads whole.1

  pub promises-counted : All HasPromiseCount image.promises
  promises-counted = λ k d lt. ((is-fitting image fits).promise k (get_or image.promises k d) (slice_get-get_or image.promises k d lt)).count

-- images whose counts are lengths are the same where their lists and the shape of the machine are
pub same-image : (i j : Image) → HasCounts i → HasCounts j → i.header.version ≡ j.header.version → i.header.memory_bits ≡ j.header.memory_bits
    → i.header.boot_radix ≡ j.header.boot_radix → i.untypeds ≡ j.untypeds → i.objects ≡ j.objects → i.capabilities ≡ j.capabilities
    → i.interrupts ≡ j.interrupts → i.tables ≡ j.tables → i.frames ≡ j.frames → i.contents ≡ j.contents → i.promises ≡ j.promises → i.threads ≡ j.threads
    → i ≡ j
same-image i j a b version bits radix untypeds objects capabilities interrupts tables frames contents promises threads =
    let untyped_count = sym a.untypeds ∙ ap length untypeds ∙ b.untypeds in
    let object_count = sym a.objects ∙ ap length objects ∙ b.objects in
    let capability_count = sym a.capabilities ∙ ap length capabilities ∙ b.capabilities in
    let interrupt_count = sym a.interrupts ∙ ap length interrupts ∙ b.interrupts in
    let table_count = sym a.tables ∙ ap length tables ∙ b.tables in
    let frame_count = sym a.frames ∙ ap length frames ∙ b.frames in
    let content_count = sym a.contents ∙ ap length contents ∙ b.contents in
    let promise_count = sym a.promises ∙ ap length promises ∙ b.promises in
    let thread_count = sym a.threads ∙ ap length threads ∙ b.threads in
    λ k. record {
      header = record {
        version = version k;
        memory_bits = bits k;
        boot_radix = radix k;
        untypeds = untyped_count k;
        objects = object_count k;
        capabilities = capability_count k;
        interrupts = interrupt_count k;
        tables = table_count k;
        frames = frame_count k;
        contents = content_count k;
        promises = promise_count k;
        threads = thread_count k;
      };
      untypeds = untypeds k;
      objects = objects k;
      capabilities = capabilities k;
      interrupts = interrupts k;
      tables = tables k;
      frames = frames k;
      contents = contents k;
      promises = promises k;
      threads = threads k;
    }

-- the same of what has lists of its own
pub same-content : (made c : ImageContent) → made.header.frame ≡ c.header.frame → made.words ≡ c.words → length made.words ≡ made.header.words
    → length c.words ≡ c.header.words → made ≡ c
same-content made c frame words one two =
    let count = sym one ∙ ap length words ∙ two in
    λ k. record { header = record { frame = frame k; words = count k }; words = words k }

pub same-promise : (made p : ImagePromise) → made.header.endpoint ≡ p.header.endpoint → made.header.badge_low ≡ p.header.badge_low
    → made.header.badge_high ≡ p.header.badge_high → made.words ≡ p.words → HasPromiseCount made → HasPromiseCount p → made ≡ p
same-promise made p endpoint low high words one two =
    let count = sym one ∙ ap length words ∙ two in
    λ k. record { header = record { endpoint = endpoint k; badge_low = low k; badge_high = high k; words = count k }; words = words k }

pub same-record : (made r : StateRecord) → made.header.point ≡ r.header.point → made.header.constant ≡ r.header.constant → made.ranges ≡ r.ranges
    → made.slots ≡ r.slots → made.terms ≡ r.terms → HasRecordCounts made → HasRecordCounts r → made ≡ r
same-record made r point constant ranges slots terms one two =
    let range_count = sym one.ranges ∙ ap length ranges ∙ two.ranges in
    let slot_count = sym one.slots ∙ ap length slots ∙ two.slots in
    let term_count = sym one.terms ∙ ap length terms ∙ two.terms in
    λ k. record {
      header = record { point = point k; ranges = range_count k; slots = slot_count k; terms = term_count k; constant = constant k };
      ranges = ranges k;
      slots = slots k;
      terms = terms k;
    }

-- of a thread the fixed part but for its counts, and the lists
pub same-thread : (made t : Thread) (h : ThreadHeader) → h ≡ t.header
    → made.header ≡ record h { registers = made.header.registers; words = made.header.words; records = made.header.records }
    → made.registers ≡ t.registers → made.words ≡ t.words → made.records ≡ t.records → length made.registers ≡ made.header.registers
    → length made.words ≡ made.header.words → length made.records ≡ made.header.records → HasThreadCounts t → made ≡ t
same-thread made t h head rest registers words records one two three counts =
    let register_count = sym one ∙ ap length registers ∙ counts.registers in
    let word_count = sym two ∙ ap length words ∙ counts.words in
    let record_count = sym three ∙ ap length records ∙ counts.records in
    let header : made.header ≡ t.header = rest ∙ (λ k. record (head k) { registers = register_count k; words = word_count k; records = record_count k }) in
    λ k. record { header = header k; registers = registers k; words = words k; records = records k }
