-- An image is spelled as its entries are, one after the other.
use Rattle.std.proofs.Common.{◌≡◌, ℕ, ◌+◌, List, [], ◌∷◌, ◌++◌, refl, ap, ◌∙◌, append_assoc}
use Rattle.std.specs.Int.{w32, to_le_bytes}
use Rattle.std.specs.List.{flat_map}
use Rattle.model.specs.declared.entries.UntypedEntry.{UntypedEntry}
use Rattle.model.specs.declared.entries.ObjectEntry.{ObjectEntry}
use Rattle.model.specs.declared.entries.CapabilityEntry.{CapabilityEntry}
use Rattle.model.specs.declared.entries.InterruptEntry.{InterruptEntry}
use Rattle.model.specs.declared.entries.TableEntry.{TableEntry}
use Rattle.model.specs.declared.entries.FrameEntry.{FrameEntry}
use Rattle.model.specs.declared.entries.PromisedWord.{PromisedWord}
use Rattle.model.specs.Images.Format.{field, many_spelling}
use Rattle.model.specs.Images.Image.{ImageContent, ImagePromise, StateRecord, Thread, Image, anything, pair_key, header_format, untyped_format, object_format}
use Rattle.model.specs.Images.Image.{capability_format, interrupt_format, table_format, frame_format, content_format, thread_header_format, register_format}
use Rattle.model.specs.Images.Image.{range_format, slot_format, term_format, slots_format, record_header_format, ranges_format, terms_format, record_format}
use Rattle.model.specs.Images.Image.{promise_format, promised_word_format, registers_format, words_format, records_format, thread_format, sections_format}
use Rattle.model.specs.Images.Image.{image_with, whole_image}
use Rattle.image.specs.Spellings.{words_bytes, content_bytes, promise_bytes, record_bytes, thread_bytes, image_bytes}
use Rattle.image.proofs.Lists.{spelled-each}

joined : (a b x y : List ℕ) → a ≡ b → x ≡ y → a ++ x ≡ b ++ y
joined a b x y p q = ap (λ (l : List ℕ). l ++ x) p ∙ ap (λ (l : List ℕ). b ++ l) q

words-law : (words : List ℕ) → many_spelling (λ _. field anything) (λ _. 0) 0 words ≡ words_bytes words
words-law words = spelled-each (λ _. field anything) (λ _. 0) (to_le_bytes w32) (λ k x. refl) 0 words

content-law : (objects least : ℕ) (c : ImageContent) → (content_format objects least).spelling c ≡ content_bytes c
unfolding content_format
content-law objects least c =
    ap (λ (l : List ℕ). to_le_bytes w32 c.header.frame ++ (to_le_bytes w32 c.header.words ++ l)) (words-law c.words)

promised-words-law : (xs : List PromisedWord) → many_spelling (λ _. promised_word_format) (λ _. 0) 0 xs ≡ flat_map promised_word_format.spelling xs
promised-words-law xs = spelled-each (λ _. promised_word_format) (λ _. 0) promised_word_format.spelling (λ k x. refl) 0 xs

promise-law : (objects least : ℕ) (p : ImagePromise) → (promise_format objects least).spelling p ≡ promise_bytes p
unfolding promise_format
promise-law objects least p =
    ap (λ (l : List ℕ). words_bytes (p.header.endpoint ∷ p.header.badge_low ∷ p.header.badge_high ∷ []) ++ (to_le_bytes w32 p.header.words ++ l))
    (promised-words-law p.words)

record-header-law : (objects words least : ℕ) (r : StateRecord) →
    (record_header_format (slots_format objects) words least).spelling r.header ≡ (record_header_format (slots_format 0) 0 0).spelling r.header
unfolding record_header_format
record-header-law objects words least r = refl

ranges-law : (r : StateRecord) → (ranges_format r.header.ranges).spelling r.ranges ≡ flat_map (range_format 0).spelling r.ranges
unfolding ranges_format range_format
ranges-law r = spelled-each range_format (λ e. e.register + 1) (range_format 0).spelling (λ k x. refl) 1 r.ranges

slots-law : (objects : ℕ) (r : StateRecord) → ((slots_format objects).entries r.header.slots).spelling r.slots ≡ flat_map (slot_format 0 0).spelling r.slots
unfolding slot_format
slots-law objects r = spelled-each (slot_format objects) _ (slot_format 0 0).spelling (λ k x. refl) 0 r.slots

terms-law : (r : StateRecord) → (terms_format r.header.terms).spelling r.terms ≡ flat_map (term_format 0).spelling r.terms
unfolding terms_format term_format
terms-law r = spelled-each term_format _ (term_format 0).spelling (λ k x. refl) 1 r.terms

record-law : (objects words least : ℕ) (r : StateRecord) → (record_format (slots_format objects) words least).spelling r ≡ record_bytes r
unfolding record_format
record-law objects words least r =
    joined _ _ _ _ (record-header-law objects words least r) (joined _ _ _ _ (ranges-law r) (joined _ _ _ _ (slots-law objects r) (terms-law r)))

thread-header-law : (version objects : ℕ) (t : Thread) →
    (thread_header_format version objects).spelling t.header ≡ (thread_header_format version 0).spelling t.header
unfolding thread_header_format
thread-header-law version objects t = refl

registers-law : (t : Thread) → (registers_format t.header.registers).spelling t.registers ≡ flat_map (register_format 0).spelling t.registers
unfolding registers_format register_format
registers-law t = spelled-each register_format _ (register_format 0).spelling (λ k x. refl) 1 t.registers

program-law : (t : Thread) → (words_format t.header.words).spelling t.words ≡ words_bytes t.words
unfolding words_format
program-law t = words-law t.words

records-law : (objects : ℕ) (t : Thread) → (records_format (slots_format objects) t.header.words t.header.records).spelling t.records ≡ flat_map record_bytes
    t.records
unfolding records_format
records-law objects t = spelled-each (record_format (slots_format objects) t.header.words) _ record_bytes (record-law objects t.header.words) 0 t.records

thread-law : (version objects : ℕ) (t : Thread) → (thread_format (slots_format objects) version objects).spelling t ≡ thread_bytes version t
unfolding thread_format
thread-law version objects t =
    joined _ _ _ _ (thread-header-law version objects t) (joined _ _ _ _ (registers-law t) (joined _ _ _ _ (program-law t) (records-law objects t)))

untypeds-law : (xs : List UntypedEntry) → many_spelling (λ _. untyped_format) (λ _. 0) 0 xs ≡ flat_map untyped_format.spelling xs
untypeds-law xs = spelled-each (λ _. untyped_format) (λ _. 0) untyped_format.spelling (λ k x. refl) 0 xs

objects-law : (version untypeds : ℕ) (xs : List ObjectEntry)
    → many_spelling (object_format version untypeds) (λ e. e.untyped) 0 xs ≡ flat_map (object_format 0 0 0).spelling xs
unfolding object_format
objects-law version untypeds xs = spelled-each (object_format version untypeds) _ (object_format 0 0 0).spelling (λ k x. refl) 0 xs

capabilities-law : (objects interrupts : ℕ) (xs : List CapabilityEntry) →
    many_spelling (capability_format objects interrupts) (λ e. pair_key e.cnode e.index + 1) 0 xs ≡ flat_map (capability_format 0 0 0).spelling xs
unfolding capability_format
capabilities-law objects interrupts xs = spelled-each (capability_format objects interrupts) _ (capability_format 0 0 0).spelling (λ k x. refl) 0 xs

interrupts-law : (objects : ℕ) (xs : List InterruptEntry) → many_spelling (interrupt_format objects) (λ e. e.line + 1) 0 xs ≡ flat_map
    (interrupt_format 0 0).spelling xs
unfolding interrupt_format
interrupts-law objects xs = spelled-each (interrupt_format objects) _ (interrupt_format 0 0).spelling (λ k x. refl) 0 xs

tables-law : (objects : ℕ) (xs : List TableEntry) → many_spelling (table_format objects) (λ e. pair_key e.root e.address + 1) 0 xs ≡ flat_map
    (table_format 0 0).spelling xs
unfolding table_format
tables-law objects xs = spelled-each (table_format objects) _ (table_format 0 0).spelling (λ k x. refl) 0 xs

frames-law : (objects : ℕ) (xs : List FrameEntry) → many_spelling (frame_format objects) (λ e. pair_key e.root e.address + 1) 0 xs ≡ flat_map
    (frame_format 0 0).spelling xs
unfolding frame_format
frames-law objects xs = spelled-each (frame_format objects) _ (frame_format 0 0).spelling (λ k x. refl) 0 xs

contents-law : (objects : ℕ) (xs : List ImageContent) → many_spelling (content_format objects) (λ c. c.header.frame + 1) 0 xs ≡ flat_map content_bytes xs
contents-law objects xs = spelled-each (content_format objects) _ content_bytes (content-law objects) 0 xs

promises-law : (objects : ℕ) (xs : List ImagePromise) → many_spelling (promise_format objects) (λ p. p.header.endpoint + 1) 0 xs ≡ flat_map promise_bytes xs
promises-law objects xs = spelled-each (promise_format objects) _ promise_bytes (promise-law objects) 0 xs

threads-law : (version objects : ℕ) (xs : List Thread) →
    many_spelling (λ _. thread_format (slots_format objects) version objects) (λ _. 0) 0 xs ≡ flat_map (thread_bytes version) xs
threads-law version objects xs = spelled-each (λ _. thread_format (slots_format objects) version objects) (λ _. 0) (thread_bytes version)
    (λ k. thread-law version objects) 0 xs

-- how the sections are put together is all one
regrouped : (h a b c d e f k p t : List ℕ) →
    (h ++ (a ++ (b ++ (c ++ (d ++ (e ++ (f ++ (k ++ p)))))))) ++ t ≡ h ++ ((a ++ (b ++ (c ++ d))) ++ ((e ++ (f ++ (k ++ p))) ++ t))
regrouped h a b c d e f k p t = simp append_assoc

pub image-law : (i : Image) → whole_image.spelling i ≡ image_bytes i
unfolding image_with sections_format
image-law i =
    let h = i.header in
    joined _ _ _ _
    (ap (λ (l : List ℕ). header_format.spelling h ++ l) (joined _ _ _ _ (untypeds-law i.untypeds) (joined _ _ _ _ (objects-law h.version h.untypeds i.objects)
    (joined _ _ _ _ (capabilities-law h.objects h.interrupts i.capabilities) (joined _ _ _ _ (interrupts-law h.objects i.interrupts)
    (joined _ _ _ _ (tables-law h.objects i.tables) (joined _ _ _ _ (frames-law h.objects i.frames)
    (joined _ _ _ _ (contents-law h.objects i.contents) (promises-law h.objects i.promises)))))))))
    (threads-law h.version h.objects i.threads)
    ∙ regrouped (header_format.spelling h) (flat_map untyped_format.spelling i.untypeds) (flat_map (object_format 0 0 0).spelling i.objects)
    (flat_map (capability_format 0 0 0).spelling i.capabilities) (flat_map (interrupt_format 0 0).spelling i.interrupts)
    (flat_map (table_format 0 0).spelling i.tables) (flat_map (frame_format 0 0).spelling i.frames) (flat_map content_bytes i.contents)
    (flat_map promise_bytes i.promises) (flat_map (thread_bytes h.version) i.threads)
