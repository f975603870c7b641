-- The bytes of an image as lists of entries, one after the other: what the code appends. No limit and no order
-- applies to them, so the limits of each format are 0 here.
use Rattle.std.specs.Prelude.{ℕ, Bool, List, [], ◌∷◌, ◌++◌, if◌then◌else◌}
use Rattle.std.specs.Int.{w32, to_le_bytes}
use Rattle.std.specs.List.{flat_map}
use Rattle.model.specs.Images.Image.{ImageContent, ImagePromise, StateRecord, Thread, Image, header_format, untyped_format, object_format, capability_format}
use Rattle.model.specs.Images.Image.{interrupt_format, table_format, frame_format, thread_header_format, register_format, range_format, slot_format}
use Rattle.model.specs.Images.Image.{term_format, slots_format, promised_word_format, record_header_format}

abbrev pub words_bytes : List ℕ → List ℕ
words_bytes words = flat_map (to_le_bytes w32) words

abbrev pub content_bytes : ImageContent → List ℕ
content_bytes c = to_le_bytes w32 c.header.frame ++ (to_le_bytes w32 c.header.words ++ words_bytes c.words)

-- a number that is there where the test holds
abbrev pub optional_bytes : Bool → ℕ → List ℕ
optional_bytes test n = if test then to_le_bytes w32 n else []

abbrev pub promise_bytes : ImagePromise → List ℕ
promise_bytes p =
    words_bytes (p.header.endpoint ∷ p.header.badge_low ∷ p.header.badge_high ∷ []) ++ (to_le_bytes w32 p.header.words
    ++ flat_map promised_word_format.spelling p.words)

abbrev pub record_bytes : StateRecord → List ℕ
record_bytes r =
    (record_header_format (slots_format 0) 0 0).spelling r.header
    ++ (flat_map (range_format 0).spelling r.ranges ++ (flat_map (slot_format 0 0).spelling r.slots ++ flat_map (term_format 0).spelling r.terms))

-- of a thread of an image of this version
abbrev pub thread_bytes : ℕ → Thread → List ℕ
thread_bytes version t =
    (thread_header_format version 0).spelling t.header
    ++ (flat_map (register_format 0).spelling t.registers ++ (words_bytes t.words ++ flat_map record_bytes t.records))

-- untypeds, objects, capabilities and interrupts
abbrev pub object_bytes : Image → List ℕ
object_bytes i =
    flat_map untyped_format.spelling i.untypeds
    ++ (flat_map (object_format 0 0 0).spelling i.objects
    ++ (flat_map (capability_format 0 0 0).spelling i.capabilities ++ flat_map (interrupt_format 0 0).spelling i.interrupts))

-- tables, frames, what frames begin with, and promises
abbrev pub mapping_bytes : Image → List ℕ
mapping_bytes i =
    flat_map (table_format 0 0).spelling i.tables
    ++ (flat_map (frame_format 0 0).spelling i.frames ++ (flat_map content_bytes i.contents ++ flat_map promise_bytes i.promises))

abbrev pub image_bytes : Image → List ℕ
image_bytes i = header_format.spelling i.header ++ (object_bytes i ++ (mapping_bytes i ++ flat_map (thread_bytes i.header.version) i.threads))
