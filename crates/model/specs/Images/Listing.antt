-- The text of an image: one line for each of its entries, by which it can be built again.
use Rattle.std.specs.Prelude.{ℕ, suc, ◌==◌, ◌||◌, Bool, not, ℤ, pos, negsuc, codes, decimal, List, [], ◌∷◌, ◌++◌, map, flat_map, slice_index, if◌then◌else◌}
use Rattle.std.specs.List.{join_with_byte, list_any, range_with_len}
use Rattle.std.specs.Option.{option_map_or}
use Rattle.model.specs.declared.entries.UntypedEntry.{UntypedEntry}
use Rattle.model.specs.declared.entries.ObjectEntry.{ObjectEntry}
use Rattle.model.specs.declared.entries.CapabilityEntry.{CapabilityEntry}
use Rattle.model.specs.declared.entries.InterruptEntry.{InterruptEntry}
use Rattle.model.specs.declared.entries.PromisedWord.{PromisedWord}
use Rattle.model.specs.declared.entries.TableEntry.{TableEntry}
use Rattle.model.specs.declared.entries.FrameEntry.{FrameEntry}
use Rattle.model.specs.declared.entries.RegisterEntry.{RegisterEntry}
use Rattle.model.specs.declared.entries.RangeEntry.{RangeEntry}
use Rattle.model.specs.declared.entries.SlotEntry.{SlotEntry}
use Rattle.model.specs.declared.entries.TermEntry.{TermEntry}
use Rattle.model.specs.Images.Described.{numbered}
use Rattle.model.specs.Images.Image.{Image, Thread, ImageContent, ImagePromise, StateRecord, is_device_size, no_buffer, no_parent}
use Rattle.model.specs.Acceptance.NotedStates.{record_of}
use Rattle.model.specs.Images.Places.{interrupt_of, is_handler}

-- ---- words

-- a text as its ASCII codes
abbrev pub Text : Type 0
Text = List ℕ

-- words with one space between each two
abbrev pub line : List Text → Text
line words = join_with_byte 32 words

abbrev pub whole_number : ℤ → Text
whole_number (pos n) = decimal n
whole_number (negsuc n) = 45 ∷ decimal (suc n)

abbrev pub untyped_name : ℕ → Text
untyped_name number = 117 ∷ decimal number

abbrev pub object_name : ℕ → Text
object_name number = 111 ∷ decimal number

abbrev pub interrupt_name : ℕ → Text
interrupt_name number = 105 ∷ decimal number

abbrev pub source_name : Image → ℕ → Text
source_name image source =
    if is_handler image source then interrupt_name (interrupt_of image source) else object_name source

abbrev pub register_name : ℕ → Text
register_name number = 120 ∷ decimal number

-- the names of the kinds of objects, by their numbers
abbrev pub kind_name : ℕ → Text
kind_name kind =
    if kind == 1 then codes "untyped" else
    if kind == 2 then codes "tcb" else
    if kind == 3 then codes "endpoint" else
    if kind == 4 then codes "notification" else
    if kind == 5 then codes "cnode" else
    if kind == 6 then codes "frame" else
    if kind == 7 then codes "table" else codes "root"

-- ---- the lines of the sections

abbrev pub memory_line : Image → Text
memory_line image = line (codes "memory" ∷ decimal image.header.memory_bits ∷ decimal image.header.boot_radix ∷ [])

abbrev pub untyped_line : ℕ × UntypedEntry → Text
untyped_line u = line (codes "untyped" ∷ untyped_name u.0 ∷ decimal (u.1).offset ∷ decimal (u.1).bits ∷ [])

-- a size where the kind has one: the bits of untyped memory, the radix of a CNode, and 1 for a device page
abbrev pub size_words : ObjectEntry → List Text
size_words o = if o.kind == 1 || o.kind == 5 || is_device_size o.kind o.size then decimal o.size ∷ [] else []

abbrev pub object_line : ℕ × ObjectEntry → Text
object_line o =
    line (codes "object" ∷ object_name o.0 ∷ untyped_name (o.1).untyped ∷ kind_name (o.1).kind ∷ size_words o.1)

abbrev pub interrupt_line : ℕ × InterruptEntry → Text
interrupt_line i =
    line (codes "irq" ∷ interrupt_name i.0 ∷ decimal (i.1).line ∷ object_name (i.1).notification ∷ decimal (i.1).badge ∷ [])

abbrev pub capability_line : Image → CapabilityEntry → Text
capability_line image c =
    line (codes "cap" ∷ object_name c.cnode ∷ decimal c.index ∷ source_name image c.source ∷ decimal c.rights ∷ decimal c.payload ∷ [])

abbrev pub table_line : TableEntry → Text
table_line t = line (codes "table" ∷ object_name t.root ∷ decimal t.address ∷ object_name t.table ∷ [])

abbrev pub frame_line : FrameEntry → Text
frame_line f = line (codes "map" ∷ object_name f.root ∷ decimal f.address ∷ object_name f.frame ∷ decimal f.rights ∷ [])

abbrev pub content_line : ImageContent → Text
content_line c = line (codes "data" ∷ object_name c.header.frame ∷ map decimal c.words)

-- the lowest and the highest value
abbrev pub promised_words : PromisedWord → List Text
promised_words word = decimal word.low ∷ decimal word.high ∷ []

-- the badges come first
abbrev pub promise_line : ImagePromise → Text
promise_line p =
    line (codes "promise" ∷ object_name p.header.endpoint ∷ decimal p.header.badge_low ∷ decimal p.header.badge_high ∷ flat_map promised_words p.words)

-- ---- the lines of a thread

-- its entry has the label `l`
abbrev pub thread_line : Thread → Text
thread_line t =
    line (codes "thread" ∷ object_name t.header.tcb ∷ object_name t.header.cnode ∷ decimal t.header.guard ∷ object_name t.header.root
    ∷ decimal t.header.priority ∷ decimal t.header.budget ∷ decimal t.header.fault ∷ codes "l" ∷ decimal t.header.base ∷ [])

-- the thread's buffer, if it has one
abbrev pub buffer_lines : Thread → List Text
buffer_lines t = if t.header.buffer == no_buffer then [] else line (codes "buffer" ∷ object_name t.header.buffer ∷ []) ∷ []

abbrev pub register_line : RegisterEntry → Text
register_line r = line (codes "reg" ∷ register_name r.register ∷ decimal r.value ∷ [])

abbrev pub term_words : TermEntry → List Text
term_words t = register_name t.register ∷ whole_number t.coefficient ∷ []

abbrev pub measure_line : StateRecord → Text
measure_line r = line (codes "measure" ∷ whole_number r.header.constant ∷ flat_map term_words r.terms)

abbrev pub range_line : RangeEntry → Text
range_line e = line (codes "range" ∷ register_name e.register ∷ decimal e.low ∷ decimal e.high ∷ [])

-- a parent in the boot CNode is `boot 0`
abbrev pub parent_words : SlotEntry → List Text
parent_words e =
    if e.parent_cnode == no_parent then codes "boot" ∷ decimal 0 ∷ [] else object_name e.parent_cnode ∷ decimal e.parent_index ∷ []

abbrev pub slot_line : SlotEntry → Text
slot_line e =
    line ((codes "slot" ∷ object_name e.cnode ∷ decimal e.index ∷ decimal e.word0 ∷ decimal e.word1 ∷ []) ++ parent_words e)

abbrev pub record_lines : StateRecord → List Text
record_lines r = measure_line r ∷ map range_line r.ranges ++ map slot_line r.slots

abbrev pub label_lines : Thread → ℕ → List Text
label_lines t point = if t.header.entry == point then codes "l:" ∷ [] else []

-- at each point the label if it is the entry, the record, and the word
abbrev pub point_lines : Thread → ℕ → List Text
point_lines t point =
    label_lines t point ++ option_map_or record_lines (record_of t point) []
    ++ line (codes "word" ∷ decimal (slice_index t.words point) ∷ []) ∷ []

abbrev pub thread_lines : Thread → List Text
thread_lines t =
    (thread_line t ∷ buffer_lines t) ++ map register_line t.registers ++ flat_map (point_lines t) (range_with_len 0 t.header.words)
    ++ codes "end" ∷ []

-- ---- the whole

-- the version of an image with such promises and threads: the first that has fields for them; in another version it has no listing
abbrev pub some_buffered : List Thread → Bool
some_buffered threads = list_any (λ t. not (t.header.buffer == no_buffer)) threads

abbrev pub version_promised : List ImagePromise → ℕ
version_promised [] = 1
version_promised (p ∷ promises) = 2

abbrev pub some_device : List ObjectEntry → Bool
some_device objects = list_any (λ o. is_device_size o.kind o.size) objects

abbrev pub version_listed : List ObjectEntry → List ImagePromise → List Thread → ℕ
version_listed objects promises threads = if some_device objects then 4 else if some_buffered threads then 3 else version_promised promises

unfoldable pub listing_lines : Image → List Text
listing_lines image =
    (memory_line image ∷ map untyped_line (numbered image.untypeds)) ++ map object_line (numbered image.objects)
    ++ map interrupt_line (numbered image.interrupts) ++ map (capability_line image) image.capabilities
    ++ map table_line image.tables ++ map frame_line image.frames ++ map content_line image.contents
    ++ map promise_line image.promises ++ flat_map thread_lines image.threads

-- a line feed after each line
unfoldable pub listing : Image → Text
listing image = flat_map (λ text. text ++ 10 ∷ []) (listing_lines image)
