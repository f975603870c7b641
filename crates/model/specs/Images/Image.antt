-- The image: the format of its bytes, field after field. Each field of 4 bytes is unsigned unless said.
use Rattle.std.specs.Prelude.{ℕ, ◌+◌, ◌-◌, ◌*◌, ◌^◌, min, Bool, true, not, ◌&&◌, ◌||◌, nat_lt, nat_le, ◌==◌, if◌then◌else◌, is_some, List, ℤ, pos, negsuc}
use Rattle.std.specs.Int.{w32, w64}
use Rattle.model.specs.declared.refusals.Refusal.TheVariants.{Magic, Version}
use Rattle.model.specs.declared.entries.UntypedEntry.{UntypedEntry}
use Rattle.model.specs.declared.entries.ObjectEntry.{ObjectEntry}
use Rattle.model.specs.declared.entries.CapabilityEntry.{CapabilityEntry}
use Rattle.model.specs.declared.entries.InterruptEntry.{InterruptEntry}
use Rattle.model.specs.declared.entries.TableEntry.{TableEntry}
use Rattle.model.specs.declared.entries.FrameEntry.{FrameEntry}
use Rattle.model.specs.declared.entries.RegisterEntry.{RegisterEntry}
use Rattle.model.specs.declared.entries.RangeEntry.{RangeEntry}
use Rattle.model.specs.declared.entries.SlotEntry.{SlotEntry}
use Rattle.model.specs.declared.entries.TermEntry.{TermEntry}
use Rattle.model.specs.declared.entries.ImageHeader.{ImageHeader}
use Rattle.model.specs.declared.entries.ContentHeader.{ContentHeader}
use Rattle.model.specs.declared.entries.PromiseHeader.{PromiseHeader}
use Rattle.model.specs.declared.entries.PromisedWord.{PromisedWord}
use Rattle.model.specs.declared.entries.ThreadHeader.{ThreadHeader}
use Rattle.model.specs.declared.entries.RecordHeader.{RecordHeader}
use Rattle.model.specs.Capabilities.CapabilityFields.{unpacked}
use Rattle.model.specs.Images.Format.{Format, number_or, number, field, only_if, signed_number, both, named, ordered, many}

-- ---- what an image holds

-- the words that a frame begins with
pub record ImageContent : Type 0 where
  pub header : ContentHeader
  pub words : List ℕ

-- what a certificate says of one point
pub record StateRecord : Type 0 where
  pub header : RecordHeader
  pub ranges : List RangeEntry
  pub slots : List SlotEntry
  pub terms : List TermEntry

pub record Thread : Type 0 where
  pub header : ThreadHeader
  pub registers : List RegisterEntry
  pub words : List ℕ
  pub records : List StateRecord

-- what every message to an endpoint keeps: its badge, and its first words
pub record ImagePromise : Type 0 where
  pub header : PromiseHeader
  pub words : List PromisedWord

pub record Image : Type 0 where
  pub header : ImageHeader
  pub untypeds : List UntypedEntry
  pub objects : List ObjectEntry
  pub capabilities : List CapabilityEntry
  pub interrupts : List InterruptEntry
  pub tables : List TableEntry
  pub frames : List FrameEntry
  pub contents : List ImageContent
  pub promises : List ImagePromise
  pub threads : List Thread

-- ---- tests of a field

abbrev pub anything : ℕ → Bool
anything n = true

abbrev pub below : ℕ → ℕ → Bool
below limit n = nat_lt n limit

abbrev pub between : ℕ → ℕ → ℕ → Bool
between low high n = nat_le low n && nat_le n high

-- a key of two parts, in the order of the first and then of the second
abbrev pub pair_key : ℕ → ℕ → ℕ
pair_key first second = first * 2 ^ 32 + second

-- ---- the header

-- the magic bytes `4d 53 59 53`, as a number
abbrev pub magic : ℕ
magic = 0x5359534d

-- the magic number, and then the header's fields in their order: its version, the machine's shape, and how many entries each section has
abbrev pub HeaderFields : Type 0
HeaderFields = ℕ × (ℕ × (ℕ × (ℕ × (ℕ × (ℕ × (ℕ × (ℕ × (ℕ × (ℕ × (ℕ × (ℕ × ℕ)))))))))))

abbrev pub header_fields : ImageHeader → HeaderFields
header_fields h = (
  magic,
  (
    h.version,
    (
      h.memory_bits,
      (h.boot_radix, (h.untypeds, (h.objects, (h.capabilities, (h.interrupts, (h.tables, (h.frames, (h.contents, (h.promises, h.threads))))))))),
    ),
  ),
)

abbrev pub header_of : HeaderFields → ImageHeader
header_of (
  _,
  (
    version,
    (memory_bits, (boot_radix, (untypeds, (objects, (capabilities, (interrupts, (tables, (frames, (contents, (promises, threads)))))))))),
  ),
) = record {
  version = version;
  memory_bits = memory_bits;
  boot_radix = boot_radix;
  untypeds = untypeds;
  objects = objects;
  capabilities = capabilities;
  interrupts = interrupts;
  tables = tables;
  frames = frames;
  contents = contents;
  promises = promises;
  threads = threads;
}

-- the latest version of image files that is read
abbrev pub latest_version : ℕ
latest_version = 4

-- the versions whose images have promises, whose threads have buffers, and whose frames may be device pages
abbrev pub has_promises : ℕ → Bool
has_promises version = nat_le 2 version

abbrev pub has_buffers : ℕ → Bool
has_buffers version = nat_le 3 version

abbrev pub has_devices : ℕ → Bool
has_devices version = nat_le 4 version

unfoldable pub header_format : Format ImageHeader
header_format =
    named header_of header_fields
    (both (number_or (λ _. Magic) w32 (λ n. n == magic)) (λ _.
    both (number_or (λ _. Version) w32 (between 1 latest_version)) (λ version.
    both (field (between 16 24)) (λ memory_bits.
    both (field (between 1 (min 14 (memory_bits - 5)))) (λ _.
    both (field (between 1 64)) (λ _.
    both (field (between 0 4096)) (λ _.
    both (field (between 0 16384)) (λ _.
    both (field (between 0 64)) (λ _.
    both (field (between 0 1024)) (λ _.
    both (field (between 0 4096)) (λ _.
    both (field (between 0 4096)) (λ _.
    both (only_if (has_promises version) 0 (field (between 0 4096))) (λ _.
    field (between 1 64))))))))))))))

-- ---- the sections

unfoldable pub untyped_format : Format UntypedEntry
untyped_format =
    named (λ (offset, bits). record { offset = offset; bits = bits }) (λ e. (e.offset, e.bits))
    (both (field anything) (λ _. field (between 4 24)))

-- a frame of this size is a device page
abbrev pub is_device_size : ℕ → ℕ → Bool
is_device_size kind size = kind == 6 && size == 1

-- the size of an object of this type
abbrev pub size_fits : ℕ → ℕ → Bool
size_fits kind size =
    (kind == 1 && between 4 24 size) || (kind == 5 && between 1 14 size) || (nat_lt 1 kind && size == 0 && (nat_lt kind 5 || nat_lt 5 kind))
    || is_device_size kind size

-- the same in an image of this version
abbrev pub size_fits_in : ℕ → ℕ → ℕ → Bool
size_fits_in version kind size = size_fits kind size && (has_devices version || not (is_device_size kind size))

-- the untyped's number never falls
unfoldable pub object_format : ℕ → ℕ → ℕ → Format ObjectEntry
object_format version untypeds least =
    named (λ (untyped, (kind, size)). record { untyped = untyped; kind = kind; size = size }) (λ e. (e.untyped, (e.kind, e.size)))
    (both (field (λ n. nat_le least n && nat_lt n untypeds)) (λ _.
    both (field (between 1 8)) (λ kind.
    field (size_fits_in version kind))))

-- the CNode and the index rise together
unfoldable pub capability_format : ℕ → ℕ → ℕ → Format CapabilityEntry
capability_format objects interrupts least =
    named (λ (cnode, (index, (source, (rights, payload)))). record { cnode = cnode; index = index; source = source; rights = rights; payload = payload })
    (λ e. (e.cnode, (e.index, (e.source, (e.rights, e.payload)))))
    (both (field (below objects)) (λ cnode.
    both (field (λ index. nat_le least (pair_key cnode index))) (λ _.
    both (field (below (objects + interrupts))) (λ _.
    both (field anything) (λ _.
    field anything)))))

unfoldable pub interrupt_format : ℕ → ℕ → Format InterruptEntry
interrupt_format objects least =
    named (λ (line, (notification, badge)). record { line = line; notification = notification; badge = badge }) (λ e. (e.line, (e.notification, e.badge)))
    (both (field (between least 63)) (λ _.
    both (field (below objects)) (λ _.
    field (below (2 ^ 28)))))

unfoldable pub table_format : ℕ → ℕ → Format TableEntry
table_format objects least =
    named (λ (root, (address, table)). record { root = root; address = address; table = table }) (λ e. (e.root, (e.address, e.table)))
    (both (field (below objects)) (λ root.
    both (field (λ address. nat_le least (pair_key root address))) (λ _.
    field (below objects))))

unfoldable pub frame_format : ℕ → ℕ → Format FrameEntry
frame_format objects least =
    named (λ (root, (address, (frame, rights))). record { root = root; address = address; frame = frame; rights = rights })
    (λ e. (e.root, (e.address, (e.frame, e.rights))))
    (both (field (below objects)) (λ root.
    both (field (λ address. nat_le least (pair_key root address))) (λ _.
    both (field (below objects)) (λ _.
    field (between 0 7)))))

unfoldable pub content_format : ℕ → ℕ → Format ImageContent
content_format objects least =
    named (λ (frame, (count, words)). record { header = record { frame = frame; words = count }; words = words })
    (λ c. (c.header.frame, (c.header.words, c.words)))
    (both (field (λ frame. nat_le least frame && nat_lt frame objects)) (λ _.
    both (field (between 1 1024)) (λ count.
    many count (field anything))))

-- a promised word's range
unfoldable pub promised_word_format : Format PromisedWord
promised_word_format =
    named (λ (low, high). record { low = low; high = high }) (λ w. (w.low, w.high))
    (both (field anything) (λ low. field (nat_le low)))

-- the endpoints rise; a badge has 28 bits
unfoldable pub promise_format : ℕ → ℕ → Format ImagePromise
promise_format objects least =
    named (λ (endpoint, (low, (high, (count, words)))). record {
      header = record { endpoint = endpoint; badge_low = low; badge_high = high; words = count };
      words = words;
    })
    (λ p. (p.header.endpoint, (p.header.badge_low, (p.header.badge_high, (p.header.words, p.words)))))
    (both (field (λ endpoint. nat_le least endpoint && nat_lt endpoint objects)) (λ _.
    both (field anything) (λ low.
    both (field (λ high. nat_le low high && nat_lt high (2 ^ 28))) (λ _.
    both (field (between 0 8)) (λ count.
    many count promised_word_format)))))

-- ---- threads

-- the fields of a thread's header in their order
abbrev pub ThreadFields : Type 0
ThreadFields = ℕ × (ℕ × (ℕ × (ℕ × (ℕ × (ℕ × (ℕ × (ℕ × (ℕ × (ℕ × (ℕ × (ℕ × ℕ)))))))))))

abbrev pub thread_fields : ThreadHeader → ThreadFields
thread_fields h = (
  h.tcb,
  (h.cnode, (h.guard, (h.root, (h.priority, (h.budget, (h.fault, (h.buffer, (h.entry, (h.base, (h.registers, (h.words, h.records))))))))))),
)

abbrev pub thread_header_of : ThreadFields → ThreadHeader
thread_header_of (tcb, (cnode, (guard, (root, (priority, (budget, (fault, (buffer, (entry, (base, (registers, (words, records)))))))))))) = record {
  tcb = tcb;
  cnode = cnode;
  guard = guard;
  root = root;
  priority = priority;
  budget = budget;
  fault = fault;
  buffer = buffer;
  entry = entry;
  base = base;
  registers = registers;
  words = words;
  records = records;
}

-- an object, or the number for none
abbrev pub no_buffer : ℕ
no_buffer = 2 ^ 32 - 1

unfoldable pub thread_header_format : ℕ → ℕ → Format ThreadHeader
thread_header_format version objects =
    named thread_header_of thread_fields
    (both (field (below objects)) (λ _.
    both (field (below objects)) (λ _.
    both (field anything) (λ _.
    both (field (below objects)) (λ _.
    both (field (between 0 255)) (λ _.
    both (number w64 (between 1 (2 ^ 62))) (λ _.
    both (field anything) (λ _.
    both (only_if (has_buffers version) no_buffer (field (λ n. nat_lt n objects || n == no_buffer))) (λ _.
    both (field anything) (λ _.
    both (field anything) (λ _.
    both (field (between 0 31)) (λ _.
    both (field (between 1 65536)) (λ words.
    field (between 0 words))))))))))))))

-- a register, 1 to 31, not below the least, and its value, not 0
unfoldable pub register_format : ℕ → Format RegisterEntry
register_format least =
    named (λ (register, value). record { register = register; value = value }) (λ e. (e.register, e.value))
    (both (field (between least 31)) (λ _. field (nat_lt 0)))

-- a register and its range, which is not the full one
unfoldable pub range_format : ℕ → Format RangeEntry
range_format least =
    named (λ (register, (low, high)). record { register = register; low = low; high = high }) (λ e. (e.register, (e.low, e.high)))
    (both (field (between least 31)) (λ _.
    both (field anything) (λ low.
    field (λ high. nat_le low high && (nat_lt 0 low || nat_lt high (2 ^ 32 - 1))))))

abbrev pub not_zero : ℤ → Bool
not_zero (pos n) = nat_lt 0 n
not_zero (negsuc n) = true

-- a register and its coefficient, not 0
unfoldable pub term_format : ℕ → Format TermEntry
term_format least =
    named (λ (register, coefficient). record { register = register; coefficient = coefficient }) (λ e. (e.register, e.coefficient))
    (both (field (between least 31)) (λ _. signed_number w32 not_zero))

-- a constant of a measure, from -2^62 to 2^62
abbrev pub is_constant : ℤ → Bool
is_constant (pos n) = nat_le n (2 ^ 62)
is_constant (negsuc n) = nat_lt n (2 ^ 62)

-- How many slots a record notes, and their format.
pub record SlotFormat : Type 0 where
  pub count : Format ℕ
  pub entries : ℕ → Format (List SlotEntry)

-- the value for no object and for no index: the parent is in the boot CNode
abbrev pub no_parent : ℕ
no_parent = 2 ^ 32 - 1

-- whether the number and the index that name a parent go together: both, or neither; an empty slot has no parent
abbrev pub names_parent : Bool → ℕ → ℕ → Bool
names_parent is_empty parent index =
    if parent == no_parent then index == no_parent else not is_empty && nat_lt index (2 ^ 14)

-- A slot of a CNode: its key, the two words of what it holds, and the key of its parent.
unfoldable pub slot_format : ℕ → ℕ → Format SlotEntry
slot_format objects least =
    named (λ (cnode, (index, (word0, (word1, (parent_cnode, parent_index))))).
    record { cnode = cnode; index = index; word0 = word0; word1 = word1; parent_cnode = parent_cnode; parent_index = parent_index })
    (λ e. (e.cnode, (e.index, (e.word0, (e.word1, (e.parent_cnode, e.parent_index))))))
    (both (field (below objects)) (λ cnode.
    both (field (λ index. nat_le least (pair_key cnode index) && nat_lt index (2 ^ 14))) (λ _.
    both (field anything) (λ word0.
    both (field (λ word1. is_some (unpacked word0 word1))) (λ word1.
    both (field (λ parent. nat_lt parent objects || (parent == no_parent))) (λ parent.
    field (names_parent ((word0 == 0) && (word1 == 0)) parent)))))))

-- up to 256 slots, the CNode and the index rising together
abbrev pub slots_format : ℕ → SlotFormat
slots_format objects = record {
  count = field (between 0 256);
  entries = λ count. ordered 0 (slot_format objects) (λ e. pair_key e.cnode e.index + 1) count;
}

-- points rise strictly and lie below the number of words
unfoldable pub record_header_format : SlotFormat → ℕ → ℕ → Format RecordHeader
record_header_format slots words least =
    named (λ (point, (ranges, (slots, (terms, constant)))). record { point = point; ranges = ranges; slots = slots; terms = terms; constant = constant })
    (λ h. (h.point, (h.ranges, (h.slots, (h.terms, h.constant)))))
    (both (field (λ point. nat_le least point && nat_lt point words)) (λ _.
    both (field (between 0 31)) (λ _.
    both slots.count (λ _.
    both (field (between 0 4)) (λ _.
    signed_number w64 is_constant)))))

unfoldable pub ranges_format : ℕ → Format (List RangeEntry)
ranges_format count = ordered 1 range_format (λ e. e.register + 1) count

unfoldable pub terms_format : ℕ → Format (List TermEntry)
terms_format count = ordered 1 term_format (λ e. e.register + 1) count

unfoldable pub record_format : SlotFormat → ℕ → ℕ → Format StateRecord
record_format slots words least =
    named (λ (header, (ranges, (slots, terms))). record { header = header; ranges = ranges; slots = slots; terms = terms })
    (λ r. (r.header, (r.ranges, (r.slots, r.terms))))
    (both (record_header_format slots words least) (λ header.
    both (ranges_format header.ranges) (λ _.
    both (slots.entries header.slots) (λ _.
    terms_format header.terms))))

unfoldable pub registers_format : ℕ → Format (List RegisterEntry)
registers_format count = ordered 1 register_format (λ e. e.register + 1) count

unfoldable pub words_format : ℕ → Format (List ℕ)
words_format count = many count (field anything)

unfoldable pub records_format : SlotFormat → ℕ → ℕ → Format (List StateRecord)
records_format slots words count = ordered 0 (record_format slots words) (λ r. r.header.point + 1) count

unfoldable pub thread_format : SlotFormat → ℕ → ℕ → Format Thread
thread_format slots version objects =
    named (λ (header, (registers, (words, records))). record { header = header; registers = registers; words = words; records = records })
    (λ t. (t.header, (t.registers, (t.words, t.records))))
    (both (thread_header_format version objects) (λ header.
    both (registers_format header.registers) (λ _.
    both (words_format header.words) (λ _.
    records_format slots header.words header.records))))

-- ---- the whole

-- the sections before the threads, as one value
abbrev pub Sections : Type 0
Sections = ImageHeader
    × (List UntypedEntry × (List ObjectEntry
    × (List CapabilityEntry × (List InterruptEntry × (List TableEntry × (List FrameEntry × (List ImageContent × List ImagePromise)))))))

abbrev pub sections_of : Image → Sections
sections_of i = (i.header, (i.untypeds, (i.objects, (i.capabilities, (i.interrupts, (i.tables, (i.frames, (i.contents, i.promises))))))))

unfoldable pub sections_format : Format Sections
sections_format =
    both header_format (λ header.
    both (many header.untypeds untyped_format) (λ _.
    both (ordered 0 (object_format header.version header.untypeds) (λ e. e.untyped) header.objects) (λ _.
    both (ordered 0 (capability_format header.objects header.interrupts) (λ e. pair_key e.cnode e.index + 1) header.capabilities) (λ _.
    both (ordered 0 (interrupt_format header.objects) (λ e. e.line + 1) header.interrupts) (λ _.
    both (ordered 0 (table_format header.objects) (λ e. pair_key e.root e.address + 1) header.tables) (λ _.
    both (ordered 0 (frame_format header.objects) (λ e. pair_key e.root e.address + 1) header.frames) (λ _.
    both (ordered 0 (content_format header.objects) (λ c. c.header.frame + 1) header.contents) (λ _.
    ordered 0 (promise_format header.objects) (λ p. p.header.endpoint + 1) header.promises))))))))

-- the image of these sections and threads
abbrev pub image_of : Sections × List Thread → Image
image_of ((header, (untypeds, (objects, (capabilities, (interrupts, (tables, (frames, (contents, promises)))))))), threads) = record {
  header = header;
  untypeds = untypeds;
  objects = objects;
  capabilities = capabilities;
  interrupts = interrupts;
  tables = tables;
  frames = frames;
  contents = contents;
  promises = promises;
  threads = threads;
}

-- the format where the slots that a record notes depend on the number of objects
unfoldable pub image_with : (ℕ → SlotFormat) → Format Image
image_with slots =
    named image_of (λ i. (sections_of i, i.threads))
    (both sections_format (λ (header, _). many header.threads (thread_format (slots header.objects) header.version header.objects)))

-- what all image files are: one image has one spelling
abbrev pub whole_image : Format Image
whole_image = image_with slots_format
