-- What the lines of an image's listing say.
use Rattle.std.specs.Prelude.{ℕ, None, codes, decimal, List, [], ◌∷◌, ◌++◌, map, flat_map, slice_index, if◌then◌else◌, ◌==◌}
use Rattle.std.specs.List.{range_with_len}
use Rattle.std.specs.Option.{option_map_or}
use Rattle.model.specs.declared.entries.UntypedEntry.{UntypedEntry}
use Rattle.model.specs.declared.entries.ObjectEntry.{ObjectEntry}
use Rattle.model.specs.declared.entries.CapabilityEntry.{CapabilityEntry}
use Rattle.model.specs.declared.entries.InterruptEntry.{InterruptEntry}
use Rattle.model.specs.declared.entries.TableEntry.{TableEntry}
use Rattle.model.specs.declared.entries.FrameEntry.{FrameEntry}
use Rattle.model.specs.declared.entries.SlotEntry.{SlotEntry}
use Rattle.model.specs.Acceptance.NotedStates.{record_of}
use Rattle.model.specs.Images.Described.{numbered}
use Rattle.model.specs.Images.Image.{Image, Thread, ImageContent, ImagePromise, StateRecord, no_buffer}
use Rattle.model.specs.Images.Listing.{untyped_name, object_name, interrupt_name, promised_words, source_name, term_words}
use Rattle.asm_line.specs.declared.lines.Line.{Line}
use Rattle.asm_line.specs.declared.lines.Line.TheVariants as line
use Rattle.asm_line.specs.declared.lines.ThreadLine.{ThreadLine}
use Rattle.asm_line.specs.declared.lines.Code.TheVariants as code
use Rattle.asm_line.specs.Listed.{parent_said}

-- ---- the sections

abbrev pub memory_said : Image → Line
memory_said image = line.Memory image.header.memory_bits image.header.boot_radix

abbrev pub untyped_said : ℕ × UntypedEntry → Line
untyped_said u = line.Untyped (untyped_name u.0) u.1

abbrev pub object_said : ℕ × ObjectEntry → Line
object_said o = line.Object (object_name o.0) (untyped_name (o.1).untyped) (o.1).kind (o.1).size

abbrev pub interrupt_said : ℕ × InterruptEntry → Line
interrupt_said i = line.Interrupt (interrupt_name i.0) (i.1).line (object_name (i.1).notification) (i.1).badge

abbrev pub capability_said : Image → CapabilityEntry → Line
capability_said image c = line.Capability (object_name c.cnode) c.index (source_name image c.source) c.rights c.payload

abbrev pub table_said : TableEntry → Line
table_said t = line.Table (object_name t.root) t.address (object_name t.table)

abbrev pub frame_said : FrameEntry → Line
frame_said f = line.Frame (object_name f.root) f.address (object_name f.frame) f.rights

abbrev pub content_said : ImageContent → Line
content_said c = line.Content (object_name c.header.frame) (map decimal c.words)

abbrev pub promise_said : ImagePromise → Line
promise_said p = line.Promise (object_name p.header.endpoint) p.header.badge_low p.header.badge_high (flat_map promised_words p.words)

-- ---- threads

abbrev pub thread_line_said : Thread → ThreadLine
thread_line_said t = record {
  tcb = object_name t.header.tcb;
  cnode = object_name t.header.cnode;
  guard = t.header.guard;
  root = object_name t.header.root;
  priority = t.header.priority;
  budget = t.header.budget;
  fault = t.header.fault;
  entry = codes "l";
  base = t.header.base;
}

abbrev pub buffer_said : Thread → List Line
buffer_said t = if t.header.buffer == no_buffer then [] else line.Buffer (object_name t.header.buffer) ∷ []

abbrev pub slot_said : SlotEntry → Line
slot_said e = line.Slot (object_name e.cnode) e.index e.word0 e.word1 (parent_said e)

abbrev pub measure_said : StateRecord → Line
measure_said r = line.Measure r.header.constant (flat_map term_words r.terms)

abbrev pub record_said : StateRecord → List Line
record_said r = measure_said r ∷ map line.Range r.ranges ++ map slot_said r.slots

abbrev pub label_said : Thread → ℕ → List Line
label_said t point = if t.header.entry == point then line.Label (codes "l") ∷ [] else []

abbrev pub point_said : Thread → ℕ → List Line
point_said t point =
    label_said t point ++ option_map_or record_said (record_of t point) [] ++ line.Code None (code.Word (slice_index t.words point)) ∷ []

abbrev pub thread_said : Thread → List Line
thread_said t =
    ((line.Thread (thread_line_said t) ∷ buffer_said t) ++ map line.Register t.registers) ++ flat_map (point_said t) (range_with_len 0 t.header.words)
    ++ line.End ∷ []

-- ---- the whole

unfoldable pub listed_lines : Image → List Line
listed_lines image =
    (memory_said image ∷ map untyped_said (numbered image.untypeds)) ++ map object_said (numbered image.objects)
    ++ map interrupt_said (numbered image.interrupts) ++ map (capability_said image) image.capabilities
    ++ map table_said image.tables ++ map frame_said image.frames ++ map content_said image.contents
    ++ map promise_said image.promises ++ flat_map thread_said image.threads
