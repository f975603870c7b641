-- The lines of listings, and what each says.
use Rattle.std.specs.Prelude.{◌≡◌, ℕ, ◌^◌, ◌<◌, ◌≤◌, true, None, ◌&&◌, ◌||◌, nat_lt, nat_le, codes, decimal, [], ◌∷◌, map, flat_map, length, min, ◌-◌}
use Rattle.std.specs.List.{AllByRecursion}
use Rattle.std.specs.Prelude.{◌==◌, if◌then◌else◌}
use Rattle.asm_line.specs.declared.lines.Parent.{Parent}
use Rattle.asm_line.specs.declared.lines.Parent.TheVariants as parent
use Rattle.std.specs.Int.{w32}
use Rattle.model.specs.declared.capabilities.Cap.{Cap}
use Rattle.model.specs.declared.entries.UntypedEntry.{UntypedEntry}
use Rattle.model.specs.declared.entries.ObjectEntry.{ObjectEntry}
use Rattle.model.specs.declared.entries.CapabilityEntry.{CapabilityEntry}
use Rattle.model.specs.declared.entries.InterruptEntry.{InterruptEntry}
use Rattle.model.specs.declared.entries.TableEntry.{TableEntry}
use Rattle.model.specs.declared.entries.FrameEntry.{FrameEntry}
use Rattle.model.specs.declared.entries.PromisedWord.{PromisedWord}
use Rattle.model.specs.declared.entries.RegisterEntry.{RegisterEntry}
use Rattle.model.specs.declared.entries.RangeEntry.{RangeEntry}
use Rattle.model.specs.declared.entries.SlotEntry.{SlotEntry}
use Rattle.model.specs.declared.entries.TermEntry.{TermEntry}
use Rattle.model.specs.Capabilities.CapabilityWords.{IsCapability, words_of}
use Rattle.model.specs.Images.Format.{fits_signed}
use Rattle.model.specs.Images.Image.{Image, Thread, ImageContent, ImagePromise, StateRecord, between, size_fits, not_zero, is_constant, no_parent, names_parent}
use Rattle.model.specs.Images.Listing.{Text, line, untyped_name, object_name, interrupt_name, source_name, term_words, memory_line, untyped_line, object_line}
use Rattle.model.specs.Images.Listing.{interrupt_line, capability_line, table_line, frame_line, content_line, promise_line, promised_words, thread_line}
use Rattle.model.specs.Images.Listing.{register_line}
use Rattle.model.specs.Images.Listing.{range_line, measure_line, slot_line}
use Rattle.asm_line.specs.declared.lines.Line.{Line}
use Rattle.asm_line.specs.declared.lines.Line.TheVariants as said
use Rattle.asm_line.specs.declared.lines.Code.TheVariants as code

-- a word of 32 bits
abbrev pub IsWord : ℕ → Type 0
IsWord n = n < 2 ^ 32

abbrev pub IsTerm : TermEntry → Type 0
IsTerm t = (between 1 31 t.register ≡ true) × (fits_signed w32 t.coefficient ≡ true) × (not_zero t.coefficient ≡ true)

abbrev pub IsPromisedWord : PromisedWord → Type 0
IsPromisedWord w = IsWord w.low × IsWord w.high × (nat_le w.low w.high ≡ true)

abbrev pub parent_said : SlotEntry → Parent
parent_said e = if e.parent_cnode == no_parent then parent.Boot else parent.Slot (object_name e.parent_cnode) e.parent_index

-- a text is the line that listings have for this
pub data Lists : Line → Text → Type 0 where
  memory : (i : Image) → between 16 24 i.header.memory_bits ≡ true → between 1 (min 14 (i.header.memory_bits - 5)) i.header.boot_radix ≡ true
      → Lists (said.Memory i.header.memory_bits i.header.boot_radix) (memory_line i)
  untyped : (number : ℕ) (e : UntypedEntry) → IsWord number → IsWord e.offset → between 4 24 e.bits ≡ true
      → Lists (said.Untyped (untyped_name number) e) (untyped_line (number, e))
  object : (number : ℕ) (e : ObjectEntry) → IsWord number → IsWord e.untyped → between 1 8 e.kind ≡ true → IsWord e.size → size_fits e.kind e.size ≡ true
      → Lists (said.Object (object_name number) (untyped_name e.untyped) e.kind e.size) (object_line (number, e))
  interrupt : (number : ℕ) (e : InterruptEntry) → IsWord number → between 0 63 e.line ≡ true → IsWord e.notification → nat_lt e.badge (2 ^ 28) ≡ true
      → Lists (said.Interrupt (interrupt_name number) e.line (object_name e.notification) e.badge) (interrupt_line (number, e))
  capability : (i : Image) (e : CapabilityEntry) → IsWord e.cnode → IsWord e.index → IsWord e.source → IsWord e.rights → IsWord e.payload
      → Lists (said.Capability (object_name e.cnode) e.index (source_name i e.source) e.rights e.payload) (capability_line i e)
  table : (e : TableEntry) → IsWord e.root → IsWord e.address → IsWord e.table
      → Lists (said.Table (object_name e.root) e.address (object_name e.table)) (table_line e)
  frame : (e : FrameEntry) → IsWord e.root → IsWord e.address → IsWord e.frame → between 0 7 e.rights ≡ true
      → Lists (said.Frame (object_name e.root) e.address (object_name e.frame) e.rights) (frame_line e)
  content : (c : ImageContent) → IsWord c.header.frame → 0 < length c.words → AllByRecursion IsWord c.words
      → Lists (said.Content (object_name c.header.frame) (map decimal c.words)) (content_line c)
  promise : (p : ImagePromise) → IsWord p.header.endpoint → nat_le p.header.badge_low p.header.badge_high ≡ true
      → nat_lt p.header.badge_high (2 ^ 28) ≡ true → AllByRecursion IsPromisedWord p.words
      → Lists (said.Promise (object_name p.header.endpoint) p.header.badge_low p.header.badge_high (flat_map promised_words p.words)) (promise_line p)
  thread : (t : Thread) → IsWord t.header.tcb → IsWord t.header.cnode → IsWord t.header.guard → IsWord t.header.root → between 0 255 t.header.priority ≡ true
      → between 1 (2 ^ 62) t.header.budget ≡ true → IsWord t.header.fault → IsWord t.header.base
      → Lists (said.Thread (record {
        tcb = object_name t.header.tcb;
        cnode = object_name t.header.cnode;
        guard = t.header.guard;
        root =
            object_name t.header.root;
        priority = t.header.priority;
        budget = t.header.budget;
        fault = t.header.fault;
        entry = codes "l";
        base = t.header.base;
      }))
      (thread_line t)
  buffer : (t : Thread) → IsWord t.header.buffer → Lists (said.Buffer (object_name t.header.buffer)) (line (codes "buffer" ∷ object_name t.header.buffer ∷ []))
  measure : (r : StateRecord) → is_constant r.header.constant ≡ true → AllByRecursion IsTerm r.terms
      → Lists (said.Measure r.header.constant (flat_map term_words r.terms)) (measure_line r)
  range : (e : RangeEntry) → between 1 31 e.register ≡ true → IsWord e.low → IsWord e.high →
      (nat_le e.low e.high && (nat_lt 0 e.low || nat_lt e.high (2 ^ 32 - 1))) ≡ true
      → Lists (said.Range e) (range_line e)
  slot : (e : SlotEntry) (c : Cap) → IsWord e.cnode → nat_lt e.index (2 ^ 14) ≡ true → IsWord e.word0 → IsWord e.word1 → IsCapability c →
      e.word0 ∷ e.word1 ∷ [] ≡ words_of c
      → IsWord e.parent_cnode → names_parent ((e.word0 == 0) && (e.word1 == 0)) e.parent_cnode e.parent_index ≡ true
      → Lists (said.Slot (object_name e.cnode) e.index e.word0 e.word1 (parent_said e)) (slot_line e)
  register : (e : RegisterEntry) → between 1 31 e.register ≡ true → nat_lt 0 e.value ≡ true → IsWord e.value → Lists (said.Register e) (register_line e)
  label : Lists (said.Label (codes "l")) (codes "l:")
  word : (number : ℕ) → IsWord number → Lists (said.Code None (code.Word number)) (line (codes "word" ∷ decimal number ∷ []))
  end : Lists said.End (codes "end")
