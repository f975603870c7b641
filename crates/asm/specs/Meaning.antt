-- What a text means: the image that its lines make one by one, or the first line at fault and how. A fault is 1 for a
-- line that is none of the text form or out of its place, 2 for an unknown name, 3 for a name that is there already,
-- and 4 for a number, an order or a count. On one line the place comes first, then its names from left to right, and
-- then order, doubles and counts (docs/MANUAL.md, "The text of an image").
use Rattle.std.specs.Prelude.{ℕ, ◌==◌, ◌&&◌, Bool, true, false, not, if◌then◌else◌, ℤ, pos, negsuc, ◌-ℤ◌, ◌*ℤ◌, List, [], ◌∷◌, ◌++◌, length, map, max, nat_lt}
use Rattle.std.specs.Prelude.{nat_le, int_le, int_lt, is_some, Option, Some, None, Result, Ok, Err}
use Rattle.std.specs.Option.{option_map_or}
use Rattle.std.specs.Str.Lines.{lines}
use Rattle.model.specs.declared.entries.FrameEntry.{FrameEntry}
use Rattle.model.specs.declared.entries.InterruptEntry.{InterruptEntry}
use Rattle.model.specs.declared.entries.PromisedWord.{PromisedWord}
use Rattle.model.specs.declared.entries.RangeEntry.{RangeEntry}
use Rattle.model.specs.declared.entries.RegisterEntry.{RegisterEntry}
use Rattle.model.specs.declared.entries.SlotEntry.{SlotEntry}
use Rattle.model.specs.declared.entries.TableEntry.{TableEntry}
use Rattle.model.specs.declared.entries.TermEntry.{TermEntry}
use Rattle.model.specs.declared.instructions.BranchOp.{BranchOp}
use Rattle.model.specs.declared.instructions.Register.{Register}
use Rattle.model.specs.declared.instructions.Instr.TheVariants.{Jal, Branch}
use Rattle.model.specs.Images.Image.{Image, ImageContent, ImagePromise, StateRecord, no_parent, pair_key, whole_image, no_buffer}
use Rattle.model.specs.Images.Listing.{Text}
use Rattle.model.specs.Machine.Instructions.{bits, word_of}
use Rattle.asm_line.specs.declared.lines.Line.{Line}
use Rattle.asm_line.specs.declared.lines.Line.TheVariants as line
use Rattle.asm_line.specs.declared.lines.ThreadLine.{ThreadLine}
use Rattle.asm_line.specs.declared.lines.Parent.{Parent}
use Rattle.asm_line.specs.declared.lines.Parent.TheVariants as parent
use Rattle.asm_line.specs.declared.lines.Code.{Code}
use Rattle.asm_line.specs.declared.lines.Code.TheVariants as code
use Rattle.asm_line.specs.Words.{◌>>=◌, number_of as number_in, words_of}
use Rattle.asm_line.specs.Lines.{term_of, word}
use Rattle.asm_line.specs.Parsing.{before_comment, label_declared}
use Rattle.asm_line.specs.Instructions.{spelling}
use Rattle.asm_line.specs.Meaning.{line_said}
use Rattle.asm.specs.declared.assembly.Memory.{Memory}
use Rattle.asm.specs.declared.declarations.Capability.{Capability}
use Rattle.asm.specs.Drafts.{Draft, nothing_read, assembled}
use Rattle.asm.specs.Keys.{has_room, must, sorted_with}
use Rattle.asm.specs.Labels.{FoundLabels, Searched, closed, in_open, is_first_on, next_number, nothing_searched, place_named, searched_line, with_label}
use Rattle.asm.specs.Names.{KnownNames, free, number_known, source_known, with_interrupt_name}
use Rattle.asm.specs.Reading.{labels_at}
use Rattle.asm.specs.Sections.{Declared, entry_of, is_in_order, promise_with, promised_values, with_object, with_untyped}
use Rattle.asm.specs.Threads.{OpenDraft, with_word}

-- ---- lines outside threads

-- the numbers that words say; on a line each of them says one
abbrev pub values_of : List Text → List ℕ
values_of [] = []
values_of (said ∷ others) = elim (number_in said >>= λ number. word number) [ Ok value ↦ value ∷ values_of others | Err e ↦ [] ]

-- no more than a frame has
unfoldable pub words_said : List Text → Result (List ℕ) ℕ
words_said words = must (nat_le (length (values_of words)) 1024) 4 >>= λ short. Ok (values_of words)

abbrev pub content_with : ℕ → List ℕ → ImageContent
content_with frame words = record { header = record { frame = frame; words = length words }; words = words }

-- no more than a message has
unfoldable pub promised_said : List Text → Result (List PromisedWord) ℕ
promised_said words = must (nat_le (length (promised_values words)) 8) 4 >>= λ few. Ok (promised_values words)

-- what a slot, a page or a frame holds, and what is promised at an endpoint
unfoldable pub placed_with : Declared → Line → Result Declared ℕ
placed_with d (line.Capability cnode index source rights payload) = do
  number ← number_known d.names.objects cnode
  made_from ← source_known d.names source
  capabilities ← sorted_with (λ (e : Capability). pair_key e.cnode e.index) 16384
      (record { cnode = number; index = index; source = made_from; rights = rights; payload = payload }) d.capabilities
  Ok (record d { capabilities = capabilities })
placed_with d (line.Table root address table) = do
  number ← number_known d.names.objects root
  other ← number_known d.names.objects table
  tables ← sorted_with (λ (e : TableEntry). pair_key e.root e.address) 1024 (record { root = number; address = address; table = other }) d.tables
  Ok (record d { tables = tables })
placed_with d (line.Frame root address frame rights) = do
  number ← number_known d.names.objects root
  other ← number_known d.names.objects frame
  frames ← sorted_with (λ (e : FrameEntry). pair_key e.root e.address) 4096 (record { root = number; address = address; frame = other; rights = rights })
      d.frames
  Ok (record d { frames = frames })
placed_with d (line.Content frame words) = do
  number ← number_known d.names.objects frame
  values ← words_said words
  contents ← sorted_with (λ (c : ImageContent). c.header.frame) 4096 (content_with number values) d.contents
  Ok (record d { contents = contents })
placed_with d (line.Promise endpoint low high words) = do
  number ← number_known d.names.objects endpoint
  ranges ← promised_said words
  promises ← sorted_with (λ (p : ImagePromise). p.header.endpoint) 4096 (promise_with number low high ranges) d.promises
  Ok (record d { promises = promises })
placed_with d _ = Err 1

unfoldable pub declared_with : Declared → Line → Result Declared ℕ
declared_with d (line.Untyped name entry) = do
  unused ← free d.names name
  room ← has_room 64 d.untypeds
  Ok (with_untyped d name entry)
declared_with d (line.Object name untyped kind size) = do
  unused ← free d.names name
  number ← number_known d.names.untypeds untyped
  order ← must (is_in_order number d.objects) 4
  room ← has_room 4096 d.objects
  Ok (with_object d name (record { untyped = number; kind = kind; size = size }))
declared_with d (line.Interrupt name number notification badge) = do
  unused ← free d.names name
  known ← number_known d.names.objects notification
  interrupts ← sorted_with (λ (e : InterruptEntry). e.line) 64 (record { line = number; notification = known; badge = badge }) d.interrupts
  Ok (record d { names = with_interrupt_name d.names name number; interrupts = interrupts })
declared_with d said = placed_with d said

-- ---- the first line of a thread

-- the point that a label of the thread names
unfoldable pub point_known : FoundLabels → Text → Result ℕ ℕ
point_known labels name = elim (place_named labels name) [ Some place ↦ Ok place.point | None ↦ Err 2 ]

unfoldable pub thread_begins : FoundLabels → KnownNames → ThreadLine → Result OpenDraft ℕ
thread_begins labels names said = do
  tcb ← number_known names.objects said.tcb
  cnode ← number_known names.objects said.cnode
  root ← number_known names.objects said.root
  entry ← point_known labels said.entry
  Ok (record {
    thread = record {
      header = record {
        tcb = tcb;
        cnode = cnode;
        guard = said.guard;
        root = root;
        priority = said.priority;
        budget = said.budget;
        fault = said.fault;
        buffer = no_buffer;
        entry = entry;
        base = said.base;
        registers = 0;
        words = 0;
        records = 0;
      };
      registers = [];
      words = [];
      records = [];
    };
    next = None;
  })

unfoldable pub thread_opened : Draft → OpenDraft → Result Draft ℕ
thread_opened d begun = has_room 64 d.threads >>= λ room. Ok (record d { open_thread = Some begun })

abbrev pub with_declared : Draft → Result Declared ℕ → Result Draft ℕ
with_declared d meant = meant >>= λ declared. Ok (record d { declared = declared })

unfoldable pub outside : FoundLabels → Draft → Line → Result Draft ℕ
outside labels d (line.Thread said) = do
  begun ← thread_begins labels d.declared.names said
  thread_opened d begun
outside labels d said = with_declared d (declared_with d.declared said)

-- ---- lines of a thread

-- a buffer is given once
unfoldable pub buffered_with : KnownNames → OpenDraft → Text → Result OpenDraft ℕ
buffered_with names o name = do
  frame ← number_known names.objects name
  single ← must (o.thread.header.buffer == no_buffer) 4
  Ok (record o { thread = record o.thread { header = record o.thread.header { buffer = frame } } })

unfoldable pub with_registers : OpenDraft → RegisterEntry → Result OpenDraft ℕ
with_registers o entry = do
  registers ← sorted_with (λ (e : RegisterEntry). e.register) 31 entry o.thread.registers
  Ok (record o { thread = record o.thread { header = record o.thread.header { registers = length registers }; registers = registers } })

-- the terms that words say; on a line each two of them say one
abbrev pub terms_said : List Text → List TermEntry
terms_said [] = []
terms_said (name ∷ []) = []
terms_said (name ∷ factor ∷ others) = elim (term_of name factor) [ Ok term ↦ term ∷ terms_said others | Err e ↦ [] ]

-- terms in the order of their registers
abbrev pub sorted_terms : List TermEntry → List TermEntry → Result (List TermEntry) ℕ
sorted_terms sorted [] = Ok sorted
sorted_terms sorted (term ∷ others) = sorted_with (λ (t : TermEntry). t.register) 4 term sorted >>= λ more. sorted_terms more others

-- the record that `measure` begins
abbrev pub record_with : ℕ → ℤ → List TermEntry → StateRecord
record_with point constant terms = record {
  header = record { point = point; ranges = 0; slots = 0; terms = length terms; constant = constant };
  ranges = [];
  slots = [];
  terms = terms;
}

unfoldable pub record_said : ℕ → ℤ → List Text → Result StateRecord ℕ
record_said point constant words = sorted_terms [] (terms_said words) >>= λ terms. Ok (record_with point constant terms)

unfoldable pub measured_with : OpenDraft → ℤ → List Text → Result OpenDraft ℕ
measured_with o constant words = do
  fresh ← must (not (is_some o.next)) 4
  begun ← record_said (length o.thread.words) constant words
  Ok (record o { next = Some begun })

-- a change of the record of the next instruction, which `measure` has begun
abbrev pub noting : (StateRecord → Result StateRecord ℕ) → OpenDraft → Result OpenDraft ℕ
noting change o = elim o.next [ Some noted ↦ (change noted >>= λ changed. Ok (record o { next = Some changed })) | None ↦ Err 1 ]

unfoldable pub ranges_with : RangeEntry → StateRecord → Result StateRecord ℕ
ranges_with entry noted = do
  ranges ← sorted_with (λ (e : RangeEntry). e.register) 31 entry noted.ranges
  Ok (record noted { header = record noted.header { ranges = length ranges }; ranges = ranges })

-- the CNode and the index of a parent, as an image has them
unfoldable pub parent_known : KnownNames → Parent → Result (ℕ × ℕ) ℕ
parent_known names parent.Boot = Ok (no_parent, no_parent)
parent_known names (parent.Slot cnode index) = number_known names.objects cnode >>= λ number. Ok (number, index)

unfoldable pub slots_with : KnownNames → Text → ℕ → ℕ → ℕ → Parent → StateRecord → Result StateRecord ℕ
slots_with names cnode index word0 word1 parent noted = do
  number ← number_known names.objects cnode
  from ← parent_known names parent
  slots ← sorted_with (λ (e : SlotEntry). pair_key e.cnode e.index) 256
      (record { cnode = number; index = index; word0 = word0; word1 = word1; parent_cnode = from.0; parent_index = from.1 }) noted.slots
  Ok (record noted { header = record noted.header { slots = length slots }; slots = slots })

-- ---- words

abbrev pub is_register : Register → Bool
is_register register = nat_lt register.0 32

-- offsets of branches and jumps are even, and within these
abbrev pub is_offset : ℤ → ℤ → ℤ → Bool
is_offset least greatest offset = int_le least offset && int_le offset greatest && (bits (word_of offset) 0 1 == 0)

-- an instruction that has a word: its registers and its offset have their places there
abbrev pub jump_word : Register → ℤ → Result ℕ ℕ
jump_word rd offset =
    if is_register rd && is_offset (negsuc 1048575) (pos 1048574) offset then Ok (spelling (Jal rd offset)) else Err 4

abbrev pub branch_word : BranchOp → Register → Register → ℤ → Result ℕ ℕ
branch_word op rs1 rs2 offset =
    if is_register rs1 && is_register rs2 && is_offset (negsuc 4095) (pos 4094) offset then Ok (spelling (Branch op rs1 rs2 offset)) else Err 4

-- how far it is from one point to another, in bytes: no instruction reaches farther than 1 MiB
abbrev pub bytes_between : ℕ → ℕ → ℤ
bytes_between from to = (pos to -ℤ pos from) *ℤ pos 4

abbrev pub is_near : ℤ → Bool
is_near bytes = int_le (negsuc 1048575) bytes && int_lt bytes (pos 1048576)

unfoldable pub offset_between : ℕ → ℕ → Result ℤ ℕ
offset_between from to = if is_near (bytes_between from to) then Ok (bytes_between from to) else Err 4

-- the word at a point of a program
unfoldable pub word_at : FoundLabels → ℕ → Code → Result ℕ ℕ
word_at labels point (code.Word said) = Ok said
word_at labels point (code.Jump rd target) = do
  to ← point_known labels target
  offset ← offset_between point to
  jump_word rd offset
word_at labels point (code.Branch op rs1 rs2 target) = do
  to ← point_known labels target
  offset ← offset_between point to
  branch_word op rs1 rs2 offset

unfoldable pub word_added : OpenDraft → ℕ → Result OpenDraft ℕ
word_added o value = has_room 65536 o.thread.words >>= λ room. Ok (with_word o value)

unfoldable pub coded_with : FoundLabels → OpenDraft → Code → Result OpenDraft ℕ
coded_with labels o said = word_at labels (length o.thread.words) said >>= λ value. word_added o value

-- ---- all lines of a thread

-- a label is declared once in its thread
abbrev pub first_on : FoundLabels → Text → ℕ → Result (Unit {0}) ℕ
first_on labels name number = must (is_first_on labels name number) 3

abbrev pub label_first_on : FoundLabels → Option Text → ℕ → Result (Unit {0}) ℕ
label_first_on labels None number = Ok tt
label_first_on labels (Some name) number = first_on labels name number

-- a word of the program, with a label before it or none
abbrev pub labelled_with : FoundLabels → ℕ → OpenDraft → Option Text → Code → Result OpenDraft ℕ
labelled_with labels number o label said = label_first_on labels label number >>= λ single. coded_with labels o said

-- a line that is not the last one
unfoldable pub inside : FoundLabels → ℕ → KnownNames → OpenDraft → Line → Result OpenDraft ℕ
inside labels number names o (line.Buffer frame) = buffered_with names o frame
inside labels number names o (line.Register entry) = with_registers o entry
inside labels number names o (line.Measure constant terms) = measured_with o constant terms
inside labels number names o (line.Range entry) = noting (ranges_with entry) o
inside labels number names o (line.Slot cnode index word0 word1 parent) = noting (slots_with names cnode index word0 word1 parent) o
inside labels number names o (line.Label name) = first_on labels name number >>= λ single. Ok o
inside labels number names o (line.Code label said) = labelled_with labels number o label said
inside labels number names o _ = Err 1

-- the line `end`: a measure has its instruction, and there is one
unfoldable pub may_end : OpenDraft → Result (Unit {0}) ℕ
may_end o = must (not (is_some o.next)) 1 >>= λ done. must (nat_lt 0 (length o.thread.words)) 4

unfoldable pub ended : Draft → OpenDraft → Result Draft ℕ
ended d o = may_end o >>= λ done. Ok (record d { threads = d.threads ++ o.thread ∷ []; open_thread = None })

abbrev pub is_end : Line → Bool
is_end line.End = true
is_end _ = false

abbrev pub in_thread : FoundLabels → ℕ → Draft → OpenDraft → Line → Result Draft ℕ
in_thread labels number d o said =
    if is_end said then ended d o else (inside labels number d.declared.names o said >>= λ more. Ok (record d { open_thread = Some more }))

-- ---- any line

-- the first that says anything
unfoldable pub first_line : Draft → Line → Result Draft ℕ
first_line d (line.Memory bits radix) = Ok (record d { memory = Some (record { bits = bits; boot_radix = radix }) })
first_line d _ = Err 1

-- after the first
abbrev pub other_line : FoundLabels → ℕ → Draft → Line → Result Draft ℕ
other_line labels number d said = elim d.open_thread [ Some o ↦ in_thread labels number d o said | None ↦ outside labels d said ]

abbrev pub is_blank : Line → Bool
is_blank line.Blank = true
is_blank _ = false

abbrev pub full_line : List FoundLabels → ℕ → Draft → Line → Result Draft ℕ
full_line labels number d said =
    elim d.memory [ Some memory ↦ other_line (labels_at labels (length d.threads)) number d said | None ↦ first_line d said ]

unfoldable pub read_line : List FoundLabels → ℕ → Draft → Line → Result Draft ℕ
read_line labels number d said = if is_blank said then Ok d else full_line labels number d said

-- the last line may leave no thread open
abbrev pub is_thread : Line → Bool
is_thread (line.Thread said) = true
is_thread _ = false

abbrev pub leaves_open : Draft → Line → Bool
leaves_open d said = if is_some d.open_thread then not (is_end said) else is_thread said

unfoldable pub add_line : List FoundLabels → ℕ → Bool → Draft → Line → Result Draft ℕ
add_line labels number is_last d said = must (not (is_last && leaves_open d said)) 1 >>= λ closed. read_line labels number d said

-- ---- labels: those of each thread are on the lines from its line `thread` up to its line `end`

-- a line that is at fault otherwise declares the label with which it begins
abbrev pub label_at_fault : Text → Option Text
label_at_fault text = label_declared (words_of (before_comment text))

unfoldable pub searched_text : Searched → ℕ → Text → Searched
searched_text s number text = elim (line_said text) [
  | Ok said ↦ searched_line s number said
  | Err fault ↦ option_map_or (λ name. in_open (λ labels. with_label labels name number) s) (label_at_fault text) s
]

abbrev pub searched_texts : ℕ → Searched → List Text → Searched
searched_texts number s [] = s
searched_texts number s (text ∷ others) = searched_texts (next_number number) (searched_text s (next_number number) text) others

abbrev pub labels_of : List Text → List FoundLabels
labels_of texts = (closed (searched_texts 0 nothing_searched texts)).threads

-- ---- the text

abbrev pub on_line : {A : Type 0} → ℕ → Result A ℕ → Result A (ℕ × ℕ)
on_line number (Ok x) = Ok x
on_line number (Err kind) = Err (number, kind)

abbrev pub and_then : {A B E : Type 0} → Result A E → (A → Result B E) → Result B E
and_then (Ok x) f = f x
and_then (Err e) f = Err e

abbrev pub is_nil : {A : Type 0} → List A → Bool
is_nil [] = true
is_nil (x ∷ xs) = false

-- what one line makes of a draft, with the line's number
unfoldable pub text_read : List FoundLabels → ℕ → Bool → Draft → Text → Result Draft ℕ
text_read labels number is_last d text = line_said text >>= λ said. add_line labels number is_last d said

-- the same of a line that is there or not
abbrev pub waiting_read : List FoundLabels → ℕ → Bool → Draft → Option Text → Result Draft ℕ
waiting_read labels number is_last d None = Ok d
waiting_read labels number is_last d (Some text) = text_read labels number is_last d text

-- the number of the last line, and the draft after it
abbrev pub all_read : List FoundLabels → ℕ → Draft → List Text → Result (ℕ × Draft) (ℕ × ℕ)
all_read labels number d [] = Ok (number, d)
all_read labels number d (text ∷ others) =
    and_then (on_line (next_number number) (text_read labels (next_number number) (is_nil others) d text))
    (λ more. all_read labels (next_number number) more others)

-- after the last line: an image of the format
abbrev pub image_of : Memory → Draft → Image
image_of memory d = assembled memory d.declared (map (entry_of d.declared) d.declared.capabilities) d.threads

abbrev pub fitting : Image → Result Image ℕ
fitting image = if whole_image.fits image then Ok image else Err 4

-- what the first line says, if there is one and each thread has its line `end`
unfoldable pub memory_known : Draft → Result Memory ℕ
memory_known d = elim d.memory [ Some memory ↦ (must (not (is_some d.open_thread)) 1 >>= λ closed. Ok memory) | None ↦ Err 1 ]

unfoldable pub finished : Draft → Result Image ℕ
finished d = memory_known d >>= λ memory. fitting (image_of memory d)

unfoldable pub text_means : Text → Result Image (ℕ × ℕ)
text_means text = and_then (all_read (labels_of (lines text)) 0 nothing_read (lines text)) (λ read. on_line (max read.0 1) (finished read.1))
