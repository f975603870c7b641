-- Lines as listings have them: where each may be, and what is known after it.
use Rattle.std.specs.Prelude.{◌≡◌, ℕ, ◌<◌, true, List, [], ◌∷◌, ◌++◌, length, Some, None, MatchOption, slice_index_or}
use Rattle.std.specs.Option.{option_map_or}
use Rattle.asm_line.specs.declared.lines.Line.{Line}
use Rattle.asm_line.specs.declared.lines.ThreadLine.{ThreadLine}
use Rattle.asm_line.specs.declared.lines.Line.TheVariants as line
use Rattle.asm.specs.Drafts.{Draft}
use Rattle.asm.specs.Labels.{FoundLabels, no_labels, is_first_on, next_number}
use Rattle.asm.specs.Names.{KnownNames, number_of}
use Rattle.asm.specs.Sections.{MayAddUntyped, with_untyped, MayAddObject, object_entry, with_object, MayAddInterrupt, interrupt_entry, with_interrupt}
use Rattle.asm.specs.Sections.{MayAddCapability, capability_said, with_capability, MayAddTable, table_entry, with_table, MayAddFrame, frame_entry, with_frame}
use Rattle.asm.specs.Sections.{MayAddContent, MayAddPromise, content_said, promise_said, with_content, with_promise}
use Rattle.asm.specs.Threads.{OpenDraft, MayBegin, thread_begun, MayAddBuffer, with_buffer, MayAddRegister, with_register, MayAddMeasure, with_measure}
use Rattle.asm.specs.Threads.{MayAddRange, with_range, MayAddSlot, slot_entry, with_slot, MayAddCode, with_word, plain_word, MayEnd}

-- ---- the first line

abbrev pub IsFirst : Line → Type 0
IsFirst (line.Memory bits radix) = Unit {0}
IsFirst _ = ⊥

abbrev pub with_first : Draft → Line → Draft
with_first d (line.Memory bits radix) = record d { memory = Some (record { bits = bits; boot_radix = radix }) }
with_first d _ = d

-- ---- lines outside of threads

-- the labels of the thread with this number
abbrev pub labels_at : List FoundLabels → ℕ → FoundLabels
labels_at labels number = slice_index_or labels number no_labels

pub record MayBeginThread (labels : List FoundLabels) (d : Draft) (said : ThreadLine) : Type 0 where
  pub searched : length d.threads < length labels
  pub begins : MayBegin d.declared.names (labels_at labels (length d.threads)) said
  pub room : length d.threads < 64

-- lines that say what a slot, a page or a frame holds
abbrev pub IsPlacement : Draft → Line → Type 0
IsPlacement d (line.Capability cnode index source rights payload) = MayAddCapability d.declared cnode index source
IsPlacement d (line.Table root address table) = MayAddTable d.declared root address table
IsPlacement d (line.Frame root address frame rights) = MayAddFrame d.declared root address frame
IsPlacement d (line.Content frame words) = MayAddContent d.declared frame words
IsPlacement d (line.Promise endpoint low high words) = MayAddPromise d.declared endpoint words
IsPlacement d _ = ⊥

abbrev pub with_placement : Draft → Line → Draft
with_placement d (line.Capability cnode index source rights payload) =
    record d { declared = with_capability d.declared (capability_said d.declared cnode index source rights payload) }
with_placement d (line.Table root address table) = record d { declared = with_table d.declared (table_entry d.declared root address table) }
with_placement d (line.Frame root address frame rights) =
    record d { declared = with_frame d.declared (frame_entry d.declared root address frame rights) }
with_placement d (line.Content frame words) = record d { declared = with_content d.declared (content_said d.declared frame words) }
with_placement d (line.Promise endpoint low high words) = record d { declared = with_promise d.declared (promise_said d.declared endpoint low high words) }
with_placement d _ = d

abbrev pub IsDeclaration : List FoundLabels → Draft → Line → Type 0
IsDeclaration labels d (line.Untyped name entry) = MayAddUntyped d.declared name
IsDeclaration labels d (line.Object name untyped kind size) = MayAddObject d.declared name untyped
IsDeclaration labels d (line.Interrupt name number notification badge) = MayAddInterrupt d.declared name number notification
IsDeclaration labels d (line.Thread said) = MayBeginThread labels d said
IsDeclaration labels d said = IsPlacement d said

abbrev pub with_declaration : List FoundLabels → Draft → Line → Draft
with_declaration labels d (line.Untyped name entry) = record d { declared = with_untyped d.declared name entry }
with_declaration labels d (line.Object name untyped kind size) =
    record d { declared = with_object d.declared name (object_entry d.declared untyped kind size) }
with_declaration labels d (line.Interrupt name number notification badge) =
    record d { declared = with_interrupt d.declared name (interrupt_entry d.declared number notification badge) }
with_declaration labels d (line.Thread said) =
    record d { open_thread = Some (thread_begun d.declared.names (labels_at labels (length d.threads)) said) }
with_declaration labels d said = with_placement d said

-- ---- lines of a thread

abbrev pub IsThreadLine : FoundLabels → ℕ → KnownNames → OpenDraft → Line → Type 0
IsThreadLine labels number names o (line.Buffer frame) = MayAddBuffer names o frame
IsThreadLine labels number names o (line.Register entry) = MayAddRegister o entry
IsThreadLine labels number names o (line.Measure constant terms) = MayAddMeasure o terms
IsThreadLine labels number names o (line.Range entry) = MayAddRange o entry
IsThreadLine labels number names o (line.Slot cnode index word0 word1 parent) = MayAddSlot names o cnode index parent
IsThreadLine labels number names o (line.Label name) = is_first_on labels name number ≡ true
IsThreadLine labels number names o (line.Code None code) = MayAddCode o code
IsThreadLine labels number names o line.End = MayEnd o
IsThreadLine labels number names o _ = ⊥

-- the thread after a line of it that is not its last one
abbrev pub thread_behind : KnownNames → OpenDraft → Line → OpenDraft
thread_behind names o (line.Buffer frame) = with_buffer o (number_of names.objects frame)
thread_behind names o (line.Register entry) = with_register o entry
thread_behind names o (line.Measure constant terms) = with_measure o constant terms
thread_behind names o (line.Range entry) = with_range o entry
thread_behind names o (line.Slot cnode index word0 word1 parent) = with_slot o (slot_entry names cnode index word0 word1 parent)
thread_behind names o (line.Code label code) = with_word o (plain_word code)
thread_behind names o _ = o

abbrev pub with_thread_line : Draft → OpenDraft → Line → Draft
with_thread_line d o line.End = record d { threads = d.threads ++ o.thread ∷ [] }
with_thread_line d o said = record d { open_thread = Some (thread_behind d.declared.names o said) }

-- ---- all lines

-- a line with this number is where listings have it; the labels of all threads are known
abbrev pub IsInPlace : List FoundLabels → ℕ → Draft → Line → Type 0
IsInPlace labels number d said = MatchOption d.memory (IsFirst said) (λ _. MatchOption d.open_thread (IsDeclaration labels d said)
    (λ o. (length d.threads < length labels) × IsThreadLine (labels_at labels (length d.threads)) number d.declared.names o said))

abbrev pub with_line : List FoundLabels → Draft → Line → Draft
with_line labels d said =
    option_map_or (λ _. option_map_or (λ o. with_thread_line (record d { open_thread = None }) o said) d.open_thread (with_declaration labels d said))
    d.memory (with_first d said)

-- the same of all lines after the one with this number
abbrev pub AreInPlace : List FoundLabels → ℕ → Draft → List Line → Type 0
AreInPlace labels number d [] = Unit {0}
AreInPlace labels number d (said ∷ others) =
    IsInPlace labels (next_number number) d said × AreInPlace labels (next_number number) (with_line labels d said) others

abbrev pub with_lines : List FoundLabels → Draft → List Line → Draft
with_lines labels d [] = d
with_lines labels d (said ∷ others) = with_lines labels (with_line labels d said) others
