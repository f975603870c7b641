-- Whole lines, but for instructions.
use Rattle.std.specs.Prelude.{◌≡◌, ℕ, ◌-◌, ◌==◌, if◌then◌else◌, List, [], ◌∷◌, length, take, slice_index_or, position, option_and_then, Option, Some, None}
use Rattle.std.specs.Prelude.{Result, Ok}
use Rattle.std.specs.Option.{option_map_or}
use Rattle.std.specs.Result.{result_ok}
use Rattle.model.specs.declared.capabilities.Cap.{Cap}
use Rattle.model.specs.Capabilities.CapabilityWords.{IsCapability, words_of}
use Rattle.model.specs.Images.Listing.{Text}
use Rattle.asm_line.specs.declared.keywords.Keyword.{Keyword}
use Rattle.asm_line.specs.declared.keywords.Keyword.TheVariants.{Memory, Untyped, Object, Interrupt, Capability, Table, Frame, Content, Promise, Thread}
use Rattle.asm_line.specs.declared.keywords.Keyword.TheVariants.{Buffer, Register, Measure, Range, Slot, Word, End}
use Rattle.asm_line.specs.declared.lines.Line.{Line}
use Rattle.asm_line.specs.declared.lines.Line.TheVariants as line
use Rattle.asm_line.specs.declared.lines.Code.{Code}
use Rattle.asm_line.specs.declared.lines.Code.TheVariants as code
use Rattle.asm_line.specs.Words.{◌>>=◌, ends, last_number, name_of}
use Rattle.asm_line.specs.Lines.{buffer_of, capability_of, content_of, frame_of, interrupt_of, keyword_of, measure_of, memory_of, object_of, range_of}
use Rattle.asm_line.specs.Lines.{register_line_of}
use Rattle.asm_line.specs.Lines.{promise_of, slot_of, table_of, thread_of, untyped_of, word}
use Rattle.asm_line.specs.declared.faults.LineFault.{LineFault}

unfoldable pub plain_word_of : List Text → Result Code LineFault
plain_word_of words = do
  number ← last_number words
  value ← word number
  Ok (code.Word value)

unfoldable pub line_for : Keyword → List Text → Result Line LineFault
line_for Memory words = memory_of words
line_for Untyped words = untyped_of words
line_for Object words = object_of words
line_for Interrupt words = interrupt_of words
line_for Capability words = capability_of words
line_for Table words = table_of words
line_for Frame words = frame_of words
line_for Content words = content_of words
line_for Promise words = promise_of words
line_for Thread words = thread_of words
line_for Buffer words = buffer_of words
line_for Register words = register_line_of words
line_for Measure words = measure_of words
line_for Range words = range_of words
line_for Slot words = slot_of words
line_for Word words = plain_word_of words >>= λ made. Ok (line.Code None made)
line_for End words = ends words >>= λ last. Ok line.End

-- what is before the colon with which a label ends
abbrev pub label_of : Text → Option Text
label_of word = if slice_index_or word (length word - 1) 0 == 58 then Some (take (length word - 1) word) else None

-- the text before a comment
abbrev pub before_comment : Text → Text
before_comment text = option_map_or (λ end. take end text) (position (λ byte. byte == 35) text) text

-- the label with which a line begins, whatever is after it
unfoldable pub label_declared : List Text → Option Text
label_declared [] = None
label_declared (word ∷ words) = option_and_then (λ name. result_ok (name_of name)) (label_of word)

-- a line that is a label alone
abbrev pub label_line : Option Text → List Text → Option (Result Line LineFault)
label_line (Some name) [] = Some (name_of name >>= λ label. Ok (line.Label label))
label_line (Some name) (word ∷ words) = None
label_line None words = None

-- what the words of a line say, if it has no instruction
unfoldable pub line_of : List Text → Option (Result Line LineFault)
line_of [] = Some (Ok line.Blank)
line_of (word ∷ words) = elim (keyword_of word) [ Some keyword ↦ Some (line_for keyword words) | None ↦ label_line (label_of word) words ]

-- the words of a slot are those of a capability
abbrev pub IsKnown : Line → Type 0
IsKnown (line.Slot cnode index word0 word1 parent) = (capability : Cap) × IsCapability capability × (word0 ∷ word1 ∷ [] ≡ words_of capability)
IsKnown _ = Unit {0}
