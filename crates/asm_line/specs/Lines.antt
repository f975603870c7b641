-- What lines say, by their words. The grammar of a line comes first, and then the ranges of its own numbers.
use Rattle.std.specs.Prelude.{ℕ, ◌-◌, ◌^◌, ◌==◌, Bool, ◌||◌, ◌&&◌, not, if◌then◌else◌, ℤ, pos, negsuc, codes, List, [], ◌∷◌, nat_lt, nat_le, min}
use Rattle.std.specs.Prelude.{Option, Some}
use Rattle.std.specs.Prelude.{None, Result, Ok, Err}
use Rattle.std.specs.Str.{bytes_eq}
use Rattle.std.specs.Int.{w32}
use Rattle.model.specs.declared.entries.PromisedWord.{PromisedWord}
use Rattle.model.specs.declared.entries.TermEntry.{TermEntry}
use Rattle.model.specs.Images.Image.{size_fits, is_constant, not_zero}
use Rattle.model.specs.Images.Format.{fits_signed}
use Rattle.model.specs.Images.Listing.{Text}
use Rattle.asm_line.specs.declared.keywords.Keyword.{Keyword}
use Rattle.asm_line.specs.declared.keywords.Keyword.TheVariants as keyword
use Rattle.asm_line.specs.declared.lines.Line.{Line}
use Rattle.asm_line.specs.declared.lines.Line.TheVariants as line
use Rattle.asm_line.specs.declared.lines.Parent.{Parent}
use Rattle.asm_line.specs.declared.lines.Parent.TheVariants as parent
use Rattle.asm_line.specs.declared.thread_lines.SlotWords.{SlotWords}
use Rattle.asm_line.specs.declared.thread_lines.ThreadWords.{ThreadWords}
use Rattle.asm_line.specs.Words.{◌>>=◌, ends, last_number, last_numbers, name_of, name_first, number_of, number_first, object_first, place_first}
use Rattle.asm_line.specs.Words.{register_first, register_of, within}
use Rattle.asm_line.specs.declared.faults.LineFault.{LineFault}
use Rattle.asm_line.specs.declared.faults.LineFault.TheVariants as fault

-- ---- keywords

-- what is beside the first of these names that a word is
abbrev pub beside_name : {A : Type 0} → Text → List (Text × A) → Option A
beside_name word [] = None
beside_name word (entry ∷ entries) = if bytes_eq word entry.0 then Some entry.1 else beside_name word entries

unfoldable pub thread_keyword_of : Text → Option Keyword
thread_keyword_of word =
    if bytes_eq word (codes "buffer") then Some keyword.Buffer else
    if bytes_eq word (codes "reg") then Some keyword.Register else
    if bytes_eq word (codes "measure") then Some keyword.Measure else
    if bytes_eq word (codes "range") then Some keyword.Range else
    if bytes_eq word (codes "slot") then Some keyword.Slot else
    if bytes_eq word (codes "word") then Some keyword.Word else
    if bytes_eq word (codes "end") then Some keyword.End else None

unfoldable pub keyword_of : Text → Option Keyword
keyword_of word =
    if bytes_eq word (codes "memory") then Some keyword.Memory else
    if bytes_eq word (codes "untyped") then Some keyword.Untyped else
    if bytes_eq word (codes "object") then Some keyword.Object else
    if bytes_eq word (codes "irq") then Some keyword.Interrupt else
    if bytes_eq word (codes "cap") then Some keyword.Capability else
    if bytes_eq word (codes "table") then Some keyword.Table else
    if bytes_eq word (codes "map") then Some keyword.Frame else
    if bytes_eq word (codes "data") then Some keyword.Content else
    if bytes_eq word (codes "promise") then Some keyword.Promise else
    if bytes_eq word (codes "thread") then Some keyword.Thread else thread_keyword_of word

unfoldable pub kind_of : Text → Result ℕ LineFault
kind_of word =
    if bytes_eq word (codes "untyped") then Ok 1 else
    if bytes_eq word (codes "tcb") then Ok 2 else
    if bytes_eq word (codes "endpoint") then Ok 3 else
    if bytes_eq word (codes "notification") then Ok 4 else
    if bytes_eq word (codes "cnode") then Ok 5 else
    if bytes_eq word (codes "frame") then Ok 6 else
    if bytes_eq word (codes "table") then Ok 7 else
    if bytes_eq word (codes "root") then Ok 8 else Err fault.Syntax

-- ---- ranges

-- a number of 32 bits
abbrev pub word : ℤ → Result ℕ LineFault
word number = within 0 (2 ^ 32 - 1) number

-- a register that is not x0
abbrev pub named_register : ℕ → Result ℕ LineFault
named_register number = if nat_lt 0 number then Ok number else Err fault.Range

abbrev pub checked : Bool → Result (Unit {0}) LineFault
checked test = if test then Ok tt else Err fault.Range

-- ---- the lines of the sections

unfoldable pub memory_of : List Text → Result Line LineFault
memory_of words = do
  numbers ← last_numbers words
  memory_bits ← within 16 24 numbers.0
  boot_radix ← within 1 (min 14 (memory_bits - 5)) numbers.1
  Ok (line.Memory memory_bits boot_radix)

unfoldable pub untyped_of : List Text → Result Line LineFault
untyped_of words = do
  name ← object_first words
  numbers ← last_numbers name.1
  offset ← word numbers.0
  bits ← within 4 24 numbers.1
  Ok (line.Untyped name.0 (record { offset = offset; bits = bits }))

abbrev pub kind_first : List Text → Result (ℕ × List Text) LineFault
kind_first [] = Err fault.Syntax
kind_first (word ∷ words) = kind_of word >>= λ kind. Ok (kind, words)

-- a size that is left out is 0
abbrev pub size_first : List Text → Result (ℤ × List Text) LineFault
size_first [] = Ok (pos 0, [])
size_first (word ∷ words) = number_of word >>= λ size. Ok (size, words)

-- a kind and a size, and no more
unfoldable pub last_kind : List Text → Result (ℕ × ℤ) LineFault
last_kind words = do
  kind ← kind_first words
  size ← size_first kind.1
  last ← ends size.1
  Ok (kind.0, size.0)

unfoldable pub object_of : List Text → Result Line LineFault
object_of words = do
  name ← object_first words
  untyped ← object_first name.1
  kind ← last_kind untyped.1
  size ← word kind.1
  fits ← checked (size_fits kind.0 size)
  Ok (line.Object name.0 untyped.0 kind.0 size)

unfoldable pub interrupt_of : List Text → Result Line LineFault
interrupt_of words = do
  place ← place_first words
  badge ← last_number place.3
  interrupt_line ← within 0 63 place.1
  badge_word ← within 0 (2 ^ 28 - 1) badge
  Ok (line.Interrupt place.0 interrupt_line place.2 badge_word)

unfoldable pub capability_of : List Text → Result Line LineFault
capability_of words = do
  place ← place_first words
  numbers ← last_numbers place.3
  index ← word place.1
  rights ← word numbers.0
  payload ← word numbers.1
  Ok (line.Capability place.0 index place.2 rights payload)

unfoldable pub table_of : List Text → Result Line LineFault
table_of words = do
  place ← place_first words
  last ← ends place.3
  address ← word place.1
  Ok (line.Table place.0 address place.2)

unfoldable pub frame_of : List Text → Result Line LineFault
frame_of words = do
  place ← place_first words
  rights ← last_number place.3
  address ← word place.1
  rights_word ← within 0 7 rights
  Ok (line.Frame place.0 address place.2 rights_word)

abbrev pub all_numbers : List Text → Result (Unit {0}) LineFault
all_numbers [] = Ok tt
all_numbers (w ∷ ws) = number_of w >>= λ _. all_numbers ws

abbrev pub some_numbers : List Text → Result (Unit {0}) LineFault
some_numbers [] = Err fault.Syntax
some_numbers (w ∷ ws) = all_numbers (w ∷ ws)

abbrev pub all_words : List Text → Result (Unit {0}) LineFault
all_words [] = Ok tt
all_words (w ∷ ws) = number_of w >>= λ number. word number >>= λ _. all_words ws

abbrev pub word_first : List Text → Result (ℕ × List Text) LineFault
word_first [] = Err fault.Syntax
word_first (w ∷ ws) = number_of w >>= λ number. word number >>= λ value. Ok (value, ws)

unfoldable pub content_of : List Text → Result Line LineFault
content_of words = do
  frame ← object_first words
  grammar ← some_numbers frame.1
  ranges ← all_words frame.1
  Ok (line.Content frame.0 frame.1)

-- numbers, two and two
abbrev pub number_pairs : List Text → Result (Unit {0}) LineFault
number_pairs [] = Ok tt
number_pairs (low ∷ []) = Err fault.Syntax
number_pairs (low ∷ high ∷ words) = number_of low >>= λ _. number_of high >>= λ _. number_pairs words

abbrev pub some_pairs : List Text → Result (Unit {0}) LineFault
some_pairs [] = Err fault.Syntax
some_pairs (w ∷ ws) = number_pairs (w ∷ ws)

-- a lowest and a highest value
unfoldable pub promised_of : Text → Text → Result PromisedWord LineFault
promised_of low high = do
  lowest ← number_of low
  highest ← number_of high
  low_word ← word lowest
  high_word ← word highest
  rises ← checked (nat_le low_word high_word)
  Ok (record { low = low_word; high = high_word })

abbrev pub promised_first : List Text → Result (PromisedWord × List Text) LineFault
promised_first [] = Err fault.Syntax
promised_first (low ∷ []) = Err fault.Syntax
promised_first (low ∷ high ∷ words) = promised_of low high >>= λ promised. Ok (promised, words)

-- how many there are is no fault of the line alone
abbrev pub all_promised : List Text → Result (Unit {0}) LineFault
all_promised [] = Ok tt
all_promised (low ∷ []) = Err fault.Syntax
all_promised (low ∷ high ∷ words) = promised_of low high >>= λ _. all_promised words

-- the badges are the first range
unfoldable pub promise_of : List Text → Result Line LineFault
promise_of words = do
  endpoint ← object_first words
  grammar ← some_pairs endpoint.1
  badges ← promised_first endpoint.1
  small ← checked (nat_lt badges.0.high (2 ^ 28))
  ranges ← all_promised badges.1
  Ok (line.Promise endpoint.0 badges.0.low badges.0.high badges.1)

-- ---- the lines of threads

unfoldable pub budget_of : ℤ → Result ℕ LineFault
budget_of (pos n) = if nat_le 1 n && nat_le n (2 ^ 62) then Ok n else Err fault.Range
budget_of (negsuc n) = Err fault.Range

-- the grammar of a line `thread`
unfoldable pub thread_words_of : List Text → Result ThreadWords LineFault
thread_words_of words = do
  tcb ← object_first words
  spaces ← place_first tcb.1
  priority ← number_first spaces.3
  budget ← number_first priority.1
  fault ← number_first budget.1
  entry ← name_first fault.1
  base ← last_number entry.1
  Ok (record {
    tcb = tcb.0;
    cnode = spaces.0;
    guard = spaces.1;
    root = spaces.2;
    priority = priority.0;
    budget = budget.0;
    fault = fault.0;
    entry = entry.0;
    base = base;
  })

-- the ranges of its numbers
unfoldable pub thread_said : ThreadWords → Result Line LineFault
thread_said words = do
  guard ← word words.guard
  priority ← within 0 255 words.priority
  budget ← budget_of words.budget
  fault ← word words.fault
  base ← word words.base
  Ok (line.Thread (record {
    tcb = words.tcb;
    cnode = words.cnode;
    guard = guard;
    root = words.root;
    priority = priority;
    budget = budget;
    fault = fault;
    entry =
        words.entry;
    base = base;
  }))

unfoldable pub thread_of : List Text → Result Line LineFault
thread_of words = thread_words_of words >>= thread_said

unfoldable pub buffer_of : List Text → Result Line LineFault
buffer_of words = do
  frame ← object_first words
  last ← ends frame.1
  Ok (line.Buffer frame.0)

unfoldable pub register_line_of : List Text → Result Line LineFault
register_line_of words = do
  register ← register_first words
  value ← last_number register.1
  number ← named_register register.0
  value_word ← within 1 (2 ^ 32 - 1) value
  Ok (line.Register (record { register = number; value = value_word }))

unfoldable pub range_of : List Text → Result Line LineFault
range_of words = do
  register ← register_first words
  ends ← last_numbers register.1
  number ← named_register register.0
  low ← word ends.0
  high ← word ends.1
  fits ← checked (nat_le low high && (nat_lt 0 low || nat_lt high (2 ^ 32 - 1)))
  Ok (line.Range (record { register = number; low = low; high = high }))

abbrev pub parent_first : List Text → Result (Parent × List Text) LineFault
parent_first [] = Err fault.Syntax
parent_first (w ∷ ws) =
    if bytes_eq w (codes "boot") then Ok (parent.Boot, ws) else (name_of w >>= λ cnode. Ok (parent.Slot cnode 0, ws))

-- a parent in the boot CNode is written with 0 after it; an empty slot has no other
abbrev pub parent_with : Bool → Parent → ℤ → Result Parent LineFault
parent_with is_empty (parent.Boot) index = within 0 0 index >>= λ _. Ok parent.Boot
parent_with is_empty (parent.Slot cnode _index) index = checked (not is_empty) >>= λ _. within 0 (2 ^ 14 - 1) index >>= λ number. Ok (parent.Slot cnode number)

-- the grammar of a line `slot`
unfoldable pub slot_words_of : List Text → Result SlotWords LineFault
slot_words_of words = do
  cnode ← object_first words
  index ← number_first cnode.1
  word0 ← number_first index.1
  word1 ← number_first word0.1
  parent ← parent_first word1.1
  parent_index ← last_number parent.1
  Ok (record { cnode = cnode.0; index = index.0; word0 = word0.0; word1 = word1.0; parent = parent.0; parent_index = parent_index })

-- the ranges of its numbers
unfoldable pub slot_said : SlotWords → Result Line LineFault
slot_said words = do
  index ← within 0 (2 ^ 14 - 1) words.index
  word0 ← word words.word0
  word1 ← word words.word1
  parent ← parent_with ((word0 == 0) && (word1 == 0)) words.parent words.parent_index
  Ok (line.Slot words.cnode index word0 word1 parent)

unfoldable pub slot_of : List Text → Result Line LineFault
slot_of words = slot_words_of words >>= slot_said

unfoldable pub constant_of : ℤ → Result ℤ LineFault
constant_of number = if is_constant number then Ok number else Err fault.Range

-- a register that is not x0 and a coefficient of 32 bits that is not 0
unfoldable pub coefficient_of : ℤ → Result ℤ LineFault
coefficient_of number = if fits_signed w32 number && not_zero number then Ok number else Err fault.Range

unfoldable pub term_of : Text → Text → Result TermEntry LineFault
term_of name factor = do
  register ← register_of name
  coefficient ← number_of factor
  number ← named_register register
  known ← coefficient_of coefficient
  Ok (record { register = number; coefficient = known })

abbrev pub term_first : List Text → Result (TermEntry × List Text) LineFault
term_first [] = Err fault.Syntax
term_first (name ∷ []) = Err fault.Syntax
term_first (name ∷ factor ∷ words) = term_of name factor >>= λ term. Ok (term, words)

-- the grammar of terms: registers, each with a number after it
abbrev pub all_pairs : List Text → Result (Unit {0}) LineFault
all_pairs [] = Ok tt
all_pairs (name ∷ []) = Err fault.Syntax
all_pairs (name ∷ factor ∷ words) = register_of name >>= λ _. number_of factor >>= λ _. all_pairs words

abbrev pub all_terms : List Text → Result (Unit {0}) LineFault
all_terms [] = Ok tt
all_terms (name ∷ []) = Err fault.Syntax
all_terms (name ∷ factor ∷ words) = term_of name factor >>= λ _. all_terms words

unfoldable pub measure_of : List Text → Result Line LineFault
measure_of words = do
  constant ← number_first words
  grammar ← all_pairs constant.1
  number ← constant_of constant.0
  ranges ← all_terms constant.1
  Ok (line.Measure number constant.1)
