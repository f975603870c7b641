-- Each line of an image's listing says what stands for it: the sections and the threads.
use Rattle.std.proofs.Common.{ℕ, ◌≡◌, ◌==◌, ◌+◌, ◌^◌, ◌<◌, ◌≤◌, ◌||◌, zero, suc, Bool, true, false, List, [], ◌∷◌, ◌++◌, length, None, refl, arith}
use Rattle.std.specs.Prelude.{map, flat_map, find, codes, decimal, nat_lt, slice_index, if◌then◌else◌}
use Rattle.std.specs.List.{AllByRecursion, AllZip, enumerate_from, range_with_len}
use Rattle.std.specs.Option.{option_map_or}
use Rattle.std.proofs.lemmas.Bool.{and_parts}
use Rattle.std.proofs.lemmas.Bool.Decides.{nat_tests}
use Rattle.model.specs.Acceptance.NotedStates.{record_of}
use Rattle.model.specs.Images.Format.{Format, field, many_fit}
use Rattle.model.specs.Images.Image.{StateRecord, Thread, anything, pair_key, range_format, record_format, register_format, slot_format, slots_format}
use Rattle.model.specs.Images.Image.{no_buffer, thread_format}
use Rattle.model.specs.Images.Listing.{Text, buffer_lines, label_lines, line, object_name, point_lines, range_line, record_lines, register_line}
use Rattle.model.specs.Images.Listing.{slot_line, thread_line, thread_lines}
use Rattle.asm_line.specs.declared.lines.Line.{Line}
use Rattle.asm_line.specs.declared.lines.Line.TheVariants as said
use Rattle.asm_line.specs.declared.lines.Code.TheVariants as code
use Rattle.asm_line.specs.Listed.{Lists, thread, buffer, measure, label, word, end, IsWord}
use Rattle.format_laws.proofs.Laws.{many-length}
use Rattle.asm.proofs.Said.{buffer_said, label_said, point_said, record_said, slot_said, thread_line_said, thread_said}
use Rattle.asm.proofs.EntryLines.{words-fit}
use Rattle.asm.proofs.RecordLines.{terms-fit}
use Rattle.asm.proofs.ThreadParts.{RecordFits, ThreadFits, range-parts, record-parts, register-parts, slot-parts, thread-parts}

abbrev pub AreListed : List Line → List Text → Type 0
AreListed said texts = AllZip Lists said texts

pub listed-append : (a : List Line) (b : List Text) (c : List Line) (d : List Text) → AreListed a b → AreListed c d → AreListed (a ++ c) (b ++ d)
listed-append [] [] c d h k = k
listed-append [] (t ∷ ts) c d h k = absurd h
listed-append (l ∷ ls) [] c d h k = absurd h
listed-append (l ∷ ls) (t ∷ ts) c d h k = (h.0, listed-append ls ts c d h.1 k)

-- ---- sections

-- entries that fit, each with a least key that is not below some number
pub entries-listed : {E : Type 0} (floor : ℕ) (format : ℕ → Format E) (next : E → ℕ) (say : E → Line) (text_of : E → Text) → ((e : E) → floor ≤ next e)
    → ((least : ℕ) (e : E) → floor ≤ least → (format least).fits e ≡ true → Lists (say e) (text_of e))
    → (least count : ℕ) (xs : List E) → floor ≤ least → many_fit format next least count xs ≡ true → AreListed (map say xs) (map text_of xs)
unfolding many_fit
entries-listed floor format next say text_of rises each least zero [] low is = tt
entries-listed floor format next say text_of rises each least zero (x ∷ xs) low is = absurd (let clash : false ≡ true = is in cc)
entries-listed floor format next say text_of rises each least (suc n) [] low is = tt
entries-listed floor format next say text_of rises each least (suc n) (x ∷ xs) low is =
    let both = and_parts ((format least).fits x) (many_fit format next (next x) n xs) is in
    (each least x low both.0, entries-listed floor format next say text_of rises each (next x) n xs (rises x) both.1)

pub numbered-listed : {E : Type 0} (format : ℕ → Format E) (next : E → ℕ) (say : ℕ × E → Line) (text_of : ℕ × E → Text)
    → ((k least : ℕ) (e : E) → k < 2 ^ 32 → (format least).fits e ≡ true → Lists (say (k, e)) (text_of (k, e)))
    → (k least count : ℕ) (xs : List E) → k + length xs ≤ 2 ^ 32 → many_fit format next least count xs ≡ true
    → AreListed (map say (enumerate_from k xs)) (map text_of (enumerate_from k xs))
unfolding many_fit
numbered-listed format next say text_of each k least zero [] small is = tt
numbered-listed format next say text_of each k least zero (x ∷ xs) small is = absurd (let clash : false ≡ true = is in cc)
numbered-listed format next say text_of each k least (suc n) [] small is = tt
numbered-listed format next say text_of each k least (suc n) (x ∷ xs) small is =
    let both = and_parts ((format least).fits x) (many_fit format next (next x) n xs) is in
    (each k least x (omega (arith, small)) both.0, numbered-listed format next say text_of each (k + 1) (next x) n xs (omega (arith, small)) both.1)

-- ---- the record of a point

abbrev IsListedRecord : StateRecord → Type 0
IsListedRecord r = AreListed (record_said r) (record_lines r)

record-listed : (objects words least : ℕ) (r : StateRecord) → objects ≤ 2 ^ 32 → RecordFits objects words least r → IsListedRecord r
record-listed objects words least r few fits = (
  measure r fits.constant (terms-fit 1 r.header.terms r.terms (omega arith) fits.terms),
  listed-append (map said.Range r.ranges) (map range_line r.ranges) (map slot_said r.slots) (map slot_line r.slots)
      (entries-listed 1 range_format (λ e. e.register + 1) said.Range range_line (λ e. omega arith) (λ l e low is. (range-parts l e low is).1) 1 r.header.ranges
      r.ranges (omega arith) fits.ranges)
      (entries-listed 0 (slot_format objects) (λ e. pair_key e.cnode e.index + 1) slot_said slot_line (λ e. omega arith)
      (λ l e low is. (slot-parts objects l e few is).lists) 0 r.header.slots r.slots (omega arith) fits.slots),
)

records-listed : (objects words least count : ℕ) (rs : List StateRecord) → objects ≤ 2 ^ 32
    → many_fit (record_format (slots_format objects) words) (λ r. r.header.point + 1) least count rs ≡ true → AllByRecursion IsListedRecord rs
unfolding many_fit
records-listed objects words least zero [] few is = tt
records-listed objects words least zero (r ∷ rs) few is = absurd (let clash : false ≡ true = is in cc)
records-listed objects words least (suc n) [] few is = tt
records-listed objects words least (suc n) (r ∷ rs) few is =
    let both = and_parts ((record_format (slots_format objects) words least).fits r)
    (many_fit (record_format (slots_format objects) words) (λ r. r.header.point + 1) (r.header.point + 1) n rs) is in
    (record-listed objects words least r few (record-parts objects words least r both.0), records-listed objects words (r.header.point + 1) n rs few both.1)

found-listed : (p : StateRecord → Bool) (rs : List StateRecord) → AllByRecursion IsListedRecord rs
    → AreListed (option_map_or record_said (find p rs) []) (option_map_or record_lines (find p rs) [])
found-listed p [] h = tt
found-listed p (r ∷ rs) h = by (p r) refl (found-listed p rs h.1)
  where
    by : (b : Bool) → p r ≡ b → AreListed (option_map_or record_said (find p rs) []) (option_map_or record_lines (find p rs) [])
        → AreListed (option_map_or record_said (find p (r ∷ rs)) []) (option_map_or record_lines (find p (r ∷ rs)) [])
    by true e others = rw e h.0
    by false e others = rw e others

-- ---- the points of a thread

label-listed : (t : Thread) (point : ℕ) → AreListed (label_said t point) (label_lines t point)
label-listed t point = by (t.header.entry == point)
  where
    by : (b : Bool) → AreListed (if b then said.Label (codes "l") ∷ [] else []) (if b then codes "l:" ∷ [] else [])
    by true = (label, tt)
    by false = tt

word-there : (ws : List ℕ) (i : ℕ) → AllByRecursion IsWord ws → i < length ws → IsWord (slice_index ws i)
word-there [] i h less = absurd (omega (arith, less))
word-there (w ∷ ws) zero h less = h.0
word-there (w ∷ ws) (suc i) h less = word-there ws i h.1 (omega (arith, less))

point-listed : (t : Thread) (point : ℕ) → AllByRecursion IsWord t.words → AllByRecursion IsListedRecord t.records → point < length t.words
    → AreListed (point_said t point) (point_lines t point)
point-listed t point words records less =
    let said_word = said.Code None (code.Word (slice_index t.words point)) ∷ [] in
    let text_word = line (codes "word" ∷ decimal (slice_index t.words point) ∷ []) ∷ [] in
    let said_record = option_map_or record_said (record_of t point) [] in
    let text_record = option_map_or record_lines (record_of t point) [] in
    listed-append (label_said t point ++ said_record) (label_lines t point ++ text_record) said_word text_word
    (listed-append (label_said t point) (label_lines t point) said_record text_record
    (label-listed t point) (found-listed (λ r. r.header.point == point) t.records records))
    (word (slice_index t.words point) (word-there t.words point words less), tt)

points-listed : (t : Thread) (from count : ℕ) → AllByRecursion IsWord t.words → AllByRecursion IsListedRecord t.records → from + count ≤ length t.words
    → AreListed (flat_map (point_said t) (range_with_len from count)) (flat_map (point_lines t) (range_with_len from count))
points-listed t from zero words records inside = tt
points-listed t from (suc n) words records inside =
    listed-append (point_said t from) (point_lines t from) (flat_map (point_said t) (range_with_len (from + 1) n))
    (flat_map (point_lines t) (range_with_len (from + 1) n))
    (point-listed t from words records (omega (arith, inside))) (points-listed t (from + 1) n words records (omega (arith, inside)))

-- ---- threads

small-buffer : (objects n : ℕ) → objects ≤ 2 ^ 32 → (nat_lt n objects || (n == no_buffer)) ≡ true → IsWord n
small-buffer objects n few is = grind (arith, nat_tests)

buffer-listed : (objects : ℕ) (t : Thread) → objects ≤ 2 ^ 32 → (nat_lt t.header.buffer objects || (t.header.buffer == no_buffer)) ≡ true
    → AreListed (buffer_said t) (buffer_lines t)
buffer-listed objects t few is = by (t.header.buffer == no_buffer)
  where
    by : (b : Bool)
        → AreListed (if b then [] else said.Buffer (object_name t.header.buffer) ∷ [])
        (if b then [] else line (codes "buffer" ∷ object_name t.header.buffer ∷ []) ∷ [])
    by true = tt
    by false = (buffer t (small-buffer objects t.header.buffer few is), tt)

thread-listed : (objects : ℕ) (t : Thread) → objects ≤ 2 ^ 32 → ThreadFits objects t → AreListed (thread_said t) (thread_lines t)
thread-listed objects t few fits =
    let h = fits.header in
    let tcb = h.tcb in
    let cnode = h.cnode in
    let root = h.root in
    let long = many-length (λ _. field anything) (λ _. 0) 0 t.header.words t.words fits.words in
    let first : Lists (said.Thread (thread_line_said t)) (thread_line t) =
    thread t (omega (arith, few, tcb)) (omega (arith, few, cnode)) h.guard (omega (arith, few, root)) h.priority h.budget h.fault h.base in
    let registers = entries-listed 1 register_format (λ e. e.register + 1) said.Register register_line (λ e. omega arith)
    (λ l e low is. (register-parts l e low is).1) 1 t.header.registers t.registers (omega arith) fits.registers in
    let start = (said.Thread (thread_line_said t) ∷ buffer_said t) ++ map said.Register t.registers in
    let start_text = (thread_line t ∷ buffer_lines t) ++ map register_line t.registers in
    let points = flat_map (point_said t) (range_with_len 0 t.header.words) in
    let point_texts = flat_map (point_lines t) (range_with_len 0 t.header.words) in
    listed-append (start ++ points) (start_text ++ point_texts) (said.End ∷ []) (codes "end" ∷ [])
    (listed-append start start_text points point_texts
    (listed-append (said.Thread (thread_line_said t) ∷ buffer_said t) (thread_line t ∷ buffer_lines t) (map said.Register t.registers)
    (map register_line t.registers) (first, buffer-listed objects t few h.buffer) registers)
    (points-listed t 0 t.header.words (words-fit 0 t.header.words t.words fits.words)
    (records-listed objects t.header.words 0 t.header.records t.records few fits.records) (omega (arith, long))))
    (end, tt)

pub threads-listed : (version objects least count : ℕ) (ts : List Thread) → objects ≤ 2 ^ 32
    → many_fit (λ _. thread_format (slots_format objects) version objects) (λ _. 0) least count ts ≡ true →
    AreListed (flat_map thread_said ts) (flat_map thread_lines ts)
unfolding many_fit
threads-listed version objects least zero [] few is = tt
threads-listed version objects least zero (t ∷ ts) few is = absurd (let clash : false ≡ true = is in cc)
threads-listed version objects least (suc n) [] few is = tt
threads-listed version objects least (suc n) (t ∷ ts) few is =
    let both = and_parts ((thread_format (slots_format objects) version objects).fits t)
    (many_fit (λ _. thread_format (slots_format objects) version objects) (λ _. 0) 0 n ts)
    is in
    listed-append (thread_said t) (thread_lines t) (flat_map thread_said ts) (flat_map thread_lines ts)
    (thread-listed objects t few (thread-parts version objects t both.0)) (threads-listed version objects 0 n ts few both.1)
