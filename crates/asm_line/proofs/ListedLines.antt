-- Each line of a listing is read as what it says.
use Rattle.std.specs.Prelude.{◌==◌, nat_lt, nat_le}
use Rattle.std.proofs.Common.{◌≡◌, ℕ, zero, suc, ◌-◌, ◌^◌, ◌<◌, ◌≤◌, Bool, true, false, not, ◌&&◌, List, [], ◌∷◌, ◌++◌, length, Some, None, Ok, ℤ, pos, negsuc}
use Rattle.std.proofs.Common.{refl}
use Rattle.std.proofs.Common.{ap, ◌∙◌, arith, codes, inl, inr, min}
use Rattle.std.specs.Fmt.{decimal}
use Rattle.std.specs.List.{list_all}
use Rattle.std.proofs.lemmas.Bool.{and_parts, and_from, eqb-true, or_cases}
use Rattle.std.proofs.lemmas.Bool.Decides.{nat_tests}
use Rattle.model.specs.Images.Image.{between, Image, is_device_size, size_fits}
use Rattle.model.specs.Images.Places.{is_handler, interrupt_of as interrupt_behind}
use Rattle.std.specs.Prelude.{◌||◌, if◌then◌else◌, map}
use Rattle.std.specs.List.{AllByRecursion}
use Rattle.model.specs.Images.Listing.{Text, line, untyped_name, object_name, interrupt_name, register_name, kind_name, source_name}
use Rattle.asm_line.specs.declared.lines.Line.{Line}
use Rattle.asm_line.specs.declared.lines.Line.TheVariants as said
use Rattle.asm_line.specs.declared.lines.Code.TheVariants as code
use Rattle.asm_line.specs.Words.{◌>>=◌, within, name_of, name_first, object_first}
use Rattle.asm_line.specs.Lines.{keyword_of, thread_keyword_of, memory_of, untyped_of, interrupt_of, table_of, frame_of, register_line_of, word, kind_of}
use Rattle.asm_line.specs.Lines.{kind_first, size_first, last_kind, object_of, capability_of, content_of, all_numbers, all_words, some_numbers, thread_of}
use Rattle.asm_line.specs.Lines.{all_promised, buffer_of, number_pairs, promise_of, promised_first, promised_of}
use Rattle.asm_line.specs.Lines.{thread_words_of, thread_said, budget_of, range_of}
use Rattle.asm_line.specs.Parsing.{line_of, line_for, plain_word_of, IsKnown}
use Rattle.asm_line.specs.Listed.{IsWord}
use Rattle.asm_line.proofs.PlainWords.{IsPlainWord, AllPlain, decimal-plain, is_plain, digits-plain, decimal-digits}
use Rattle.asm_line.proofs.NumberLaws.{first-decimal, first-object, first-register, first-number, number-decimal, number-whole, register-name, IsSmall}
use Rattle.std.specs.Prelude.{flat_map}
use Rattle.std.specs.Int.{w32}
use Rattle.std.proofs.lemmas.Bool.{ltb-true}
use Rattle.model.specs.declared.entries.PromisedWord.{PromisedWord}
use Rattle.model.specs.declared.entries.TermEntry.{TermEntry}
use Rattle.model.specs.Images.Format.{fits_signed}
use Rattle.model.specs.Images.Image.{is_constant}
use Rattle.model.specs.Images.Listing.{whole_number, promised_words, term_words}
use Rattle.asm_line.specs.Lines.{all_pairs, all_terms, term_of, coefficient_of, constant_of, measure_of}
use Rattle.asm_line.specs.Listed.{IsPromisedWord, IsTerm}
use Rattle.model.specs.declared.capabilities.Cap.{Cap}
use Rattle.model.specs.Capabilities.CapabilityWords.{IsCapability, words_of as words_of_capability}
use Rattle.model.specs.declared.entries.SlotEntry.{SlotEntry}
use Rattle.model.specs.Images.Image.{no_parent}
use Rattle.asm_line.specs.declared.lines.Parent.{Parent}
use Rattle.asm_line.specs.declared.lines.Parent.TheVariants as parent
use Rattle.asm_line.specs.Words.{last_number, last_numbers, number_first, place_first}
use Rattle.asm_line.specs.Lines.{parent_first, parent_with, slot_of, slot_words_of, slot_said, term_first, word_first}
use Rattle.asm_line.proofs.NumberLaws.{name-digits}

-- the words of a line, and that they say this
pub record Reads (l : Line) (text : Text) : Type 0 where
  pub words : List Text
  pub spelled : text ≡ line words
  pub plain : AllPlain words
  pub known : IsKnown l
  pub says : line_of words ≡ Some (Ok l)

pub wide : (n : ℕ) → IsWord n → n < 2 ^ 63
wide n h = omega arith

pub in-range : (low high n : ℕ) → between low high n ≡ true → within low high (pos n) ≡ Ok n
in-range low high n h = rw h refl

pub is-word : (n : ℕ) → IsWord n → word (pos n) ≡ Ok n
is-word n h = in-range 0 (2 ^ 32 - 1) n (grind (arith, nat_tests))

pub named-plain : (c n : ℕ) → is_plain c ≡ true → IsWord n → IsPlainWord (c ∷ decimal n)
named-plain c n h small = record { some = omega arith; plain = and_from (is_plain c) _ h (digits-plain (decimal n) (decimal-digits n (omega arith))) }

pub named-digits : (c n : ℕ) → is_plain c ≡ true → n < 2 ^ 64 → IsPlainWord (c ∷ decimal n)
named-digits c n h small = record { some = omega arith; plain = and_from (is_plain c) _ h (digits-plain (decimal n) (decimal-digits n small)) }

pub number-plain : (n : ℕ) → IsWord n → IsPlainWord (decimal n)
number-plain n small = decimal-plain n (omega arith)

pub memory-says : (bits radix : ℕ) → between 16 24 bits ≡ true → between 1 (min 14 (bits - 5)) radix ≡ true → bits < 2 ^ 63 → radix < 2 ^ 63
    → line_of (codes "memory" ∷ decimal bits ∷ decimal radix ∷ []) ≡ Some (Ok (said.Memory bits radix))
unfolding line_of keyword_of line_for memory_of last_numbers last_number
memory-says bits radix h k small other = rw (first-decimal bits (decimal radix ∷ []) small) (rw (first-decimal radix [] other) (rw h (rw k refl)))

pub untyped-says : (k offset bits : ℕ) → IsWord k → IsWord offset → between 4 24 bits ≡ true → bits < 2 ^ 63
    → line_of (codes "untyped" ∷ untyped_name k ∷ decimal offset ∷ decimal bits ∷ []) ≡ Some
    (Ok (said.Untyped (untyped_name k) (record { offset = offset; bits = bits })))
unfolding line_of keyword_of line_for untyped_of last_numbers last_number
untyped-says k offset bits a b h small =
    rw (first-object 117 k (decimal offset ∷ decimal bits ∷ []) refl refl (wide k a)) (rw (first-decimal offset (decimal bits ∷ []) (wide offset b))
    (rw (first-decimal bits [] small) (rw (is-word offset b) (rw h refl))))

pub interrupt-says : (k number notification badge : ℕ) → IsWord k → between 0 63 number ≡ true → number < 2 ^ 63 → IsWord notification →
    between 0 (2 ^ 28 - 1) badge ≡ true → badge < 2 ^ 63
    → line_of (codes "irq" ∷ interrupt_name k ∷ decimal number ∷ object_name notification ∷ decimal badge ∷ []) ≡ Some
    (Ok (said.Interrupt (interrupt_name k) number (object_name notification) badge))
unfolding line_of keyword_of line_for interrupt_of place_first last_number
interrupt-says k number notification badge a h small b g less =
    rw (first-object 105 k (decimal number ∷ object_name notification ∷ decimal badge ∷ []) refl refl (wide k a))
    (rw (first-decimal number (object_name notification ∷ decimal badge ∷ []) small)
    (rw (first-object 111 notification (decimal badge ∷ []) refl refl (wide notification b)) (rw (first-decimal badge [] less) (rw h (rw g refl)))))

pub table-says : (root address table : ℕ) → IsWord root → IsWord address → IsWord table
    → line_of (codes "table" ∷ object_name root ∷ decimal address ∷ object_name table ∷ []) ≡ Some
    (Ok (said.Table (object_name root) address (object_name table)))
unfolding line_of keyword_of line_for table_of place_first
table-says root address table a b d =
    rw (first-object 111 root (decimal address ∷ object_name table ∷ []) refl refl (wide root a))
    (rw (first-decimal address (object_name table ∷ []) (wide address b))
    (rw (first-object 111 table [] refl refl (wide table d)) (rw (is-word address b) refl)))

pub frame-says : (root address frame rights : ℕ) → IsWord root → IsWord address → IsWord frame → between 0 7 rights ≡ true → rights < 2 ^ 63
    → line_of (codes "map" ∷ object_name root ∷ decimal address ∷ object_name frame ∷ decimal rights ∷ []) ≡ Some
    (Ok (said.Frame (object_name root) address (object_name frame) rights))
unfolding line_of keyword_of line_for frame_of place_first last_number
frame-says root address frame rights a b d h small =
    rw (first-object 111 root (decimal address ∷ object_name frame ∷ decimal rights ∷ []) refl refl (wide root a))
    (rw (first-decimal address (object_name frame ∷ decimal rights ∷ []) (wide address b))
    (rw (first-object 111 frame (decimal rights ∷ []) refl refl (wide frame d)) (rw (first-decimal rights [] small) (rw (is-word address b) (rw h refl)))))

pub word-says : (n : ℕ) → IsWord n → line_of (codes "word" ∷ decimal n ∷ []) ≡ Some (Ok (said.Code None (code.Word n)))
unfolding line_of keyword_of thread_keyword_of line_for plain_word_of last_number
word-says n h = rw (first-decimal n [] (wide n h)) (rw (is-word n h) refl)

pub label-says : line_of (codes "l:" ∷ []) ≡ Some (Ok (said.Label (codes "l")))
unfolding line_of keyword_of thread_keyword_of name_of
label-says = refl

pub end-says : line_of (codes "end" ∷ []) ≡ Some (Ok said.End)
unfolding line_of keyword_of thread_keyword_of line_for
end-says = refl

pub register-says : (r value : ℕ) → nat_lt 0 r ≡ true → r < 32 → between 1 (2 ^ 32 - 1) value ≡ true → IsWord value
    → line_of (codes "reg" ∷ register_name r ∷ decimal value ∷ []) ≡ Some (Ok (said.Register (record { register = r; value = value })))
unfolding line_of keyword_of thread_keyword_of line_for register_line_of last_number
register-says r value some less h small = rw (first-register r (decimal value ∷ []) less) (rw (first-decimal value [] (wide value small)) (rw some (rw h refl)))

pub buffer-says : (frame : ℕ) → IsWord frame → line_of (codes "buffer" ∷ object_name frame ∷ []) ≡ Some (Ok (said.Buffer (object_name frame)))
unfolding line_of keyword_of thread_keyword_of line_for buffer_of
buffer-says frame a = rw (first-object 111 frame [] refl refl (wide frame a)) refl

-- ---- kinds of objects

abbrev pub KindSays : ℕ → Type 0
KindSays k = (kind_of (kind_name k) ≡ Ok k) × IsPlainWord (kind_name k)

pub plain-literal : (w : Text) → 0 < length w → list_all is_plain w ≡ true → IsPlainWord w
plain-literal w h k = record { some = h; plain = k }

pub kind-says : (k : ℕ) → between 1 8 k ≡ true → KindSays k
unfolding kind_of
kind-says zero h = absurd cc
kind-says (suc zero) h = (refl, plain-literal _ (omega arith) refl)
kind-says (suc (suc zero)) h = (refl, plain-literal _ (omega arith) refl)
kind-says (suc (suc (suc zero))) h = (refl, plain-literal _ (omega arith) refl)
kind-says (suc (suc (suc (suc zero)))) h = (refl, plain-literal _ (omega arith) refl)
kind-says (suc (suc (suc (suc (suc zero))))) h = (refl, plain-literal _ (omega arith) refl)
kind-says (suc (suc (suc (suc (suc (suc zero)))))) h = (refl, plain-literal _ (omega arith) refl)
kind-says (suc (suc (suc (suc (suc (suc (suc zero))))))) h = (refl, plain-literal _ (omega arith) refl)
kind-says (suc (suc (suc (suc (suc (suc (suc (suc zero)))))))) h = (refl, plain-literal _ (omega arith) refl)
kind-says (suc (suc (suc (suc (suc (suc (suc (suc (suc n))))))))) h = absurd (grind (arith, nat_tests))

first-kind : (k : ℕ) (words : List Text) → between 1 8 k ≡ true → kind_first (kind_name k ∷ words) ≡ Ok (k, words)
first-kind k words h = ap (λ r. r >>= λ kind. Ok (kind, words)) (kind-says k h).0

first-size : (n : ℕ) (words : List Text) → n < 2 ^ 63 → size_first (decimal n ∷ words) ≡ Ok (pos n, words)
first-size n words small = ap (λ r. r >>= λ size. Ok (size, words)) (number-decimal n small)

-- the words of a size, if the kind has one
abbrev pub sizes : ℕ → ℕ → List Text
sizes kind size = if kind == 1 || kind == 5 || is_device_size kind size then decimal size ∷ [] else []

pub record Sized (size : ℕ) (words : List Text) : Type 0 where
  pub first : size_first words ≡ Ok (pos size, [])
  pub plain : AllPlain words

with-size : (size : ℕ) → IsWord size → Sized size (decimal size ∷ [])
with-size size small = record { first = first-size size [] (wide size small); plain = (number-plain size small, tt) }

without-size : (size : ℕ) → ((size == 0 && true) || false) ≡ true → Sized size []
without-size zero h = record { first = refl; plain = tt }
without-size (suc n) h = absurd (grind (arith, nat_tests))

-- of the sizes of frames that of a device page is written
frame-size : (size : ℕ) → size_fits 6 size ≡ true → Sized size (sizes 6 size)
frame-size zero fits = without-size zero refl
frame-size (suc zero) fits = with-size 1 (omega arith)
frame-size (suc (suc n)) fits = elim (or_cases (suc (suc n) == 0 && true) (suc (suc n) == 1) fits) [
  | inl none ↦ let is = eqb-true (suc (suc n)) 0 (and_parts (suc (suc n) == 0) true none).0 in absurd (omega (arith, is))
  | inr one ↦ let is = eqb-true (suc (suc n)) 1 one in absurd (omega (arith, is))
]

pub size-says : (kind size : ℕ) → between 1 8 kind ≡ true → IsWord size → size_fits kind size ≡ true → Sized size (sizes kind size)
size-says zero size h small fits = absurd cc
size-says (suc zero) size h small fits = with-size size small
size-says (suc (suc zero)) size h small fits = without-size size fits
size-says (suc (suc (suc zero))) size h small fits = without-size size fits
size-says (suc (suc (suc (suc zero)))) size h small fits = without-size size fits
size-says (suc (suc (suc (suc (suc zero))))) size h small fits = with-size size small
size-says (suc (suc (suc (suc (suc (suc zero)))))) size h small fits = frame-size size fits
size-says (suc (suc (suc (suc (suc (suc (suc zero))))))) size h small fits = without-size size fits
size-says (suc (suc (suc (suc (suc (suc (suc (suc zero)))))))) size h small fits = without-size size fits
size-says (suc (suc (suc (suc (suc (suc (suc (suc (suc n))))))))) size h small fits = absurd (grind (arith, nat_tests))

pub object-says : (k untyped kind size : ℕ) (words : List Text) → IsWord k → IsWord untyped → between 1 8 kind ≡ true → IsWord size →
    size_fits kind size ≡ true → Sized size words
    → line_of (codes "object" ∷ object_name k ∷ untyped_name untyped ∷ kind_name kind ∷ words) ≡ Some
    (Ok (said.Object (object_name k) (untyped_name untyped) kind size))
unfolding line_of keyword_of line_for object_of last_kind
object-says k untyped kind size words a b h small fits sized =
    rw (first-object 111 k (untyped_name untyped ∷ kind_name kind ∷ words) refl refl (wide k a))
    (rw (first-object 117 untyped (kind_name kind ∷ words) refl refl (wide untyped b))
    (rw (first-kind kind words h) (rw sized.first (rw (is-word size small) (rw fits refl)))))

-- ---- sources of capabilities

pub record Sourced (name : Text) : Type 0 where
  pub first : (words : List Text) → object_first (name ∷ words) ≡ Ok (name, words)
  pub plain : IsPlainWord name

pub source-says : (i : Image) (source : ℕ) → IsWord source → Sourced (source_name i source)
source-says i source h = elim (is_handler i source) as (λ b. Sourced (if b then interrupt_name (interrupt_behind i source) else object_name source)) [
  | true ↦ let less : IsWord (interrupt_behind i source) = omega arith in
      record { first = λ words. first-object 105 (interrupt_behind i source) words refl refl (wide _ less); plain = named-plain 105 _ refl less }
  | false ↦ record { first = λ words. first-object 111 source words refl refl (wide source h); plain = named-plain 111 source refl h }
]

capability-named : (cnode index : ℕ) (name : Text) (rights payload : ℕ) → IsWord cnode → IsWord index → Sourced name → IsWord rights → IsWord payload
    → line_of (codes "cap" ∷ object_name cnode ∷ decimal index ∷ name ∷ decimal rights ∷ decimal payload ∷ []) ≡ Some
    (Ok (said.Capability (object_name cnode) index name rights payload))
unfolding line_of keyword_of line_for capability_of place_first last_numbers last_number
capability-named cnode index name rights payload a b s e f =
    rw (first-object 111 cnode (decimal index ∷ name ∷ decimal rights ∷ decimal payload ∷ []) refl refl (wide cnode a))
    (rw (first-decimal index (name ∷ decimal rights ∷ decimal payload ∷ []) (wide index b))
    (rw (s.first (decimal rights ∷ decimal payload ∷ []))
    (rw (first-decimal rights (decimal payload ∷ []) (wide rights e)) (rw (first-decimal payload [] (wide payload f))
    (rw (is-word index b) (rw (is-word rights e) (rw (is-word payload f) refl)))))))

pub capability-says : (i : Image) (cnode index source rights payload : ℕ) → IsWord cnode → IsWord index → IsWord source → IsWord rights → IsWord payload
    → line_of (codes "cap" ∷ object_name cnode ∷ decimal index ∷ source_name i source ∷ decimal rights ∷ decimal payload ∷ [])
    ≡ Some (Ok (said.Capability (object_name cnode) index (source_name i source) rights payload))
capability-says i cnode index source rights payload a b d e f =
    capability-named cnode index (source_name i source) rights payload a b (source-says i source d) e f

-- ---- contents

numbers-say : (ns : List ℕ) → AllByRecursion IsWord ns → all_numbers (map decimal ns) ≡ Ok tt
numbers-say [] h = refl
numbers-say (n ∷ ns) h = rw (number-decimal n (wide n h.0)) (numbers-say ns h.1)

words-say : (ns : List ℕ) → AllByRecursion IsWord ns → all_words (map decimal ns) ≡ Ok tt
words-say [] h = refl
words-say (n ∷ ns) h = rw (number-decimal n (wide n h.0)) (rw (is-word n h.0) (words-say ns h.1))

some-say : (ns : List ℕ) → 0 < length ns → AllByRecursion IsWord ns → some_numbers (map decimal ns) ≡ Ok tt
some-say [] some h = absurd (omega arith)
some-say (n ∷ ns) some h = numbers-say (n ∷ ns) h

pub plain-numbers : (ns : List ℕ) → AllByRecursion IsWord ns → AllPlain (map decimal ns)
plain-numbers [] h = tt
plain-numbers (n ∷ ns) h = (number-plain n h.0, plain-numbers ns h.1)

pub content-says : (frame : ℕ) (ns : List ℕ) → IsWord frame → 0 < length ns → AllByRecursion IsWord ns
    → line_of (codes "data" ∷ object_name frame ∷ map decimal ns) ≡ Some (Ok (said.Content (object_name frame) (map decimal ns)))
unfolding line_of keyword_of line_for content_of
content-says frame ns a some h = rw (first-object 111 frame (map decimal ns) refl refl (wide frame a)) (rw (some-say ns some h) (rw (words-say ns h) refl))

-- ---- promises

pub record ArePromised (words : List Text) : Type 0 where
  pub pairs : number_pairs words ≡ Ok tt
  pub ranges : all_promised words ≡ Ok tt
  pub plain : AllPlain words

pub promised-says : (w : PromisedWord) → IsPromisedWord w → promised_of (decimal w.low) (decimal w.high) ≡ Ok w
unfolding promised_of
promised-says w h =
    rw (number-decimal w.low (wide w.low h.0)) (rw (number-decimal w.high (wide w.high h.1)) (rw (is-word w.low h.0) (rw (is-word w.high h.1) (rw h.2 refl))))

pub promised-say : (ws : List PromisedWord) → AllByRecursion IsPromisedWord ws → ArePromised (flat_map promised_words ws)
promised-say [] h = record { pairs = refl; ranges = refl; plain = tt }
promised-say (w ∷ ws) h =
    let rest = promised-say ws h.1 in record {
      pairs = rw (number-decimal w.low (wide w.low h.0.0)) (rw (number-decimal w.high (wide w.high h.0.1)) rest.pairs);
      ranges = rw (promised-says w h.0) rest.ranges;
      plain = (number-plain w.low h.0.0, (number-plain w.high h.0.1, rest.plain));
    }

pub promise-says : (endpoint low high : ℕ) (words : List Text) → IsWord endpoint → nat_le low high ≡ true → nat_lt high (2 ^ 28) ≡ true → IsWord low
    → IsWord high → ArePromised words
    → line_of (codes "promise" ∷ object_name endpoint ∷ decimal low ∷ decimal high ∷ words)
    ≡ Some (Ok (said.Promise (object_name endpoint) low high words))
unfolding line_of keyword_of line_for promise_of promised_of
promise-says endpoint low high words a rises small b d are =
    rw (first-object 111 endpoint (decimal low ∷ decimal high ∷ words) refl refl (wide endpoint a))
    (rw (number-decimal low (wide low b)) (rw (number-decimal high (wide high d)) (rw are.pairs
    (rw (is-word low b) (rw (is-word high d) (rw rises (rw small (rw are.ranges refl))))))))

-- ---- threads

first-label : (words : List Text) → name_first (codes "l" ∷ words) ≡ Ok (codes "l", words)
unfolding name_first name_of
first-label words = refl

pub thread-says : (tcb cnode guard root priority budget fault base : ℕ) → IsWord tcb → IsWord cnode → IsWord guard → IsWord root
    → between 0 255 priority ≡ true → priority < 2 ^ 63 → between 1 (2 ^ 62) budget ≡ true → budget < 2 ^ 63 → IsWord fault → IsWord base
    → line_of (codes "thread" ∷ object_name tcb ∷ object_name cnode ∷ decimal guard ∷ object_name root ∷ decimal priority ∷ decimal budget ∷ decimal fault
    ∷ codes "l" ∷ decimal base ∷ [])
    ≡ Some (Ok (said.Thread (record {
      tcb = object_name tcb;
      cnode = object_name cnode;
      guard = guard;
      root = object_name root;
      priority = priority;
      budget =
          budget;
      fault = fault;
      entry = codes "l";
      base = base;
    })))
unfolding line_of keyword_of line_for thread_of thread_words_of thread_said budget_of place_first last_number
thread-says tcb cnode guard root priority budget fault base a b d e h small k less f g =
    rw (first-object 111 tcb (object_name cnode ∷ decimal guard ∷ object_name root ∷ decimal priority ∷ decimal budget ∷ decimal fault ∷ codes "l" ∷ decimal
    base ∷ []) refl refl (wide tcb a))
    (rw (first-object 111 cnode (decimal guard ∷ object_name root ∷ decimal priority ∷ decimal budget ∷ decimal fault ∷ codes "l" ∷ decimal base ∷ []) refl refl
    (wide cnode b))
    (rw (first-decimal guard (object_name root ∷ decimal priority ∷ decimal budget ∷ decimal fault ∷ codes "l" ∷ decimal base ∷ []) (wide guard d))
    (rw (first-object 111 root (decimal priority ∷ decimal budget ∷ decimal fault ∷ codes "l" ∷ decimal base ∷ []) refl refl (wide root e))
    (rw (first-decimal priority (decimal budget ∷ decimal fault ∷ codes "l" ∷ decimal base ∷ []) small)
    (rw (first-decimal budget (decimal fault ∷ codes "l" ∷ decimal base ∷ []) less)
    (rw (first-decimal fault (codes "l" ∷ decimal base ∷ []) (wide fault f))
    (rw (first-label (decimal base ∷ []))
    (rw (first-decimal base [] (wide base g))
    (rw (is-word guard d) (rw h (rw k (rw (is-word fault f) (rw (is-word base g) refl)))))))))))))

-- ---- certificates

pub range-says : (r low high : ℕ) → nat_lt 0 r ≡ true → r < 32 → IsWord low → IsWord high →
    (nat_le low high && (nat_lt 0 low || nat_lt high (2 ^ 32 - 1))) ≡ true
    → line_of (codes "range" ∷ register_name r ∷ decimal low ∷ decimal high ∷ []) ≡ Some (Ok (said.Range (record { register = r; low = low; high = high })))
unfolding line_of keyword_of thread_keyword_of line_for range_of last_numbers last_number
range-says r low high some less a b h =
    rw (first-register r (decimal low ∷ decimal high ∷ []) less)
    (rw (first-decimal low (decimal high ∷ []) (wide low a)) (rw (first-decimal high [] (wide high b))
    (rw some (rw (is-word low a) (rw (is-word high b) (rw h refl))))))

-- ---- measures

pub record IsTermWords (words : List Text) : Type 0 where
  pub pairs : all_pairs words ≡ Ok tt
  pub terms : all_terms words ≡ Ok tt
  pub plain : AllPlain words

small-signed : (z : ℤ) → fits_signed w32 z ≡ true → IsSmall z
small-signed (pos n) h = let less : n < 2 ^ 31 = ltb-true _ _ h in omega arith
small-signed (negsuc n) h = let less : n < 2 ^ 31 = ltb-true _ _ h in omega arith

whole-plain : (z : ℤ) → IsSmall z → IsPlainWord (whole_number z)
whole-plain (pos n) h = decimal-plain n (omega arith)
whole-plain (negsuc n) h = named-digits 45 (suc n) refl (omega arith)

term-says : (t : TermEntry) → IsTerm t → term_of (register_name t.register) (whole_number t.coefficient) ≡ Ok t
unfolding term_of coefficient_of
term-says t h =
    let some : nat_lt 0 t.register ≡ true = grind (arith, nat_tests, h.0) in
    let less : t.register < 32 = grind (arith, nat_tests, h.0) in
    rw (register-name t.register less) (rw (number-whole t.coefficient (small-signed t.coefficient h.1)) (rw some (rw h.1 (rw h.2 refl))))

pub terms-say : (ts : List TermEntry) → AllByRecursion IsTerm ts → IsTermWords (flat_map term_words ts)
terms-say [] h = record { pairs = refl; terms = refl; plain = tt }
terms-say (t ∷ ts) h =
    let rest = terms-say ts h.1 in
    let less : t.register < 32 = grind (arith, nat_tests, h.0.0) in
    let small = small-signed t.coefficient h.0.1 in record {
      pairs = rw (register-name t.register less) (rw (number-whole t.coefficient small) rest.pairs);
      terms = rw (term-says t h.0) rest.terms;
      plain = (named-digits 120 t.register refl (omega arith), (whole-plain t.coefficient small, rest.plain));
    }

small-constant : (z : ℤ) → is_constant z ≡ true → IsSmall z
small-constant (pos n) h = grind (arith, nat_tests)
small-constant (negsuc n) h = let less : n < 2 ^ 62 = ltb-true _ _ h in omega arith

pub measure-says : (z : ℤ) (words : List Text) → is_constant z ≡ true → IsTermWords words →
    line_of (codes "measure" ∷ whole_number z ∷ words) ≡ Some (Ok (said.Measure z words))
unfolding line_of keyword_of thread_keyword_of line_for measure_of constant_of
measure-says z words h t = rw (first-number z words (small-constant z h)) (rw t.pairs (rw h (rw t.terms refl)))

pub constant-plain : (z : ℤ) → is_constant z ≡ true → IsPlainWord (whole_number z)
constant-plain z h = whole-plain z (small-constant z h)

-- ---- slots

pub record Parented (first second : Text) (empty : Bool) (p : Parent) : Type 0 where
  pub raw : Parent
  pub number : ℤ
  pub begins : parent_first (first ∷ second ∷ []) ≡ Ok (raw, second ∷ [])
  pub index : number_first (second ∷ []) ≡ Ok (number, [])
  pub whole : parent_with empty raw number ≡ Ok p

slot-says : (cnode index word0 word1 : ℕ) (first second : Text) (p : Parent) → IsWord cnode → between 0 (2 ^ 14 - 1) index ≡ true → index < 2 ^ 63 →
    IsWord word0 → IsWord word1
    → Parented first second ((word0 == 0) && (word1 == 0)) p
    → line_of (codes "slot" ∷ object_name cnode ∷ decimal index ∷ decimal word0 ∷ decimal word1 ∷ first ∷ second ∷ []) ≡ Some
    (Ok (said.Slot (object_name cnode) index word0 word1 p))
unfolding line_of keyword_of thread_keyword_of line_for slot_of slot_words_of slot_said last_number
slot-says cnode index word0 word1 first second p a h small b d parented =
    rw (first-object 111 cnode (decimal index ∷ decimal word0 ∷ decimal word1 ∷ first ∷ second ∷ []) refl refl (wide cnode a))
    (rw (first-decimal index (decimal word0 ∷ decimal word1 ∷ first ∷ second ∷ []) small)
    (rw (first-decimal word0 (decimal word1 ∷ first ∷ second ∷ []) (wide word0 b))
    (rw (first-decimal word1 (first ∷ second ∷ []) (wide word1 d))
    (rw parented.begins (rw parented.index (rw h (rw (is-word word0 b) (rw (is-word word1 d) (rw parented.whole refl)))))))))

boot-parented : (empty : Bool) → Parented (codes "boot") (decimal 0) empty parent.Boot
boot-parented empty = record { raw = parent.Boot; number = pos 0; begins = refl; index = first-decimal 0 [] (omega arith); whole = refl }

named-parented : (cnode index : ℕ) (empty : Bool) → IsWord cnode → (not empty && nat_lt index (2 ^ 14)) ≡ true →
    Parented (object_name cnode) (decimal index) empty (parent.Slot (object_name cnode) index)
named-parented cnode index empty a h =
    let both = and_parts (not empty) (nat_lt index (2 ^ 14)) h in
    let less : index < 2 ^ 14 = ltb-true _ _ both.1 in
    let inside : between 0 (2 ^ 14 - 1) index ≡ true = grind (arith, nat_tests) in record {
      raw = parent.Slot (object_name cnode) 0;
      number = pos index;
      begins = ap (λ r. r >>= λ name. Ok (parent.Slot name 0, decimal index ∷ [])) (name-digits 111 (decimal cnode) refl (decimal-digits cnode (omega arith)));
      index = first-decimal index [] (omega arith);
      whole = rw both.0 (rw inside refl);
    }

abbrev pub parent_by : Bool → SlotEntry → Parent
parent_by b e = if b then parent.Boot else parent.Slot (object_name e.parent_cnode) e.parent_index

abbrev pub parent_words_by : Bool → SlotEntry → List Text
parent_words_by b e = if b then codes "boot" ∷ decimal 0 ∷ [] else object_name e.parent_cnode ∷ decimal e.parent_index ∷ []

pub slot-reads : (e : SlotEntry) (c : Cap) (b : Bool) → IsWord e.cnode → nat_lt e.index (2 ^ 14) ≡ true → IsWord e.word0 → IsWord e.word1 → IsCapability c →
    e.word0 ∷ e.word1 ∷ [] ≡ words_of_capability c
    → IsWord e.parent_cnode → (if b then e.parent_index == no_parent else (not ((e.word0 == 0) && (e.word1 == 0)) && nat_lt e.parent_index (2 ^ 14))) ≡ true
    → Reads (said.Slot (object_name e.cnode) e.index e.word0 e.word1 (parent_by b e))
    (line ((codes "slot" ∷ object_name e.cnode ∷ decimal e.index ∷ decimal e.word0 ∷ decimal e.word1 ∷ []) ++ parent_words_by b e))
slot-reads e c true a h w0 w1 cap own g k =
    let less : e.index < 2 ^ 14 = ltb-true _ _ h in
    let inside : between 0 (2 ^ 14 - 1) e.index ≡ true = grind (arith, nat_tests) in record {
      words = codes "slot" ∷ object_name e.cnode ∷ decimal e.index ∷ decimal e.word0 ∷ decimal e.word1 ∷ codes "boot" ∷ decimal 0 ∷ [];
      spelled = refl;
      plain = (
        plain-literal (codes "slot") (omega arith) refl,
        (
          named-plain 111 e.cnode refl a,
          (
            decimal-plain e.index (omega arith),
            (number-plain e.word0 w0, (number-plain e.word1 w1, (plain-literal (codes "boot") (omega arith) refl, (number-plain 0 (omega arith), tt)))),
          ),
        ),
      );
      known = (c, cap, own);
      says = slot-says e.cnode e.index e.word0 e.word1 (codes "boot") (decimal 0) parent.Boot a inside (omega arith) w0 w1 (boot-parented _);
    }
slot-reads e c false a h w0 w1 cap own g k =
    let less : e.index < 2 ^ 14 = ltb-true _ _ h in
    let both = and_parts (not ((e.word0 == 0) && (e.word1 == 0))) (nat_lt e.parent_index (2 ^ 14)) k in
    let parent-less : e.parent_index < 2 ^ 14 = ltb-true _ _ both.1 in
    let inside : between 0 (2 ^ 14 - 1) e.index ≡ true = grind (arith, nat_tests) in record {
      words = codes "slot" ∷ object_name e.cnode ∷ decimal e.index ∷ decimal e.word0 ∷ decimal e.word1 ∷ object_name e.parent_cnode ∷ decimal e.parent_index
          ∷ [];
      spelled = refl;
      plain = (
        plain-literal (codes "slot") (omega arith) refl,
        (
          named-plain 111 e.cnode refl a,
          (
            decimal-plain e.index (omega arith),
            (number-plain e.word0 w0, (number-plain e.word1 w1, (named-plain 111 e.parent_cnode refl g, (decimal-plain e.parent_index (omega arith), tt)))),
          ),
        ),
      );
      known = (c, cap, own);
      says = slot-says e.cnode e.index e.word0 e.word1 (object_name e.parent_cnode) (decimal e.parent_index)
          (parent.Slot (object_name e.parent_cnode) e.parent_index) a inside (omega arith) w0 w1 (named-parented e.parent_cnode e.parent_index _ g k);
    }

-- ---- what is lent

pub next-number : (n : ℕ) (words rest : List Text) → IsWord n → words ≡ decimal n ∷ rest → word_first words ≡ Ok (n, rest)
next-number n words rest h e = ap word_first e ∙ (rw (number-decimal n (wide n h)) (rw (is-word n h) refl))

pub next-term : (t : TermEntry) (words rest : List Text) → IsTerm t → words ≡ term_words t ++ rest → term_first words ≡ Ok (t, rest)
next-term t words rest h e = ap term_first e ∙ (rw (term-says t h) refl)

pub next-promised : (w : PromisedWord) (words rest : List Text) → IsPromisedWord w → words ≡ promised_words w ++ rest → promised_first words ≡ Ok (w, rest)
next-promised w words rest h e = ap promised_first e ∙ (rw (promised-says w h) refl)
