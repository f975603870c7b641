-- What a message writes: words of registers one after another, after the badge and the info word.
use Rattle.std.proofs.Common.{refl, true, nat_le, nat_lt, ◌&&◌, ℕ, ◌≡◌, ◌^◌, ◌<◌, List, [], ◌∷◌, length, get_or, inl, inr, Bool, if◌then◌else◌, sym, ap, subst}
use Rattle.std.proofs.Common.{arith}
use Rattle.std.proofs.lemmas.Bool.Decides.{eqb_tells}
use Rattle.std.specs.List.{All, list_all}
use Rattle.std.proofs.lemmas.Bool.{and_parts, leb-true, ltb-true}
use Rattle.std.proofs.lemmas.List.Elements.{All-head, All-tail}
use Rattle.headline.specs.measure_facts.Terms.{WritesOnly}
use Rattle.model.specs.declared.entries.PromisedWord.{PromisedWord}
use Rattle.model.specs.declared.instructions.Register.{Register}
use Rattle.model.specs.declared.ranges.Range.{Range}
use Rattle.model.specs.Acceptance.CallRules.{badges, message_registers, with_answer, with_message}
use Rattle.model.specs.Acceptance.Promises.{KeepWords, range_promised, with_words}
use Rattle.model.specs.Acceptance.Measures.{register_numbered}
use Rattle.model.specs.Acceptance.Ranges.{full, single, with_range}
use Rattle.model.specs.Acceptance.ThreadInvariants.{LieWithin}
use Rattle.model.specs.Kernel.Messages.{Message, a0, a1, delivered, info_word, word_registers, write_words}
use Rattle.model.specs.Machine.ProgramMemory.{RegisterFile, read, write}
use Rattle.ranges.specs.Inside.{LiesIn}
use Rattle.headline.proofs.calls.WrittenRegisters.{Fits, IsWritable, below-full, widened, writes-more, writes-none, wrote}

abbrev is_writable : Register → Bool
is_writable x = nat_le 1 x.0 && nat_lt x.0 32

abbrev AreWritable : List Register → Type 0
AreWritable xs = list_all is_writable xs ≡ true

first-writable : (x : Register) (xs : List Register) → AreWritable (x ∷ xs) → IsWritable x × AreWritable xs
first-writable x xs fit =
    let parts = and_parts (is_writable x) (list_all is_writable xs) fit in
    let ends = and_parts (nat_le 1 x.0) (nat_lt x.0 32) parts.0 in
    ((leb-true 1 x.0 ends.0, ltb-true x.0 32 ends.1), parts.1)

abbrev IsSmall : ℕ → Type 0
IsSmall word = word < 2 ^ 32

-- registers beyond the last word may have any value too, and so may words of which nothing is promised
words-fit : (r : RegisterFile) (ranges : List Range) (xs : List Register) (words : List ℕ) (promised : List PromisedWord) → AreWritable xs
    → All IsSmall words → KeepWords words promised → Fits r ranges → Fits (write_words r xs words) (with_words ranges xs promised)
words-fit r ranges [] [] promised fit small kept have = have
words-fit r ranges [] (word ∷ words) promised fit small kept have = have
words-fit r ranges (x ∷ xs) [] [] fit small kept have =
    let parts = first-writable x xs fit in
    words-fit r (with_range ranges x full) xs [] [] parts.1 small tt (widened r ranges x parts.0 have)
words-fit r ranges (x ∷ xs) [] (first ∷ promised) fit small kept have = absurd kept
words-fit r ranges (x ∷ xs) (word ∷ words) [] fit small kept have =
    let parts = first-writable x xs fit in
    let least : word < 2 ^ 32 = All-head IsSmall word words small in
    words-fit (write r x word) (with_range ranges x full) xs words [] parts.1 (All-tail IsSmall word words small) tt
    (wrote r ranges x word full parts.0 least (below-full word least) have)
words-fit r ranges (x ∷ xs) (word ∷ words) (first ∷ promised) fit small kept have =
    let parts = first-writable x xs fit in
    let least : word < 2 ^ 32 = All-head IsSmall word words small in
    words-fit (write r x word) (with_range ranges x (range_promised first)) xs words promised parts.1 (All-tail IsSmall word words small) kept.2
    (wrote r ranges x word (range_promised first) parts.0 least (kept.0, kept.1) have)

words-only : (r : RegisterFile) (xs : List Register) (words : List ℕ) → AreWritable xs → WritesOnly r (write_words r xs words) xs
words-only r [] [] fit = writes-none r []
words-only r [] (word ∷ words) fit = writes-none r []
words-only r (x ∷ xs) [] fit = writes-none r (x ∷ xs)
words-only r (x ∷ xs) (word ∷ words) fit =
    let parts = first-writable x xs fit in
    writes-more r (write_words (write r x word) xs words) x word xs parts.0 (words-only (write r x word) xs words parts.1)

badge-writable : IsWritable a0
badge-writable = (omega arith, omega arith)

info-writable : IsWritable a1
info-writable = (omega arith, omega arith)

words-writable : AreWritable word_registers
unfolding word_registers
words-writable = refl

module _ (registers : RegisterFile) (ranges : List Range) (count : length registers.words ≡ 32) (small : All IsSmall registers.words)
    (long : length ranges ≡ 31)
    (within : LieWithin registers ranges) where
  words-small : (k : ℕ) → k < 32 → read registers (register_numbered k) < 2 ^ 32
  words-small k less = elim (eqb_tells k 0) [
    | inl none ↦ subst IsSmall (sym (ap (λ (b : Bool). if b then 0 else get_or registers.words k 0) none.0)) (omega arith)
    | inr some ↦ subst IsSmall (sym (ap (λ (b : Bool). if b then 0 else get_or registers.words k 0) some.0)) (small k 0 (omega (arith, count, less)))
  ]

  start : Fits registers ranges
  start = record { count = count; small = words-small; long = long; within = within }

  pub message-fits : (badge : ℕ) (out : Range) (message : Message) (promised : List PromisedWord) → badge < 2 ^ 32 → LiesIn badge out
      → All IsSmall message.words → KeepWords message.words promised → info_word message.label message.count < 2 ^ 32
      → LieWithin (delivered registers badge message) (with_message ranges out promised)
      × WritesOnly registers (delivered registers badge message) message_registers
  message-fits badge out message promised low inside words kept info =
      let number : ℕ = info_word message.label message.count in
      let first : RegisterFile = write registers a0 badge in
      let second : RegisterFile = write first a1 number in
      let one : Fits first (with_range ranges a0 out) = wrote registers ranges a0 badge out badge-writable low inside start in
      let wide : List Range = with_range (with_range ranges a0 out) a1 full in
      let two : Fits second wide = wrote first (with_range ranges a0 out) a1 number full info-writable info (below-full number info) one in
      let last : RegisterFile = write_words second word_registers message.words in
      let only : WritesOnly second last word_registers = words-only second word_registers message.words words-writable in
      let fit = words-fit second wide word_registers message.words promised words-writable words kept two in (
        fit.within,
        writes-more registers last a0 badge (a1 ∷ word_registers) badge-writable
            (writes-more first last a1 number word_registers info-writable only),
      )

  pub signal-fits : (word : ℕ) → word < 2 ^ 28
      → LieWithin (write registers a0 word) (with_range ranges a0 badges) × WritesOnly registers (write registers a0 word) (a0 ∷ [])
  signal-fits word low = (
    (wrote registers ranges a0 word badges badge-writable (omega (arith, low)) (omega arith, omega (arith, low)) start).within,
    writes-more registers (write registers a0 word) a0 word [] badge-writable (writes-none (write registers a0 word) []),
  )

  pub result-fits : LieWithin (write (write registers a0 0) a1 0) (with_answer ranges) × WritesOnly registers (write (write registers a0 0) a1 0) (a0 ∷ a1 ∷ [])
  result-fits =
      let first : RegisterFile = write registers a0 0 in
      let second : RegisterFile = write first a1 0 in
      let one : Fits first (with_range ranges a0 (single 0)) =
      wrote registers ranges a0 0 (single 0) badge-writable (omega arith) (omega arith, omega arith) start in
      let two = wrote first (with_range ranges a0 (single 0)) a1 0 (single 0) info-writable (omega arith) (omega arith, omega arith) one in
      (two.within, writes-more registers second a0 0 (a1 ∷ []) badge-writable (writes-more first second a1 0 [] info-writable (writes-none second [])))

  -- where no message is, a0 alone is written, and the ranges are wider than that
  pub nothing-fits : LieWithin (write registers a0 0) (with_message ranges badges []) × WritesOnly registers (write registers a0 0) message_registers
  nothing-fits =
      let others : List Register = a1 ∷ word_registers in
      let after : RegisterFile = write registers a0 0 in
      let one : Fits after (with_range ranges a0 badges) = wrote registers ranges a0 0 badges badge-writable (omega arith) (omega arith, omega arith) start in
      let none : All IsSmall [] = λ k other less. absurd (omega (arith, less)) in
      let fit = words-fit after (with_range ranges a0 badges) others [] [] words-writable none tt one in
      (fit.within, writes-more registers after a0 0 others badge-writable (writes-none after others))
