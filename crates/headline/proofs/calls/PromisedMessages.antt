-- Messages and promises: what is known of registers is true of what they send, and a message that keeps a promise writes what is known of it.
use Rattle.std.proofs.Common.{ℕ, zero, suc, ◌≡◌, ◌^◌, ◌<◌, ◌≤◌, ◌&&◌, Bool, true, false, Option, Some, None, List, [], ◌∷◌, length, map, take, nat_le, nat_lt}
use Rattle.std.proofs.Common.{refl}
use Rattle.std.proofs.Common.{subst, arith}
use Rattle.std.specs.List.{list_all}
use Rattle.std.proofs.lemmas.Bool.{and_parts, leb-true, ltb-true}
use Rattle.model.specs.declared.entries.PromisedWord.{PromisedWord}
use Rattle.model.specs.declared.instructions.Register.{Register}
use Rattle.model.specs.declared.ranges.Range.{Range}
use Rattle.model.specs.Acceptance.CallRules.{badges, message_registers, with_received}
use Rattle.model.specs.Acceptance.NotedStates.{PointState}
use Rattle.model.specs.Acceptance.Promises.{KeepWords, KeepsPromise, keep_words, keeps_promise, keeps_word}
use Rattle.model.specs.Acceptance.RangeRules.{range}
use Rattle.model.specs.Acceptance.Ranges.{range_of, single}
use Rattle.model.specs.Acceptance.ThreadInvariants.{LieWithin}
use Rattle.model.specs.Images.Image.{ImagePromise}
use Rattle.model.specs.Kernel.Messages.{Message, a1, delivered, length_of, message_of, word_registers}
use Rattle.model.specs.Kernel.State.{ThreadState}
use Rattle.model.specs.Machine.ProgramMemory.{RegisterFile, read}
use Rattle.headline.specs.calls.Laws.{AreRegisters, Fits, IsMessage}
use Rattle.headline.specs.calls.Messages.{KnownToKeep}
use Rattle.headline.proofs.calls.WrittenMessages.{message-fits}

-- ---- what is sent

abbrev are_registers : List Register → Bool
are_registers xs = list_all (λ (x : Register). nat_lt x.0 32) xs

module _ (r : RegisterFile) (ranges : List Range) (within : LieWithin r ranges) where
  low-kept : (x : Register) (word : PromisedWord) → x.0 < 32 → keeps_word (range_of ranges x) word ≡ true → word.low ≤ read r x
  low-kept x word less keeps =
      let parts = and_parts (nat_le word.low (range_of ranges x).low) (nat_le (range_of ranges x).high word.high) keeps in
      let low : word.low ≤ (range_of ranges x).low = leb-true word.low (range_of ranges x).low parts.0 in
      let have : ((range_of ranges x).low ≤ read r x) × (read r x ≤ (range_of ranges x).high) = within x.0 less in
      omega (arith, low, have.0)

  high-kept : (x : Register) (word : PromisedWord) → x.0 < 32 → keeps_word (range_of ranges x) word ≡ true → read r x ≤ word.high
  high-kept x word less keeps =
      let parts = and_parts (nat_le word.low (range_of ranges x).low) (nat_le (range_of ranges x).high word.high) keeps in
      let high : (range_of ranges x).high ≤ word.high = leb-true (range_of ranges x).high word.high parts.1 in
      let have : ((range_of ranges x).low ≤ read r x) × (read r x ≤ (range_of ranges x).high) = within x.0 less in
      omega (arith, high, have.1)

  words-kept : (n : ℕ) (xs : List Register) (promised : List PromisedWord) → are_registers xs ≡ true → length promised ≤ n
      → keep_words ranges xs promised ≡ true → KeepWords (map (read r) (take n xs)) promised
  words-kept n xs [] small few keeps = tt
  words-kept zero xs (word ∷ promised) small few keeps = absurd (omega (arith, few))
  words-kept (suc n) [] (word ∷ promised) small few keeps = absurd (let clash : false ≡ true = keeps in cc)
  words-kept (suc n) (x ∷ xs) (word ∷ promised) small few keeps =
      let one = and_parts (nat_lt x.0 32) (are_registers xs) small in
      let parts = and_parts (keeps_word (range_of ranges x) word) (keep_words ranges xs promised) keeps in
      let less = ltb-true x.0 32 one.0 in
      (low-kept x word less parts.0, high-kept x word less parts.0, words-kept n xs promised one.1 (omega (arith, few)) parts.1)

words-small : are_registers word_registers ≡ true
unfolding word_registers
words-small = refl

sent-keeps : (t : ThreadState) (ranges : List Range) (p : ImagePromise) (badge : ℕ) → LieWithin t.registers ranges
    → keeps_promise ranges (read t.registers a1) badge p ≡ true → KeepsPromise p badge (message_of t)
sent-keeps t ranges p badge within keeps =
    let info = read t.registers a1 in
    let first = and_parts (nat_le p.header.badge_low badge && nat_le badge p.header.badge_high && nat_le (length p.words) (length_of info))
    (keep_words ranges word_registers p.words) keeps in
    let second = and_parts (nat_le p.header.badge_low badge && nat_le badge p.header.badge_high) (nat_le (length p.words) (length_of info)) first.0 in
    let third = and_parts (nat_le p.header.badge_low badge) (nat_le badge p.header.badge_high) second.0 in
    record {
      badge_low = leb-true p.header.badge_low badge third.0;
      badge_high = leb-true badge p.header.badge_high third.1;
      words = words-kept t.registers ranges within (length_of info) word_registers p.words words-small
          (leb-true (length p.words) (length_of info) second.1) first.1;
    }

-- the info word is the one that is known
info-is : (r : RegisterFile) (ranges : List Range) (info : ℕ) → LieWithin r ranges → range_of ranges a1 ≡ single info → info ≡ read r a1
info-is r ranges info within known =
    let have : ((range_of ranges a1).low ≤ read r a1) × (read r a1 ≤ (range_of ranges a1).high) = within 11 (omega arith) in
    let low : info ≤ read r a1 = subst (λ (s : Range). s.low ≤ read r a1) known have.0 in
    let high : read r a1 ≤ info = subst (λ (s : Range). read r a1 ≤ s.high) known have.1 in
    omega (arith, low, high)

pub known-keeps : (t : ThreadState) (state : PointState) (badge : ℕ) (p : ImagePromise) → LieWithin t.registers state.ranges → KnownToKeep state badge p
    → KeepsPromise p badge (message_of t)
known-keeps t state badge p within known =
    sent-keeps t state.ranges p badge within
    (subst (λ (info : ℕ). keeps_promise state.ranges info badge p ≡ true) (info-is t.registers state.ranges known.info within known.known) known.keeps)

-- ---- what is written

pub promised-fits : (registers : RegisterFile) (ranges : List Range) (promise : Option ImagePromise) (badge : ℕ) (message : Message)
    → AreRegisters registers ranges → badge < 2 ^ 28 → IsMessage message → ((p : ImagePromise) → promise ≡ Some p → KeepsPromise p badge message)
    → Fits registers (delivered registers badge message) (with_received ranges promise) message_registers
promised-fits registers ranges None badge message fine low is kept =
    message-fits registers ranges fine.count fine.words fine.long fine.within badge badges message [] (omega (arith, low)) (omega arith, omega (arith, low))
    is.words tt is.info
promised-fits registers ranges (Some p) badge message fine low is kept =
    let keeps = kept p refl in
    message-fits registers ranges fine.count fine.words fine.long fine.within badge (range p.header.badge_low p.header.badge_high) message p.words
    (omega (arith, low)) (keeps.badge_low, keeps.badge_high) is.words keeps.words is.info
