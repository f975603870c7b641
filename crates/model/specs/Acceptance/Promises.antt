-- Promises of endpoints: what an image says of each message there, what a sender has to know to keep it, and what a receiver knows.
-- Such promises are this project's own.
use Rattle.std.specs.Prelude.{ℕ, ◌==◌, ◌≤◌, Bool, true, false, ◌&&◌, nat_le, find, length, Option, List, [], ◌∷◌}
use Rattle.model.specs.declared.entries.PromisedWord.{PromisedWord}
use Rattle.model.specs.declared.instructions.Register.{Register}
use Rattle.model.specs.declared.ranges.Range.{Range}
use Rattle.model.specs.Acceptance.RangeRules.{range}
use Rattle.model.specs.Acceptance.Ranges.{full, range_of, with_range}
use Rattle.model.specs.Images.Image.{Image, ImagePromise}
use Rattle.model.specs.Images.Places.{offset_of}
use Rattle.model.specs.Kernel.Messages.{Message, length_of, word_registers}

-- The promise of the endpoint at an offset, if the image has one. Endpoints that threads make stand at no such offset.
abbrev pub promise_at : Image → ℕ → Option ImagePromise
promise_at image offset = find (λ p. offset_of image p.header.endpoint == offset) image.promises

abbrev pub range_promised : PromisedWord → Range
range_promised word = range word.low word.high

-- ---- messages

-- each promised word is there, and lies in its range
abbrev pub KeepWords : List ℕ → List PromisedWord → Type 0
KeepWords words [] = Unit {0}
KeepWords [] (promised ∷ others) = ⊥
KeepWords (word ∷ words) (promised ∷ others) = (promised.low ≤ word) × (word ≤ promised.high) × KeepWords words others

pub record KeepsPromise (p : ImagePromise) (badge : ℕ) (message : Message) : Type 0 where
  pub badge_low : p.header.badge_low ≤ badge
  pub badge_high : badge ≤ p.header.badge_high
  pub words : KeepWords message.words p.words

-- ---- what a sender has to know

abbrev pub keeps_word : Range → PromisedWord → Bool
keeps_word r promised = nat_le promised.low r.low && nat_le r.high promised.high

-- each promised word has a register, which is known to lie in its range
abbrev pub keep_words : List Range → List Register → List PromisedWord → Bool
keep_words ranges xs [] = true
keep_words ranges [] (promised ∷ others) = false
keep_words ranges (x ∷ xs) (promised ∷ others) = keeps_word (range_of ranges x) promised && keep_words ranges xs others

-- a message with this info word and badge, and words in registers of these ranges
abbrev pub keeps_promise : List Range → ℕ → ℕ → ImagePromise → Bool
keeps_promise ranges info badge p =
    nat_le p.header.badge_low badge && nat_le badge p.header.badge_high && nat_le (length p.words) (length_of info) && keep_words ranges word_registers p.words

-- ---- what a receiver knows

-- the first registers have the promised words, and the others any
abbrev pub with_words : List Range → List Register → List PromisedWord → List Range
with_words ranges [] words = ranges
with_words ranges (x ∷ xs) [] = with_words (with_range ranges x full) xs []
with_words ranges (x ∷ xs) (promised ∷ others) = with_words (with_range ranges x (range_promised promised)) xs others
