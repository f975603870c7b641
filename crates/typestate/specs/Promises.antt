-- What the endpoints of an image promise of their messages, by where the endpoints lie.
use Rattle.std.specs.Prelude.{ℕ, suc, ◌≡◌, ◌≤◌, Option, Some, List, [], ◌∷◌, length, slice_get}
use Rattle.std.specs.Map.{lookup}
use Rattle.std.specs.Option.{option_map_or}
use Rattle.std.specs.Ordering.{is_eq, nat_cmp}
use Rattle.model.specs.declared.entries.PromisedWord.{PromisedWord}
use Rattle.model.specs.declared.instructions.Register.{Register}
use Rattle.model.specs.declared.ranges.Range.{Range}
use Rattle.model.specs.Acceptance.Promises.{promise_at, range_promised}
use Rattle.model.specs.Acceptance.Ranges.{full, with_range}
use Rattle.model.specs.Images.Image.{Image, ImagePromise}

-- what is promised at an offset
abbrev pub placed_at : List (ℕ × ImagePromise) → ℕ → Option ImagePromise
placed_at placed offset = lookup (λ k. is_eq (nat_cmp offset k)) placed

-- a promise as files have them
pub record IsPromise (p : ImagePromise) : Type 0 where
  pub badges : p.header.badge_low ≤ p.header.badge_high
  pub count : length p.words ≡ p.header.words
  pub few : length p.words ≤ 8
  pub ordered : (k : ℕ) (word : PromisedWord) → slice_get p.words k ≡ Some word → word.low ≤ word.high

-- they are the image's
abbrev pub AreOfImage : Image → List (ℕ × ImagePromise) → Type 0
AreOfImage image placed = (offset : ℕ) → placed_at placed offset ≡ promise_at image offset

-- ---- the registers of words

-- what is promised of a word, if anything is
abbrev pub range_at : List PromisedWord → ℕ → Range
range_at words k = option_map_or range_promised (slice_get words k) full

-- each register has its range
abbrev pub with_each : List Range → List Register → (ℕ → Range) → List Range
with_each ranges [] each = ranges
with_each ranges (x ∷ xs) each = with_each (with_range ranges x (each 0)) xs (λ k. each (suc k))
