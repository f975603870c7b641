-- What rests with a level: notifications from which a thread takes that takes from nothing else, and lines that such a thread acknowledges.
use Rattle.std.specs.Prelude.{ℕ, ◌≡◌, ◌≢◌, ◌==◌, ◌<◌, ◌&&◌, ◌||◌, Bool, true, not, if◌then◌else◌, Contains, Some}
use Rattle.model.specs.Acceptance.NotedStates.{PointState}
use Rattle.model.specs.Acceptance.PointStates.{Known, noted}
use Rattle.model.specs.Images.Described.{Numbered, described, numbered_threads}
use Rattle.model.specs.Images.Image.{Image}
use Rattle.model.specs.Kernel.Interrupts.{binding}
use Rattle.response.specs.Asking.{Asked, Takes, Polls, Rings, Acknowledges, Accepts, Looks, SendsTo, Calls, Tries, Answers, Asks_nothing, asked_at}
use Rattle.response.specs.Levels.{is_of_level}
use Rattle.response.specs.Weights.{Leads, waits_for_no_message}

-- ---- words

-- the thread takes from this notification alone, and waits for no message
abbrev pub TakesFromOne : Image → Numbered → ℕ → Type 0
TakesFromOne image t queue =
    (point : ℕ) (state : PointState) → point < t.thread.header.words → noted image t point ≡ Known state
    → (waits_for_no_message (asked_at image t.thread point state) ≡ true)
    × ((other : ℕ) → asked_at image t.thread point state ≡ Takes other → other ≡ queue)

-- at each of these objects some thread of the level takes that takes from nothing else
abbrev pub AreTakenAlone : Image → ℕ → (ℕ → Bool) → Type 0
AreTakenAlone image priority is_taken =
    (queue : ℕ) → is_taken queue ≡ true → (t : Numbered) × Contains (numbered_threads image) t × (is_of_level priority t ≡ true) × TakesFromOne image t queue

-- ---- lines

-- Marks of a line over one edge: a point is marked where on each way to it from a take the line was acknowledged. So it is at a take, and it
-- is not after one; else only an acknowledgement marks what was not marked before.
abbrev pub marks_for : ℕ → Bool → Bool → Asked → Bool
marks_for number here next (Takes o) = here && not next
marks_for number here next (Acknowledges irq_line) = if irq_line == number then true else here || not next
marks_for number here next (Polls o) = here || not next
marks_for number here next (Rings o) = here || not next
marks_for number here next (Accepts o replies) = here || not next
marks_for number here next (Looks o) = here || not next
marks_for number here next (SendsTo o) = here || not next
marks_for number here next (Calls o) = here || not next
marks_for number here next (Tries o) = here || not next
marks_for number here next Answers = here || not next
marks_for number here next Asks_nothing = here || not next

-- A line is tended: a thread, and it alone, takes from the notification that the line is bound to, with a badge that leaves a word there; and on
-- each way from one take to the next it acknowledges the line.
pub record IsTended (image : Image) (number : ℕ) : Type 0 where
  pub thread : Numbered
  pub listed : Contains (numbered_threads image) thread
  pub queue : ℕ
  pub badge : ℕ
  pub bound : binding (described image) number ≡ Some (record { notification = queue; badge = badge })
  pub some : badge ≢ 0
  -- no other thread takes from it, and none polls it
  pub alone : (u : Numbered) (point : ℕ) (state : PointState) → Contains (numbered_threads image) u → point < u.thread.header.words
      → noted image u point ≡ Known state → asked_at image u.thread point state ≡ Takes queue → u ≡ thread
  pub unpolled : (u : Numbered) (point : ℕ) (state : PointState) → Contains (numbered_threads image) u → point < u.thread.header.words
      → noted image u point ≡ Known state → asked_at image u.thread point state ≡ Polls queue → ⊥
  -- the points that are marked, and that they are
  pub marks : ℕ → Bool
  pub marked : (point : ℕ) (state : PointState) (next : ℕ) → point < thread.thread.header.words → noted image thread point ≡ Known state
      → Leads image thread point state next → marks_for number (marks point) (marks next) (asked_at image thread.thread point state) ≡ true

-- A line is acknowledged: a thread of the level tends it that takes from nothing else, and waits for no message.
pub record IsAcknowledged (image : Image) (priority number : ℕ) : Type 0 where
  pub tended : IsTended image number
  pub level : is_of_level priority tended.thread ≡ true
  pub one : TakesFromOne image tended.thread tended.queue

-- each of these lines is
abbrev pub AreAcknowledged : Image → ℕ → (ℕ → Bool) → Type 0
AreAcknowledged image priority is_open = (number : ℕ) → number < 64 → is_open number ≡ true → IsAcknowledged image priority number

-- a way from a point of a program to another one on which the line is not acknowledged
pub data Skips (image : Image) (t : Numbered) (number first : ℕ) : ℕ → Type 0 where
  there : (last : ℕ) → last ≡ first → Skips image t number first last
  further_on : (last point : ℕ) (state : PointState) → point < t.thread.header.words → noted image t point ≡ Known state → Leads image t point state last
      → asked_at image t.thread point state ≢ Acknowledges number → Skips image t number first point → Skips image t number first last
