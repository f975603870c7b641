-- Weights: what it costs a level that a notification or an endpoint is rung or sent to, and what a thread has still to set going from a point on
-- to its next wait; and when they pay for all that the threads of the level ask.
use Rattle.std.specs.Prelude.{ℕ, ◌≡◌, ◌==◌, ◌+◌, ◌≤◌, ◌<◌, ◌||◌, Bool, true, false, nat_le, not, find, map, Contains, List, if◌then◌else◌}
use Rattle.std.specs.List.{list_all, range_with_len}
use Rattle.std.specs.Option.{option_map_or}
use Rattle.model.specs.Acceptance.NotedStates.{PointState}
use Rattle.model.specs.Acceptance.PointRules.{ProgramEdge, edges_at}
use Rattle.model.specs.Acceptance.PointStates.{Known, Missing, Noted, Unmeasured, address_of, instruction_at, noted}
use Rattle.model.specs.Images.Described.{Numbered, numbered_threads}
use Rattle.model.specs.Images.Image.{Image}
use Rattle.model.specs.Shared.Lists.{times_in}
use Rattle.response.specs.Asking.{Asked, Takes, Polls, Rings, Acknowledges, Accepts, Looks, SendsTo, Calls, Tries, Answers, Asks_nothing, asked_at}
use Rattle.response.specs.Levels.{is_of_level}

-- what it costs the level that something comes to an object
pub record Price : Type 0 where
  pub object : ℕ
  pub price : ℕ

pub record Weights : Type 0 where
  -- of the notifications and endpoints from which threads of the level take
  pub prices : List Price
  -- of a thread by its number and a point: what it has still to set going on its way to the next wait
  pub still : ℕ → ℕ → ℕ

-- nothing where nobody of the level takes
abbrev pub price_of : Weights → ℕ → ℕ
price_of w object = option_map_or (λ p. p.price) (find (λ p. p.object == object) w.prices) 0

-- ---- what a point asks is paid by what is still there, or by the price of what the thread takes from

-- of a thread with this budget, from `here` to `next`; a thread of stage one neither sends nor calls nor receives messages
abbrev pub pays_for : Weights → ℕ → ℕ → ℕ → Asked → Bool
pays_for w budget here next (Takes o) = nat_le (budget + next) (price_of w o)
pays_for w budget here next (Rings o) = nat_le (price_of w o + next) here
pays_for w budget here next (Tries o) = nat_le (price_of w o + next) here
pays_for w budget here next (Accepts o replies) = nat_le (budget + next) (price_of w o)
pays_for w budget here next (SendsTo o) = nat_le (price_of w o + budget + next) here
pays_for w budget here next (Calls o) = if price_of w o == 0 then true else nat_le (price_of w o + budget + next) here
pays_for w budget here next (Polls o) = nat_le next here
pays_for w budget here next (Looks o) = nat_le next here
pays_for w budget here next (Acknowledges irq_line) = nat_le next here
pays_for w budget here next Answers = nat_le next here
pays_for w budget here next Asks_nothing = nat_le next here

-- an edge of a program leads from one point to another
pub record Leads (image : Image) (t : Numbered) (point : ℕ) (state : PointState) (next : ℕ) : Type 0 where
  pub edge : ProgramEdge
  pub among : Contains (edges_at image t point state (instruction_at t.thread point)) edge
  pub inside : next < t.thread.header.words
  pub target : edge.target ≡ address_of t.thread next

-- the weights pay for a level
pub record Pays (image : Image) (priority : ℕ) (w : Weights) : Type 0 where
  -- each object has one price
  pub once : (object : ℕ) → times_in (map (λ p. p.object) w.prices) object ≤ 1
  pub each : (p : Price) → Contains w.prices p → price_of w p.object ≡ p.price
  -- at each point of each thread of the level, whatever way it goes on
  pub points : (t : Numbered) (point : ℕ) (state : PointState) (next : ℕ) → Contains (numbered_threads image) t → is_of_level priority t ≡ true
      → point < t.thread.header.words → noted image t point ≡ Known state → Leads image t point state next
      → pays_for w t.thread.header.budget (w.still t.number point) (w.still t.number next) (asked_at image t.thread point state) ≡ true

-- ---- stage one

-- it waits for notifications alone: it neither sends a message that it waits for, nor calls, nor receives one
abbrev pub waits_for_no_message : Asked → Bool
waits_for_no_message (Accepts o replies) = false
waits_for_no_message (SendsTo o) = false
waits_for_no_message (Calls o) = false
waits_for_no_message _ = true

abbrev pub TakesAlone : Image → ℕ → Type 0
TakesAlone image priority =
    (t : Numbered) (point : ℕ) (state : PointState) → Contains (numbered_threads image) t → is_of_level priority t ≡ true
    → point < t.thread.header.words → noted image t point ≡ Known state → waits_for_no_message (asked_at image t.thread point state) ≡ true

-- ---- a test of that

abbrev pub where_known : (PointState → Bool) → Noted → Bool
where_known test (Known state) = test state
where_known test Missing = true
where_known test Unmeasured = true

abbrev pub takes_alone : Image → Numbered → Bool
takes_alone image t =
    list_all (λ point. where_known (λ state. waits_for_no_message (asked_at image t.thread point state)) (noted image t point))
    (range_with_len 0 t.thread.header.words)

abbrev pub waits_for_notifications_alone : Image → ℕ → Bool
waits_for_notifications_alone image priority = list_all (λ t. not (is_of_level priority t) || takes_alone image t) (numbered_threads image)
