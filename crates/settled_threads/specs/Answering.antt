-- Endpoints that answer a badge: whoever receives a message with it there answers, on each way that such a message can take from the take to the next
-- one. So a thread that called with this badge is owed an answer.
use Rattle.std.specs.Prelude.{ℕ, ◌≡◌, ◌==◌, ◌<◌, ◌&&◌, ◌||◌, Bool, true, false, not, Contains, List, Option, Some, None, fold, is_some, length}
use Rattle.std.specs.List.{list_all}
use Rattle.std.specs.Option.{option_map_or}
use Rattle.model.specs.declared.instructions.Instr.{Instr}
use Rattle.model.specs.declared.instructions.Instr.TheVariants.{Ecall}
use Rattle.model.specs.declared.ranges.Range.{Range}
use Rattle.model.specs.Acceptance.Authority.{badge_of}
use Rattle.model.specs.Acceptance.CallRules.{message_registers}
use Rattle.model.specs.Acceptance.Edges.{after}
use Rattle.model.specs.Acceptance.NotedStates.{PointState, full_ranges}
use Rattle.model.specs.Acceptance.PointRules.{are_ranges_within}
use Rattle.model.specs.Acceptance.PointStates.{Known, Missing, Noted, Unmeasured, address_of, instruction_at, noted}
use Rattle.model.specs.Acceptance.Ranges.{full, single, with_range}
use Rattle.model.specs.Acceptance.ThreadInvariants.{LieWithin, tcb_of}
use Rattle.model.specs.Images.Described.{Numbered, numbered_threads}
use Rattle.model.specs.Images.Image.{Image, Thread}
use Rattle.model.specs.Kernel.Messages.{a0}
use Rattle.model.specs.Kernel.Scheduling.{is_runnable}
use Rattle.model.specs.Kernel.State.{State, thread_at}
use Rattle.headline.specs.steps.Taken.{edges_among}
use Rattle.response.specs.Asking.{Asked, Takes, Polls, Rings, Acknowledges, Accepts, Looks, SendsTo, Calls, Tries, Answers, Asks_nothing, asked_at}
use Rattle.response.specs.Asking.{capability_named}
use Rattle.response.specs.Left.{point_now}
use Rattle.response.specs.Owed.{asked_there}
use Rattle.response.specs.Weights.{Leads}

-- ---- what a thread calls with

-- the badge of the capability that its call names
abbrev pub badge_at : Image → Numbered → PointState → ℕ
badge_at image t state = badge_of (capability_named image t.thread state)

abbrev pub badge_noted : Image → Numbered → Noted → ℕ
badge_noted image t (Known state) = badge_at image t state
badge_noted image t Missing = 0
badge_noted image t Unmeasured = 0

-- it is at a call of the endpoint with this badge
pub record CallsThere (image : Image) (s : State) (t : Numbered) (endpoint badge : ℕ) : Type 0 where
  pub asks : asked_there image s t ≡ Calls endpoint
  pub carries : badge_noted image t (noted image t (point_now image s t)) ≡ badge

-- ---- what is known of the registers of a thread that received a message with a badge

-- when it goes on: a0 has the badge
abbrev pub ranges_received : ℕ → List Range
ranges_received badge = with_range full_ranges a0 (single badge)

-- after a system call: what a message writes may have any value
abbrev pub ranges_after_call : List Range → List Range
ranges_after_call ranges = fold (λ kept x. with_range kept x full) ranges message_registers

-- registers in these ranges lie in those that are known of a point
abbrev pub are_known : Option (List Range) → List Range → Bool
are_known None ranges = false
are_known (Some known) ranges = (length known == 31) && are_ranges_within ranges known

-- so on each way to an address: an instruction that is no system call leads as the rules on programs have it, from these ranges
abbrev pub leads_known : ℕ → ℕ → List Range → Option (List Range) → Option Instr → Bool
leads_known pc target ranges next (Some Ecall) = are_known next (ranges_after_call ranges)
leads_known pc target ranges next (Some instr) =
    list_all (λ edge. not (edge.target == target) || are_known next edge.ranges) (edges_among (after pc instr ranges))
leads_known pc target ranges next None = true

-- ---- answers

-- a point of its program receives from the endpoint
pub record ReceivesAt (image : Image) (t : Numbered) (endpoint : ℕ) : Type 0 where
  pub point : ℕ
  pub state : PointState
  pub inside : point < t.thread.header.words
  pub known : noted image t point ≡ Known state
  pub replies : Bool
  pub asks : asked_at image t.thread point state ≡ Accepts endpoint replies

-- What is owed over one edge, from what is known of two points at which an answer may be owed to who called with this badge. It may be after a message
-- was received, until the thread answers. Where it takes again none is owed, unless that call answers; nor where it looks at an endpoint, which drops
-- the right to reply too.
abbrev pub owing_for : ℕ → Option (List Range) → Option (List Range) → Bool → Asked → Bool
owing_for badge here next leads (Accepts o replies) = (replies || not (is_some here)) && are_known next (ranges_received badge)
owing_for badge here next leads (Takes o) = not (is_some here)
owing_for badge here next leads (Looks o) = not (is_some here)
owing_for badge here next leads Answers = true
owing_for badge here next leads (Polls o) = leads
owing_for badge here next leads (Rings o) = leads
owing_for badge here next leads (Acknowledges irq_line) = leads
owing_for badge here next leads (SendsTo o) = leads
owing_for badge here next leads (Calls o) = leads
owing_for badge here next leads (Tries o) = leads
owing_for badge here next leads Asks_nothing = leads

-- so over an edge of a program, by what is known of each of its points
abbrev pub owing_over : Thread → ℕ → (ℕ → Option (List Range)) → Asked → ℕ → ℕ → Bool
owing_over t badge owed asked here next =
    owing_for badge (owed here) (owed next)
    (option_map_or (λ ranges. leads_known (address_of t here) (address_of t next) ranges (owed next) (instruction_at t here)) (owed here) true) asked

pub record IsAnswered (image : Image) (endpoint badge : ℕ) : Type 0 where
  -- what is known of the points at which an answer may be owed, of a thread by its number
  pub owed : ℕ → ℕ → Option (List Range)
  -- and that it is, of each thread that receives from the endpoint
  pub kept : (t : Numbered) (point : ℕ) (state : PointState) (next : ℕ) → Contains (numbered_threads image) t → ReceivesAt image t endpoint
      → point < t.thread.header.words → noted image t point ≡ Known state → Leads image t point state next
      → owing_over t.thread badge (owed t.number) (asked_at image t.thread point state) point next ≡ true
  -- nobody polls it
  pub unpolled : (t : Numbered) (point : ℕ) (state : PointState) → Contains (numbered_threads image) t → point < t.thread.header.words
      → noted image t point ≡ Known state → asked_at image t.thread point state ≡ Looks endpoint → ⊥

-- it waits for a message where it is
abbrev pub is_accept : Asked → Bool
is_accept (Accepts o replies) = true
is_accept (Takes o) = false
is_accept (Looks o) = false
is_accept Answers = false
is_accept (Polls o) = false
is_accept (Rings o) = false
is_accept (Acknowledges irq_line) = false
is_accept (SendsTo o) = false
is_accept (Calls o) = false
is_accept (Tries o) = false
is_accept Asks_nothing = false

-- A server owes a thread the answer: it has the one right to reply to it, is at a point where an answer is owed, with its registers in the ranges that
-- are known there, and does not wait for a message.
pub record Owes (image : Image) (endpoint badge : ℕ) (a : IsAnswered image endpoint badge) (s : State) (server : Numbered) (caller : ℕ) : Type 0 where
  pub right : (thread_at s (tcb_of image server)).caller ≡ Some caller
  pub ranges : List Range
  pub owing : a.owed server.number (point_now image s server) ≡ Some ranges
  pub long : length ranges ≡ 31
  pub within : LieWithin (thread_at s (tcb_of image server)).registers ranges
  pub awake : is_accept (asked_there image s server) ≡ true → is_runnable (thread_at s (tcb_of image server)).status ≡ true

-- so does some thread that receives from the endpoint
pub record IsOwed (image : Image) (endpoint badge : ℕ) (a : IsAnswered image endpoint badge) (t : Numbered) (s : State) : Type 0 where
  pub server : Numbered
  pub listed : Contains (numbered_threads image) server
  pub receives : ReceivesAt image server endpoint
  pub owes : Owes image endpoint badge a s server (tcb_of image t)
