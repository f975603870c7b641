-- Settled threads of a level: each takes from one object alone, its input, and whomever it sends to or calls is settled, and comes before it.
use Rattle.std.specs.Prelude.{ℕ, ◌≡◌, ◌<◌, ⊤, Bool, true, Contains, Option, Some, None, []}
use Rattle.model.specs.Acceptance.NotedStates.{PointState}
use Rattle.model.specs.Acceptance.PointStates.{Known, noted}
use Rattle.model.specs.Acceptance.ThreadInvariants.{tcb_of}
use Rattle.model.specs.Images.Described.{Numbered, numbered_threads}
use Rattle.model.specs.Images.Image.{Image}
use Rattle.model.specs.Kernel.State.{Blocked, CNodeObject, EndpointObject, FrameObject, NotificationObject, Object, PageTableObject, RootTableObject, State}
use Rattle.model.specs.Kernel.State.{ThreadObject, ThreadState}
use Rattle.response.specs.Asking.{Asked, Takes, Polls, Rings, Acknowledges, Accepts, Looks, SendsTo, Calls, Tries, Answers, Asks_nothing, asked_at}
use Rattle.response.specs.Levels.{is_of_level}
use Rattle.response.specs.Owed.{asked_there, going_on, owes_at_most}
use Rattle.response.specs.Resting.{IsTended}
use Rattle.response.specs.Weights.{Weights}
use Rattle.settled_threads.specs.Answering.{IsAnswered, ReceivesAt, badge_at}

-- of threads by their numbers: the input of each that is settled, and a rank, which says who comes first
pub record Settling : Type 0 where
  pub input : ℕ → Option ℕ
  pub rank : ℕ → ℕ

-- it is settled with this input, and comes before the rank
pub record ComesBefore (image : Image) (settling : Settling) (object rank : ℕ) (t : Numbered) : Type 0 where
  pub listed : Contains (numbered_threads image) t
  pub input : settling.input t.number ≡ Some object
  pub before : settling.rank t.number < rank

-- a message at the endpoint finds a settled thread that takes it
abbrev pub IsTaken : Image → Settling → ℕ → ℕ → Type 0
IsTaken image settling endpoint rank = (t : Numbered) × ComesBefore image settling endpoint rank t

-- whoever receives from the endpoint is settled, comes before the rank, and answers this badge
pub record IsServed (image : Image) (settling : Settling) (endpoint rank badge : ℕ) : Type 0 where
  pub taken : IsTaken image settling endpoint rank
  pub answered : IsAnswered image endpoint badge
  pub each : (t : Numbered) → Contains (numbered_threads image) t → ReceivesAt image t endpoint → ComesBefore image settling endpoint rank t

-- what a settled thread may ask, with this badge
abbrev pub AsksSettled : Image → Settling → ℕ → ℕ → ℕ → Asked → Type 0
AsksSettled image settling object rank badge (Takes o) = o ≡ object
AsksSettled image settling object rank badge (Accepts o replies) = o ≡ object
AsksSettled image settling object rank badge (SendsTo o) = IsTaken image settling o rank
AsksSettled image settling object rank badge (Calls o) = IsServed image settling o rank badge
AsksSettled image settling object rank badge (Polls o) = ⊤
AsksSettled image settling object rank badge (Rings o) = ⊤
AsksSettled image settling object rank badge (Acknowledges irq_line) = ⊤
AsksSettled image settling object rank badge (Looks o) = ⊤
AsksSettled image settling object rank badge (Tries o) = ⊤
AsksSettled image settling object rank badge Answers = ⊤
AsksSettled image settling object rank badge Asks_nothing = ⊤

-- the threads that have an input are settled at the level
abbrev pub AreSettled : Image → ℕ → Settling → Type 0
AreSettled image priority settling =
    (t : Numbered) (object : ℕ) → Contains (numbered_threads image) t → settling.input t.number ≡ Some object
    → (is_of_level priority t ≡ true)
    × ((point : ℕ) (state : PointState) → point < t.thread.header.words → noted image t point ≡ Known state
    → AsksSettled image settling object (settling.rank t.number) (badge_at image t state) (asked_at image t.thread point state))

-- ---- at rest

-- what a call takes from
abbrev pub taken_by : Asked → Option ℕ
taken_by (Takes o) = Some o
taken_by (Accepts o replies) = Some o
taken_by (SendsTo o) = None
taken_by (Calls o) = None
taken_by (Polls o) = None
taken_by (Rings o) = None
taken_by (Acknowledges irq_line) = None
taken_by (Looks o) = None
taken_by (Tries o) = None
taken_by Answers = None
taken_by Asks_nothing = None

-- nothing is there to be taken: no word, and nobody who waits to send
abbrev pub HasNothing : Option Object → Type 0
HasNothing (Some (NotificationObject n)) = n.word ≡ 0
HasNothing (Some (EndpointObject e)) = e.senders ≡ []
HasNothing (Some (ThreadObject t)) = ⊥
HasNothing (Some (CNodeObject radix)) = ⊥
HasNothing (Some FrameObject) = ⊥
HasNothing (Some PageTableObject) = ⊥
HasNothing (Some RootTableObject) = ⊥
HasNothing None = ⊥

-- the thread waits at its input, in a call that takes from it, and nothing is there to be taken
pub record WaitsAtInput (image : Image) (t : Numbered) (s : State) (object : ℕ) : Type 0 where
  pub own : ThreadState
  pub there : s.objects (tcb_of image t) ≡ Some (ThreadObject own)
  pub waits : own.status ≡ Blocked object
  pub takes : taken_by (asked_there image s t) ≡ Some object
  pub nothing : HasNothing (s.objects object)

-- ---- what is left at rest

-- these objects are inputs of settled threads
abbrev pub AreInputs : Image → Settling → (ℕ → Bool) → Type 0
AreInputs image settling is_taken =
    (object : ℕ) → is_taken object ≡ true → (t : Numbered) × Contains (numbered_threads image) t × (settling.input t.number ≡ Some object)

-- each of these lines is tended by a settled thread, whose input is what the line signals
abbrev pub AreTended : Image → Settling → (ℕ → Bool) → Type 0
AreTended image settling is_open =
    (number : ℕ) → number < 64 → is_open number ≡ true → (a : IsTended image number) × (settling.input a.thread.number ≡ Some a.queue)

-- what a thread that is not settled may wait with is at most so much
abbrev pub OthersOweAtMost : Image → ℕ → Weights → Settling → (ℕ → Bool) → (ℕ → ℕ) → Type 0
OthersOweAtMost image priority w settling is_taken most =
    (t : Numbered) (point : ℕ) (state : PointState) → Contains (numbered_threads image) t → settling.input t.number ≡ None → point < t.thread.header.words
    → noted image t point ≡ Known state
    → owes_at_most w is_taken (is_of_level priority t) (going_on priority w t point) (most t.number) (asked_at image t.thread point state) ≡ true
