-- Messages: what is owed to threads that wait to send, or for an answer, and what a level has still to run with that. The test of a response for
-- levels that send, call and serve.
use Rattle.std.specs.Prelude.{ℕ, ◌≡◌, ◌==◌, ◌+◌, ◌≤◌, ◌<◌, ◌&&◌, ◌||◌, Bool, true, false, nat_le, not, All, Contains, List, [], Option, Some, None}
use Rattle.std.specs.Prelude.{if◌then◌else◌}
use Rattle.std.specs.List.{list_all}
use Rattle.model.specs.declared.events.Event.{Event}
use Rattle.model.specs.declared.labels.Label.{Label}
use Rattle.model.specs.Acceptance.Devices.{KeepsDevices}
use Rattle.model.specs.Acceptance.NotedStates.{PointState}
use Rattle.model.specs.Acceptance.PointStates.{Known, Missing, Noted, Unmeasured, noted}
use Rattle.model.specs.Acceptance.ThreadInvariants.{tcb_of}
use Rattle.model.specs.Images.Described.{Numbered, described, numbered_threads}
use Rattle.model.specs.Images.Image.{Image}
use Rattle.model.specs.Kernel.State.{AwaitsHandler, AwaitsReply, Blocked, ByCall, EndpointObject, EndpointState, Inactive}
use Rattle.model.specs.Kernel.State.{NotificationObject, NotificationState, Runnable, Sender, State, Status}
use Rattle.model.specs.Kernel.State.{ThreadObject, ThreadState, thread_at}
use Rattle.model.specs.Kernel.Steps.{state_after, trace}
use Rattle.response.specs.Asking.{Asked, Takes, Polls, Rings, Acknowledges, Accepts, Looks, SendsTo, Calls, Tries, Answers, Asks_nothing, asked_at}
use Rattle.response.specs.DealtWith.{Rests}
use Rattle.response.specs.Left.{at_rest, left, line_price, point_now, total}
use Rattle.response.specs.Levels.{is_of_level}
use Rattle.response.specs.Rates.{Rate, costs_within}
use Rattle.response.specs.Responding.{Response, are_priced, asks_each, at_each, have_rates, is_acknowledged, is_open_by, is_taken_by, over_edges}
use Rattle.response.specs.Responding.{pay_for_level, rests_at}
use Rattle.response.specs.Weights.{Leads, Weights, price_of}

-- ---- what is owed

-- what the instruction asks at a point, where something is noted there
abbrev pub asked_noted : Image → Numbered → ℕ → Noted → Asked
asked_noted image t point (Known state) = asked_at image t.thread point state
asked_noted image t point Missing = Asks_nothing
asked_noted image t point Unmeasured = Asks_nothing

-- what it asks where a thread is
abbrev pub asked_there : Image → State → Numbered → Asked
asked_there image s t = asked_noted image t (point_now image s t) (noted image t (point_now image s t))

-- what a thread of the level runs and sets going once it goes on from a point at which it waited
abbrev pub going_on : ℕ → Weights → Numbered → ℕ → ℕ
going_on priority w t point = if is_of_level priority t then t.thread.header.budget + w.still t.number (point + 1) else 0

-- who waits to send has its message, and goes on
abbrev pub owed_queued : Weights → ℕ → Asked → ℕ
owed_queued w next (SendsTo o) = price_of w o + next
owed_queued w next (Calls o) = price_of w o + next
owed_queued w next (Takes o) = 0
owed_queued w next (Polls o) = 0
owed_queued w next (Rings o) = 0
owed_queued w next (Acknowledges irq_line) = 0
owed_queued w next (Accepts o replies) = 0
owed_queued w next (Looks o) = 0
owed_queued w next (Tries o) = 0
owed_queued w next Answers = 0
owed_queued w next Asks_nothing = 0

-- who waits for an answer goes on
abbrev pub owed_awaiting : ℕ → Asked → ℕ
owed_awaiting next (Calls o) = next
owed_awaiting next (SendsTo o) = 0
owed_awaiting next (Takes o) = 0
owed_awaiting next (Polls o) = 0
owed_awaiting next (Rings o) = 0
owed_awaiting next (Acknowledges irq_line) = 0
owed_awaiting next (Accepts o replies) = 0
owed_awaiting next (Looks o) = 0
owed_awaiting next (Tries o) = 0
owed_awaiting next Answers = 0
owed_awaiting next Asks_nothing = 0

abbrev pub owed_as : Weights → ℕ → Asked → Status → ℕ
owed_as w next asked (Blocked queue) = owed_queued w next asked
owed_as w next asked AwaitsReply = owed_awaiting next asked
owed_as w next asked Inactive = 0
owed_as w next asked Runnable = 0
owed_as w next asked AwaitsHandler = 0

-- what is owed to a thread, and by it: a thread below the level owes its message alone
abbrev pub owed_of_thread : Image → ℕ → Weights → State → Numbered → ℕ
owed_of_thread image priority w s t =
    owed_as w (going_on priority w t (point_now image s t)) (asked_there image s t) (thread_at s (tcb_of image t)).status

unfoldable pub owed : Image → ℕ → Weights → State → ℕ
owed image priority w s = total (owed_of_thread image priority w s) (numbered_threads image)

-- all work that there is: what is left, and what is owed
abbrev pub work : Image → ℕ → Weights → State → List Label → ℕ
work image priority w s labels = left image priority w s labels + owed image priority w s

abbrev pub work_after : Image → ℕ → Weights → List Event → ℕ
work_after image priority w events = work image priority w (state_after (described image) events) (trace (described image) events)

-- ---- what pays

-- a call pays for its answer too, whoever gives that
abbrev pub pays_answer : Weights → ℕ → ℕ → ℕ → Asked → Bool
pays_answer w budget here next (Calls o) = nat_le (price_of w o + budget + next) here
pays_answer w budget here next (SendsTo o) = true
pays_answer w budget here next (Takes o) = true
pays_answer w budget here next (Polls o) = true
pays_answer w budget here next (Rings o) = true
pays_answer w budget here next (Acknowledges irq_line) = true
pays_answer w budget here next (Accepts o replies) = true
pays_answer w budget here next (Looks o) = true
pays_answer w budget here next (Tries o) = true
pays_answer w budget here next Answers = true
pays_answer w budget here next Asks_nothing = true

abbrev pub PayAnswers : Image → ℕ → Weights → Type 0
PayAnswers image priority w =
    (t : Numbered) (point : ℕ) (state : PointState) (next : ℕ) → Contains (numbered_threads image) t → is_of_level priority t ≡ true
    → point < t.thread.header.words → noted image t point ≡ Known state → Leads image t point state next
    → pays_answer w t.thread.header.budget (w.still t.number point) (w.still t.number next) (asked_at image t.thread point state) ≡ true

-- ---- at rest

-- what a message costs that may wait at an endpoint where no thread of the level is ready: none waits where one of them rests that takes it
abbrev pub waiting_price : Weights → (ℕ → Bool) → ℕ → ℕ
waiting_price w is_taken o = if is_taken o then 0 else price_of w o

-- What a thread may wait with is at most so much; one below may also leave a message that it tries to send. Where a message is taken at once nobody
-- waits to send it, and who calls waits for the answer alone.
abbrev pub owes_at_most : Weights → (ℕ → Bool) → Bool → ℕ → ℕ → Asked → Bool
owes_at_most w is_taken level next most (SendsTo o) = is_taken o || nat_le (price_of w o + next) most
owes_at_most w is_taken level next most (Calls o) = nat_le (waiting_price w is_taken o + next) most
owes_at_most w is_taken level next most (Tries o) = level || is_taken o || nat_le (price_of w o) most
owes_at_most w is_taken level next most (Takes o) = true
owes_at_most w is_taken level next most (Polls o) = true
owes_at_most w is_taken level next most (Rings o) = true
owes_at_most w is_taken level next most (Acknowledges irq_line) = true
owes_at_most w is_taken level next most (Accepts o replies) = true
owes_at_most w is_taken level next most (Looks o) = true
owes_at_most w is_taken level next most Answers = true
owes_at_most w is_taken level next most Asks_nothing = true

abbrev pub OweAtMost : Image → ℕ → Weights → (ℕ → Bool) → (ℕ → ℕ) → Type 0
OweAtMost image priority w is_taken most =
    (t : Numbered) (point : ℕ) (state : PointState) → Contains (numbered_threads image) t → point < t.thread.header.words
    → noted image t point ≡ Known state
    → owes_at_most w is_taken (is_of_level priority t) (going_on priority w t point) (most t.number) (asked_at image t.thread point state) ≡ true

-- so below the level
abbrev pub OweBelow : Image → ℕ → Weights → (ℕ → Bool) → (ℕ → ℕ) → Type 0
OweBelow image priority w is_taken most =
    (t : Numbered) (point : ℕ) (state : PointState) → Contains (numbered_threads image) t → is_of_level priority t ≡ false → point < t.thread.header.words
    → noted image t point ≡ Known state
    → owes_at_most w is_taken false (going_on priority w t point) (most t.number) (asked_at image t.thread point state) ≡ true

-- and in the level, where none of its threads is ready
abbrev pub OweAtRest : Image → ℕ → Weights → (ℕ → ℕ) → Type 0
OweAtRest image priority w most =
    (events : List Event) (t : Numbered) → All (KeepsDevices image) events → Contains (numbered_threads image) t → is_of_level priority t ≡ true
    → Rests image priority (state_after (described image) events)
    → owed_of_thread image priority w (state_after (described image) events) t ≤ most t.number

-- Where no thread of the level is ready, no word stands at these objects, and nobody waits to send there; nothing is pending on these lines, and none of
-- its threads waits with more than so much.
pub record IsLeftAtRest (image : Image) (priority : ℕ) (w : Weights) (is_taken is_open : ℕ → Bool) (most : ℕ → ℕ) : Type 0 where
  pub words : (events : List Event) (queue : ℕ) (n : NotificationState) → All (KeepsDevices image) events
      → Rests image priority (state_after (described image) events) → is_taken queue ≡ true
      → (state_after (described image) events).objects queue ≡ Some (NotificationObject n) → n.word ≡ 0
  pub messages : (events : List Event) (queue : ℕ) (e : EndpointState) → All (KeepsDevices image) events
      → Rests image priority (state_after (described image) events) → is_taken queue ≡ true
      → (state_after (described image) events).objects queue ≡ Some (EndpointObject e) → e.senders ≡ []
  pub lines : (events : List Event) (number : ℕ) → All (KeepsDevices image) events → Rests image priority (state_after (described image) events)
      → number < 64 → is_open number ≡ true → (state_after (described image) events).pending number ≡ false
  pub owed : OweAtRest image priority w most

-- what may be left and owed where no thread of the level is ready
abbrev pub at_rest_with : Image → Weights → (ℕ → Bool) → (ℕ → Bool) → (ℕ → ℕ) → ℕ
at_rest_with image w is_taken is_open most =
    at_rest image w is_taken is_open + total (λ (t : Numbered). most t.number) (numbered_threads image)

-- where a word or a message comes to
abbrev pub comes_to : Asked → Option ℕ
comes_to (Rings o) = Some o
comes_to (SendsTo o) = Some o
comes_to (Calls o) = Some o
comes_to (Tries o) = Some o
comes_to (Takes o) = None
comes_to (Polls o) = None
comes_to (Acknowledges irq_line) = None
comes_to (Accepts o replies) = None
comes_to (Looks o) = None
comes_to Answers = None
comes_to Asks_nothing = None

-- what one step of a thread below sets going is left too, where a thread of the level rests that takes what comes: no word and no message is counted there
abbrev pub StepsFitWith : Image → ℕ → Weights → (ℕ → Bool) → (ℕ → Bool) → (ℕ → ℕ) → ℕ → Type 0
StepsFitWith image priority w is_taken is_open owed_most most =
    (t : Numbered) (point : ℕ) (state : PointState) (object : ℕ) → Contains (numbered_threads image) t → is_of_level priority t ≡ false
    → point < t.thread.header.words → noted image t point ≡ Known state → comes_to (asked_at image t.thread point state) ≡ Some object
    → is_taken object ≡ true → at_rest_with image w is_taken is_open owed_most + price_of w object ≤ most

-- ---- who waits is where it asked for that

abbrev pub is_call : Asked → Bool
is_call (Calls o) = true
is_call (SendsTo o) = false
is_call (Takes o) = false
is_call (Polls o) = false
is_call (Rings o) = false
is_call (Acknowledges irq_line) = false
is_call (Accepts o replies) = false
is_call (Looks o) = false
is_call (Tries o) = false
is_call Answers = false
is_call Asks_nothing = false

-- A thread waits for an answer at a call alone, and is queued as a caller there; as a receiver it is not.
pub record WaitsWhereAsked (image : Image) (t : Numbered) (s : State) : Type 0 where
  pub awaits : (thread_at s (tcb_of image t)).status ≡ AwaitsReply → is_call (asked_there image s t) ≡ true
  pub sends : (queue : ℕ) (e : EndpointState) (x : Sender) → s.objects queue ≡ Some (EndpointObject e) → Contains e.senders x → x.thread ≡ tcb_of image t
      → x.sent ≡ ByCall → is_call (asked_there image s t) ≡ true
  pub receives : (queue : ℕ) (e : EndpointState) → s.objects queue ≡ Some (EndpointObject e) → Contains e.receivers (tcb_of image t)
      → is_call (asked_there image s t) ≡ false

-- ---- servers at rest

-- waits for nothing but messages at this endpoint
abbrev pub accepts_only : ℕ → Asked → Bool
accepts_only door (Accepts o replies) = o == door
accepts_only door (Takes o) = false
accepts_only door (SendsTo o) = false
accepts_only door (Calls o) = false
accepts_only door (Polls o) = true
accepts_only door (Rings o) = true
accepts_only door (Acknowledges irq_line) = true
accepts_only door (Looks o) = true
accepts_only door (Tries o) = true
accepts_only door Answers = true
accepts_only door Asks_nothing = true

abbrev pub AcceptsFromOne : Image → Numbered → ℕ → Type 0
AcceptsFromOne image t door =
    (point : ℕ) (state : PointState) → point < t.thread.header.words → noted image t point ≡ Known state
    → accepts_only door (asked_at image t.thread point state) ≡ true

-- the thread waits at its endpoint, where nobody waits to send
pub record WaitsAtDoor (image : Image) (t : Numbered) (s : State) (endpoint : ℕ) : Type 0 where
  pub own : ThreadState
  pub there : s.objects (tcb_of image t) ≡ Some (ThreadObject own)
  pub waits : own.status ≡ Blocked endpoint
  pub door : EndpointState
  pub is_door : s.objects endpoint ≡ Some (EndpointObject door)
  pub none : door.senders ≡ []

-- ---- a test of all that

abbrev pub pay_answers : Image → ℕ → Weights → Bool
pay_answers image priority w =
    list_all (λ t. not (is_of_level priority t)
    || over_edges image t (λ asked here next. pays_answer w t.thread.header.budget (w.still t.number here) (w.still t.number next) asked))
    (numbered_threads image)

abbrev pub owe_at_most : Image → ℕ → Weights → (ℕ → Bool) → (ℕ → ℕ) → Bool
owe_at_most image priority w is_taken most =
    list_all (λ t. at_each image t (λ point state.
    owes_at_most w is_taken (is_of_level priority t) (going_on priority w t point) (most t.number) (asked_at image t.thread point state)))
    (numbered_threads image)

abbrev pub rest_with : Image → Response → (ℕ → ℕ) → ℕ
rest_with image r most = at_rest_with image r.weights (is_taken_by r) (is_open_by r) most

-- by where the step comes to
abbrev pub fits_at : (ℕ → Bool) → (ℕ → ℕ) → ℕ → ℕ → Option ℕ → Bool
fits_at is_taken price rest most (Some o) = not (is_taken o) || nat_le (rest + price o) most
fits_at is_taken price rest most None = true

abbrev pub step_fits : (ℕ → Bool) → (ℕ → ℕ) → ℕ → ℕ → Asked → Bool
step_fits is_taken price rest most asked = fits_at is_taken price rest most (comes_to asked)

abbrev pub steps_fit_with : Image → ℕ → Response → (ℕ → ℕ) → Bool
steps_fit_with image priority r most =
    list_all (λ t. is_of_level priority t || asks_each image t (step_fits (is_taken_by r) (price_of r.weights) (rest_with image r most) r.most))
    (numbered_threads image)

-- all that the bound rests on once the level has rested; `owed_most` is what each thread may wait with, by its number
unfoldable pub passes_messages_rested : Image → ℕ → List Rate → Response → (ℕ → ℕ) → Bool
passes_messages_rested image priority rates r owed_most =
    are_priced r.weights
    && (pay_for_level image priority r.weights
    && (pay_answers image priority r.weights
    && (owe_at_most image priority r.weights (is_taken_by r) owed_most
    && (list_all (rests_at image priority) r.taken
    && (list_all (is_acknowledged image priority) r.open_lines
    && (steps_fit_with image priority r owed_most
    && (have_rates image r.weights rates
    && (nat_le (rest_with image r owed_most) r.most
    && nat_le (r.most + costs_within rates (line_price r.weights (described image)) r.steps) r.steps))))))))

-- and from the start on
unfoldable pub passes_messages : Image → ℕ → List Rate → Response → (ℕ → ℕ) → Bool
passes_messages image priority rates r owed_most =
    passes_messages_rested image priority rates r owed_most && nat_le (left image priority r.weights (described image) []) r.most
