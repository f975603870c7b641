-- The laws of this crate.
use Rattle.std.specs.Prelude.{ℕ, Bool, ◌≢◌, nat_lt, ◌<◌, ◌≡◌, ◌+◌, ◌≤◌, ◌++◌, true, false, All, List, [], ◌∷◌, Contains, Some, Ok}
use Rattle.model.specs.declared.events.Event.{Event}
use Rattle.model.specs.declared.events.Event.TheVariants.{Step, Tick, Irq, Write, Read}
use Rattle.model.specs.declared.instructions.Instr.TheVariants.{Ecall}
use Rattle.model.specs.declared.labels.Label.{Label}
use Rattle.model.specs.Acceptance.Accepted.{IsAccepted}
use Rattle.model.specs.Acceptance.Devices.{KeepsDevices}
use Rattle.model.specs.Acceptance.ThreadInvariants.{StandsAt, tcb_of}
use Rattle.model.specs.Images.Described.{Numbered, described, numbered_threads}
use Rattle.model.specs.Images.Image.{Image}
use Rattle.model.specs.Kernel.Scheduling.{current, is_runnable}
use Rattle.model.specs.Kernel.State.{Blocked, NotificationObject, NotificationState, State, ThreadObject, ThreadState, thread_at}
use Rattle.model.specs.Acceptance.CallRules.{AfterCall}
use Rattle.model.specs.Acceptance.NotedStates.{PointState}
use Rattle.model.specs.Acceptance.PointStates.{Known, call_at, instruction_at, noted}
use Rattle.model.specs.Kernel.Steps.{state_after, step, trace}
use Rattle.model.specs.Kernel.Waits.{open_count}
use Rattle.response.specs.Asking.{Rings, Takes, asked_at}
use Rattle.model.specs.Kernel.Interrupts.{binding}
use Rattle.headline.specs.invocations.Invoking.{Invokes}
use Rattle.headline.specs.moves.Steps.{MakesCall}
use Rattle.model.specs.declared.capabilities.Cap.TheVariants.{InterruptHandler}
use Rattle.model.specs.Capabilities.Slots.{capability_at}
use Rattle.headline.specs.steps.Points.{ReachesNoCall}
use Rattle.response.specs.DealtWith.{HoldsWithin, IsDealtWith, KeepsLevelOver, Rests}
use Rattle.response.specs.Left.{at_rest, left, line_price}
use Rattle.response.specs.Levels.{HasItsPriority, KeepsLevel, KeepsLevelOnceRested, is_level_label, is_of_level}
use Rattle.response.specs.Resting.{AreAcknowledged, AreTakenAlone, IsAcknowledged, IsTended, Skips, TakesFromOne}
use Rattle.response.specs.Responding.{DealsOnceRested, DealsWithin, RespondsOnceRested, RespondsWithin, Response, is_open_by, passes, passes_rested}
use Rattle.response.specs.Owed.{AcceptsFromOne, IsLeftAtRest, OweAtMost, OweBelow, PayAnswers, StepsFitWith, WaitsAtDoor, WaitsWhereAsked}
use Rattle.response.specs.Owed.{at_rest_with, passes_messages, passes_messages_rested, work_after}
use Rattle.response.specs.Rates.{Keeps, Rate, cost_of, costs_within, steps_in}
use Rattle.response.specs.Weights.{Leads, Pays, Weights, price_of, waits_for_notifications_alone}

-- threads of an accepted image keep the priorities that it gives them
abbrev pub PrioritiesStay : Type 0
PrioritiesStay =
    (bytes : List ℕ) (image : Image) (events : List Event) (t : Numbered) → IsAccepted bytes image → All (KeepsDevices image) events
    → Contains (numbered_threads image) t
    → HasItsPriority image t (state_after (described image) events)

-- a thread of the level runs
pub record RunsOfLevel (image : Image) (priority : ℕ) (s : State) : Type 0 where
  pub thread : Numbered
  pub listed : Contains (numbered_threads image) thread
  pub level : is_of_level priority thread ≡ true
  pub runs : current s ≡ Some (tcb_of image thread)

-- where a thread of the level may run, one does: a step is of the level
abbrev pub LevelsRun : Type 0
LevelsRun =
    (bytes : List ℕ) (image : Image) (events : List Event) (priority : ℕ) (t : Numbered) → IsAccepted bytes image → All (KeepsDevices image) events
    → Contains (numbered_threads image) t
    → is_of_level priority t ≡ true → is_runnable (thread_at (state_after (described image) events) (tcb_of image t)).status ≡ true
    → RunsOfLevel image priority (state_after (described image) events)

-- such a step is of the level by its label, too
abbrev pub LevelsAreSeen : Type 0
LevelsAreSeen =
    (image : Image) (s : State) (priority : ℕ) → RunsOfLevel image priority s → is_level_label image priority (step s Step).1 ≡ true

-- What is known of what is left, over these events: it falls at each step of the level, and rises by what interrupts cost alone; after a step
-- that is not the level's own it is at most so much.
pub record Economy (image : Image) (priority : ℕ) (rates : List Rate) (price : ℕ → ℕ) (most : ℕ) (left : List Event → ℕ) (events : List Event) : Type 0 where
  pub falls : (before later : List Event) → events ≡ before ++ Step ∷ later
      → is_level_label image priority (step (state_after (described image) before) Step).1 ≡ true
      → left (before ++ Step ∷ []) + 1 ≤ left before
  pub rests : (before later : List Event) → events ≡ before ++ Step ∷ later
      → is_level_label image priority (step (state_after (described image) before) Step).1 ≡ false
      → left (before ++ Step ∷ []) ≤ most
  pub ticks : (before later : List Event) → events ≡ before ++ Tick ∷ later → left (before ++ Tick ∷ []) ≤ left before
  pub raises : (before later : List Event) (number : ℕ) → events ≡ before ++ Irq number ∷ later
      → left (before ++ Irq number ∷ []) ≤ left before + cost_of rates price number
  pub writes : (before later : List Event) (address word : ℕ) → events ≡ before ++ Write address word ∷ later
      → left (before ++ Write address word ∷ []) ≤ left before
  pub reads : (before later : List Event) (address : ℕ) → events ≡ before ++ Read address ∷ later → left (before ++ Read address ∷ []) ≤ left before

-- where all that may be left and come within so many steps is at most as many, no more steps on end are of the level
abbrev pub EconomiesBound : Type 0
EconomiesBound =
    (image : Image) (priority : ℕ) (rates : List Rate) (price : ℕ → ℕ) (most n : ℕ) (left : List Event → ℕ) (events : List Event)
    → Economy image priority rates price most left events → left [] ≤ most → Keeps rates events → most + costs_within rates price n ≤ n
    → KeepsLevel image priority n events

-- and once the level has rested, whatever was left at the start
abbrev pub EconomiesBoundLater : Type 0
EconomiesBoundLater =
    (image : Image) (priority : ℕ) (rates : List Rate) (price : ℕ → ℕ) (most n : ℕ) (left : List Event → ℕ) (events : List Event)
    → Economy image priority rates price most left events → Keeps rates events → most + costs_within rates price n ≤ n
    → KeepsLevelOnceRested image priority n events

-- who runs has an instruction left of its budget
abbrev pub WhoRunsHasLeft : Type 0
WhoRunsHasLeft =
    (bytes : List ℕ) (image : Image) (events : List Event) (t : Numbered) → IsAccepted bytes image → All (KeepsDevices image) events
    → Contains (numbered_threads image) t
    → current (state_after (described image) events) ≡ Some (tcb_of image t)
    → open_count (tcb_of image t) (trace (described image) events) + 1 ≤ t.thread.header.budget

-- ---- stage one

-- what is left after events
abbrev pub left_after : Image → ℕ → Weights → List Event → ℕ
left_after image priority w events = left image priority w (state_after (described image) events) (trace (described image) events)

-- a tick leaves as much
abbrev pub TicksLeaveTheWork : Type 0
TicksLeaveTheWork =
    (bytes : List ℕ) (image : Image) (priority : ℕ) (w : Weights) (events : List Event) → IsAccepted bytes image → All (KeepsDevices image) events
    → left_after image priority w (events ++ Tick ∷ []) ≡ left_after image priority w events

-- and so does what the world does, wherever it is
abbrev pub WritesLeaveTheWork : Type 0
WritesLeaveTheWork =
    (image : Image) (priority : ℕ) (w : Weights) (events : List Event) (address word : ℕ)
    → left_after image priority w (events ++ Write address word ∷ []) ≡ left_after image priority w events

abbrev pub LooksLeaveTheWork : Type 0
LooksLeaveTheWork =
    (image : Image) (priority : ℕ) (w : Weights) (events : List Event) (address : ℕ)
    → left_after image priority w (events ++ Read address ∷ []) ≡ left_after image priority w events

-- a thread that waits, and has run nothing since, at a point that takes from an object
pub record WaitsToTake (image : Image) (t : Numbered) (s : State) (labels : List Label) (queue : ℕ) : Type 0 where
  pub own : ThreadState
  pub there : s.objects (tcb_of image t) ≡ Some (ThreadObject own)
  pub status : own.status ≡ Blocked queue
  pub point : ℕ
  pub state : PointState
  pub stands : StandsAt image t s own point state
  pub ecall : instruction_at t.thread point ≡ Some Ecall
  pub left : AfterCall
  pub call : call_at image t point state ≡ Some (Ok left)
  pub asks : asked_at image t.thread point state ≡ Takes queue
  pub none : open_count (tcb_of image t) labels ≡ 0

-- so does the first that waits for a notification
abbrev pub WaitersTake : Type 0
WaitersTake =
    (bytes : List ℕ) (image : Image) (events : List Event) (t : Numbered) (queue : ℕ) (n : NotificationState) (others : List ℕ) → IsAccepted bytes image
    → All (KeepsDevices image) events
    → Contains (numbered_threads image) t → (state_after (described image) events).objects queue ≡ Some (NotificationObject n)
    → n.waiters ≡ tcb_of image t ∷ others
    → WaitsToTake image t (state_after (described image) events) (trace (described image) events) queue

-- an interrupt adds at most what its line costs
abbrev pub InterruptsCost : Type 0
InterruptsCost =
    (bytes : List ℕ) (image : Image) (priority : ℕ) (w : Weights) (events : List Event) (number : ℕ) → IsAccepted bytes image
    → All (KeepsDevices image) events → Pays image priority w
    → left_after image priority w (events ++ Irq number ∷ [])
    ≤ left_after image priority w events + line_price w (state_after (described image) events) number

-- and one of a line that there is not adds nothing
abbrev pub InterruptsBeyond : Type 0
InterruptsBeyond =
    (bytes : List ℕ) (image : Image) (priority : ℕ) (w : Weights) (events : List Event) (number : ℕ) → IsAccepted bytes image
    → All (KeepsDevices image) events → Pays image priority w
    → nat_lt 63 number ≡ true → left_after image priority w (events ++ Irq number ∷ []) ≤ left_after image priority w events + 0

-- a step of a thread of the level that makes no system call takes 1 off at least
abbrev pub PlainStepsAreWork : Type 0
PlainStepsAreWork =
    (bytes : List ℕ) (image : Image) (priority : ℕ) (w : Weights) (events : List Event) (t : Numbered) → IsAccepted bytes image
    → All (KeepsDevices image) events → Pays image priority w
    → Contains (numbered_threads image) t → is_of_level priority t ≡ true → current (state_after (described image) events) ≡ Some (tcb_of image t)
    → ReachesNoCall (state_after (described image) events) (tcb_of image t)
    → left_after image priority w (events ++ Step ∷ []) + 1 ≤ left_after image priority w events

-- an invocation of what is no line's handler rings no notification, and takes no word
abbrev pub InvocationsRingNothing : Type 0
InvocationsRingNothing =
    (bytes : List ℕ) (image : Image) (events : List Event) (t : Numbered) (offset : ℕ) (old new : NotificationState) → IsAccepted bytes image
    → All (KeepsDevices image) events
    → Contains (numbered_threads image) t → let s = state_after (described image) events in current s ≡ Some (tcb_of image t) → (i : Invokes s (tcb_of image t))
    → ((number : ℕ) → capability_at s.slots i.slot ≢ InterruptHandler number) → s.objects offset ≡ Some (NotificationObject old)
    → (step s Step).0.objects offset ≡ Some (NotificationObject new) → new.word ≡ old.word

-- ---- at rest

-- where such a thread rests, no word stands at its notification
abbrev pub NoWordAtRest : Type 0
NoWordAtRest =
    (bytes : List ℕ) (image : Image) (events : List Event) (t : Numbered) (queue : ℕ) (n : NotificationState) → IsAccepted bytes image
    → All (KeepsDevices image) events
    → Contains (numbered_threads image) t → TakesFromOne image t queue
    → is_runnable (thread_at (state_after (described image) events) (tcb_of image t)).status ≡ false
    → (state_after (described image) events).objects queue ≡ Some (NotificationObject n) → n.word ≡ 0

-- where the thread rests that acknowledges a line, the line is dealt with
abbrev pub AcknowledgedLinesRest : Type 0
AcknowledgedLinesRest =
    (bytes : List ℕ) (image : Image) (priority number : ℕ) (events : List Event) → IsAccepted bytes image → All (KeepsDevices image) events → number < 64
    → (a : IsAcknowledged image priority number)
    → is_runnable (thread_at (state_after (described image) events) (tcb_of image a.tended.thread)).status ≡ false
    → IsDealtWith image number a.tended (state_after (described image) events)

-- an interrupt masks its line: so what is dealt with after it was acknowledged after it
abbrev pub InterruptsMask : Type 0
InterruptsMask =
    (bytes : List ℕ) (image : Image) (priority number : ℕ) (events : List Event) → IsAccepted bytes image → All (KeepsDevices image) events → number < 64
    → IsAcknowledged image priority number → (state_after (described image) (events ++ Irq number ∷ [])).masked number ≡ true

-- where no more than so many steps on end are of the level, it rests within as many
abbrev pub LevelsComeToRest : Type 0
LevelsComeToRest =
    (bytes : List ℕ) (image : Image) (priority n : ℕ) (events before window later : List Event) → IsAccepted bytes image → All (KeepsDevices image) events
    → KeepsLevelOver image priority n before window → events ≡ before ++ window ++ later → n < steps_in window
    → HoldsWithin image n before window (Rests image priority)

-- no way leads around the acknowledgement, from one take to the next
abbrev pub NoWaySkips : Type 0
NoWaySkips =
    (image : Image) (number : ℕ) (a : IsTended image number) (first next last : ℕ) (before behind : PointState) (one other : ℕ)
    → first < a.thread.thread.header.words → noted image a.thread first ≡ Known before → asked_at image a.thread.thread first before ≡ Takes one
    → Leads image a.thread first before next → Skips image a.thread number next last
    → last < a.thread.thread.header.words → noted image a.thread last ≡ Known behind → asked_at image a.thread.thread last behind ≡ Takes other
    → (after : ℕ) → Leads image a.thread last behind after → ⊥

-- ---- the whole of stage one, but for two laws

-- each line is bound as the image describes it
abbrev pub BindingsStay : Type 0
BindingsStay =
    (bytes : List ℕ) (image : Image) (events : List Event) (number : ℕ) → IsAccepted bytes image → All (KeepsDevices image) events → number < 64
    → binding (state_after (described image) events) number ≡ binding (described image) number

-- a step of a thread of the level that makes a system call takes 1 off at least
abbrev pub CallsAreWork : Image → ℕ → Weights → Type 0
CallsAreWork image priority w =
    (events : List Event) → All (KeepsDevices image) events → (t : Numbered) → Contains (numbered_threads image) t → is_of_level priority t ≡ true
    → current (state_after (described image) events) ≡ Some (tcb_of image t) → MakesCall (state_after (described image) events) (tcb_of image t)
    → left_after image priority w (events ++ Step ∷ []) + 1 ≤ left_after image priority w events

-- after a step of another thread no more than this is left
abbrev pub StepsBelowRest : Image → ℕ → Weights → ℕ → Type 0
StepsBelowRest image priority w most =
    (events : List Event) → All (KeepsDevices image) events → (t : Numbered) → Contains (numbered_threads image) t → is_of_level priority t ≡ false
    → current (state_after (described image) events) ≡ Some (tcb_of image t) → left_after image priority w (events ++ Step ∷ []) ≤ most

-- each line that costs something has a rate
abbrev pub HaveRates : Image → Weights → List Rate → Type 0
HaveRates image w rates =
    (number : ℕ) → number < 64 → line_price w (described image) number ≤ cost_of rates (line_price w (described image)) number

-- With these two: no more than n steps on end are of the level, where all that may be left at the start and at rest, and come within n steps, is at most n.
abbrev pub LevelsRestWithin : Type 0
LevelsRestWithin =
    (bytes : List ℕ) (image : Image) (priority : ℕ) (w : Weights) (rates : List Rate) (is_taken is_open : ℕ → Bool) (most n : ℕ) (events : List Event)
    → IsAccepted bytes image → All (KeepsDevices image) events → Pays image priority w → AreTakenAlone image priority is_taken
    → AreAcknowledged image priority is_open → HaveRates image w rates → CallsAreWork image priority w
    → StepsBelowRest image priority w most
    → left_after image priority w [] ≤ most → at_rest image w is_taken is_open ≤ most → Keeps rates events
    → most + costs_within rates (line_price w (described image)) n ≤ n → KeepsLevel image priority n events

-- and once the level has rested, whatever was left at the start
abbrev pub LevelsRestLater : Type 0
LevelsRestLater =
    (bytes : List ℕ) (image : Image) (priority : ℕ) (w : Weights) (rates : List Rate) (is_taken is_open : ℕ → Bool) (most n : ℕ) (events : List Event)
    → IsAccepted bytes image → All (KeepsDevices image) events → Pays image priority w → AreTakenAlone image priority is_taken
    → AreAcknowledged image priority is_open → HaveRates image w rates → CallsAreWork image priority w
    → StepsBelowRest image priority w most
    → at_rest image w is_taken is_open ≤ most → Keeps rates events → most + costs_within rates (line_price w (described image)) n ≤ n
    → KeepsLevelOnceRested image priority n events

-- ---- levels that wait for notifications alone

-- such a step takes 1 off where no thread of the level waits for a message
abbrev pub NotificationCallsAreWork : Type 0
NotificationCallsAreWork =
    (bytes : List ℕ) (image : Image) (priority : ℕ) (w : Weights) → IsAccepted bytes image → Pays image priority w
    → waits_for_notifications_alone image priority ≡ true → CallsAreWork image priority w

-- what a thread below rings is left too, where a thread of the level rests that takes from it alone: no word is counted there
abbrev pub RingsFit : Image → ℕ → Weights → (ℕ → Bool) → (ℕ → Bool) → ℕ → Type 0
RingsFit image priority w is_taken is_open most =
    (t : Numbered) (point : ℕ) (state : PointState) (object : ℕ) → Contains (numbered_threads image) t → is_of_level priority t ≡ false
    → point < t.thread.header.words → noted image t point ≡ Known state → asked_at image t.thread point state ≡ Rings object → is_taken object ≡ true
    → at_rest image w is_taken is_open + price_of w object ≤ most

-- after a step of another thread no more than this is left
abbrev pub NotificationStepsBelowRest : Type 0
NotificationStepsBelowRest =
    (bytes : List ℕ) (image : Image) (priority : ℕ) (w : Weights) (is_taken is_open : ℕ → Bool) (most : ℕ) → IsAccepted bytes image → Pays image priority w
    → waits_for_notifications_alone image priority ≡ true → AreTakenAlone image priority is_taken → AreAcknowledged image priority is_open
    → RingsFit image priority w is_taken is_open most
    → at_rest image w is_taken is_open ≤ most → StepsBelowRest image priority w most

-- So: no more than n steps on end are of the level, where all that may be left at the start and at rest, and come within n steps, is at most n.
abbrev pub NotificationLevelsRestWithin : Type 0
NotificationLevelsRestWithin =
    (bytes : List ℕ) (image : Image) (priority : ℕ) (w : Weights) (rates : List Rate) (is_taken is_open : ℕ → Bool) (most n : ℕ) (events : List Event)
    → IsAccepted bytes image → All (KeepsDevices image) events → Pays image priority w → waits_for_notifications_alone image priority ≡ true
    → AreTakenAlone image priority is_taken → AreAcknowledged image priority is_open → RingsFit image priority w is_taken is_open most → HaveRates image w rates
    → left_after image priority w [] ≤ most → at_rest image w is_taken is_open ≤ most → Keeps rates events
    → most + costs_within rates (line_price w (described image)) n ≤ n → KeepsLevel image priority n events

-- and once the level has rested, whatever was left at the start
abbrev pub NotificationLevelsRestLater : Type 0
NotificationLevelsRestLater =
    (bytes : List ℕ) (image : Image) (priority : ℕ) (w : Weights) (rates : List Rate) (is_taken is_open : ℕ → Bool) (most n : ℕ) (events : List Event)
    → IsAccepted bytes image → All (KeepsDevices image) events → Pays image priority w → waits_for_notifications_alone image priority ≡ true
    → AreTakenAlone image priority is_taken → AreAcknowledged image priority is_open → RingsFit image priority w is_taken is_open most → HaveRates image w rates
    → at_rest image w is_taken is_open ≤ most → Keeps rates events → most + costs_within rates (line_price w (described image)) n ≤ n
    → KeepsLevelOnceRested image priority n events

-- ---- dealt with

-- So from any moment on, as that after an interrupt, each acknowledged line is dealt with within n steps.
abbrev pub LinesAreDealtWith : Type 0
LinesAreDealtWith =
    (bytes : List ℕ) (image : Image) (priority : ℕ) (w : Weights) (rates : List Rate) (is_taken is_open : ℕ → Bool) (most n : ℕ) (events : List Event)
    → IsAccepted bytes image → All (KeepsDevices image) events → Pays image priority w → waits_for_notifications_alone image priority ≡ true
    → AreTakenAlone image priority is_taken → (acknowledged : AreAcknowledged image priority is_open) → RingsFit image priority w is_taken is_open most
    → HaveRates image w rates → left_after image priority w [] ≤ most → at_rest image w is_taken is_open ≤ most → Keeps rates events
    → most + costs_within rates (line_price w (described image)) n ≤ n
    → (number : ℕ) (few : number < 64) (here : is_open number ≡ true) (before window later : List Event) → events ≡ before ++ window ++ later
    → n < steps_in window → HoldsWithin image n before window (IsDealtWith image number (acknowledged number few here).tended)

-- and once the level has rested, whatever was left at the start
abbrev pub LinesAreDealtWithLater : Type 0
LinesAreDealtWithLater =
    (bytes : List ℕ) (image : Image) (priority : ℕ) (w : Weights) (rates : List Rate) (is_taken is_open : ℕ → Bool) (most n : ℕ) (events : List Event)
    → IsAccepted bytes image → All (KeepsDevices image) events → Pays image priority w → waits_for_notifications_alone image priority ≡ true
    → AreTakenAlone image priority is_taken → (acknowledged : AreAcknowledged image priority is_open) → RingsFit image priority w is_taken is_open most
    → HaveRates image w rates → at_rest image w is_taken is_open ≤ most → Keeps rates events
    → most + costs_within rates (line_price w (described image)) n ≤ n
    → (number : ℕ) (few : number < 64) (here : is_open number ≡ true) (first more window later : List Event)
    → is_level_label image priority (step (state_after (described image) first) Step).1 ≡ false
    → events ≡ ((first ++ Step ∷ []) ++ more) ++ window ++ later → n < steps_in window
    → HoldsWithin image n ((first ++ Step ∷ []) ++ more) window (IsDealtWith image number (acknowledged number few here).tended)

-- ---- tested

-- So it is where a response passes the test,
abbrev pub ResponsesHold : Type 0
ResponsesHold =
    (bytes : List ℕ) (image : Image) (priority : ℕ) (rates : List Rate) (r : Response) → IsAccepted bytes image → passes image priority rates r ≡ true
    → RespondsWithin bytes priority rates r.steps

abbrev pub RestedResponsesHold : Type 0
RestedResponsesHold =
    (bytes : List ℕ) (image : Image) (priority : ℕ) (rates : List Rate) (r : Response) → IsAccepted bytes image
    → passes_rested image priority rates r ≡ true → RespondsOnceRested bytes priority rates r.steps

-- and its lines are dealt with
abbrev pub ResponsesDeal : Type 0
ResponsesDeal =
    (bytes : List ℕ) (image : Image) (priority : ℕ) (rates : List Rate) (r : Response) (number : ℕ) → IsAccepted bytes image
    → passes image priority rates r ≡ true → number < 64 → is_open_by r number ≡ true → DealsWithin bytes priority rates r.steps number

abbrev pub RestedResponsesDeal : Type 0
RestedResponsesDeal =
    (bytes : List ℕ) (image : Image) (priority : ℕ) (rates : List Rate) (r : Response) (number : ℕ) → IsAccepted bytes image
    → passes_rested image priority rates r ≡ true → number < 64 → is_open_by r number ≡ true → DealsOnceRested bytes priority rates r.steps number

-- ---- every level: with messages

-- a thread waits for an answer at a call alone, and is queued as a caller there
abbrev pub ThreadsWaitWhereAsked : Type 0
ThreadsWaitWhereAsked =
    (bytes : List ℕ) (image : Image) (events : List Event) (t : Numbered) → IsAccepted bytes image → All (KeepsDevices image) events
    → Contains (numbered_threads image) t → WaitsWhereAsked image t (state_after (described image) events)

-- where a thread rests that waits for messages at one endpoint alone, it waits there, and nobody waits to send there
abbrev pub ServersRest : Type 0
ServersRest =
    (bytes : List ℕ) (image : Image) (events : List Event) (t : Numbered) (endpoint : ℕ) → IsAccepted bytes image → All (KeepsDevices image) events
    → Contains (numbered_threads image) t → AcceptsFromOne image t endpoint
    → is_runnable (thread_at (state_after (described image) events) (tcb_of image t)).status ≡ false
    → WaitsAtDoor image t (state_after (described image) events) endpoint

-- a system call of a thread of the level takes 1 off all work that there is at least, whatever it asks
abbrev pub AllCallsAreWork : Type 0
AllCallsAreWork =
    (bytes : List ℕ) (image : Image) (priority : ℕ) (w : Weights) (events : List Event) (t : Numbered) → IsAccepted bytes image
    → All (KeepsDevices image) events → Pays image priority w → PayAnswers image priority w
    → Contains (numbered_threads image) t → is_of_level priority t ≡ true → current (state_after (described image) events) ≡ Some (tcb_of image t)
    → MakesCall (state_after (described image) events) (tcb_of image t)
    → work_after image priority w (events ++ Step ∷ []) + 1 ≤ work_after image priority w events

-- this is so where threads take alone and lines are acknowledged, and of what each may wait with wherever it may wait
abbrev pub LeftAtRest : Type 0
LeftAtRest =
    (bytes : List ℕ) (image : Image) (priority : ℕ) (w : Weights) (is_taken is_open : ℕ → Bool) (owed_most : ℕ → ℕ) → IsAccepted bytes image
    → AreTakenAlone image priority is_taken → AreAcknowledged image priority is_open → OweAtMost image priority w is_taken owed_most
    → OweBelow image priority w is_taken owed_most × IsLeftAtRest image priority w is_taken is_open owed_most

-- after a step of another thread no more work is there than at rest, and what that rings
abbrev pub StepsBelowRestOwing : Type 0
StepsBelowRestOwing =
    (bytes : List ℕ) (image : Image) (priority : ℕ) (w : Weights) (is_taken is_open : ℕ → Bool) (owed_most : ℕ → ℕ) (most : ℕ) (events : List Event)
    (t : Numbered) → IsAccepted bytes image → All (KeepsDevices image) events → Pays image priority w → OweBelow image priority w is_taken owed_most
    → IsLeftAtRest image priority w is_taken is_open owed_most
    → StepsFitWith image priority w is_taken is_open owed_most most → at_rest_with image w is_taken is_open owed_most ≤ most
    → Contains (numbered_threads image) t → is_of_level priority t ≡ false → current (state_after (described image) events) ≡ Some (tcb_of image t)
    → work_after image priority w (events ++ Step ∷ []) ≤ most

-- so it is where each thread owes at most so much wherever it may wait
abbrev pub AllStepsBelowRest : Type 0
AllStepsBelowRest =
    (bytes : List ℕ) (image : Image) (priority : ℕ) (w : Weights) (is_taken is_open : ℕ → Bool) (owed_most : ℕ → ℕ) (most : ℕ) (events : List Event)
    (t : Numbered) → IsAccepted bytes image → All (KeepsDevices image) events → Pays image priority w → AreTakenAlone image priority is_taken
    → AreAcknowledged image priority is_open → OweAtMost image priority w is_taken owed_most → StepsFitWith image priority w is_taken is_open owed_most most
    → at_rest_with image w is_taken is_open owed_most ≤ most
    → Contains (numbered_threads image) t → is_of_level priority t ≡ false → current (state_after (described image) events) ≡ Some (tcb_of image t)
    → work_after image priority w (events ++ Step ∷ []) ≤ most

-- So: no more than n steps on end are of the level, where all that may be left at the start and at rest, and come within n steps, is at most n.
abbrev pub LevelsRestOwing : Type 0
LevelsRestOwing =
    (bytes : List ℕ) (image : Image) (priority : ℕ) (w : Weights) (rates : List Rate) (is_taken is_open : ℕ → Bool) (owed_most : ℕ → ℕ) (most n : ℕ)
    (events : List Event) → IsAccepted bytes image → All (KeepsDevices image) events → Pays image priority w → PayAnswers image priority w
    → OweBelow image priority w is_taken owed_most → IsLeftAtRest image priority w is_taken is_open owed_most
    → StepsFitWith image priority w is_taken is_open owed_most most → HaveRates image w rates
    → left_after image priority w [] ≤ most → at_rest_with image w is_taken is_open owed_most ≤ most → Keeps rates events
    → most + costs_within rates (line_price w (described image)) n ≤ n → KeepsLevel image priority n events

-- and once the level has rested, whatever was left at the start
abbrev pub LevelsRestOwingLater : Type 0
LevelsRestOwingLater =
    (bytes : List ℕ) (image : Image) (priority : ℕ) (w : Weights) (rates : List Rate) (is_taken is_open : ℕ → Bool) (owed_most : ℕ → ℕ) (most n : ℕ)
    (events : List Event) → IsAccepted bytes image → All (KeepsDevices image) events → Pays image priority w → PayAnswers image priority w
    → OweBelow image priority w is_taken owed_most → IsLeftAtRest image priority w is_taken is_open owed_most
    → StepsFitWith image priority w is_taken is_open owed_most most → HaveRates image w rates
    → at_rest_with image w is_taken is_open owed_most ≤ most → Keeps rates events
    → most + costs_within rates (line_price w (described image)) n ≤ n → KeepsLevelOnceRested image priority n events

-- So it is where each thread owes at most so much wherever it may wait,
abbrev pub AllLevelsRestWithin : Type 0
AllLevelsRestWithin =
    (bytes : List ℕ) (image : Image) (priority : ℕ) (w : Weights) (rates : List Rate) (is_taken is_open : ℕ → Bool) (owed_most : ℕ → ℕ) (most n : ℕ)
    (events : List Event) → IsAccepted bytes image → All (KeepsDevices image) events → Pays image priority w → PayAnswers image priority w
    → AreTakenAlone image priority is_taken → AreAcknowledged image priority is_open → OweAtMost image priority w is_taken owed_most
    → StepsFitWith image priority w is_taken is_open owed_most most → HaveRates image w rates
    → left_after image priority w [] ≤ most → at_rest_with image w is_taken is_open owed_most ≤ most → Keeps rates events
    → most + costs_within rates (line_price w (described image)) n ≤ n → KeepsLevel image priority n events

-- and once the level has rested, whatever was left at the start
abbrev pub AllLevelsRestLater : Type 0
AllLevelsRestLater =
    (bytes : List ℕ) (image : Image) (priority : ℕ) (w : Weights) (rates : List Rate) (is_taken is_open : ℕ → Bool) (owed_most : ℕ → ℕ) (most n : ℕ)
    (events : List Event) → IsAccepted bytes image → All (KeepsDevices image) events → Pays image priority w → PayAnswers image priority w
    → AreTakenAlone image priority is_taken → AreAcknowledged image priority is_open → OweAtMost image priority w is_taken owed_most
    → StepsFitWith image priority w is_taken is_open owed_most most → HaveRates image w rates
    → at_rest_with image w is_taken is_open owed_most ≤ most → Keeps rates events
    → most + costs_within rates (line_price w (described image)) n ≤ n → KeepsLevelOnceRested image priority n events

-- So it is where a response passes the test with messages, whatever the threads of the level ask,
abbrev pub MessageResponsesHold : Type 0
MessageResponsesHold =
    (bytes : List ℕ) (image : Image) (priority : ℕ) (rates : List Rate) (r : Response) (owed_most : ℕ → ℕ) → IsAccepted bytes image
    → passes_messages image priority rates r owed_most ≡ true → RespondsWithin bytes priority rates r.steps

abbrev pub RestedMessageResponsesHold : Type 0
RestedMessageResponsesHold =
    (bytes : List ℕ) (image : Image) (priority : ℕ) (rates : List Rate) (r : Response) (owed_most : ℕ → ℕ) → IsAccepted bytes image
    → passes_messages_rested image priority rates r owed_most ≡ true → RespondsOnceRested bytes priority rates r.steps

-- and its lines are dealt with
abbrev pub MessageResponsesDeal : Type 0
MessageResponsesDeal =
    (bytes : List ℕ) (image : Image) (priority : ℕ) (rates : List Rate) (r : Response) (owed_most : ℕ → ℕ) (number : ℕ) → IsAccepted bytes image
    → passes_messages image priority rates r owed_most ≡ true → number < 64 → is_open_by r number ≡ true → DealsWithin bytes priority rates r.steps number

abbrev pub RestedMessageResponsesDeal : Type 0
RestedMessageResponsesDeal =
    (bytes : List ℕ) (image : Image) (priority : ℕ) (rates : List Rate) (r : Response) (owed_most : ℕ → ℕ) (number : ℕ) → IsAccepted bytes image
    → passes_messages_rested image priority rates r owed_most ≡ true → number < 64 → is_open_by r number ≡ true
    → DealsOnceRested bytes priority rates r.steps number
