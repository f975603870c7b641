-- The laws of this crate, and those of the crates below that its proofs are built on.
use Rattle.std.specs.Prelude.{ℕ, ◌≡◌, ◌+◌, List, Ok, Some, false, true, Bool, Contains, ◌++◌, [], ◌∷◌}
use Rattle.model.specs.declared.events.Event.TheVariants.{Irq, Tick, Step, Write, Read}
use Rattle.model.specs.declared.instructions.Instr.TheVariants.{Ecall}
use Rattle.model.specs.declared.labels.Label.{Label}
use Rattle.model.specs.Acceptance.Accepted.{IsAccepted}
use Rattle.headline.specs.moves.Ground.{SameGround}
use Rattle.model.specs.Acceptance.CallRules.{AfterCall}
use Rattle.model.specs.Acceptance.Devices.{IsOfData}
use Rattle.model.specs.Acceptance.NotedStates.{PointState}
use Rattle.model.specs.Acceptance.PointStates.{call_at, instruction_at}
use Rattle.model.specs.Acceptance.ThreadInvariants.{IsWaiting, IsWithinBudget, KeepsPromises, StandsAt, ThreadInvariant, WaitsThere, tcb_of}
use Rattle.model.specs.Images.Described.{Numbered, numbered_threads}
use Rattle.model.specs.Images.Image.{Image}
use Rattle.model.specs.Kernel.Scheduling.{current}
use Rattle.model.specs.Kernel.Soundness.{IsSound}
use Rattle.model.specs.Kernel.State.{State, ThreadObject, ThreadState}
use Rattle.model.specs.Kernel.Steps.{place_of, step}
use Rattle.model.specs.Kernel.Waits.{open_count}
use Rattle.headline.specs.calls.Laws.{LeadsOn, AreAllowed, AreNumbered, AreNamed, Receives, Sends, NeedNothing, MessageFits, AnswerFits, SignalFits, ResultFits}
use Rattle.headline.specs.calls.Laws.{SentMessagesKeepPromises, NothingFits}
use Rattle.headline.specs.kept.Laws.{StandsOn, HaveOwnBlocks, IsLong}
use Rattle.soundness.specs.Laws.{EventsKeepSoundness, ReplyKeepsSoundness, SignalKeepsSoundness}
use Rattle.headline.specs.facts.Laws.{Ends}
use Rattle.headline.specs.facts.Standing.{AllStand, IsControlBlock}
use Rattle.headline.specs.facts.Waiting.{WaitsAsAsked}
use Rattle.headline.specs.lookups.Laws.{HoldsNoted, LooksUpNoted}
use Rattle.headline.specs.moves.Moving.{GoesOnAs, IsLeftAlone, PassesWith, WaitsOn}
use Rattle.headline.specs.moves.Resting.{OthersRest}
use Rattle.headline.specs.moves.Steps.{GoesWell, InvokesNothing, MakesCall}
use Rattle.headline.specs.steps.Points.{ReachesNoCall}

-- ---- one thread

-- registers, status and places in queues stay
abbrev pub ThreadsLeftAloneStandOn : Type 0
ThreadsLeftAloneStandOn =
    (image : Image) (t : Numbered) (s after : State) (labels later : List Label) → IsLeftAlone image t s after
    → ((old : ThreadState) → s.objects (tcb_of image t) ≡ Some (ThreadObject old) → GoesOnAs after (tcb_of image t) old) → WaitsOn s after (tcb_of image t)
    → open_count (tcb_of image t) later ≡ open_count (tcb_of image t) labels
    → ThreadInvariant image t s labels → WaitsAsAsked image t s → ThreadInvariant image t after later × WaitsAsAsked image t after

abbrev pub ThreadsBeginToWait : Type 0
ThreadsBeginToWait =
    (image : Image) (t : Numbered) (s after : State) (own next : ThreadState) (point : ℕ) (state : PointState) (later : List Label)
    → IsLeftAlone image t s after → StandsAt image t s own point state → WaitsThere image t point state
    → after.objects (tcb_of image t) ≡ Some (ThreadObject next) → IsWaiting next.status → next.registers ≡ own.registers
    → open_count (tcb_of image t) later ≡ 0 → ThreadInvariant image t after later

abbrev pub WaitsThatEndLeadOn : Type 0
WaitsThatEndLeadOn =
    (image : Image) (t : Numbered) (s after : State) (own : ThreadState) (point : ℕ) (state : PointState) (left : AfterCall) (later : List Label)
    → IsLeftAlone image t s after → StandsAt image t s own point state → instruction_at t.thread point ≡ Some Ecall
    → call_at image t point state ≡ Some (Ok left) → left.is_wait ≡ true → left.slots ≡ state.slots → PassesWith after (tcb_of image t) own state left
    → open_count (tcb_of image t) later ≡ 0 → ThreadInvariant image t after later

-- no wait, and slots stay
abbrev pub CallsThatPassLeadOn : Type 0
CallsThatPassLeadOn =
    (image : Image) (t : Numbered) (s after : State) (own : ThreadState) (point : ℕ) (state : PointState) (left : AfterCall) (labels later : List Label)
    → IsLeftAlone image t s after → StandsAt image t s own point state → instruction_at t.thread point ≡ Some Ecall
    → call_at image t point state ≡ Some (Ok left) → left.is_wait ≡ false → left.slots ≡ state.slots → PassesWith after (tcb_of image t) own state left
    → IsWithinBudget image t labels own state → open_count (tcb_of image t) later ≡ open_count (tcb_of image t) labels + 1
    → ThreadInvariant image t after later

-- ---- all threads

-- where slots and the bytes of code stay, each thread's slots, mappings and code do
abbrev pub SameGroundTouchesNone : Type 0
SameGroundTouchesNone =
    (bytes : List ℕ) (image : Image) (t : Numbered) (s after : State) → IsAccepted bytes image → Contains (numbered_threads image) t
    → IsSound s → IsSound after → SameGround image s after → IsLeftAlone image t s after

-- the invariant of those that a step moves holds, and the others rest
abbrev pub AllStandWhereOthersRest : Type 0
AllStandWhereOthersRest =
    (bytes : List ℕ) (image : Image) (s after : State) (labels later : List Label) (moves : ℕ → Bool) → IsAccepted bytes image
    → AllStand image s labels → IsSound after → SameGround image s after → OthersRest s after moves
    → ((t : Numbered) → Contains (numbered_threads image) t → moves (tcb_of image t) ≡ true
    → ThreadInvariant image t after later × WaitsAsAsked image t after)
    → ((offset : ℕ) (own : ThreadState) → moves offset ≡ true → after.objects offset ≡ Some (ThreadObject own) → IsControlBlock image offset)
    → ((t : Numbered) → Contains (numbered_threads image) t → moves (tcb_of image t) ≡ false
    → open_count (tcb_of image t) later ≡ open_count (tcb_of image t) labels)
    → AllStand image after later

abbrev pub TicksGoWell : Type 0
TicksGoWell =
    (bytes : List ℕ) (image : Image) (s : State) (labels : List Label) → IsAccepted bytes image → AllStand image s labels
    → AllStand image (step s Tick).0 (labels ++ (step s Tick).1 ∷ [])

abbrev pub InterruptsGoWell : Type 0
InterruptsGoWell =
    (bytes : List ℕ) (image : Image) (s : State) (labels : List Label) (number : ℕ) → IsAccepted bytes image → AllStand image s labels
    → AllStand image (step s (Irq number)).0 (labels ++ (step s (Irq number)).1 ∷ [])

-- the world outside writes into a frame that nobody executes, or looks at any
abbrev pub WritesGoWell : Type 0
WritesGoWell =
    (bytes : List ℕ) (image : Image) (s : State) (labels : List Label) (address word : ℕ) → IsAccepted bytes image → AllStand image s labels
    → IsOfData image (place_of address) → AllStand image (step s (Write address word)).0 (labels ++ (step s (Write address word)).1 ∷ [])

abbrev pub ReadsGoWell : Type 0
ReadsGoWell =
    (bytes : List ℕ) (image : Image) (s : State) (labels : List Label) (address : ℕ) → IsAccepted bytes image → AllStand image s labels
    → AllStand image (step s (Read address)).0 (labels ++ (step s (Read address)).1 ∷ [])

-- system calls that invoke nothing
abbrev pub MessagesGoWell : Type 0
MessagesGoWell =
    (bytes : List ℕ) (image : Image) (t : Numbered) (s : State) (labels : List Label) → IsAccepted bytes image → AllStand image s labels
    → Contains (numbered_threads image) t → current s ≡ Some (tcb_of image t) → MakesCall s (tcb_of image t) → InvokesNothing s (tcb_of image t)
    → GoesWell image s labels Step

-- steps that make no system call
abbrev pub PlainStepsGoWell : Type 0
PlainStepsGoWell =
    (bytes : List ℕ) (image : Image) (t : Numbered) (s : State) (labels : List Label) → IsAccepted bytes image → AllStand image s labels
    → Contains (numbered_threads image) t → current s ≡ Some (tcb_of image t) → ReachesNoCall s (tcb_of image t) → GoesWell image s labels Step

-- what waits keeps what is promised
abbrev pub WaitingMessagesKeepPromises : Type 0
WaitingMessagesKeepPromises = (image : Image) (s : State) (labels : List Label) → AllStand image s labels → KeepsPromises image s

-- ---- the laws below that these are built on

pub record Laws : Type 0 where
  pub stand_on : StandsOn
  pub lead : LeadsOn
  pub ends : Ends
  pub own_blocks : HaveOwnBlocks
  pub is_long : IsLong
  pub keeps : EventsKeepSoundness
  pub replies : ReplyKeepsSoundness
  pub signals : SignalKeepsSoundness
  pub holds : HoldsNoted
  pub finds : LooksUpNoted
  pub allowed : AreAllowed
  pub number : AreNumbered
  pub named : AreNamed
  pub message : MessageFits
  pub answer : AnswerFits
  pub signal : SignalFits
  pub result : ResultFits
  pub nothing : NothingFits
  pub sent : SentMessagesKeepPromises
  pub receives : Receives
  pub sends : Sends
  pub others : NeedNothing
