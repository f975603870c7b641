-- The laws on parts.
use Rattle.std.specs.Prelude.{ℕ, ◌≡◌, ◌<◌, true, false, List, All, Contains, filter, map, None, Some}
use Rattle.model.specs.declared.events.Event.{Event}
use Rattle.model.specs.declared.labels.Label.{Label}
use Rattle.model.specs.Acceptance.Accepted.{IsAccepted}
use Rattle.model.specs.Acceptance.Authority.{Holds, StaysWithin, WithinAuthority}
use Rattle.model.specs.Acceptance.Devices.{KeepsDevices}
use Rattle.model.specs.Acceptance.ThreadInvariants.{tcb_of}
use Rattle.model.specs.Acceptance.WellFormed.{capability_rules, is_untyped_type, mapping_rules, object_rules}
use Rattle.model.specs.Images.Places.{offset_of, type_at}
use Rattle.model.specs.Images.Described.{Numbered, described, numbered_threads}
use Rattle.model.specs.Images.Image.{Image}
use Rattle.model.specs.declared.events.Event.TheVariants.{Irq, Tick}
use Rattle.model.specs.Kernel.Scheduling.{block, current, wake}
use Rattle.model.specs.Kernel.Messages.{poll, receive, reply, send, signal, wait, with_caller}
use Rattle.model.specs.Kernel.State.{Sender, State, Status, endpoint_at, notification_at, thread_at}
use Rattle.model.specs.Kernel.Interrupts.{Signal, binding}
use Rattle.model.specs.Kernel.Steps.{state_after, step, trace}
use Rattle.headline.specs.facts.Standing.{AllStand}
use Rattle.headline.specs.parts.Agreeing.{AgreeFor, HasBuffers, IsOfPart, WaitInside}
use Rattle.headline.specs.parts.Given.{AllHoldGiven}
use Rattle.headline.specs.parts.Leaving.{ChangesQueue, HasNothing, HasNothingOf}
use Rattle.headline.specs.parts.Views.{DoesSame, SameView}
use Rattle.model.specs.declared.instructions.Instr.{Instr}
use Rattle.model.specs.Machine.ProgramMemory.{Content, RegisterFile}
use Rattle.headline.specs.parts.Parts.{Part, alone, changes, is_above, is_in, is_line_of, is_thread_in, own_events, own_labels, takes_nothing, without_others}

-- ---- the two promises

abbrev pub PartsRunAsAlone : Type 0
PartsRunAsAlone =
    (bytes others : List ℕ) (image : Image) (part : Part) (events : List Event) → IsAccepted bytes image → IsAccepted others (alone image part)
    → All (KeepsDevices image) events → takes_nothing image part ≡ true
    → own_labels image part (described image) events ≡ trace (described (alone image part)) (own_events image part (described image) events)

abbrev pub PartsAboveAreUndisturbed : Type 0
PartsAboveAreUndisturbed =
    (bytes others : List ℕ) (image : Image) (part : Part) (events : List Event) → IsAccepted bytes image → IsAccepted others (alone image part)
    → All (KeepsDevices image) events → takes_nothing image part ≡ true → is_above image part ≡ true
    → map (without_others image part) (trace (described image) events) ≡ map (without_others image part) (trace (described (alone image part)) events)

-- ---- the image of a part alone

abbrev pub AloneKeepsPhases : Type 0
AloneKeepsPhases =
    (image : Image) (part : Part) → (object_rules (alone image part) ≡ object_rules image)
    × (capability_rules (alone image part) ≡ capability_rules image) × (mapping_rules (alone image part) ≡ mapping_rules image)

-- ---- a step of another thread

-- it leaves the part's threads as they are
abbrev pub OthersLeaveThreads : Type 0
OthersLeaveThreads =
    (bytes : List ℕ) (image : Image) (part : Part) (t u : Numbered) (s after : State) (labels later : List Label) → IsAccepted bytes image
    → AllStand image s labels → AllStand image after later → Contains (numbered_threads image) t → Contains (numbered_threads image) u
    → is_in part t.thread ≡ false → is_in part u.thread ≡ true → HasNothingOf image part t s → WithinAuthority image t.thread s after
    → after.objects (tcb_of image u) ≡ s.objects (tcb_of image u)

-- and the ready lists, without all others
abbrev pub OthersLeaveReady : Type 0
OthersLeaveReady =
    (bytes : List ℕ) (image : Image) (part : Part) (t : Numbered) (s after : State) (labels later : List Label) → IsAccepted bytes image
    → AllStand image s labels → AllStand image after later → Contains (numbered_threads image) t
    → is_in part t.thread ≡ false → HasNothingOf image part t s → WithinAuthority image t.thread s after
    → (priority : ℕ) → filter (is_thread_in image part) (after.ready priority) ≡ filter (is_thread_in image part) (s.ready priority)

-- ---- an event of the part's own

-- who runs in the whole runs in the part alone
abbrev pub SameRuns : Type 0
SameRuns =
    (image : Image) (part : Part) (s t : State) (thread : ℕ) → AgreeFor image part s t → current s ≡ Some thread
    → is_thread_in image part thread ≡ true → current t ≡ Some thread

abbrev pub TicksAgree : Type 0
TicksAgree =
    (image : Image) (part : Part) (s t : State) (thread : ℕ) → AgreeFor image part s t → current s ≡ Some thread
    → is_thread_in image part thread ≡ true → AgreeFor image part (step s Tick).0 (step t Tick).0

-- what a call is made of, on both sides: an object is put, a thread of the part goes to the tail, is woken, or blocks
abbrev pub WakesAgree : Type 0
WakesAgree =
    (image : Image) (part : Part) (s t : State) (thread : ℕ) → AgreeFor image part s t → is_thread_in image part thread ≡ true
    → AgreeFor image part (wake s thread) (wake t thread)

abbrev pub BlocksAgree : Type 0
BlocksAgree =
    (image : Image) (part : Part) (s t : State) (thread : ℕ) (status : Status) → AgreeFor image part s t → is_thread_in image part thread ≡ true
    → AgreeFor image part (block s thread status) (block t thread status)

-- ---- what threads hold

-- an event that stays within authority gives no thread more
abbrev pub WithinKeepsGiven : Type 0
WithinKeepsGiven =
    (bytes : List ℕ) (image : Image) (s after : State) (event : Event) → IsAccepted bytes image → AllHoldGiven image s → StaysWithin image s event after
    → AllHoldGiven image after

-- ---- messages

abbrev pub SendsAgree : Type 0
SendsAgree =
    (image : Image) (part : Part) (s t : State) (endpoint : ℕ) (x : Sender) → AgreeFor image part s t → HasBuffers image part s
    → IsOfPart image part s endpoint → is_thread_in image part x.thread ≡ true → WaitInside image part (endpoint_at s endpoint)
    → AgreeFor image part (send s endpoint x) (send t endpoint x)

abbrev pub ReceivesAgree : Type 0
ReceivesAgree =
    (image : Image) (part : Part) (s t : State) (endpoint receiver : ℕ) → AgreeFor image part s t → HasBuffers image part s
    → IsOfPart image part s endpoint → is_thread_in image part receiver ≡ true
    → WaitInside image part (endpoint_at (with_caller s receiver None) endpoint)
    → AgreeFor image part (receive s endpoint receiver) (receive t endpoint receiver)

abbrev pub RepliesAgree : Type 0
RepliesAgree =
    (image : Image) (part : Part) (s t : State) (thread : ℕ) → AgreeFor image part s t → HasBuffers image part s → is_thread_in image part thread ≡ true
    → ((caller : ℕ) → (thread_at s thread).caller ≡ Some caller → is_thread_in image part caller ≡ true)
    → AgreeFor image part (reply s thread) (reply t thread)

abbrev pub SignalsAgree : Type 0
SignalsAgree =
    (image : Image) (part : Part) (s t : State) (notification badge : ℕ) → AgreeFor image part s t → IsOfPart image part s notification
    → ((w : ℕ) → Contains (notification_at s notification).waiters w → is_thread_in image part w ≡ true)
    → AgreeFor image part (signal s notification badge) (signal t notification badge)

abbrev pub WaitsAgree : Type 0
WaitsAgree =
    (image : Image) (part : Part) (s t : State) (notification thread : ℕ) → AgreeFor image part s t → IsOfPart image part s notification
    → is_thread_in image part thread ≡ true
    → AgreeFor image part (wait s notification thread) (wait t notification thread)
    × AgreeFor image part (poll s notification thread) (poll t notification thread)

-- an interrupt of a line of the part's own
abbrev pub InterruptsAgree : Type 0
InterruptsAgree =
    (image : Image) (part : Part) (s t : State) (line : ℕ) → AgreeFor image part s t → is_line_of image part line ≡ true
    → binding s line ≡ binding t line
    → ((bound : Signal) → binding s line ≡ Some bound → IsOfPart image part s bound.notification
    × ((w : ℕ) → Contains (notification_at s bound.notification).waiters w → is_thread_in image part w ≡ true))
    → AgreeFor image part (step s (Irq line)).0 (step t (Irq line)).0

-- ---- a step of another thread leaves all that is the part's

abbrev pub OthersLeaveObjects : Type 0
OthersLeaveObjects =
    (bytes : List ℕ) (image : Image) (part : Part) (t : Numbered) (s after : State) (labels later : List Label) → IsAccepted bytes image
    → AllStand image s labels → AllStand image after later → Contains (numbered_threads image) t
    → is_in part t.thread ≡ false → HasNothing image part t s → WithinAuthority image t.thread s after
    → (offset : ℕ) → IsOfPart image part s offset → after.objects offset ≡ s.objects offset

abbrev pub OthersLeaveLines : Type 0
OthersLeaveLines =
    (bytes : List ℕ) (image : Image) (part : Part) (t : Numbered) (s after : State) (labels later : List Label) → IsAccepted bytes image
    → AllStand image s labels → AllStand image after later → Contains (numbered_threads image) t
    → is_in part t.thread ≡ false → HasNothing image part t s → WithinAuthority image t.thread s after
    → (line : ℕ) → is_line_of image part line ≡ true → (after.masked line ≡ s.masked line) × (after.pending line ≡ s.pending line)

-- the whole agrees with the part alone as before: one half of the unwinding
abbrev pub OthersKeepAgreement : Type 0
OthersKeepAgreement =
    (bytes : List ℕ) (image : Image) (part : Part) (t : Numbered) (s after single : State) (labels later : List Label) → IsAccepted bytes image
    → AllStand image s labels → AllStand image after later → Contains (numbered_threads image) t
    → is_in part t.thread ≡ false → HasNothing image part t s → WithinAuthority image t.thread s after
    → AgreeFor image part s single → AgreeFor image part after single

-- ---- instructions

abbrev pub InstructionsDoSame : Type 0
InstructionsDoSame =
    (inside : List ℕ) (r : RegisterFile) (c d : Content) (instr : Instr) → SameView (λ place. Contains inside place) c d
    → DoesSame (λ place. Contains inside place) r c d instr

-- after any events no thread holds more than the image gave it
abbrev pub ThreadsHoldWhatTheyWereGiven : Type 0
ThreadsHoldWhatTheyWereGiven =
    (bytes : List ℕ) (image : Image) (events : List Event) → IsAccepted bytes image → All (KeepsDevices image) events
    → AllHoldGiven image (state_after (described image) events)

-- who has a capability by which a queue changes is let change it by the image
abbrev pub HeldQueuesAreListed : Type 0
HeldQueuesAreListed =
    (bytes : List ℕ) (image : Image) (t : Numbered) (s : State) (object : ℕ) → IsAccepted bytes image → AllHoldGiven image s
    → Contains (numbered_threads image) t → object < image.header.objects → is_untyped_type (type_at image object) ≡ false
    → Holds image t.thread s (ChangesQueue (offset_of image object)) → changes image t.thread object ≡ true
