-- What a call is made of, on both sides: each change keeps that the whole and the part alone agree.
use Rattle.std.specs.Prelude.{ℕ, ◌≡◌, true, Contains, None, Some}
use Rattle.model.specs.declared.events.Event.TheVariants.{Irq, Tick}
use Rattle.model.specs.Images.Image.{Image}
use Rattle.model.specs.Kernel.Interrupts.{Signal, binding}
use Rattle.model.specs.Kernel.Messages.{poll, receive, reply, send, signal, wait, with_caller}
use Rattle.model.specs.Kernel.Scheduling.{block, current, wake}
use Rattle.model.specs.Kernel.State.{Sender, State, Status, endpoint_at, notification_at, thread_at}
use Rattle.model.specs.Kernel.Steps.{step}
use Rattle.headline.specs.parts.Agreeing.{WaitInside}
use Rattle.headline.specs.parts.Parts.{Part, is_line_of, is_thread_in}
use Rattle.part_laws.specs.Agreeing.{AgreeFor, HasBuffers, IsOfPart}

-- ---- an event of the part's own

-- who runs in the whole runs in the part alone
abbrev pub SameRuns : Type 0
SameRuns =
    (image : Image) (part : Part) (s t : State) (thread : ℕ) → AgreeFor image part s t → current s ≡ Some thread
    → is_thread_in image part thread ≡ true → current t ≡ Some thread

abbrev pub TicksAgree : Type 0
TicksAgree =
    (image : Image) (part : Part) (s t : State) (thread : ℕ) → AgreeFor image part s t → current s ≡ Some thread
    → is_thread_in image part thread ≡ true → AgreeFor image part (step s Tick).0 (step t Tick).0

-- what a call is made of, on both sides: an object is put, a thread of the part goes to the tail, is woken, or blocks
abbrev pub WakesAgree : Type 0
WakesAgree =
    (image : Image) (part : Part) (s t : State) (thread : ℕ) → AgreeFor image part s t → is_thread_in image part thread ≡ true
    → AgreeFor image part (wake s thread) (wake t thread)

abbrev pub BlocksAgree : Type 0
BlocksAgree =
    (image : Image) (part : Part) (s t : State) (thread : ℕ) (status : Status) → AgreeFor image part s t → is_thread_in image part thread ≡ true
    → AgreeFor image part (block s thread status) (block t thread status)

-- ---- messages

abbrev pub SendsAgree : Type 0
SendsAgree =
    (image : Image) (part : Part) (s t : State) (endpoint : ℕ) (x : Sender) → AgreeFor image part s t → HasBuffers image part s
    → IsOfPart image part endpoint → is_thread_in image part x.thread ≡ true → WaitInside image part (endpoint_at s endpoint)
    → AgreeFor image part (send s endpoint x) (send t endpoint x)

abbrev pub ReceivesAgree : Type 0
ReceivesAgree =
    (image : Image) (part : Part) (s t : State) (endpoint receiver : ℕ) → AgreeFor image part s t → HasBuffers image part s
    → IsOfPart image part endpoint → is_thread_in image part receiver ≡ true
    → WaitInside image part (endpoint_at (with_caller s receiver None) endpoint)
    → AgreeFor image part (receive s endpoint receiver) (receive t endpoint receiver)

abbrev pub RepliesAgree : Type 0
RepliesAgree =
    (image : Image) (part : Part) (s t : State) (thread : ℕ) → AgreeFor image part s t → HasBuffers image part s → is_thread_in image part thread ≡ true
    → ((caller : ℕ) → (thread_at s thread).caller ≡ Some caller → is_thread_in image part caller ≡ true)
    → AgreeFor image part (reply s thread) (reply t thread)

abbrev pub SignalsAgree : Type 0
SignalsAgree =
    (image : Image) (part : Part) (s t : State) (notification badge : ℕ) → AgreeFor image part s t → IsOfPart image part notification
    → ((w : ℕ) → Contains (notification_at s notification).waiters w → is_thread_in image part w ≡ true)
    → AgreeFor image part (signal s notification badge) (signal t notification badge)

abbrev pub WaitsAgree : Type 0
WaitsAgree =
    (image : Image) (part : Part) (s t : State) (notification thread : ℕ) → AgreeFor image part s t → IsOfPart image part notification
    → is_thread_in image part thread ≡ true
    → AgreeFor image part (wait s notification thread) (wait t notification thread)
    × AgreeFor image part (poll s notification thread) (poll t notification thread)

-- an interrupt of a line of the part's own
abbrev pub InterruptsAgree : Type 0
InterruptsAgree =
    (image : Image) (part : Part) (s t : State) (line : ℕ) → AgreeFor image part s t → is_line_of image part line ≡ true
    → binding s line ≡ binding t line
    → ((bound : Signal) → binding s line ≡ Some bound → IsOfPart image part bound.notification
    × ((w : ℕ) → Contains (notification_at s bound.notification).waiters w → is_thread_in image part w ≡ true))
    → AgreeFor image part (step s (Irq line)).0 (step t (Irq line)).0
