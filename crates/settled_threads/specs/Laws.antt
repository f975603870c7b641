-- The laws of this crate.
use Rattle.std.specs.Prelude.{ℕ, ◌≡◌, ◌+◌, ◌<◌, ◌≤◌, ◌++◌, All, Bool, true, false, Contains, List, [], ◌∷◌, Some}
use Rattle.model.specs.declared.events.Event.{Event}
use Rattle.model.specs.declared.events.Event.TheVariants.{Step}
use Rattle.model.specs.Acceptance.Accepted.{IsAccepted}
use Rattle.model.specs.Acceptance.Devices.{KeepsDevices}
use Rattle.model.specs.Acceptance.ThreadInvariants.{tcb_of}
use Rattle.model.specs.Images.Described.{Numbered, described, numbered_threads}
use Rattle.model.specs.Images.Image.{Image}
use Rattle.model.specs.Kernel.State.{AwaitsReply, thread_at}
use Rattle.model.specs.Kernel.Steps.{state_after, step}
use Rattle.response.specs.DealtWith.{HoldsWithin, IsDealtWith, Rests}
use Rattle.response.specs.Laws.{HaveRates, left_after}
use Rattle.response.specs.Left.{line_price}
use Rattle.response.specs.Levels.{KeepsLevel, KeepsLevelOnceRested, is_level_label}
use Rattle.response.specs.Owed.{IsLeftAtRest, OweBelow, PayAnswers, StepsFitWith, at_rest_with, owed_of_thread}
use Rattle.response.specs.Rates.{Keeps, Rate, costs_within, steps_in}
use Rattle.response.specs.Responding.{DealsOnceRested, DealsWithin, OpenLine, RespondsOnceRested, RespondsWithin, Response, is_acknowledged, is_open_by}
use Rattle.response.specs.Resting.{IsTended}
use Rattle.response.specs.Weights.{Pays, Weights}
use Rattle.settled_threads.specs.Answering.{CallsThere, IsAnswered, IsOwed}
use Rattle.settled_threads.specs.Settled.{AreInputs, AreSettled, AreTended, OthersOweAtMost, Settling, WaitsAtInput}
use Rattle.settled_threads.specs.Tested.{RestsAtInput, Settlement, TendsOnceRested, TendsWithin, passes_settled, passes_settled_rested}

-- whoever called with a badge that the endpoint answers, and waits for the answer, is owed it
abbrev pub CallersAreOwed : Type 0
CallersAreOwed =
    (bytes : List ℕ) (image : Image) (events : List Event) (t : Numbered) (endpoint badge : ℕ) → IsAccepted bytes image → All (KeepsDevices image) events
    → Contains (numbered_threads image) t → (a : IsAnswered image endpoint badge)
    → (thread_at (state_after (described image) events) (tcb_of image t)).status ≡ AwaitsReply
    → CallsThere image (state_after (described image) events) t endpoint badge → IsOwed image endpoint badge a t (state_after (described image) events)

-- where nothing of the level is ready, each settled thread of it waits at its input, and not in a call or a send
abbrev pub SettledThreadsRest : Type 0
SettledThreadsRest =
    (bytes : List ℕ) (image : Image) (priority : ℕ) (settling : Settling) (events : List Event) (t : Numbered) (object : ℕ) → IsAccepted bytes image
    → All (KeepsDevices image) events → AreSettled image priority settling → Rests image priority (state_after (described image) events)
    → Contains (numbered_threads image) t → settling.input t.number ≡ Some object → WaitsAtInput image t (state_after (described image) events) object

-- such a thread owes nothing then
abbrev pub SettledThreadsOweNothing : Type 0
SettledThreadsOweNothing =
    (bytes : List ℕ) (image : Image) (priority : ℕ) (w : Weights) (settling : Settling) (events : List Event) (t : Numbered) (object : ℕ)
    → IsAccepted bytes image → All (KeepsDevices image) events → AreSettled image priority settling
    → Rests image priority (state_after (described image) events) → Contains (numbered_threads image) t → settling.input t.number ≡ Some object
    → owed_of_thread image priority w (state_after (described image) events) t ≡ 0

-- and the line that it tends is dealt with
abbrev pub SettledThreadsDeal : Type 0
SettledThreadsDeal =
    (bytes : List ℕ) (image : Image) (priority : ℕ) (settling : Settling) (number : ℕ) (events : List Event) → IsAccepted bytes image
    → All (KeepsDevices image) events → number < 64 → AreSettled image priority settling → Rests image priority (state_after (described image) events)
    → (a : IsTended image number) → settling.input a.thread.number ≡ Some a.queue → IsDealtWith image number a (state_after (described image) events)

-- so no word is left at inputs, nothing is pending on such lines, and only the others count
abbrev pub SettledLeftAtRest : Type 0
SettledLeftAtRest =
    (bytes : List ℕ) (image : Image) (priority : ℕ) (w : Weights) (settling : Settling) (is_taken is_open : ℕ → Bool) (owed_most : ℕ → ℕ)
    → IsAccepted bytes image → AreSettled image priority settling → AreInputs image settling is_taken → AreTended image settling is_open
    → OthersOweAtMost image priority w settling is_taken owed_most
    → OweBelow image priority w is_taken owed_most × IsLeftAtRest image priority w is_taken is_open owed_most

-- So: no more than n steps on end are of the level, where all that may be left at the start and at rest, and come within n steps, is at most n.
abbrev pub SettledLevelsRestWithin : Type 0
SettledLevelsRestWithin =
    (bytes : List ℕ) (image : Image) (priority : ℕ) (w : Weights) (settling : Settling) (rates : List Rate) (is_taken is_open : ℕ → Bool)
    (owed_most : ℕ → ℕ) (most n : ℕ) (events : List Event) → IsAccepted bytes image → All (KeepsDevices image) events → Pays image priority w
    → PayAnswers image priority w → AreSettled image priority settling → AreInputs image settling is_taken → AreTended image settling is_open
    → OthersOweAtMost image priority w settling is_taken owed_most → StepsFitWith image priority w is_taken is_open owed_most most → HaveRates image w rates
    → left_after image priority w [] ≤ most → at_rest_with image w is_taken is_open owed_most ≤ most → Keeps rates events
    → most + costs_within rates (line_price w (described image)) n ≤ n → KeepsLevel image priority n events

-- and once the level has rested, whatever was left at the start
abbrev pub SettledLevelsRestLater : Type 0
SettledLevelsRestLater =
    (bytes : List ℕ) (image : Image) (priority : ℕ) (w : Weights) (settling : Settling) (rates : List Rate) (is_taken is_open : ℕ → Bool)
    (owed_most : ℕ → ℕ) (most n : ℕ) (events : List Event) → IsAccepted bytes image → All (KeepsDevices image) events → Pays image priority w
    → PayAnswers image priority w → AreSettled image priority settling → AreInputs image settling is_taken → AreTended image settling is_open
    → OthersOweAtMost image priority w settling is_taken owed_most → StepsFitWith image priority w is_taken is_open owed_most most → HaveRates image w rates
    → at_rest_with image w is_taken is_open owed_most ≤ most → Keeps rates events
    → most + costs_within rates (line_price w (described image)) n ≤ n → KeepsLevelOnceRested image priority n events

-- ---- dealt with

-- So from any moment on, as that after an interrupt, each line that a settled thread tends is dealt with within n steps.
abbrev pub SettledLinesAreDealtWith : Type 0
SettledLinesAreDealtWith =
    (bytes : List ℕ) (image : Image) (priority : ℕ) (w : Weights) (settling : Settling) (rates : List Rate) (is_taken is_open : ℕ → Bool)
    (owed_most : ℕ → ℕ) (most n : ℕ) (events : List Event) → IsAccepted bytes image → All (KeepsDevices image) events → Pays image priority w
    → PayAnswers image priority w → AreSettled image priority settling → AreInputs image settling is_taken → (tended : AreTended image settling is_open)
    → OthersOweAtMost image priority w settling is_taken owed_most → StepsFitWith image priority w is_taken is_open owed_most most → HaveRates image w rates
    → left_after image priority w [] ≤ most → at_rest_with image w is_taken is_open owed_most ≤ most → Keeps rates events
    → most + costs_within rates (line_price w (described image)) n ≤ n
    → (number : ℕ) (few : number < 64) (here : is_open number ≡ true) (before window later : List Event) → events ≡ before ++ window ++ later
    → n < steps_in window → HoldsWithin image n before window (IsDealtWith image number (tended number few here).0)

-- and once the level has rested, whatever was left at the start
abbrev pub SettledLinesAreDealtWithLater : Type 0
SettledLinesAreDealtWithLater =
    (bytes : List ℕ) (image : Image) (priority : ℕ) (w : Weights) (settling : Settling) (rates : List Rate) (is_taken is_open : ℕ → Bool)
    (owed_most : ℕ → ℕ) (most n : ℕ) (events : List Event) → IsAccepted bytes image → All (KeepsDevices image) events → Pays image priority w
    → PayAnswers image priority w → AreSettled image priority settling → AreInputs image settling is_taken → (tended : AreTended image settling is_open)
    → OthersOweAtMost image priority w settling is_taken owed_most → StepsFitWith image priority w is_taken is_open owed_most most → HaveRates image w rates
    → at_rest_with image w is_taken is_open owed_most ≤ most → Keeps rates events → most + costs_within rates (line_price w (described image)) n ≤ n
    → (number : ℕ) (few : number < 64) (here : is_open number ≡ true) (first more window later : List Event)
    → is_level_label image priority (step (state_after (described image) first) Step).1 ≡ false
    → events ≡ ((first ++ Step ∷ []) ++ more) ++ window ++ later → n < steps_in window
    → HoldsWithin image n ((first ++ Step ∷ []) ++ more) window (IsDealtWith image number (tended number few here).0)

-- ---- tested

-- So it is where a response passes the test with settled threads,
abbrev pub SettledResponsesHold : Type 0
SettledResponsesHold =
    (bytes : List ℕ) (image : Image) (priority : ℕ) (rates : List Rate) (r : Response) (s : Settlement) (owed_most : ℕ → ℕ) → IsAccepted bytes image
    → passes_settled image priority rates r s owed_most ≡ true → RespondsWithin bytes priority rates r.steps

abbrev pub RestedSettledResponsesHold : Type 0
RestedSettledResponsesHold =
    (bytes : List ℕ) (image : Image) (priority : ℕ) (rates : List Rate) (r : Response) (s : Settlement) (owed_most : ℕ → ℕ) → IsAccepted bytes image
    → passes_settled_rested image priority rates r s owed_most ≡ true → RespondsOnceRested bytes priority rates r.steps

-- its lines are dealt with,
abbrev pub SettledResponsesDeal : Type 0
SettledResponsesDeal =
    (bytes : List ℕ) (image : Image) (priority : ℕ) (rates : List Rate) (r : Response) (s : Settlement) (owed_most : ℕ → ℕ) (number : ℕ)
    → IsAccepted bytes image → passes_settled image priority rates r s owed_most ≡ true → number < 64 → is_open_by r number ≡ true
    → TendsWithin bytes priority rates r.steps number

abbrev pub RestedSettledResponsesDeal : Type 0
RestedSettledResponsesDeal =
    (bytes : List ℕ) (image : Image) (priority : ℕ) (rates : List Rate) (r : Response) (s : Settlement) (owed_most : ℕ → ℕ) (number : ℕ)
    → IsAccepted bytes image → passes_settled_rested image priority rates r s owed_most ≡ true → number < 64 → is_open_by r number ≡ true
    → TendsOnceRested bytes priority rates r.steps number

-- so is each line that a thread acknowledges which waits for no message,
abbrev pub AloneResponsesDeal : Type 0
AloneResponsesDeal =
    (bytes : List ℕ) (image : Image) (priority : ℕ) (rates : List Rate) (r : Response) (s : Settlement) (owed_most : ℕ → ℕ) (l : OpenLine)
    → IsAccepted bytes image → passes_settled image priority rates r s owed_most ≡ true → l.line < 64 → is_acknowledged image priority l ≡ true
    → DealsWithin bytes priority rates r.steps l.line

abbrev pub RestedAloneResponsesDeal : Type 0
RestedAloneResponsesDeal =
    (bytes : List ℕ) (image : Image) (priority : ℕ) (rates : List Rate) (r : Response) (s : Settlement) (owed_most : ℕ → ℕ) (l : OpenLine)
    → IsAccepted bytes image → passes_settled_rested image priority rates r s owed_most ≡ true → l.line < 64 → is_acknowledged image priority l ≡ true
    → DealsOnceRested bytes priority rates r.steps l.line

-- and its settled threads wait at their inputs wherever the level rests
abbrev pub TestedThreadsRest : Type 0
TestedThreadsRest =
    (bytes : List ℕ) (image : Image) (priority : ℕ) (rates : List Rate) (r : Response) (s : Settlement) (owed_most : ℕ → ℕ) (number object : ℕ)
    → IsAccepted bytes image → passes_settled_rested image priority rates r s owed_most ≡ true → s.settling.input number ≡ Some object
    → RestsAtInput bytes priority number object
