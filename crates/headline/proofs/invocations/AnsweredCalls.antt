-- A thread that is at its call after what that did is answered, and the threads' invariant holds.
use Rattle.std.proofs.Common.{ℕ, ◌≡◌, ◌∙◌, ◌+◌, ◌++◌, is_some, false, if◌then◌else◌, Option, Some, List, [], ◌∷◌, sym, ap, subst}
use Rattle.std.specs.Prelude.{Contains}
use Rattle.headline.specs.facts.Standing.{AllStand}
use Rattle.model.specs.declared.labels.Label.{Label}
use Rattle.model.specs.declared.labels.Label.TheVariants.{Ran}
use Rattle.model.specs.declared.labels.Outcome.TheVariants.{Completed}
use Rattle.model.specs.Acceptance.Accepted.{IsAccepted}
use Rattle.model.specs.Acceptance.CallRules.{AfterCall, answers, changes_nothing, known_behind, with_answer}
use Rattle.model.specs.Acceptance.NotedStates.{PointState}
use Rattle.model.specs.Acceptance.ThreadInvariants.{tcb_of}
use Rattle.model.specs.Images.Described.{Numbered, numbered_threads}
use Rattle.model.specs.Images.Image.{Image}
use Rattle.model.specs.Kernel.Messages.{a0, a1, passes}
use Rattle.model.specs.Kernel.Scheduling.{is_runnable}
use Rattle.model.specs.Kernel.Soundness.{IsSound}
use Rattle.model.specs.Kernel.State.{State, Status, Runnable, Object, ThreadObject, ThreadState, as_thread, thread_at}
use Rattle.model.specs.Kernel.Steps.{answered, completed, memory_base}
use Rattle.model.specs.declared.system_calls.SendCall.{SendCall}
use Rattle.model.specs.declared.system_calls.SendCall.TheVariants.{Calling, Sending, Trying}
use Rattle.headline.specs.moves.Laws.{Laws}
use Rattle.headline.specs.moves.Moving.{CallsAt}
use Rattle.headline.proofs.moves.Laws.{IsCounted, counted, passes-stand, result-stands}
use Rattle.headline.proofs.facts.Laws.{at-place}

-- a thread that is there still, and runs, is answered
pub completed-is : (s : State) (thread : ℕ) (own : ThreadState) (kind : SendCall) → s.objects thread ≡ Some (ThreadObject own) → own.status ≡ Runnable
    → completed s thread kind ≡ answered s thread kind 0
completed-is s thread own kind there status =
    let goes : State = if is_runnable (thread_at s thread).status then answered s thread kind 0 else passes s thread in
    ap (λ (o : Option Object). if is_some (as_thread o) then goes else s) there
    ∙ ap (λ (u : ThreadState). if is_runnable u.status then answered s thread kind 0 else passes s thread) (at-place s thread own there)
    ∙ ap (λ (b : Status). if is_runnable b then answered s thread kind 0 else passes s thread) status

module _ (laws : Laws) (bytes : List ℕ) (image : Image) (s : State) (labels : List Label) (accepted : IsAccepted bytes image) (all : AllStand image s labels)
    (t : Numbered) (listed : Contains (numbered_threads image) t) (own : ThreadState) (point : ℕ) (state : PointState) (left : AfterCall)
    (at : CallsAt image t s labels own point state left) (pc : ℕ) where
  abbrev tcb : ℕ
  tcb = tcb_of image t

  abbrev later : List Label
  later = labels ++ Ran (memory_base + tcb) pc Completed ∷ []

  counts : left.is_wait ≡ false → IsCounted image t labels later left.is_wait
  counts none = subst (IsCounted image t labels later) (sym none) (counted image t labels pc Completed)

  answered-stands : (kind : SendCall)
      → left ≡ (if answers kind then known_behind state (with_answer state.ranges) false (a0 ∷ a1 ∷ []) else changes_nothing state false)
      → IsSound (answered s tcb kind 0) → AllStand image (answered s tcb kind 0) later
  answered-stands Calling asks sound =
      result-stands laws bytes image s labels later accepted all t listed own point state left at (counts (ap (λ (l : AfterCall). l.is_wait) asks)) asks sound
  answered-stands Sending asks sound =
      passes-stand laws bytes image s labels later accepted all t listed own point state left at (counts (ap (λ (l : AfterCall). l.is_wait) asks)) asks sound
  answered-stands Trying asks sound =
      passes-stand laws bytes image s labels later accepted all t listed own point state left at (counts (ap (λ (l : AfterCall). l.is_wait) asks)) asks sound

  pub completed-stands : (kind : SendCall)
      → left ≡ (if answers kind then known_behind state (with_answer state.ranges) false (a0 ∷ a1 ∷ []) else changes_nothing state false)
      → IsSound (completed s (tcb_of image t) kind)
      → AllStand image (completed s (tcb_of image t) kind) (labels ++ Ran (memory_base + tcb_of image t) pc Completed ∷ [])
  completed-stands kind asks =
      subst (λ (after : State). IsSound after → AllStand image after later) (sym (completed-is s tcb own kind at.there at.status)) (answered-stands kind asks)
