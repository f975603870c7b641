-- The label of a system call, and what open counts make of it.
use Rattle.std.proofs.Common.{ℕ, ◌≡◌, ◌≢◌, ◌∙◌, ◌+◌, ◌++◌, Bool, false, if◌then◌else◌, Some, List, [], ◌∷◌, refl, ap, arith}
use Rattle.std.proofs.lemmas.Bool.{eq-eqb, ne_eqb}
use Rattle.model.specs.declared.events.Event.TheVariants.{Step}
use Rattle.model.specs.declared.labels.Label.{Label}
use Rattle.model.specs.declared.labels.Label.TheVariants.{Ran}
use Rattle.model.specs.Acceptance.CallRules.{AfterCall}
use Rattle.model.specs.Acceptance.NotedStates.{PointState}
use Rattle.model.specs.Acceptance.ThreadInvariants.{tcb_of}
use Rattle.model.specs.Images.Described.{Numbered}
use Rattle.model.specs.Images.Image.{Image}
use Rattle.model.specs.Kernel.Scheduling.{current}
use Rattle.model.specs.Kernel.State.{State, ThreadState}
use Rattle.model.specs.Kernel.Steps.{memory_base, registers_of, step, system_call}
use Rattle.model.specs.Kernel.Waits.{is_of, is_wait, open_count}
use Rattle.headline.proofs.Laws.{other-label, own-label}
use Rattle.headline.specs.moves.Moving.{CallsAt}
use Rattle.headline.specs.moves.Steps.{MakesCall}
use Rattle.response.proofs.AskedNow.{asked_now, may_wait, waits-none}
use Rattle.response.proofs.OwnCalls.{same-names}
use Rattle.response.proofs.OwnSteps.{stepped}

module _ (image : Image) (s : State) (labels : List Label) (t : Numbered) (now : current s ≡ Some (tcb_of image t)) (makes : MakesCall s (tcb_of image t)) where
  abbrev tcb : ℕ
  tcb = tcb_of image t

  pub called-label : (step s Step).1 ≡ Ran (memory_base + tcb_of image t) (registers_of s (tcb_of image t)).pc (system_call s (tcb_of image t)).1
  called-label = ap (λ (x : State × Label). x.1) (stepped s tcb now makes)

  pub called-is : (step s Step).0 ≡ (system_call s (tcb_of image t)).0
  called-is = ap (λ (x : State × Label). x.0) (stepped s tcb now makes)

  pub others-count : (thread : ℕ) → thread ≢ tcb_of image t → open_count thread (labels ++ (step s Step).1 ∷ []) ≡ open_count thread labels
  others-count thread apart =
      other-label thread labels (step s Step).1
      (ap (is_of thread) called-label ∙ ne_eqb (memory_base + tcb) (memory_base + thread) (λ same. apart (omega (arith, same))))

  pub own-count : (mine : ThreadState) (point : ℕ) (state : PointState) (answer : AfterCall) → CallsAt image t s labels mine point state answer
      → may_wait (asked_now s (tcb_of image t)) ≡ false
      → open_count (tcb_of image t) (labels ++ (step s Step).1 ∷ []) ≡ open_count (tcb_of image t) labels + 1
  own-count mine point state answer at free =
      own-label tcb labels (step s Step).1 (ap (is_of tcb) called-label ∙ eq-eqb (memory_base + tcb) (memory_base + tcb) refl)
      ∙ ap (λ (b : Bool). if b then 0 else open_count tcb labels + 1)
      (ap is_wait called-label ∙ waits-none s tcb (same-names s tcb mine at.there at.status 0 0) free)
