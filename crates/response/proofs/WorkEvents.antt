-- What each event but a system call makes of all work: what is left by the laws on that, and what is owed stays.
use Rattle.std.proofs.Common.{ℕ, ◌≡◌, ◌≢◌, ◌⊎◌, ◌+◌, ◌≤◌, ◌++◌, Some, List, [], ◌∷◌}
use Rattle.std.proofs.Common.{sym, ap, subst, arith}
use Rattle.std.specs.Prelude.{Contains}
use Rattle.model.specs.declared.events.Event.{Event}
use Rattle.model.specs.declared.events.Event.TheVariants.{Step, Tick, Irq, Write, Read}
use Rattle.model.specs.Acceptance.Accepted.{IsAccepted}
use Rattle.model.specs.Acceptance.Authority.{StaysWithin}
use Rattle.model.specs.Acceptance.ThreadInvariants.{tcb_of}
use Rattle.model.specs.Images.Described.{Numbered, described, numbered_threads}
use Rattle.model.specs.Images.Image.{Image}
use Rattle.model.specs.Kernel.Interrupts.{raise}
use Rattle.model.specs.Kernel.Scheduling.{current, tick}
use Rattle.model.specs.Kernel.Soundness.{IsSound}
use Rattle.model.specs.Kernel.State.{Runnable, State, ThreadState, thread_at}
use Rattle.model.specs.Kernel.Steps.{state_after, step, trace}
use Rattle.headline.proofs.Laws.{state-next}
use Rattle.headline.specs.authority.Events.{WithinInterrupt, WithinTick}
use Rattle.headline.specs.facts.Standing.{AllStand}
use Rattle.headline.specs.invocations.Laws.{AnyStepGoesWell, Laws}
use Rattle.headline.specs.steps.Points.{ReachesNoCall}
use Rattle.response.specs.Laws.{left_after}
use Rattle.response.specs.Owed.{owed, work_after}
use Rattle.response.specs.Weights.{Weights}
use Rattle.response.proofs.OneMessage.{plain-owes}
use Rattle.response.proofs.OwedEvents.{owed-at-start, owed-raised, owed-stays}
use Rattle.response.proofs.Ticks.{look-same, running-thread, tick-same, write-same}

-- what is left and what is owed together
pub adds-up : (image : Image) (priority : ℕ) (w : Weights) (events : List Event) (event : Event) (n k : ℕ)
    → left_after image priority w (events ++ event ∷ []) + n ≤ left_after image priority w events + k
    → owed image priority w (step (state_after (described image) events) event).0 ≤ owed image priority w (state_after (described image) events)
    → work_after image priority w (events ++ event ∷ []) + n ≤ work_after image priority w events + k
adds-up image priority w events event n k less owes =
    let e = ap (owed image priority w) (state-next (described image) events event) in omega (arith, less, owes, e)

-- what the world does
pub write-owes : (image : Image) (priority : ℕ) (w : Weights) (events : List Event) (address word : ℕ)
    → owed image priority w (step (state_after (described image) events) (Write address word)).0 ≤ owed image priority w (state_after (described image) events)
write-owes image priority w events address word =
    let e = owed-stays image priority w (state_after (described image) events) (step (state_after (described image) events) (Write address word)).0
    (trace (described image) events) (trace (described image) events ++ (step (state_after (described image) events) (Write address word)).1 ∷ [])
    (write-same image (state_after (described image) events) address word (trace (described image) events)) in
    omega (arith, e)

pub look-owes : (image : Image) (priority : ℕ) (w : Weights) (events : List Event) (address : ℕ)
    → owed image priority w (step (state_after (described image) events) (Read address)).0 ≤ owed image priority w (state_after (described image) events)
look-owes image priority w events address =
    let e = owed-stays image priority w (state_after (described image) events) (step (state_after (described image) events) (Read address)).0
    (trace (described image) events) (trace (described image) events ++ (step (state_after (described image) events) (Read address)).1 ∷ [])
    (look-same image (state_after (described image) events) address (trace (described image) events)) in
    omega (arith, e)

module _ (laws : Laws) (steps : AnyStepGoesWell) (told : (a b : ThreadState) → (a ≡ b) ⊎ (a ≢ b)) (bytes : List ℕ) (image : Image)
    (accepted : IsAccepted bytes image) (priority : ℕ) (w : Weights)
    (ticks : (s : State) → IsSound s → WithinTick s (tick s))
    (interrupts : (s : State) → IsSound s → (line : ℕ) → WithinInterrupt line s (raise s line)) (before : List Event)
    (all : AllStand image (state_after (described image) before) (trace (described image) before))
    (stay : (event : Event) → StaysWithin image (state_after (described image) before) event (step (state_after (described image) before) event).0) where
  abbrev s : State
  s = state_after (described image) before

  pub tick-owes : owed image priority w (step (state_after (described image) before) Tick).0 ≤ owed image priority w (state_after (described image) before)
  tick-owes =
      let e = owed-stays image priority w s (step s Tick).0 (trace (described image) before) _
      (tick-same s (step s Tick).0 (subst (WithinTick s) (sym (stay Tick)) (ticks s all.sound)) (λ thread now. running-thread s all.sound thread now) image
      (trace (described image) before)) in
      omega (arith, e)

  pub raise-owes : (number : ℕ)
      → owed image priority w (step (state_after (described image) before) (Irq number)).0 ≤ owed image priority w (state_after (described image) before)
  raise-owes number =
      owed-raised image priority w s (step s (Irq number)).0 (trace (described image) before) all number
      (subst (WithinInterrupt number s) (sym (stay (Irq number))) (interrupts s all.sound number))

  pub step-owes : (t : Numbered) → Contains (numbered_threads image) t → current (state_after (described image) before) ≡ Some (tcb_of image t)
      → ReachesNoCall (state_after (described image) before) (tcb_of image t)
      → owed image priority w (step (state_after (described image) before) Step).0 ≤ owed image priority w (state_after (described image) before)
  step-owes t listed now free =
      plain-owes laws steps told bytes image accepted s (trace (described image) before) all (stay Step) t listed now priority w free

-- at the start nothing is owed
pub work-at-start : (image : Image) (priority : ℕ) (w : Weights)
    → ((u : Numbered) → Contains (numbered_threads image) u → (thread_at (described image) (tcb_of image u)).status ≡ Runnable)
    → work_after image priority w [] ≤ left_after image priority w []
unfolding state_after
work-at-start image priority w runs = let none = owed-at-start image priority w (described image) runs in omega (arith, none)
