-- A thread that an interrupt changes runs then.
use Rattle.std.proofs.Common.{ℕ, ◌≡◌, ◌∙◌, Option, Some, List}
use Rattle.std.proofs.Common.{sym, ap}
use Rattle.std.specs.Prelude.{Contains}
use Rattle.model.specs.declared.labels.Label.{Label}
use Rattle.model.specs.Acceptance.ThreadInvariants.{tcb_of}
use Rattle.model.specs.Images.Described.{Numbered, numbered_threads}
use Rattle.model.specs.Images.Image.{Image}
use Rattle.model.specs.Kernel.State.{NotificationObject, NotificationState, Object, Runnable, State, ThreadObject, ThreadState, thread_at}
use Rattle.headline.specs.authority.Events.{InterruptChange, WithinInterrupt, joins, passes_on, wakes}
use Rattle.headline.specs.facts.Standing.{AllStand}
use Rattle.response.proofs.AtBells.{there-is}
use Rattle.response.proofs.Interrupts.{thread-of}

module _ (image : Image) (s after : State) (labels : List Label) (all : AllStand image s labels) (number : ℕ) (w : WithinInterrupt number s after)
    (u : Numbered) (among : Contains (numbered_threads image) u) where
  was : (own : ThreadState) × (s.objects (tcb_of image u) ≡ Some (ThreadObject own))
  was = there-is image u s labels (all.stand u among)

  no-bell : (n : NotificationState) → s.objects (tcb_of image u) ≡ Some (NotificationObject n) → ⊥
  no-bell n is = let clash : Some (ThreadObject was.0) ≡ Some (NotificationObject n) = sym was.1 ∙ is in absurd cc

  by-change : ((thread_at after (tcb_of image u)).status ≡ Runnable → ⊥) → InterruptChange number s after (tcb_of image u) → ⊥
  by-change denied (joins badge old d before nobody is) = no-bell old before
  by-change denied (passes_on badge waiter others old d before list is) = no-bell old before
  by-change denied (wakes notification badge old d head before is) = denied (ap (λ (o : Option Object). (thread-of o).status) is)

  pub thread-left : ((thread_at after (tcb_of image u)).status ≡ Runnable → ⊥)
      → (s.objects (tcb_of image u) ≡ after.objects (tcb_of image u) → ⊥) → ⊥
  thread-left denied differs = by-change denied (w.objects (tcb_of image u) differs)
