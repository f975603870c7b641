-- A message that waits at an endpoint keeps what is promised there: what is known of its thread's registers does.
use Rattle.std.proofs.Common.{ℕ, ◌≡◌, ◌≤◌, Option, Some, List, refl, sym, subst}
use Rattle.std.specs.Prelude.{Contains}
use Rattle.headline.specs.facts.Standing.{AllStand}
use Rattle.headline.specs.facts.Waiting.{SendsSo, WaitsSo}
use Rattle.headline.proofs.facts.Laws.{at-place}
use Rattle.model.specs.declared.labels.Label.{Label}
use Rattle.model.specs.Acceptance.Promises.{KeepsPromise, promise_at}
use Rattle.model.specs.Acceptance.ThreadInvariants.{IsWaiting, KeepsPromises}
use Rattle.model.specs.Images.Image.{Image, ImagePromise}
use Rattle.model.specs.Kernel.Messages.{message_of, message_sent}
use Rattle.model.specs.Kernel.Soundness.{waiting_at}
use Rattle.model.specs.Kernel.State.{State, Blocked, Object, BySend, ByCall, ByFault, EndpointObject, EndpointState, Sender, Sent, ThreadState, thread_at}
use Rattle.model.specs.Shared.Lists.{times_in}
use Rattle.headline.specs.moves.Laws.{Laws}
use Rattle.headline.proofs.moves.Queued.{IsBlockedAt, queued-there}
use Rattle.headline.proofs.moves.Sends.{sender-times}
use Rattle.headline.proofs.moves.Waiters.{StandsWaiting, no-fault, stands-waiting}

module _ (laws : Laws) (image : Image) (s : State) (labels : List Label) (all : AllStand image s labels) (e : ℕ) (ep : EndpointState) (x : Sender)
    (p : ImagePromise) (was : s.objects e ≡ Some (EndpointObject ep)) (among : Contains ep.senders x) (is : promise_at image e ≡ Some p) where
  blocked : IsBlockedAt s x.thread e
  blocked =
      queued-there s x.thread e all.sound.threads
      (subst (λ (o : Option Object). 1 ≤ times_in (waiting_at o) x.thread) (sym was) (sender-times ep.senders x ep.receivers among))

  waits : StandsWaiting image s labels x.thread blocked.own
  waits = stands-waiting image s labels all x.thread blocked.own blocked.is (subst IsWaiting (sym blocked.status) tt)

  queues : WaitsSo image waits.thread s waits.state waits.left (Blocked e)
  queues = subst (WaitsSo image waits.thread s waits.state waits.left) blocked.status waits.so

  so : SendsSo image e waits.state waits.left queues.capability x
  so = queues.sends ep x was among waits.is

  own-keeps : KeepsPromise p x.badge (message_of (thread_at s x.thread))
  own-keeps =
      subst (λ (u : ThreadState). KeepsPromise p x.badge (message_of u)) (sym (at-place s x.thread blocked.own blocked.is))
      (laws.sent blocked.own waits.state x.badge p waits.stands.registers (so.keeps p is))

  by-kind : (kind : Sent) → x.sent ≡ kind → KeepsPromise p x.badge (message_sent s x kind)
  by-kind BySend kind = own-keeps
  by-kind ByCall kind = own-keeps
  by-kind (ByFault fault) kind = absurd (no-fault waits.state waits.left x fault so.kind kind)

  pub promise-kept : KeepsPromise p x.badge (message_sent s x x.sent)
  promise-kept = by-kind x.sent refl

pub promises-kept : (laws : Laws) (image : Image) (s : State) (labels : List Label) → AllStand image s labels → KeepsPromises image s
promises-kept laws image s labels all e ep x p was among is = promise-kept laws image s labels all e ep x p was among is
