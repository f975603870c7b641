-- A right to reply that was used goes: who was answered is no sender that waits.
use Rattle.std.proofs.Common.{ℕ, ◌≡◌, ◌≢◌, ◌++◌, Option, Some, None, List, ◌∷◌, sym, ◌∙◌, ap}
use Rattle.std.specs.Prelude.{map}
use Rattle.std.specs.Option.{option_map_or}
use Rattle.model.specs.Acceptance.Authority.{RightChange, kept, dropped, of_sender, self_of}
use Rattle.model.specs.Images.Image.{Image, Thread}
use Rattle.model.specs.Kernel.Deliveries.{TakesSender}
use Rattle.model.specs.Kernel.Soundness.{IsSound, waiting_at}
use Rattle.model.specs.Kernel.State.{State, Object, ThreadObject, EndpointState, Sender, ThreadState, as_endpoint, endpoint_at, new_endpoint}
use Rattle.headline.proofs.Laws.{Waits, awaited-apart, blocked-awaits, first-waits}
use Rattle.soundness.proofs.Laws.{endpoint-kind}

-- the first sender of an endpoint is the first that waits there
sender-waits : (s after : State) → IsSound s → (endpoint : ℕ) (first : Sender) → TakesSender s after endpoint first → Waits s first.thread endpoint
sender-waits s after sound endpoint first takes =
    let queue = endpoint-kind (s.objects endpoint) takes.was in
    let others : List Sender = (endpoint_at after endpoint).senders in
    let senders : queue.0.senders ≡ first ∷ others =
    ap (λ (o : Option Object). (option_map_or (λ (e : EndpointState). e) (as_endpoint o) new_endpoint).senders) (sym queue.1) ∙ takes.leaves in
    first-waits s sound endpoint first.thread (map (λ (x : Sender). x.thread) others ++ queue.0.receivers)
    (ap waiting_at queue.1 ∙ ap (λ (l : List Sender). map (λ (x : Sender). x.thread) l ++ queue.0.receivers) senders)

pub used-right : (image : Image) (t : Thread) (s after : State) → IsSound s → (own : ThreadState) (caller : ℕ) (now : Option ℕ)
    → s.objects (self_of image t) ≡ Some (ThreadObject own) → own.caller ≡ Some caller → s.objects caller ≢ after.objects caller → now ≡ Some caller
    → RightChange image t s after own.caller now → ⊥
used-right image t s after sound own caller now is right answered still (kept same waits) = answered (sym (waits caller right))
used-right image t s after sound own caller now is right answered still (dropped none) = let e : None ≡ Some caller = sym none ∙ still in cc
used-right image t s after sound own caller now is right answered still (of_sender endpoint first names takes gives new) =
    let e : Some first.thread ≡ Some caller = sym new ∙ still in
    let same : first.thread ≡ caller = cc in
    let waits = sender-waits s after sound endpoint first takes in
    awaited-apart s sound (self_of image t) caller own is right first.thread
    (blocked-awaits s first.thread waits.own endpoint waits.is waits.blocked) (sym same)
