-- The objects that a program may make: endpoints, notifications and frames. They have no slots and nobody waits at them, and their first
-- capabilities are unmapped and no untyped memory.
use Rattle.std.proofs.Common.{ℕ, ◌≡◌, true, false, Option, Some, None, [], refl, sym, ap}
use Rattle.std.proofs.lemmas.Bool.{false≢true}
use Rattle.model.specs.declared.capabilities.Cap.TheVariants.{Frame}
use Rattle.model.specs.declared.capabilities.FrameMapping.{FrameMapping}
use Rattle.model.specs.declared.rights.Rights.{Rights}
use Rattle.model.specs.Acceptance.CallRules.{may_make}
use Rattle.model.specs.Capabilities.CapabilityKinds.{frame_mapping, is_untyped}
use Rattle.model.specs.Kernel.Removal.{slot_count}
use Rattle.model.specs.Kernel.Retype.{NewObject, NewUntyped, NewThread, NewEndpoint, NewNotification, NewCNode, NewFrame, NewPageTable, NewRootTable}
use Rattle.model.specs.Kernel.Retype.{first_capability, object}
use Rattle.model.specs.Kernel.State.{Object, ThreadObject, EndpointObject, NotificationObject, FrameObject, EndpointState, NotificationState, ThreadState}
use Rattle.model.specs.Kernel.State.{new_endpoint, new_notification}

pub record IsMade (kind : NewObject) : Type 0 where
  pub no_slots : slot_count (object kind) ≡ 0
  pub no_memory : (offset : ℕ) → is_untyped (first_capability kind offset) ≡ false
  pub unmapped : (offset : ℕ) → frame_mapping (first_capability kind offset) ≡ None
  pub place : (offset frame : ℕ) (held : Rights) (mapping : Option FrameMapping) → first_capability kind offset ≡ Frame frame held mapping → frame ≡ offset
  pub new : Object
  pub there : object kind ≡ Some new
  pub no_thread : (own : ThreadState) → new ≡ ThreadObject own → ⊥
  pub no_waits : (e : EndpointState) → new ≡ EndpointObject e → (e.senders ≡ []) × (e.receivers ≡ [])
  pub no_waiters : (n : NotificationState) → new ≡ NotificationObject n → n.waiters ≡ []

pub may-made : (kind : NewObject) → may_make (Some kind) ≡ true → IsMade kind
may-made (NewUntyped bits) may = absurd (false≢true may)
may-made NewThread may = absurd (false≢true may)
may-made NewEndpoint may = record {
  no_slots = refl;
  no_memory = λ offset. refl;
  unmapped = λ offset. refl;
  place = λ offset frame held mapping is. absurd cc;
  new = EndpointObject new_endpoint;
  there = refl;
  no_thread = λ own is. absurd cc;
  no_waits = λ e is. let same : new_endpoint ≡ e = cc in (sym (ap (λ (x : EndpointState). x.senders) same), sym (ap (λ (x : EndpointState). x.receivers) same));
  no_waiters = λ n is. absurd cc;
}
may-made NewNotification may = record {
  no_slots = refl;
  no_memory = λ offset. refl;
  unmapped = λ offset. refl;
  place = λ offset frame held mapping is. absurd cc;
  new = NotificationObject new_notification;
  there = refl;
  no_thread = λ own is. absurd cc;
  no_waits = λ e is. absurd cc;
  no_waiters = λ n is. let same : new_notification ≡ n = cc in sym (ap (λ (x : NotificationState). x.waiters) same);
}
may-made (NewCNode radix) may = absurd (false≢true may)
may-made NewFrame may = record {
  no_slots = refl;
  no_memory = λ offset. refl;
  unmapped = λ offset. refl;
  place = λ offset frame held mapping is. (let e : offset ≡ frame = cc in sym e);
  new = FrameObject;
  there = refl;
  no_thread = λ own is. absurd cc;
  no_waits = λ e is. absurd cc;
  no_waiters = λ n is. absurd cc;
}
may-made NewPageTable may = absurd (false≢true may)
may-made NewRootTable may = absurd (false≢true may)
