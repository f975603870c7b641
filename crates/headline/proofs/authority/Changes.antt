-- A step that leaves slots as they are, changes bytes by deliveries alone, and each object for a reason, stays within authority.
use Rattle.std.proofs.Common.{ℕ, ◌≡◌, ◌≢◌, ◌⊎◌, Option, Some, option_map, sym, ◌∙◌, ap, subst, inl, inr}
use Rattle.std.proofs.lemmas.Bool.Decides.{eqb_tells}
use Rattle.model.specs.declared.slot_entries.Entry.{Entry}
use Rattle.model.specs.Acceptance.Authority.{Acknowledges, CallNames, EndpointChange, LineChange, NotificationChange, ReadyChange, RightChange, SliceChange}
use Rattle.model.specs.Acceptance.Authority.{WithinAuthority, self_of, without_use}
use Rattle.model.specs.Capabilities.CapabilityKinds.{frame_mapping, table_mapping}
use Rattle.model.specs.Capabilities.Slots.{capability_at}
use Rattle.model.specs.Images.Image.{Image, Thread}
use Rattle.model.specs.Kernel.Deliveries.{Reason}
use Rattle.model.specs.Kernel.Kinds.{kind_at, kind_of}
use Rattle.model.specs.Kernel.State.{State, Object, ThreadObject, EndpointObject, NotificationObject, EndpointState, NotificationState, ThreadState}
use Rattle.headline.proofs.authority.Deliveries.{StaysOrDelivered, within-delivery}
use Rattle.headline.proofs.authority.PlainSteps.{between, one-used}
use Rattle.headline.proofs.authority.Stored.{capability_of, parent_of}

-- ---- one object

-- what becomes of the thread itself
pub record OwnChange (image : Image) (t : Thread) (s after : State) (old new : ThreadState) : Type 0 where
  pub priority : new.priority ≡ old.priority
  pub fault_address : new.fault_address ≡ old.fault_address
  pub slice : SliceChange s after (self_of image t) old new
  pub right : RightChange image t s after old.caller new.caller

-- what becomes of another object
pub data OtherChange (image : Image) (t : Thread) (s after : State) (offset : ℕ) : Type 0 where
  stays : after.objects offset ≡ s.objects offset → OtherChange image t s after offset
  of_thread : (old new : ThreadState) → s.objects offset ≡ Some (ThreadObject old) → after.objects offset ≡ Some (ThreadObject new)
      → Reason s after (self_of image t) (CallNames image t s) offset old new → OtherChange image t s after offset
  of_endpoint : (old new : EndpointState) → s.objects offset ≡ Some (EndpointObject old) → after.objects offset ≡ Some (EndpointObject new)
      → EndpointChange image t s after offset old new → OtherChange image t s after offset
  of_notification : (old new : NotificationState) → s.objects offset ≡ Some (NotificationObject old) → after.objects offset ≡ Some (NotificationObject new)
      → NotificationChange image t s after offset old new → OtherChange image t s after offset

-- ---- all of them

-- slots and the shape of the machine stay, and bytes but for those that deliveries change
pub record KeepsStore (image : Image) (t : Thread) (s after : State) : Type 0 where
  pub memory_bits : after.memory_bits ≡ s.memory_bits
  pub boot_radix : after.boot_radix ≡ s.boot_radix
  pub slots : (slot : ℕ) → after.slots slot ≡ s.slots slot
  pub bytes : (place : ℕ) → StaysOrDelivered image t s after place

pub record ChangesObjects (image : Image) (t : Thread) (s after : State) : Type 0 where
  pub store : KeepsStore image t s after
  pub own : ThreadState
  pub now : ThreadState
  pub was : s.objects (self_of image t) ≡ Some (ThreadObject own)
  pub is : after.objects (self_of image t) ≡ Some (ThreadObject now)
  pub itself : OwnChange image t s after own now
  pub others : (offset : ℕ) → offset ≢ self_of image t → OtherChange image t s after offset
  pub lines : (number : ℕ) → (s.masked number ≢ after.masked number) ⊎ (s.pending number ≢ after.pending number)
      → CallNames image t s (Acknowledges number) × LineChange s after number
  pub ready : (priority : ℕ) → ReadyChange s after (self_of image t) priority

-- a change that keeps the thread's slice
pub record KeepsSlice (image : Image) (t : Thread) (s after : State) : Type 0 where
  pub change : ChangesObjects image t s after
  pub slice : change.now.slice ≡ change.own.slice

module _ (image : Image) (t : Thread) (s after : State) where
  other-kind : (offset : ℕ) → OtherChange image t s after offset → kind_at s offset ≡ kind_at after offset
  other-kind offset (stays same) = ap (option_map kind_of) (sym same)
  other-kind offset (of_thread old new was is reason) = ap (option_map kind_of) was ∙ sym (ap (option_map kind_of) is)
  other-kind offset (of_endpoint old new was is change) = ap (option_map kind_of) was ∙ sym (ap (option_map kind_of) is)
  other-kind offset (of_notification old new was is change) = ap (option_map kind_of) was ∙ sym (ap (option_map kind_of) is)

  other-thread : (offset : ℕ) → OtherChange image t s after offset → (old new : ThreadState) → s.objects offset ≡ Some (ThreadObject old)
      → after.objects offset ≡ Some (ThreadObject new) → old ≢ new → Reason s after (self_of image t) (CallNames image t s) offset old new
  other-thread offset (stays same) old new before behind differs =
      let e : Some (ThreadObject new) ≡ Some (ThreadObject old) = sym behind ∙ same ∙ before in
      let f : old ≡ new = cc in absurd (differs f)
  other-thread offset (of_thread u v was is reason) old new before behind differs =
      between (λ (x y : ThreadState). Reason s after (self_of image t) (CallNames image t s) offset x y) (s.objects offset) (after.objects offset) u v was is
      reason old new before behind
  other-thread offset (of_endpoint u v was is change) old new before behind differs =
      let e : Some (EndpointObject u) ≡ Some (ThreadObject old) = sym was ∙ before in absurd cc
  other-thread offset (of_notification u v was is change) old new before behind differs =
      let e : Some (NotificationObject u) ≡ Some (ThreadObject old) = sym was ∙ before in absurd cc

  other-endpoint : (offset : ℕ) → OtherChange image t s after offset → (old new : EndpointState) → s.objects offset ≡ Some (EndpointObject old)
      → after.objects offset ≡ Some (EndpointObject new) → old ≢ new → EndpointChange image t s after offset old new
  other-endpoint offset (stays same) old new before behind differs =
      let e : Some (EndpointObject new) ≡ Some (EndpointObject old) = sym behind ∙ same ∙ before in
      let f : old ≡ new = cc in absurd (differs f)
  other-endpoint offset (of_thread u v was is reason) old new before behind differs =
      let e : Some (ThreadObject u) ≡ Some (EndpointObject old) = sym was ∙ before in absurd cc
  other-endpoint offset (of_endpoint u v was is change) old new before behind differs =
      let e : Some (EndpointObject u) ≡ Some (EndpointObject old) = sym was ∙ before in
      let f : u ≡ old = cc in
      let g : Some (EndpointObject v) ≡ Some (EndpointObject new) = sym is ∙ behind in
      let h : v ≡ new = cc in
      subst (λ (x : EndpointState). EndpointChange image t s after offset x new) f
      (subst (λ (x : EndpointState). EndpointChange image t s after offset u x) h change)
  other-endpoint offset (of_notification u v was is change) old new before behind differs =
      let e : Some (NotificationObject u) ≡ Some (EndpointObject old) = sym was ∙ before in absurd cc

  other-notification : (offset : ℕ) → OtherChange image t s after offset → (old new : NotificationState) → s.objects offset ≡ Some (NotificationObject old)
      → after.objects offset ≡ Some (NotificationObject new) → old ≢ new → NotificationChange image t s after offset old new
  other-notification offset (stays same) old new before behind differs =
      let e : Some (NotificationObject new) ≡ Some (NotificationObject old) = sym behind ∙ same ∙ before in
      let f : old ≡ new = cc in absurd (differs f)
  other-notification offset (of_thread u v was is reason) old new before behind differs =
      let e : Some (ThreadObject u) ≡ Some (NotificationObject old) = sym was ∙ before in absurd cc
  other-notification offset (of_endpoint u v was is change) old new before behind differs =
      let e : Some (EndpointObject u) ≡ Some (NotificationObject old) = sym was ∙ before in absurd cc
  other-notification offset (of_notification u v was is change) old new before behind differs =
      let e : Some (NotificationObject u) ≡ Some (NotificationObject old) = sym was ∙ before in
      let f : u ≡ old = cc in
      let g : Some (NotificationObject v) ≡ Some (NotificationObject new) = sym is ∙ behind in
      let h : v ≡ new = cc in
      subst (λ (x : NotificationState). NotificationChange image t s after offset x new) f
      (subst (λ (x : NotificationState). NotificationChange image t s after offset u x) h change)

  module _ (c : ChangesObjects image t s after) where
    -- what is no thread is not the thread itself
    apart : (offset : ℕ) (o : Object) → s.objects offset ≡ Some o → (o ≡ ThreadObject c.own → ⊥) → offset ≢ self_of image t
    apart offset o there differs same =
        let e : Some o ≡ Some (ThreadObject c.own) = sym there ∙ ap s.objects same ∙ c.was in
        let f : o ≡ ThreadObject c.own = cc in differs f

    kinds : (offset : ℕ) → kind_at s offset ≡ kind_at after offset
    kinds offset = elim (eqb_tells offset (self_of image t)) [
      | inl here ↦
          ap (kind_at s) here.1 ∙ ap (option_map kind_of) c.was ∙ sym (ap (kind_at after) here.1 ∙ ap (option_map kind_of) c.is)
      | inr other ↦ other-kind offset (c.others offset other.1)
    ]

    pub changes-within : WithinAuthority image t s after
    changes-within = record {
      memory_bits = c.store.memory_bits;
      boot_radix = c.store.boot_radix;
      bytes = λ place differs. elim (c.store.bytes place) [
        | inl same ↦ absurd (differs (sym same))
        | inr delivery ↦ within-delivery image t s after place delivery
      ];
      objects = λ offset differs. absurd (differs (kinds offset));
      slots = λ slot differs. absurd (differs (sym (c.store.slots slot)));
      frame_mappings = λ slot mapping differs either.
          absurd (differs (ap (λ (o : Option Entry). frame_mapping (capability_of o)) (sym (c.store.slots slot))));
      table_mappings = λ slot mapping differs either.
          absurd (differs (ap (λ (o : Option Entry). table_mapping (capability_of o)) (sym (c.store.slots slot))));
      mapped = λ slot mapping fresh there. absurd (fresh (ap (λ (o : Option Entry). frame_mapping (capability_of o)) (sym (c.store.slots slot)) ∙ there));
      capabilities = λ slot differs some. absurd (differs (ap (λ (o : Option Entry). without_use (capability_of o)) (sym (c.store.slots slot))));
      endpoints = λ offset old new before behind.
          other-endpoint offset (c.others offset (apart offset (EndpointObject old) before (λ e. cc))) old new before behind;
      notifications = λ offset old new before behind.
          other-notification offset (c.others offset (apart offset (NotificationObject old) before (λ e. cc))) old new before behind;
      parents = λ slot differs. absurd (differs (ap parent_of (sym (c.store.slots slot))));
      used = λ slot offset bits old new before behind differs.
          absurd (one-used (capability_at s.slots slot) offset bits old new before (ap capability_of (sym (c.store.slots slot)) ∙ behind) differs);
      priority = between (λ (old new : ThreadState). new.priority ≡ old.priority) (s.objects (self_of image t)) (after.objects (self_of image t)) c.own c.now
          c.was c.is c.itself.priority;
      slice = between (SliceChange s after (self_of image t)) (s.objects (self_of image t)) (after.objects (self_of image t)) c.own c.now c.was c.is
          c.itself.slice;
      fault_address = between (λ (old new : ThreadState). new.fault_address ≡ old.fault_address) (s.objects (self_of image t))
          (after.objects (self_of image t)) c.own c.now c.was c.is c.itself.fault_address;
      right = between (λ (old new : ThreadState). RightChange image t s after old.caller new.caller) (s.objects (self_of image t))
          (after.objects (self_of image t)) c.own c.now c.was c.is c.itself.right;
      threads = λ other old new differs. other-thread other (c.others other differs) old new;
      lines = c.lines;
      ready = c.ready;
    }
