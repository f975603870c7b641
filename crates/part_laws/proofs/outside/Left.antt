-- A step of another thread, which has nothing of what the part waits for, leaves the part's threads and its places in the ready lists: each change of
-- another thread has a reason, and no reason is left.
use Rattle.std.proofs.Common.{ℕ, ◌≡◌, ◌≢◌, ◌∙◌, ◌^◌, inl, inr, true, false, List, Option, Some, None, option_map, filter, pow_pos, refl, sym, ap, subst}
use Rattle.std.proofs.Common.{arith}
use Rattle.std.specs.Prelude.{Contains, IsTrue}
use Rattle.std.proofs.lemmas.Bool.{false≢true}
use Rattle.std.proofs.lemmas.Option.{none-some, same_Some}
use Rattle.model.specs.declared.capabilities.Cap.{Cap}
use Rattle.model.specs.declared.labels.Label.{Label}
use Rattle.model.specs.declared.system_calls.SystemCall.{SystemCall}
use Rattle.model.specs.Acceptance.Accepted.{IsAccepted}
use Rattle.model.specs.Acceptance.Authority.{CallNames, Holds, IsUntypedAround, ObjectChange, WaitsFor, appears, ends, WithinAuthority, rights_of, self_of}
use Rattle.model.specs.Capabilities.Rights.{may_read, may_write}
use Rattle.model.specs.declared.rights.Rights.{Rights}
use Rattle.model.specs.declared.capabilities.Cap.TheVariants.{Endpoint, Notification}
use Rattle.model.specs.Acceptance.ThreadInvariants.{ThreadInvariant, runs, waits, tcb_of}
use Rattle.model.specs.Capabilities.Slots.{capability_at}
use Rattle.model.specs.Images.Described.{Numbered, numbered_threads}
use Rattle.model.specs.Images.Image.{Image, Thread}
use Rattle.model.specs.Kernel.Deliveries.{Reason, ReceivesFrom, SendsTo, receiver, sender, waiter, caller, faulted, set_back, Signals, by_right, by_line}
use Rattle.model.specs.Kernel.Kinds.{kind_at, kind_of, object_named}
use Rattle.model.specs.Kernel.Retype.{object_bits}
use Rattle.model.specs.Kernel.Scheduling.{is_runnable}
use Rattle.model.specs.Kernel.State.{State, Blocked, Object, ThreadObject, ThreadState, as_thread}
use Rattle.headline.specs.facts.Standing.{AllStand}
use Rattle.headline.specs.kept.Laws.{HaveOwnBlocks}
use Rattle.headline.specs.parts.Leaving.{ChangesQueue}
use Rattle.part_laws.specs.Nothing.{HasNothingOf, IsNoneOf}
use Rattle.headline.specs.parts.Parts.{Part, is_in, is_thread_in}
use Rattle.part_laws.proofs.outside.Decided.{settled, threads}
use Rattle.part_laws.proofs.changes.Members.{filter-same, is-member, member-of, no-member, other-block}

-- ---- capabilities by which a queue changes

pub to-send : (queue badge : ℕ) (call : SystemCall) (c : Cap) → SendsTo queue badge call c → ChangesQueue queue c
to-send queue badge call c such = record {
  names = inl (ap object_named such.is);
  may = inl (subst (λ (x : Cap). IsTrue (may_write (rights_of x))) (sym such.is) such.writes);
}

pub to-receive : (queue : ℕ) (call : SystemCall) (c : Cap) → ReceivesFrom queue call c → ChangesQueue queue c
to-receive queue call c such = record {
  names = inl (ap object_named such.is);
  may = inr (subst (λ (x : Cap). IsTrue (may_read (rights_of x))) (sym such.is) such.reads);
}

pub to-ask : (queue badge : ℕ) (allowed : Rights) (c : Cap) → c ≡ Endpoint queue allowed badge → IsTrue (may_write allowed) → ChangesQueue queue c
to-ask queue badge allowed c is writes = record {
  names = inl (ap object_named is);
  may = inl (subst (λ (x : Cap). IsTrue (may_write (rights_of x))) (sym is) writes);
}

pub to-signal : (queue badge : ℕ) (allowed : Rights) (c : Cap) → c ≡ Notification queue allowed badge → IsTrue (may_write allowed) → ChangesQueue queue c
to-signal queue badge allowed c is writes = record {
  names = inr (ap object_named is);
  may = inl (subst (λ (x : Cap). IsTrue (may_write (rights_of x))) (sym is) writes);
}

pub to-wait : (queue : ℕ) (call : SystemCall) (c : Cap) → WaitsFor queue call c → ChangesQueue queue c
to-wait queue call c such = record {
  names = inr (ap object_named such.is);
  may = inr (subst (λ (x : Cap). IsTrue (may_read (rights_of x))) (sym such.is) such.reads);
}

-- ---- memory

-- untyped memory around a piece is around its first byte
pub around-first : (image : Image) (t : Thread) (s : State) (first bits : ℕ) → Holds image t s (IsUntypedAround first (2 ^ bits))
    → Holds image t s (IsUntypedAround first 1)
around-first image t s first bits h = record {
  slot = h.slot;
  own = h.own;
  such = record {
    offset = h.such.offset;
    bits = h.such.bits;
    watermark = h.such.watermark;
    is = h.such.is;
    begins = h.such.begins;
    ends = let inside = h.such.ends in let more = pow_pos bits in omega (arith, inside, more);
  };
}

-- ---- threads

-- a thread of the image is there
pub there : (image : Image) (u : Numbered) (s : State) (labels : List Label) → ThreadInvariant image u s labels
    → (own : ThreadState) × (s.objects (tcb_of image u) ≡ Some (ThreadObject own))
there image u s labels (runs own point state is _ _ _) = (own, is)
there image u s labels (waits own point state is _ _ _ _) = (own, is)

-- one state of one thread
pub one-state : (a b : ThreadState) (o : Option Object) → o ≡ Some (ThreadObject a) → o ≡ Some (ThreadObject b) → a ≡ b
one-state a b o first second = same_Some a b (ap as_thread (sym first ∙ second))

module _ (bytes : List ℕ) (image : Image) (accepted : IsAccepted bytes image) (own_blocks : HaveOwnBlocks) (part : Part) (t : Numbered)
    (s after : State) (labels later : List Label) (all : AllStand image s labels) (behind : AllStand image after later)
    (listed : Contains (numbered_threads image) t) (outside : is_in part t.thread ≡ false) (nothing : HasNothingOf image part t s)
    (within : WithinAuthority image t.thread s after) where
  module _ (u : Numbered) (among : Contains (numbered_threads image) u) (inside : is_in part u.thread ≡ true) where
    -- by a capability that the call names
    held : {Such : SystemCall → Cap → Type 0} {Other : Cap → Type 0} → ((call : SystemCall) (c : Cap) → Such call c → Other c)
        → CallNames image t.thread s Such → Holds image t.thread s Other
    held so named = record { slot = named.slot; own = named.own; such = so _ _ named.such }

    gone-kind : (queue : ℕ) (o : Option Object) → s.objects queue ≡ o → o ≢ None → after.objects queue ≡ None → kind_at s queue ≢ kind_at after queue
    gone-kind queue None is there gone same = there refl
    gone-kind queue (Some o) is there gone same =
        none-some (kind_of o) (sym (ap (option_map kind_of) gone) ∙ sym same ∙ ap (option_map kind_of) is)

    module _ (old new : ThreadState) (was : s.objects (tcb_of image u) ≡ Some (ThreadObject old)) where
      none-of : (queue : ℕ) → old.status ≡ Blocked queue → IsNoneOf image t s queue
      none-of queue blocked = nothing.waits u old queue among inside was blocked

      ended : (queue : ℕ) → IsNoneOf image t s queue → s.objects queue ≢ None → after.objects queue ≡ None → ObjectChange image t.thread s after queue → ⊥
      ended queue none there gone (appears kind absent new around) = there absent
      ended queue none there gone (ends kind is absent around) = none.memory (around-first image t.thread s queue (object_bits kind) around)

      no-right : (thread_right : is_thread_in image part (tcb_of image u) ≡ false) → ⊥
      no-right thread_right = false≢true (sym thread_right ∙ is-member image part u among inside)

      no-signal : (queue badge : ℕ) → IsNoneOf image t s queue → (named : CallNames image t.thread s (Signals s after queue badge)) → ⊥
      no-signal queue badge none named = by-way named.such
        where
          by-way : Signals s after queue badge named.call (capability_at s.slots named.slot) → ⊥
          by-way (by_right allowed sends is w) = none.named (record { slot = named.slot; own = named.own; such = to-signal queue badge allowed _ is w })
          by-way (by_line number sends is bound pending taken) = none.line number badge (record { slot = named.slot; own = named.own; such = is }) bound

      no-reason : Reason s after (self_of image t.thread) (CallNames image t.thread s) (tcb_of image u) old new → ⊥
      no-reason (receiver endpoint badge right first blocked named may is arrives) =
          (none-of endpoint blocked).named (held (λ call c such. to-send endpoint badge call c such) named)
      no-reason (sender endpoint first queue block blocked named is arrives) =
          (none-of endpoint blocked).named (held (λ call c such. to-receive endpoint call c such) named)
      no-reason (waiter notification badge queue blocked named is) = no-signal notification badge (none-of notification blocked) named
      no-reason (caller right awaits is arrives) = no-right (nothing.right (tcb_of image u) right)
      no-reason (faulted right awaits is) = no-right (nothing.right (tcb_of image u) right)
      no-reason (set_back queue blocked there gone is) =
          ended queue (none-of queue blocked) there gone
          (within.objects queue (gone-kind queue (s.objects queue) refl there gone))

    pub left-thread : after.objects (tcb_of image u) ≡ s.objects (tcb_of image u)
    left-thread =
        let was = there image u s labels (all.stand u among) in
        let is = there image u after later (behind.stand u among) in
        let same : was.0 ≡ is.0 =
        settled was.0 is.0 (threads was.0 is.0) (λ differs. no-reason was.0 is.0 was.1
        (within.threads (tcb_of image u) was.0 is.0
        (other-block bytes image accepted own_blocks part t listed outside u among inside) was.1 is.1 differs)) in
        is.1 ∙ ap (λ (own : ThreadState). Some (ThreadObject own)) (sym same) ∙ sym was.1

  pub left-ready : (priority : ℕ) → filter (is_thread_in image part) (after.ready priority) ≡ filter (is_thread_in image part) (s.ready priority)
  left-ready priority =
      let change = within.ready priority in
      filter-same (is_thread_in image part) (tcb_of image t) (s.ready priority) (after.ready priority) change.added
      (no-member bytes image accepted own_blocks part t listed outside) change.list
      (λ x among. elim (is_thread_in image part x) as (λ b. is_thread_in image part x ≡ b → b ≡ false) [
        | false ↦ λ _. refl
        | true ↦ λ is.
            let m = member-of image part x is in
            let woken = change.woken x among in
            let stays : after.objects x ≡ s.objects x =
            subst (λ (o : ℕ). after.objects o ≡ s.objects o) m.block (left-thread m.thread m.listed m.inside) in
            let same : woken.changed ≡ woken.before = one-state woken.changed woken.before (after.objects x) woken.is (stays ∙ woken.was) in
            absurd (false≢true (sym woken.rested ∙ ap is_runnable (sym (ap (λ (o : ThreadState). o.status) same) ∙ woken.runs)))
      ] refl)
