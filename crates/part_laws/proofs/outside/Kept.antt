-- A step of another thread keeps that the whole and the part alone agree: objects, bytes, slots, lines and lists of the part stay, since each change of
-- one has a reason, and no reason is left. This is integrity, and nothing else.
use Rattle.std.proofs.Common.{ℕ, ◌≡◌, ◌≢◌, ◌∙◌, ◌⊎◌, inl, inr, true, false, List, Option, Some, None, option_map, refl, sym, ap, subst}
use Rattle.std.specs.Prelude.{Contains}
use Rattle.std.proofs.lemmas.Option.{none-some, same_Some}
use Rattle.model.specs.declared.capabilities.Cap.{Cap}
use Rattle.model.specs.declared.labels.Label.{Label}
use Rattle.model.specs.declared.system_calls.SystemCall.{SystemCall}
use Rattle.model.specs.Acceptance.Accepted.{IsAccepted}
use Rattle.model.specs.Acceptance.Authority.{CallNames, EndpointChange, NotificationChange, ObjectChange, appears, ends, WithinAuthority, self_of}
use Rattle.model.specs.Acceptance.Authority.{waits_to_send, waits_to_receive, takes_sender, takes_receiver, joins, passes_on, taken, waits as waits_there}
use Rattle.model.specs.Capabilities.Slots.{capability_at}
use Rattle.model.specs.Images.Described.{Numbered, numbered_threads}
use Rattle.model.specs.Images.Image.{Image}
use Rattle.model.specs.Acceptance.ThreadInvariants.{IsWaiting, ThreadInvariant, runs, waits as waits_thread, tcb_of}
use Rattle.model.specs.Kernel.Deliveries.{Reason, receiver, sender, waiter, caller, faulted, set_back, Signals, by_right, by_line}
use Rattle.model.specs.Kernel.Kinds.{kind_of}
use Rattle.model.specs.Kernel.Retype.{NewThread, NewEndpoint, NewNotification, NewCNode, NewFrame, NewPageTable, NewRootTable, object_bits}
use Rattle.model.specs.Kernel.State.{Inactive, Runnable, Blocked, AwaitsReply, AwaitsHandler}
use Rattle.model.specs.Kernel.State.{State, Object, ThreadObject, EndpointObject, NotificationObject, CNodeObject, FrameObject, PageTableObject}
use Rattle.model.specs.Kernel.State.{RootTableObject, EndpointState, NotificationState, ThreadState}
use Rattle.headline.specs.facts.Standing.{AllStand}
use Rattle.headline.specs.kept.Laws.{HaveOwnBlocks}
use Rattle.headline.specs.parts.Leaving.{ChangesQueue}
use Rattle.part_laws.specs.Agreeing.{IsOfPart}
use Rattle.part_laws.specs.Nothing.{HasNothing, IsNoneOf}
use Rattle.headline.specs.parts.Parts.{Part, is_in, is_line_of}
use Rattle.part_laws.proofs.outside.Decided.{bools, endpoints, notifications, numbers, settled, threads}
use Rattle.part_laws.proofs.outside.Left.{around-first, left-thread, one-state, to-ask, to-receive, to-send, to-signal, to-wait}

module _ (bytes : List ℕ) (image : Image) (accepted : IsAccepted bytes image) (own_blocks : HaveOwnBlocks) (part : Part) (t : Numbered)
    (s after : State) (labels later : List Label) (all : AllStand image s labels) (behind : AllStand image after later)
    (listed : Contains (numbered_threads image) t) (outside : is_in part t.thread ≡ false) (nothing : HasNothing image part t s)
    (within : WithinAuthority image t.thread s after) where
  module _ (offset : ℕ) (of : IsOfPart image part offset) where
    none : IsNoneOf image t s offset
    none = nothing.objects offset of

    by-name : {Such : SystemCall → Cap → Type 0} → ((call : SystemCall) (c : Cap) → Such call c → ChangesQueue offset c) → CallNames image t.thread s Such → ⊥
    by-name so named = none.named (record { slot = named.slot; own = named.own; such = so _ _ named.such })

    no-signal : (badge : ℕ) → (named : CallNames image t.thread s (Signals s after offset badge)) → ⊥
    no-signal badge named = by-way named.such
      where
        by-way : Signals s after offset badge named.call (capability_at s.slots named.slot) → ⊥
        by-way (by_right allowed sends is w) = none.named (record { slot = named.slot; own = named.own; such = to-signal offset badge allowed _ is w })
        by-way (by_line number sends is bound pending gone) = none.line number badge (record { slot = named.slot; own = named.own; such = is }) bound

    no-endpoint : (old new : EndpointState) → EndpointChange image t.thread s after offset old new → ⊥
    no-endpoint old new (waits_to_send x asks is) = by-name (λ call c is_it. to-ask offset x.badge asks.allowed c is_it.1 asks.writes) asks.named
    no-endpoint old new (waits_to_receive named is) = by-name (λ call c such. to-receive offset call c such) named
    no-endpoint old new (takes_sender first named queue same rests) = by-name (λ call c such. to-receive offset call c such) named
    no-endpoint old new (takes_receiver badge first named queue same rests) = by-name (λ call c such. to-send offset badge call c such) named

    no-notification : (old new : NotificationState) → NotificationChange image t.thread s after offset old new → ⊥
    no-notification old new (joins badge named empty is) = no-signal badge named
    no-notification old new (passes_on badge first named queue same rests) = no-signal badge named
    no-notification old new (taken named is) = by-name (λ call c such. to-wait offset call c such) named
    no-notification old new (waits_there named is) = by-name (λ call c such. to-wait offset call c such) named

    no-object : ObjectChange image t.thread s after offset → ⊥
    no-object (appears kind absent new around) = none.memory (around-first image t.thread s offset (object_bits kind) around)
    no-object (ends kind is absent around) = none.memory (around-first image t.thread s offset (object_bits kind) around)

    -- the kind stays
    gone : (o : Object) → s.objects offset ≡ Some o → after.objects offset ≡ None → ⊥
    gone o was is = no-object (within.objects offset (λ same.
        none-some (kind_of o) (sym (ap (option_map kind_of) is) ∙ sym same ∙ ap (option_map kind_of) was)))

    come : (o : Object) → s.objects offset ≡ None → after.objects offset ≡ Some o → ⊥
    come o was is = no-object (within.objects offset (λ same.
        none-some (kind_of o) (sym (ap (option_map kind_of) was) ∙ same ∙ ap (option_map kind_of) is)))

    other : (a b : Object) → s.objects offset ≡ Some a → after.objects offset ≡ Some b → kind_of a ≢ kind_of b → ⊥
    other a b was is differ = no-object (within.objects offset (λ same.
        differ (same_Some (kind_of a) (kind_of b) (sym (ap (option_map kind_of) was) ∙ same ∙ ap (option_map kind_of) is))))

    -- a thread of the image is the part's, and another rests
    of-thread : (a b : ThreadState) → s.objects offset ≡ Some (ThreadObject a) → after.objects offset ≡ Some (ThreadObject b) → a ≡ b
    of-thread a b was is = elim (all.others offset a was) [
      | inr block ↦
          let here : IsOfPart image part (tcb_of image block.thread) = subst (λ (o : ℕ). IsOfPart image part o) block.is of in
          let stays : after.objects offset ≡ s.objects offset =
          subst (λ (o : ℕ). after.objects o ≡ s.objects o) (sym block.is)
          (left-thread bytes image accepted own_blocks part t s after labels later all behind listed outside nothing.others within block.thread block.listed
          (nothing.threads block.thread block.listed here)) in
          one-state a b (after.objects offset) (stays ∙ was) is
      | inl rests ↦ settled a b (threads a b) (λ differs. no-reason a b rests
          (within.threads offset a b (λ same. self-runs (subst (λ (o : ℕ). s.objects o ≡ Some (ThreadObject a)) same was) rests) was is differs))
    ]
      where
        self-runs : s.objects (tcb_of image t) ≡ Some (ThreadObject a) → a.status ≡ Inactive → ⊥
        self-runs here rests = by (all.stand t listed)
          where
            by : ThreadInvariant image t s labels → ⊥
            by (runs own point state is run _ _) =
                let e : Runnable ≡ Inactive = sym run ∙ ap (λ (x : ThreadState). x.status) (one-state own a (s.objects (tcb_of image t)) is here) ∙ rests in cc
            by (waits_thread own point state is waiting _ _ _) =
                subst IsWaiting (ap (λ (x : ThreadState). x.status) (one-state own a (s.objects (tcb_of image t)) is here) ∙ rests) waiting

        no-reason : (old new : ThreadState) → old.status ≡ Inactive → Reason s after (self_of image t.thread) (CallNames image t.thread s) offset old new → ⊥
        no-reason old new rests (receiver endpoint badge right first blocked named may is arrives) =
            let e : Inactive ≡ Blocked endpoint = sym rests ∙ blocked in cc
        no-reason old new rests (sender endpoint first queue block blocked named is arrives) = let e : Inactive ≡ Blocked endpoint = sym rests ∙ blocked in cc
        no-reason old new rests (waiter notification badge queue blocked named is) = let e : Inactive ≡ Blocked notification = sym rests ∙ blocked in cc
        no-reason old new rests (caller right awaits is arrives) = let e : Inactive ≡ AwaitsReply = sym rests ∙ awaits in cc
        no-reason old new rests (faulted right awaits is) = let e : Inactive ≡ AwaitsHandler = sym rests ∙ awaits in cc
        no-reason old new rests (set_back queue blocked there gone is) = let e : Inactive ≡ Blocked queue = sym rests ∙ blocked in cc

    of-endpoint : (a b : EndpointState) → s.objects offset ≡ Some (EndpointObject a) → after.objects offset ≡ Some (EndpointObject b) → a ≡ b
    of-endpoint a b was is = settled a b (endpoints a b) (λ differ. no-endpoint a b (within.endpoints offset a b was is differ))

    of-notification : (a b : NotificationState) → s.objects offset ≡ Some (NotificationObject a) → after.objects offset ≡ Some (NotificationObject b)
        → a ≡ b
    of-notification a b was is = settled a b (notifications a b) (λ differ. no-notification a b (within.notifications offset a b was is differ))

    same-object : (a b : Object) → s.objects offset ≡ Some a → after.objects offset ≡ Some b → a ≡ b
    same-object (ThreadObject a) (ThreadObject b) was is = ap ThreadObject (of-thread a b was is)
    same-object (ThreadObject a) (EndpointObject b) was is =
        absurd (other (ThreadObject a) (EndpointObject b) was is (λ same. absurd (let clash : NewThread ≡ NewEndpoint = same in cc)))
    same-object (ThreadObject a) (NotificationObject b) was is =
        absurd (other (ThreadObject a) (NotificationObject b) was is (λ same. absurd (let clash : NewThread ≡ NewNotification = same in cc)))
    same-object (ThreadObject a) (CNodeObject b) was is =
        absurd (other (ThreadObject a) (CNodeObject b) was is (λ same. absurd (let clash : NewThread ≡ (NewCNode b) = same in cc)))
    same-object (ThreadObject a) FrameObject was is =
        absurd (other (ThreadObject a) FrameObject was is (λ same. absurd (let clash : NewThread ≡ NewFrame = same in cc)))
    same-object (ThreadObject a) PageTableObject was is =
        absurd (other (ThreadObject a) PageTableObject was is (λ same. absurd (let clash : NewThread ≡ NewPageTable = same in cc)))
    same-object (ThreadObject a) RootTableObject was is =
        absurd (other (ThreadObject a) RootTableObject was is (λ same. absurd (let clash : NewThread ≡ NewRootTable = same in cc)))
    same-object (EndpointObject a) (ThreadObject b) was is = absurd (other (EndpointObject a) (ThreadObject b) was is (λ same. absurd
        (let clash : NewEndpoint ≡ NewThread = same in cc)))
    same-object (EndpointObject a) (EndpointObject b) was is = ap EndpointObject (of-endpoint a b was is)
    same-object (EndpointObject a) (NotificationObject b) was is = absurd (other (EndpointObject a) (NotificationObject b) was is (λ same. absurd
        (let clash : NewEndpoint ≡ NewNotification = same in cc)))
    same-object (EndpointObject a) (CNodeObject b) was is = absurd (other (EndpointObject a) (CNodeObject b) was is (λ same. absurd
        (let clash : NewEndpoint ≡ (NewCNode b) = same in cc)))
    same-object (EndpointObject a) FrameObject was is = absurd (other (EndpointObject a) FrameObject was is (λ same. absurd
        (let clash : NewEndpoint ≡ NewFrame = same in cc)))
    same-object (EndpointObject a) PageTableObject was is = absurd (other (EndpointObject a) PageTableObject was is (λ same. absurd
        (let clash : NewEndpoint ≡ NewPageTable = same in cc)))
    same-object (EndpointObject a) RootTableObject was is = absurd (other (EndpointObject a) RootTableObject was is (λ same. absurd
        (let clash : NewEndpoint ≡ NewRootTable = same in cc)))
    same-object (NotificationObject a) (ThreadObject b) was is = absurd (other (NotificationObject a) (ThreadObject b) was is (λ same. absurd
        (let clash : NewNotification ≡ NewThread = same in cc)))
    same-object (NotificationObject a) (EndpointObject b) was is = absurd (other (NotificationObject a) (EndpointObject b) was is (λ same. absurd
        (let clash : NewNotification ≡ NewEndpoint = same in cc)))
    same-object (NotificationObject a) (NotificationObject b) was is = ap NotificationObject (of-notification a b was is)
    same-object (NotificationObject a) (CNodeObject b) was is = absurd (other (NotificationObject a) (CNodeObject b) was is (λ same. absurd
        (let clash : NewNotification ≡ (NewCNode b) = same in cc)))
    same-object (NotificationObject a) FrameObject was is = absurd (other (NotificationObject a) FrameObject was is (λ same. absurd
        (let clash : NewNotification ≡ NewFrame = same in cc)))
    same-object (NotificationObject a) PageTableObject was is = absurd (other (NotificationObject a) PageTableObject was is (λ same. absurd
        (let clash : NewNotification ≡ NewPageTable = same in cc)))
    same-object (NotificationObject a) RootTableObject was is = absurd (other (NotificationObject a) RootTableObject was is (λ same. absurd
        (let clash : NewNotification ≡ NewRootTable = same in cc)))
    same-object (CNodeObject a) (ThreadObject b) was is = absurd (other (CNodeObject a) (ThreadObject b) was is (λ same. absurd (let clash :
        (NewCNode a) ≡ NewThread = same in cc)))
    same-object (CNodeObject a) (EndpointObject b) was is = absurd (other (CNodeObject a) (EndpointObject b) was is (λ same. absurd (let clash :
        (NewCNode a) ≡ NewEndpoint = same in cc)))
    same-object (CNodeObject a) (NotificationObject b) was is = absurd (other (CNodeObject a) (NotificationObject b) was is (λ same. absurd (let clash :
        (NewCNode a) ≡ NewNotification = same in cc)))
    same-object (CNodeObject a) (CNodeObject b) was is = elim (numbers a b) [
      | inl same ↦ ap CNodeObject same
      | inr apart ↦ absurd (other (CNodeObject a) (CNodeObject b) was is (λ same. apart (let e : NewCNode a ≡ NewCNode b = same in cc)))
    ]
    same-object (CNodeObject a) FrameObject was is = absurd (other (CNodeObject a) FrameObject was is (λ same. absurd (let clash :
        (NewCNode a) ≡ NewFrame = same in cc)))
    same-object (CNodeObject a) PageTableObject was is = absurd (other (CNodeObject a) PageTableObject was is (λ same. absurd (let clash :
        (NewCNode a) ≡ NewPageTable = same in cc)))
    same-object (CNodeObject a) RootTableObject was is = absurd (other (CNodeObject a) RootTableObject was is (λ same. absurd (let clash :
        (NewCNode a) ≡ NewRootTable = same in cc)))
    same-object FrameObject (ThreadObject b) was is = absurd (other FrameObject (ThreadObject b) was is (λ same. absurd
        (let clash : NewFrame ≡ NewThread = same in cc)))
    same-object FrameObject (EndpointObject b) was is = absurd (other FrameObject (EndpointObject b) was is (λ same. absurd
        (let clash : NewFrame ≡ NewEndpoint = same in cc)))
    same-object FrameObject (NotificationObject b) was is = absurd (other FrameObject (NotificationObject b) was is (λ same. absurd
        (let clash : NewFrame ≡ NewNotification = same in cc)))
    same-object FrameObject (CNodeObject b) was is = absurd (other FrameObject (CNodeObject b) was is (λ same. absurd (let clash : NewFrame ≡
        (NewCNode b) = same in cc)))
    same-object FrameObject FrameObject was is = refl
    same-object FrameObject PageTableObject was is = absurd (other FrameObject PageTableObject was is (λ same. absurd
        (let clash : NewFrame ≡ NewPageTable = same in cc)))
    same-object FrameObject RootTableObject was is = absurd (other FrameObject RootTableObject was is (λ same. absurd
        (let clash : NewFrame ≡ NewRootTable = same in cc)))
    same-object PageTableObject (ThreadObject b) was is = absurd (other PageTableObject (ThreadObject b) was is (λ same. absurd
        (let clash : NewPageTable ≡ NewThread = same in cc)))
    same-object PageTableObject (EndpointObject b) was is = absurd (other PageTableObject (EndpointObject b) was is (λ same. absurd
        (let clash : NewPageTable ≡ NewEndpoint = same in cc)))
    same-object PageTableObject (NotificationObject b) was is = absurd (other PageTableObject (NotificationObject b) was is (λ same. absurd
        (let clash : NewPageTable ≡ NewNotification = same in cc)))
    same-object PageTableObject (CNodeObject b) was is = absurd (other PageTableObject (CNodeObject b) was is (λ same. absurd (let clash : NewPageTable ≡
        (NewCNode b) = same in cc)))
    same-object PageTableObject FrameObject was is = absurd (other PageTableObject FrameObject was is (λ same. absurd
        (let clash : NewPageTable ≡ NewFrame = same in cc)))
    same-object PageTableObject PageTableObject was is = refl
    same-object PageTableObject RootTableObject was is = absurd (other PageTableObject RootTableObject was is (λ same. absurd
        (let clash : NewPageTable ≡ NewRootTable = same in cc)))
    same-object RootTableObject (ThreadObject b) was is = absurd (other RootTableObject (ThreadObject b) was is (λ same. absurd
        (let clash : NewRootTable ≡ NewThread = same in cc)))
    same-object RootTableObject (EndpointObject b) was is = absurd (other RootTableObject (EndpointObject b) was is (λ same. absurd
        (let clash : NewRootTable ≡ NewEndpoint = same in cc)))
    same-object RootTableObject (NotificationObject b) was is = absurd (other RootTableObject (NotificationObject b) was is (λ same. absurd
        (let clash : NewRootTable ≡ NewNotification = same in cc)))
    same-object RootTableObject (CNodeObject b) was is = absurd (other RootTableObject (CNodeObject b) was is (λ same. absurd (let clash : NewRootTable ≡
        (NewCNode b) = same in cc)))
    same-object RootTableObject FrameObject was is = absurd (other RootTableObject FrameObject was is (λ same. absurd
        (let clash : NewRootTable ≡ NewFrame = same in cc)))
    same-object RootTableObject PageTableObject was is = absurd (other RootTableObject PageTableObject was is (λ same. absurd
        (let clash : NewRootTable ≡ NewPageTable = same in cc)))
    same-object RootTableObject RootTableObject was is = refl

    found : (a b : Option Object) → s.objects offset ≡ a → after.objects offset ≡ b → b ≡ a
    found None None was is = refl
    found None (Some b) was is = absurd (come b was is)
    found (Some a) None was is = absurd (gone a was is)
    found (Some a) (Some b) was is = ap (λ (o : Object). Some o) (sym (same-object a b was is))

    pub kept-object : after.objects offset ≡ s.objects offset
    kept-object = found (s.objects offset) (after.objects offset) refl refl

  pub kept-line : (line : ℕ) → is_line_of image part line ≡ true → (after.masked line ≡ s.masked line) × (after.pending line ≡ s.pending line)
  kept-line line of =
      let never : (s.masked line ≢ after.masked line) ⊎ (s.pending line ≢ after.pending line) → ⊥ =
      λ differs. nothing.lines line of (let named = (within.lines line differs).0 in record { slot = named.slot; own = named.own; such = named.such.1 }) in (
        sym (settled (s.masked line) (after.masked line) (bools (s.masked line) (after.masked line)) (λ differs. never (inl differs))),
        sym (settled (s.pending line) (after.pending line) (bools (s.pending line) (after.pending line)) (λ differs. never (inr differs))),
      )
