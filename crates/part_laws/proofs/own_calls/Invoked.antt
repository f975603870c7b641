-- An invocation of a thread of the part, in the whole and alone: the same call, which both sides perform, and the same answer.
use Rattle.std.proofs.Common.{ℕ, ◌≡◌, ◌∙◌, ◌+◌, Bool, true, false, if◌then◌else◌, is_some, List, Option, Some, Result, Ok, Err, refl, sym, ap, subst}
use Rattle.std.proofs.lemmas.Bool.{false≢true}
use Rattle.std.specs.Option.{option_map_or}
use Rattle.model.specs.declared.capabilities.Cap.{Cap}
use Rattle.model.specs.declared.capabilities.Cap.TheVariants.{Empty, Untyped, Endpoint, Notification, CNode, Frame, PageTable, Tcb, RootTable, InterruptControl}
use Rattle.model.specs.declared.capabilities.Cap.TheVariants.{InterruptHandler}
use Rattle.model.specs.declared.errors.KError.{KError}
use Rattle.model.specs.declared.invocations.CNodeCall.TheVariants.{Copy, Mint, Move, Mutate, Delete, Revoke}
use Rattle.model.specs.declared.invocations.FrameCall.TheVariants.{MapFrame, UnmapFrame}
use Rattle.model.specs.declared.invocations.HandlerCall.{HandlerCall}
use Rattle.model.specs.declared.invocations.HandlerCall.TheVariants.{Acknowledge, Clear, SetNotification}
use Rattle.model.specs.declared.invocations.Invocation.{Invocation}
use Rattle.model.specs.declared.invocations.Invocation.TheVariants.{OnUntyped, OnThread, OnCNode, OnFrame, OnTable, OnControl, OnHandler}
use Rattle.model.specs.declared.invocations.SlotName.{SlotName}
use Rattle.model.specs.declared.labels.Label.TheVariants.{Ran}
use Rattle.model.specs.declared.system_calls.SendCall.{SendCall}
use Rattle.model.specs.declared.system_calls.SendCall.TheVariants.{Calling, Sending, Trying}
use Rattle.model.specs.declared.system_calls.SystemCall.TheVariants.{Sends}
use Rattle.model.specs.Acceptance.Authority.{IsOwnSlot, MakesCall}
use Rattle.model.specs.Capabilities.Slots.{capability_at}
use Rattle.model.specs.Images.Described.{Numbered}
use Rattle.model.specs.Images.Image.{Image}
use Rattle.model.specs.Kernel.Arguments.{◌>>=◌, Call, argument_slot}
use Rattle.model.specs.Kernel.CallForms.{decode}
use Rattle.model.specs.Kernel.InterruptCalls.{on_handler}
use Rattle.model.specs.Kernel.Interrupts.{acknowledge}
use Rattle.model.specs.Kernel.Invocations.{invoke, perform}
use Rattle.model.specs.Kernel.MappingCalls.{unmap_frame}
use Rattle.model.specs.Kernel.Messages.{a0, a1, a7, extra_capabilities_of, info_word, message_of, passes}
use Rattle.model.specs.Kernel.Removal.{delete, revoke}
use Rattle.model.specs.Kernel.Scheduling.{is_runnable}
use Rattle.model.specs.Kernel.State.{State, Object, ThreadState, as_thread, new_thread, thread_at}
use Rattle.model.specs.Kernel.Steps.{Done, after_invocation, answered, call_of, calls_known, completed, cspace_of, invokes, memory_base, named_slot}
use Rattle.model.specs.Kernel.Steps.{registers_of}
use Rattle.model.specs.Kernel.Steps.{runs, runs_decoded, runs_fetched, send_by, send_named, system_call}
use Rattle.model.specs.Kernel.Waits.{is_error}
use Rattle.model.specs.Machine.Effects.{effect}
use Rattle.model.specs.Machine.ProgramMemory.{read, write}
use Rattle.soundness.proofs.Laws.{passes-both}
use Rattle.headline.specs.calls.Messages.{IsInvoked}
use Rattle.headline.specs.parts.Agreeing.{IsMemberOf}
use Rattle.headline.specs.parts.Parts.{Part, is_thread_in}
use Rattle.part_laws.specs.Agreeing.{AgreeFor}
use Rattle.part_laws.specs.own.Dispatch.{SameDone}
use Rattle.part_laws.specs.own.Invocations.{AcksAgree, RemovalsAgree}
use Rattle.part_laws.proofs.changes.Agreeing.{same-object, same-thread}
use Rattle.part_laws.proofs.changes.Messages.{passes-agree, passes-with-agree}
use Rattle.part_laws.proofs.own_calls.Families.{decoded-family, family_of, family_on, handlers, may_be_invoked, others}
use Rattle.part_laws.proofs.own_calls.NewObjects.{retype-agrees}
use Rattle.part_laws.proofs.own_calls.SameLookups.{FindsSame, one-slot, ok-of}
use Rattle.part_laws.proofs.own_calls.SlotCalls.{copy-agrees, map-agrees, mint-agrees, move-agrees, mutate-agrees, unmap-agrees}

-- ---- what a thread runs that invokes a capability

by-invoking : (s : State) (thread : ℕ) (kind : SendCall) (slot : ℕ) (c : Cap) → IsInvoked c → send_by s thread kind slot c ≡ invokes s thread kind slot c
by-invoking s thread kind slot Empty invoked = refl
by-invoking s thread kind slot (Untyped offset bits watermark) invoked = refl
by-invoking s thread kind slot (Endpoint offset r badge) invoked = absurd invoked
by-invoking s thread kind slot (Notification offset r badge) invoked = absurd invoked
by-invoking s thread kind slot (CNode offset radix guard) invoked = refl
by-invoking s thread kind slot (Frame offset r mapping) invoked = refl
by-invoking s thread kind slot (PageTable offset mapping) invoked = refl
by-invoking s thread kind slot (Tcb offset) invoked = refl
by-invoking s thread kind slot (RootTable offset) invoked = refl
by-invoking s thread kind slot InterruptControl invoked = refl
by-invoking s thread kind slot (InterruptHandler line) invoked = refl

pub runs-invocation : (a : State) (x : ℕ) (kind : SendCall) (slot : ℕ) → MakesCall a x → call_of (read (registers_of a x) a7) ≡ Some (Sends kind)
    → named_slot a x ≡ Ok slot → IsInvoked (capability_at a.slots slot) → runs a x ≡ invokes a x kind slot (capability_at a.slots slot)
unfolding runs effect system_call
runs-invocation a x kind slot makes number named some =
    ap (runs_fetched a x) makes.fetched ∙ ap (runs_decoded a x) makes.call ∙ ap (calls_known a x (read (registers_of a x) a7)) number
    ∙ ap (send_named a x kind) named ∙ by-invoking a x kind slot (capability_at a.slots slot) some

-- what a thread's message makes of a call
abbrev pub made : State → ThreadState → Call → Result State KError
made a own c = invoke a c (message_of own).label (extra_capabilities_of (read own.registers a1)) (message_of own).words

-- what the other calls of a handler leave agrees
pub record LinesAgree (image : Image) (part : Part) (s t : State) (call : Call) (after other : State) : Type 0 where
  pub binds : (number : ℕ) (name : SlotName) → call.capability ≡ InterruptHandler number → on_handler s call number (SetNotification name) ≡ Ok after
      → on_handler t call number (SetNotification name) ≡ Ok other → AgreeFor image part after other
  pub clears : (number : ℕ) → call.capability ≡ InterruptHandler number → on_handler s call number Clear ≡ Ok after
      → on_handler t call number Clear ≡ Ok other → AgreeFor image part after other

-- ---- both sides

module _ (image : Image) (part : Part) (s t : State) (u : Numbered) (member : IsMemberOf image part u) (agree : AgreeFor image part s t) (x : ℕ)
    (one : is_thread_in image part x ≡ true) where
  abbrev Agree : State → State → Type 0
  Agree a b = AgreeFor image part a b

  answered-agrees : (a b : State) → Agree a b → (kind : SendCall) (number : ℕ) → Agree (answered a x kind number) (answered b x kind number)
  answered-agrees a b same Calling number =
      passes-with-agree image part a b x (write (write (registers_of a x) a0 0) a1 (info_word number 0))
      (write (write (registers_of b x) a0 0) a1 (info_word number 0))
      (ap (λ (own : ThreadState). write (write own.registers a0 0) a1 (info_word number 0)) (same-thread image part a b x same one)) same one
  answered-agrees a b same Sending number = passes-agree image part a b x same one
  answered-agrees a b same Trying number = passes-agree image part a b x same one

  completed-agrees : (a b : State) → Agree a b → (kind : SendCall) → Agree (completed a x kind) (completed b x kind)
  completed-agrees a b same kind =
      subst (λ (o : Option Object). Agree (completed a x kind)
      (if is_some (as_thread o) then (if is_runnable (option_map_or (λ own. own) (as_thread o) new_thread).status then answered b x kind 0 else passes b x)
      else b)) (same-object image part a b x same one) (by (is_some (as_thread (a.objects x))) (is_runnable (thread_at a x).status))
    where
      by : (p q : Bool) → Agree (if p then (if q then answered a x kind 0 else passes a x) else a)
          (if p then (if q then answered b x kind 0 else passes b x) else b)
      by true true = answered-agrees a b same kind 0
      by true false = passes-agree image part a b x same one
      by false q = same

  -- ---- what is performed

  module _ (open_left : RemovalsAgree image part s t u) (acks : AcksAgree image part s t u) (call : Call) (own : IsOwnSlot image u.thread call.slot)
      (holds : call.capability ≡ capability_at s.slots call.slot) (may : may_be_invoked call.capability ≡ true)
      (roots : FindsSame image u.thread s.slots t.slots call.root) (below : FindsSame image u.thread s.slots t.slots call.capability)
      (after other : State) (lines : LinesAgree image part s t call after other) where
    removed : (name : SlotName) (act : State → ℕ → Result State KError)
        → ((slot : ℕ) → IsOwnSlot image u.thread slot → act s slot ≡ Ok after → act t slot ≡ Ok other → Agree after other)
        → (argument_slot s.slots call.capability name >>= λ slot. act s slot) ≡ Ok after
        → (argument_slot t.slots call.capability name >>= λ slot. act t slot) ≡ Ok other → Agree after other
    removed name act agrees is too =
        let a = passes-both (argument_slot s.slots call.capability name) (act s) after is in
        let b = passes-both (argument_slot t.slots call.capability name) (act t) other too in
        let same = one-slot image u.thread s.slots t.slots call.capability below name a.value b.value a.first b.first in
        agrees a.value (below.own name a.value a.first) a.rest (ap (act t) same ∙ b.rest)

    not-on : (c : Invocation) → family_of c ≡ family_on call.capability → family_of c ≡ others → Agree after other
    not-on c is none = absurd (by call.capability may (sym is ∙ none))
      where
        by : (k : Cap) → may_be_invoked k ≡ true → family_on k ≡ others → ⊥
        by Empty so clash = false≢true so
        by (Untyped offset bits watermark) so clash = cc
        by (Endpoint offset r badge) so clash = false≢true so
        by (Notification offset r badge) so clash = false≢true so
        by (CNode offset radix guard) so clash = cc
        by (Frame offset r mapping) so clash = cc
        by (PageTable offset mapping) so clash = false≢true so
        by (Tcb offset) so clash = false≢true so
        by (RootTable offset) so clash = false≢true so
        by InterruptControl so clash = false≢true so
        by (InterruptHandler number) so clash = cc

    perform-agrees : (c : Invocation) → family_of c ≡ family_on call.capability
        → perform s call c ≡ Ok after → perform t call c ≡ Ok other → Agree after other
    perform-agrees (OnUntyped memory c) is here there =
        retype-agrees image part s t u member agree call.root roots call.slot own memory c after other here there
    perform-agrees (OnThread thread c) is here there = not-on (OnThread thread c) is refl
    perform-agrees (OnCNode (Copy dn sn word)) is here there =
        copy-agrees image part s t u member agree call roots below dn sn after other word here there
    perform-agrees (OnCNode (Mint dn sn word payload)) is here there =
        mint-agrees image part s t u member agree call roots below dn sn after other word payload here there
    perform-agrees (OnCNode (Move dn sn)) is here there = move-agrees image part s t u member agree call roots below dn sn after other here there
    perform-agrees (OnCNode (Mutate dn sn payload)) is here there =
        mutate-agrees image part s t u member agree call roots below dn sn after other payload here there
    perform-agrees (OnCNode (Delete name)) is here there =
        removed name delete (λ slot mine a b. open_left.deletes slot after other mine a b) here there
    perform-agrees (OnCNode (Revoke name)) is here there =
        removed name revoke (λ slot mine a b. open_left.revokes slot after other mine a b) here there
    perform-agrees (OnFrame held (MapFrame name address word)) is here there =
        map-agrees image part s t u member agree call roots own after other held name address word here there
    perform-agrees (OnFrame held UnmapFrame) is here there =
        subst (λ (a : State). Agree a other) (ok-of (unmap_frame s call) after here)
        (subst (λ (b : State). Agree (unmap_frame s call) b) (ok-of (unmap_frame t call) other there)
        (unmap-agrees image part s t u member agree call roots own after other))
    perform-agrees (OnTable c) is here there = not-on (OnTable c) is refl
    perform-agrees (OnControl number destination) is here there = not-on (OnControl number destination) is refl
    perform-agrees (OnHandler number c) is here there = by call.capability refl (sym is)
      where
        on-line : capability_at s.slots call.slot ≡ InterruptHandler number → (k : HandlerCall) → on_handler s call number k ≡ Ok after
            → on_handler t call number k ≡ Ok other → Agree after other
        on-line held Acknowledge this that =
            subst (λ (a : State). Agree a other) (ok-of (acknowledge s number) after this)
            (subst (λ (b : State). Agree (acknowledge s number) b) (ok-of (acknowledge t number) other that) (acks call.slot number own held))
        on-line held (SetNotification name) this that = lines.binds number name (holds ∙ held) this that
        on-line held Clear this that = lines.clears number (holds ∙ held) this that

        by : (k : Cap) → call.capability ≡ k → family_on k ≡ handlers number → Agree after other
        by Empty held clash = absurd cc
        by (Untyped offset bits watermark) held clash = absurd cc
        by (Endpoint offset r badge) held clash = absurd cc
        by (Notification offset r badge) held clash = absurd cc
        by (CNode offset radix guard) held clash = absurd cc
        by (Frame offset r mapping) held clash = absurd cc
        by (PageTable offset mapping) held clash = absurd cc
        by (Tcb offset) held clash = absurd cc
        by (RootTable offset) held clash = absurd cc
        by InterruptControl held clash = absurd cc
        by (InterruptHandler line) held fits =
            let same : line ≡ number = cc in
            on-line (sym holds ∙ held ∙ ap (λ (n : ℕ). InterruptHandler n) same) c here there

    invoke-agrees : (label extra : ℕ) (words : List ℕ) → invoke s call label extra words ≡ Ok after → invoke t call label extra words ≡ Ok other
        → Agree after other
    unfolding invoke
    invoke-agrees label extra words is too =
        let a = passes-both (decode call.capability label extra words) (perform s call) after is in
        let b = passes-both (decode call.capability label extra words) (perform t call) other too in
        let same : b.value ≡ a.value = (let e : ◌≡◌ {A = Result Invocation KError} (Ok b.value) (Ok a.value) = sym b.first ∙ a.first in cc) in
        perform-agrees a.value (decoded-family call.capability label extra words a.value may a.first) a.rest
        (ap (perform t call) (sym same) ∙ b.rest)

  -- ---- the answer

  abbrev Right : Done → Type 0
  Right a = is_error (Ran (memory_base + x) (registers_of s x).pc a.1) ≡ false

  after-agrees : (kind : SendCall) (r q : Result State KError) → ((after other : State) → r ≡ Ok after → q ≡ Ok other → Agree after other)
      → Right (after_invocation s x kind r) → Right (after_invocation t x kind q)
      → SameDone image part (after_invocation s x kind r) (after_invocation t x kind q)
  after-agrees kind (Ok after) (Ok other) agrees here there =
      record { state = completed-agrees after other (agrees after other refl refl) kind; outcome = refl }
  after-agrees kind (Ok after) (Err error) agrees here there = absurd (false≢true (sym there))
  after-agrees kind (Err error) q agrees here there = absurd (false≢true (sym here))

  module _ (open_left : RemovalsAgree image part s t u) (acks : AcksAgree image part s t u) (kind : SendCall) (slot : ℕ) (own : IsOwnSlot image u.thread slot)
      (may : may_be_invoked (capability_at s.slots slot) ≡ true) (same_root : cspace_of s x ≡ cspace_of t x)
      (roots : FindsSame image u.thread s.slots t.slots (cspace_of s x))
      (below : FindsSame image u.thread s.slots t.slots (capability_at s.slots slot)) where
    abbrev call : Call
    call = record { root = cspace_of s x; caller = Some x; slot = slot; capability = capability_at s.slots slot }

    pub invokes-agree : ((after other : State) → made s (thread_at s x) call ≡ Ok after → made t (thread_at s x) call ≡ Ok other
        → LinesAgree image part s t call after other)
        → Right (invokes s x kind slot (capability_at s.slots slot)) → Right (invokes t x kind slot (capability_at s.slots slot))
        → SameDone image part (invokes s x kind slot (capability_at s.slots slot)) (invokes t x kind slot (capability_at s.slots slot))
    invokes-agree lines here there =
        let now = thread_at s x in
        let as_here : made t now call ≡ made t (thread_at t x)
        (record { root = cspace_of t x; caller = Some x; slot = slot; capability = capability_at s.slots slot }) =
        (λ i. made t (same-thread image part s t x agree one i)
        (record { root = same_root i; caller = Some x; slot = slot; capability = capability_at s.slots slot })) in
        subst (λ (r : Result State KError). SameDone image part (invokes s x kind slot (capability_at s.slots slot)) (after_invocation t x kind r)) as_here
        (after-agrees kind (made s now call) (made t now call)
        (λ after other is too. invoke-agrees open_left acks call own refl may roots below after other (lines after other is too) (message_of now).label
        (extra_capabilities_of (read now.registers a1)) (message_of now).words is too)
        here (subst (λ (r : Result State KError). Right (after_invocation t x kind r)) (sym as_here) there))
