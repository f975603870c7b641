-- A step of a thread that invokes a capability goes well.
use Rattle.std.proofs.Common.{ℕ, ◌≡◌, ◌∙◌, ◌+◌, ◌++◌, Option, Some, Result, Ok, List, [], ◌∷◌, refl, sym, ap, subst}
use Rattle.std.specs.Prelude.{Contains}
use Rattle.headline.specs.calls.Messages.{IsInvoked, SendsBy, calls as calls_by, sends as sends_by, tries as tries_by, signals as signals_by}
use Rattle.headline.specs.calls.Messages.{invokes as invokes_by}
use Rattle.headline.specs.facts.Standing.{AllStand}
use Rattle.model.specs.declared.capabilities.Cap.{Cap}
use Rattle.model.specs.declared.capabilities.Cap.TheVariants.{Empty, Untyped, Endpoint, Notification, CNode, Frame, PageTable, Tcb, RootTable, InterruptControl}
use Rattle.model.specs.declared.capabilities.Cap.TheVariants.{InterruptHandler}
use Rattle.model.specs.declared.events.Event.TheVariants.{Step}
use Rattle.model.specs.declared.invocations.Invocation.{Invocation}
use Rattle.model.specs.declared.labels.Label.{Label}
use Rattle.model.specs.declared.labels.Label.TheVariants.{Ran}
use Rattle.model.specs.declared.labels.Outcome.TheVariants.{Completed}
use Rattle.model.specs.declared.lookup_failures.LookupFailure.{LookupFailure}
use Rattle.model.specs.declared.refusals.Point.{Point}
use Rattle.model.specs.Acceptance.Accepted.{IsAccepted}
use Rattle.model.specs.Acceptance.CallRules.{AfterCall, answers, by_call, by_capability, invocation, send_rule}
use Rattle.model.specs.Acceptance.NotedStates.{PointState}
use Rattle.model.specs.Acceptance.PointStates.{point_of}
use Rattle.model.specs.Acceptance.ThreadInvariants.{tcb_of}
use Rattle.model.specs.Capabilities.Slots.{capability_at}
use Rattle.model.specs.Images.Described.{Numbered, numbered_threads}
use Rattle.model.specs.Images.Image.{Image, Thread}
use Rattle.model.specs.Kernel.Arguments.{Call}
use Rattle.model.specs.Kernel.Invocations.{invoke, perform}
use Rattle.model.specs.Kernel.Messages.{a1, a7, extra_capabilities_of, message_of}
use Rattle.model.specs.Kernel.Scheduling.{current}
use Rattle.model.specs.Kernel.Soundness.{IsSound}
use Rattle.model.specs.Kernel.State.{State, ThreadState}
use Rattle.model.specs.Kernel.Steps.{Done, after_invocation, call_of, calls, calls_known, completed, cspace_of, invokes, memory_base, named_slot}
use Rattle.model.specs.Kernel.Steps.{registers_of, send_by, send_call, send_named, step, system_call}
use Rattle.model.specs.declared.system_calls.SendCall.{SendCall}
use Rattle.model.specs.declared.system_calls.SystemCall.{SystemCall}
use Rattle.model.specs.declared.system_calls.SystemCall.TheVariants.{Sends}
use Rattle.model.specs.Kernel.Waits.{is_error, is_fault}
use Rattle.model.specs.Machine.ProgramMemory.{RegisterFile, read}
use Rattle.headline.specs.moves.Moving.{CallsAt}
use Rattle.headline.specs.moves.Steps.{GoesWell, MakesCall}
use Rattle.headline.proofs.moves.Laws.{IsFine, call-goes-well, call-leaves, named-here}
use Rattle.headline.specs.invocations.Invoking.{Invokes}
use Rattle.headline.specs.invocations.Laws.{Laws}
use Rattle.headline.specs.invocations.Performed.{MayInvoke}
use Rattle.headline.proofs.invocations.DecodedCalls.{invokes-made, made-on}
use Rattle.headline.proofs.invocations.PerformedCalls.{StandsBehind, stands-behind}
use Rattle.headline.proofs.invocations.RuledCalls.{IsRuled, invocation-ruled, left_by, listed_words}
use Rattle.typestate.specs.Calls.{call_on}
use Rattle.headline.proofs.facts.Laws.{at-place}

-- ---- what is neither an endpoint nor a notification is invoked

by-invoking : (s : State) (thread : ℕ) (kind : SendCall) (slot : ℕ) (c : Cap) → IsInvoked c → send_by s thread kind slot c ≡ invokes s thread kind slot c
by-invoking s thread kind slot Empty invoked = refl
by-invoking s thread kind slot (Untyped offset bits watermark) invoked = refl
by-invoking s thread kind slot (Endpoint offset r badge) invoked = absurd invoked
by-invoking s thread kind slot (Notification offset r badge) invoked = absurd invoked
by-invoking s thread kind slot (CNode offset radix guard) invoked = refl
by-invoking s thread kind slot (Frame offset r mapping) invoked = refl
by-invoking s thread kind slot (PageTable offset mapping) invoked = refl
by-invoking s thread kind slot (Tcb offset) invoked = refl
by-invoking s thread kind slot (RootTable offset) invoked = refl
by-invoking s thread kind slot InterruptControl invoked = refl
by-invoking s thread kind slot (InterruptHandler line) invoked = refl

module _ (image : Image) (t : Thread) (point : Point) (state : PointState) (kind : SendCall) (slot : ℕ) (c : Cap) (left : AfterCall)
    (invoked : IsInvoked c) where
  ruled-so : SendsBy image t point state kind slot c left → invocation image t point state (call_on image t slot c) (answers kind) ≡ Ok left
  ruled-so (calls_by offset r badge kind_is is writes grants keeps asks) = absurd (subst IsInvoked is invoked)
  ruled-so (sends_by offset r badge kind_is is writes keeps asks) = absurd (subst IsInvoked is invoked)
  ruled-so (tries_by offset r badge kind_is is writes keeps asks) = absurd (subst IsInvoked is invoked)
  ruled-so (signals_by offset r badge is writes asks) = absurd (subst IsInvoked is invoked)
  ruled-so (invokes_by named rule) = rule

-- ---- the step

module _ (laws : Laws) (bytes : List ℕ) (image : Image) (s : State) (labels : List Label) (accepted : IsAccepted bytes image) (all : AllStand image s labels)
    (t : Numbered) (listed : Contains (numbered_threads image) t) (now : current s ≡ Some (tcb_of image t)) where
  abbrev tcb : ℕ
  tcb = tcb_of image t

  module _ (own : ThreadState) (point : ℕ) (state : PointState) (left : AfterCall) (at : CallsAt image t s labels own point state left) where
    same : registers_of s tcb ≡ own.registers
    same = ap (λ (u : ThreadState). u.registers) (at-place s tcb own at.there)

    -- the kernel makes the call of the rules
    module _ (kind : SendCall) (slot : ℕ) where
      abbrev c : Cap
      c = capability_at s.slots slot

      abbrev made : IsRuled image t.thread state (call_on image t.thread slot (capability_at s.slots slot)) (answers kind) left own.registers → Invocation
      made ruled = ruled.form.call (listed_words own.registers ruled.form.count)

      invokes-is : (ruled : IsRuled image t.thread state (call_on image t.thread slot (capability_at s.slots slot)) (answers kind) left own.registers)
          → invokes s tcb kind slot c ≡ after_invocation s tcb kind (perform s (call_on image t.thread slot c) (made ruled))
      invokes-is ruled =
          ap (λ (u : ThreadState).
          let call : Call = record { root = cspace_of s tcb; caller = Some tcb; slot = slot; capability = c } in
          after_invocation s tcb kind (invoke s call (message_of u).label (extra_capabilities_of (read u.registers a1)) (message_of u).words))
          (at-place s tcb own at.there)
          ∙ ap (λ (root : Cap).
          let call : Call = record { root = root; caller = Some tcb; slot = slot; capability = c } in
          after_invocation s tcb kind (invoke s call (message_of own).label (extra_capabilities_of (read own.registers a1)) (message_of own).words))
          at.stands.cspace
          ∙ ap (after_invocation s tcb kind) (invokes-made c own.registers ruled.form ruled.called s (call_on image t.thread slot c) refl)

      completes : (done : Done)
          → (ruled : IsRuled image t.thread state (call_on image t.thread slot (capability_at s.slots slot)) (answers kind) left own.registers)
          → (behind : StandsBehind image t s labels own.registers.pc slot kind (made ruled)) → done ≡ invokes s tcb kind slot c → IsSound done.0
          → IsFine image t labels own.registers.pc done
      completes done ruled behind is sound =
          let ends : done ≡ (completed behind.after tcb kind, Completed) = is ∙ invokes-is ruled ∙ ap (after_invocation s tcb kind) behind.performs in
          record {
            faults = ap (λ (d : Done). is_fault (Ran (memory_base + tcb) own.registers.pc d.1)) ends;
            errors = ap (λ (d : Done). is_error (Ran (memory_base + tcb) own.registers.pc d.1)) ends;
            stands = subst (λ (d : Done). AllStand image d.0 (labels ++ Ran (memory_base + tcb) own.registers.pc d.1 ∷ [])) (sym ends)
                (behind.stands (subst (λ (d : Done). IsSound d.0) ends sound));
          }

    -- the call as the rules made it on what is noted
    record MakesRuled (kind : SendCall) : Type 0 where
      pub slot : ℕ
      pub named : named_slot s tcb ≡ Ok slot
      pub ruled : IsRuled image t.thread state (call_on image t.thread slot (capability_at s.slots slot)) (answers kind) left own.registers
      pub may : MayInvoke image t s state.slots slot (ruled.form.call (listed_words own.registers ruled.form.count))
      pub left_is : left ≡ left_by image t.thread state (answers kind) may.noted
      pub is : send_call s tcb kind ≡ invokes s tcb kind slot (capability_at s.slots slot)

    makes-ruled : (kind : SendCall) (slot : ℕ) → named_slot s tcb ≡ Ok slot → IsInvoked (capability_at s.slots slot)
        → by_capability image t.thread (point_of t point) state (send_rule image t.thread (point_of t point) state kind) ≡ Ok left → MakesRuled kind
    makes-ruled kind slot named invoked rule =
        let rules = send_rule image t.thread (point_of t point) state kind in
        let names = named-here laws.below bytes image s labels accepted t listed own point state left at rules rule in
        let here : slot ≡ names.slot = (let e : ◌≡◌ {A = Result ℕ LookupFailure} (Ok slot) (Ok names.slot) = sym named ∙ names.named in cc) in
        let held : IsInvoked (capability_at s.slots names.slot) = subst (λ n. IsInvoked (capability_at s.slots n)) here invoked in
        let c = capability_at s.slots names.slot in
        let by = laws.below.sends image t.thread (point_of t point) state kind names.slot c left names.rule in
        let ruled =
        invocation-ruled image t.thread (point_of t point) state (call_on image t.thread names.slot c) (answers kind) left own.registers at.stands.registers
        (ruled-so image t.thread (point_of t point) state kind names.slot c left held by) in
        record {
          slot = names.slot;
          named = names.named;
          ruled = ruled;
          may = record {
            own = names.own;
            full = names.full;
            on = made-on c own.registers ruled.form ruled.called;
            noted = ruled.noted;
            performs = ruled.performs;
            keeps_pools = ruled.keeps_pools;
            may = ruled.may;
          };
          left_is = ruled.left_is;
          is = ap (send_named s tcb kind) names.named ∙ by-invoking s tcb kind names.slot c held;
        }

    -- it has no error
    goes-behind : (kind : SendCall) (m : MakesRuled kind)
        → StandsBehind image t s labels own.registers.pc m.slot kind (m.ruled.form.call (listed_words own.registers m.ruled.form.count))
    goes-behind kind m =
        stands-behind laws bytes image s labels accepted all t listed own point state left at kind m.slot
        (m.ruled.form.call (listed_words own.registers m.ruled.form.count)) m.may m.left_is

    invocation-fine : (kind : SendCall) (slot : ℕ) → named_slot s tcb ≡ Ok slot → IsInvoked (capability_at s.slots slot)
        → by_capability image t.thread (point_of t point) state (send_rule image t.thread (point_of t point) state kind) ≡ Ok left
        → IsSound (send_call s tcb kind).0 → IsFine image t labels own.registers.pc (send_call s tcb kind)
    invocation-fine kind slot named invoked rule sound =
        let m = makes-ruled kind slot named invoked rule in
        completes kind m.slot (send_call s tcb kind) m.ruled (goes-behind kind m) m.is sound

    call-fine : (kind : SendCall) (slot : ℕ) → named_slot s tcb ≡ Ok slot → IsInvoked (capability_at s.slots slot) → (call : SystemCall) → call ≡ Sends kind
        → by_call image t.thread (point_of t point) state call ≡ Ok left → IsSound (calls s tcb call).0
        → IsFine image t labels (registers_of s tcb).pc (calls s tcb call)
    call-fine kind slot named invoked call is =
        subst (λ (x : SystemCall). by_call image t.thread (point_of t point) state x ≡ Ok left → IsSound (calls s tcb x).0
        → IsFine image t labels (registers_of s tcb).pc (calls s tcb x)) (sym is)
        (λ rule sound. subst (λ (r : RegisterFile). IsFine image t labels r.pc (send_call s tcb kind)) (sym same)
        (invocation-fine kind slot named invoked rule sound))

  pub invocation-goes-well : MakesCall s (tcb_of image t) → Invokes s (tcb_of image t) → GoesWell image s labels Step
  invocation-goes-well makes i =
      call-goes-well laws.below bytes image t s labels accepted all listed now makes
      (λ own point state left call at number rule sound.
      let is : call ≡ Sends i.kind = (let e : ◌≡◌ {A = Option SystemCall} (Some call) (Some (Sends i.kind)) = sym number ∙ i.number in cc) in
      call-fine own point state left at i.kind i.slot i.named i.invoked call is rule sound)

  -- what is so of each state that an invocation leaves which the rules allow, and its answer, is so of what the step leaves
  abbrev LeftByEach : (State → Type 0) → Type 0
  LeftByEach P =
      (own : ThreadState) (point : ℕ) (state : PointState) (left : AfterCall) → CallsAt image t s labels own point state left → (kind : SendCall) (slot : ℕ)
      (c : Invocation) → named_slot s tcb ≡ Ok slot → MayInvoke image t s state.slots slot c → (after : State)
      → perform s (call_on image t.thread slot (capability_at s.slots slot)) c ≡ Ok after → P (completed after tcb kind)

  call-left : (P : State → Type 0) → LeftByEach P → (own : ThreadState) (point : ℕ) (state : PointState) (left : AfterCall)
      → CallsAt image t s labels own point state left → (kind : SendCall) (slot : ℕ) → named_slot s tcb ≡ Ok slot → IsInvoked (capability_at s.slots slot)
      → by_call image t.thread (point_of t point) state (Sends kind) ≡ Ok left → P (send_call s tcb kind).0
  call-left P each own point state left at kind slot named invoked rule =
      let m = makes-ruled own point state left at kind slot named invoked rule in
      let behind = goes-behind own point state left at kind m in
      let ends : send_call s tcb kind ≡ (completed behind.after tcb kind, Completed) =
      m.is ∙ invokes-is own point state left at kind m.slot m.ruled ∙ ap (after_invocation s tcb kind) behind.performs in
      subst (λ (d : Done). P d.0) (sym ends)
      (each own point state left at kind m.slot (m.ruled.form.call (listed_words own.registers m.ruled.form.count)) m.named m.may behind.after behind.performs)

  system-call : (kind : SendCall) → call_of (read (registers_of s tcb) a7) ≡ Some (Sends kind) → system_call s tcb ≡ send_call s tcb kind
  unfolding system_call
  system-call kind number = ap (calls_known s tcb (read (registers_of s tcb) a7)) number

  pub invocation-leaves : (P : State → Type 0) → ((own : ThreadState) (point : ℕ) (state : PointState) (left : AfterCall)
      → CallsAt image t s labels own point state left → (kind : SendCall) (slot : ℕ) (c : Invocation) → named_slot s (tcb_of image t) ≡ Ok slot
      → MayInvoke image t s state.slots slot c → (after : State) → perform s (call_on image t.thread slot (capability_at s.slots slot)) c ≡ Ok after
      → P (completed after (tcb_of image t) kind)) → MakesCall s (tcb_of image t) → Invokes s (tcb_of image t) → P (step s Step).0
  invocation-leaves P each makes i =
      call-leaves laws.below bytes image t s labels accepted all listed now makes P
      (λ own point state left call at _ number rule.
      let is : call ≡ Sends i.kind = (let e : ◌≡◌ {A = Option SystemCall} (Some call) (Some (Sends i.kind)) = sym number ∙ i.number in cc) in
      subst (λ (d : Done). P d.0) (sym (system-call i.kind i.number))
      (call-left P each own point state left at i.kind i.slot i.named i.invoked
      (subst (λ (x : SystemCall). by_call image t.thread (point_of t point) state x ≡ Ok left) is rule)))
