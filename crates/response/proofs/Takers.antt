-- Who waits for a signal stands at a point that takes from the notification.
use Rattle.std.proofs.Common.{ℕ, ◌≡◌, ◌∙◌, inl, inr, not, take, Bool, true, false, if◌then◌else◌, Option, Some, None, Result, Ok, Err, List, [], ◌∷◌, refl}
use Rattle.std.proofs.Common.{sym, ap, subst}
use Rattle.model.specs.declared.capabilities.Cap.{Cap}
use Rattle.model.specs.declared.capabilities.Cap.TheVariants.{Notification}
use Rattle.model.specs.declared.instructions.Instr.{Instr}
use Rattle.model.specs.declared.instructions.Instr.TheVariants.{Ecall}
use Rattle.model.specs.declared.instructions.Register.{Register}
use Rattle.model.specs.declared.lookup_failures.LookupFailure.{LookupFailure}
use Rattle.model.specs.declared.ranges.Range.{Range}
use Rattle.model.specs.declared.refusals.Point.{Point}
use Rattle.model.specs.declared.refusals.Refusal.{Refusal}
use Rattle.model.specs.declared.refusals.Refusal.TheVariants.{CallNotConstant, CallRefused, CapNotThere, PoolLost}
use Rattle.model.specs.declared.rights.Rights.{Rights}
use Rattle.model.specs.declared.errors.KError.TheVariants.{IllegalOperation}
use Rattle.model.specs.declared.system_calls.ReceiveCall.TheVariants.{Receiving, Polling}
use Rattle.model.specs.declared.system_calls.SendCall.{SendCall}
use Rattle.model.specs.declared.system_calls.SystemCall.{SystemCall}
use Rattle.model.specs.declared.system_calls.SystemCall.TheVariants.{Sends, Receives, RepliesAndReceives, Replies, Yields, PutsCharacter}
use Rattle.model.specs.Acceptance.CallRules.{all_known, demand, kernel_allows, loses_pool, may_call}
use Rattle.model.specs.Acceptance.CallRules.{AfterCall, after_call, answers, by_call, by_capability, by_number, changes_nothing, found_slot, invocation, known}
use Rattle.model.specs.Acceptance.CallRules.{known_behind, message_registers, one_value, receive_rule, send_rule, with_answer}
use Rattle.model.specs.Acceptance.NotedKernel.{noted_kernel, noted_root}
use Rattle.model.specs.Acceptance.NotedStates.{PointState}
use Rattle.model.specs.Acceptance.PointStates.{instruction_at, point_of}
use Rattle.model.specs.Acceptance.RangeRules.{is_single}
use Rattle.model.specs.Acceptance.Ranges.{range_of}
use Rattle.model.specs.Capabilities.Lookup.{called_slot}
use Rattle.model.specs.Capabilities.Slots.{Slots, capability_at}
use Rattle.model.specs.Images.Described.{Numbered}
use Rattle.model.specs.Images.Format.{◌>>=◌}
use Rattle.model.specs.Images.Image.{Image, Thread}
use Rattle.model.specs.Kernel.Kinds.{Names}
use Rattle.model.specs.Kernel.Arguments.{Call}
use Rattle.model.specs.Kernel.CallForms.{form_called}
use Rattle.model.specs.Kernel.Invocations.{perform}
use Rattle.model.specs.Kernel.Messages.{a0, a1, a7, extra_capabilities_of, label_of, length_of, word_registers}
use Rattle.model.specs.Kernel.Retype.{NewObject, NewEndpoint, NewNotification}
use Rattle.model.specs.Kernel.Steps.{call_of}
use Rattle.headline.specs.calls.Laws.{NeedNothing, Receives as ReceivesLaw, Sends as SendsLaw}
use Rattle.headline.specs.calls.Messages.{ReceivesBy, SendsBy, calls, invokes, on_endpoint, on_notification, sends, signals, tries}
use Rattle.headline.specs.facts.Waiting.{NamesQueue, NamesThere, behind_signal}
use Rattle.typestate.specs.Calls.{call_on}
use Rattle.response.specs.Asking.{Asked, Takes, asked_at, asked_by, asked_known, asked_of, capability_found, capability_named}

-- ---- results

pub record Passes {A B : Type 0} (m : Result A Refusal) (f : A → Result B Refusal) (end : B) : Type 0 where
  pub value : A
  pub is : m ≡ Ok value
  pub goes : f value ≡ Ok end

pub passes : {A B : Type 0} (m : Result A Refusal) (f : A → Result B Refusal) (end : B) → (m >>= f) ≡ Ok end → Passes m f end
passes (Ok x) f end h = record { value = x; is = refl; goes = h }
passes {B = B} (Err refusal) f end h = absurd (let clash : ◌≡◌ {A = Result B Refusal} (Err refusal) (Ok end) = h in cc)

-- a value that is known is the low end of its range
pub low-is : (n : ℕ) (at : Point) (r : Range) → one_value at r ≡ Ok n → n ≡ r.low
low-is n at r is = elim (is_single r) as (λ (b : Bool). (if b then Ok r.low else Err (CallNotConstant at)) ≡ Ok n → n ≡ r.low) [
  | true ↦ λ some. let equal : ◌≡◌ {A = Result ℕ Refusal} (Ok r.low) (Ok n) = some in cc
  | false ↦ λ none. absurd (let clash : ◌≡◌ {A = Result ℕ Refusal} (Err (CallNotConstant at)) (Ok n) = none in cc)
] is

abbrev pub wait_of : Result AfterCall Refusal → Bool
wait_of (Ok a) = a.is_wait
wait_of (Err refusal) = false

never-bind : {A : Type 0} (m : Result A Refusal) (f : A → Result AfterCall Refusal) → ((a : A) → wait_of (f a) ≡ false) → wait_of (m >>= f) ≡ false
never-bind (Ok x) f never = never x
never-bind (Err refusal) f never = refl

-- an invocation is no wait
pub never-waits : (image : Image) (t : Thread) (at : Point) (state : PointState) (call : Call) (has_answer : Bool)
    → wait_of (invocation image t at state call has_answer) ≡ false
never-waits image t at state call has_answer =
    let s = (noted_kernel image t state.slots).slots in
    never-bind (known at state a1) _ (λ info.
    never-bind (kernel_allows at (form_called call.capability (label_of info) (extra_capabilities_of info) (length_of info))) _ (λ form.
    never-bind (all_known at state (take form.count word_registers)) _ (λ words.
    never-bind (kernel_allows at (perform (noted_kernel image t state.slots) call (form.call words))) _ (λ after.
    never-bind (demand (not (loses_pool s call (form.call words))) (PoolLost at)) _ (λ _.
    never-bind (demand (may_call s call (form.call words)) (CallRefused at IllegalOperation)) _ (λ _. refl))))))

-- ---- the call at a point whose answer is a word

module _ (image : Image) (t : Thread) (at : Point) (state : PointState) (left : AfterCall) (signal : left ≡ behind_signal state)
    (receives-law : ReceivesLaw) (sends-law : SendsLaw) (others-law : NeedNothing) where
  abbrev slots : Slots
  slots = (noted_kernel image t state.slots).slots

  waits-so : left.is_wait ≡ true
  waits-so = ap (λ (a : AfterCall). a.is_wait) signal

  no-wait : left.is_wait ≡ false → ⊥
  no-wait is = let clash : true ≡ false = sym waits-so ∙ is in absurd cc

  not-written : (xs : List Register) → left.written ≡ xs → (a0 ∷ [] ≡ xs → ⊥) → ⊥
  not-written xs is other = other (sym (ap (λ (a : AfterCall). a.written) signal) ∙ is)

  -- the slot that is found holds what is named
  record IsNamed (rules : ℕ → Cap → Result AfterCall Refusal) : Type 0 where
    pub slot : ℕ
    pub named : capability_named image t state ≡ capability_at slots slot
    pub rule : rules slot (capability_at slots slot) ≡ Ok left

  named-by : (rules : ℕ → Cap → Result AfterCall Refusal) → by_capability image t at state rules ≡ Ok left → IsNamed rules
  named-by rules is =
      let first = passes (known at state a0) _ left is in
      let low : Passes.value first ≡ (range_of state.ranges a0).low = low-is (Passes.value first) at (range_of state.ranges a0) (Passes.is first) in
      by-slot (Passes.value first) low (called_slot slots (noted_root image t) (Passes.value first)) refl (Passes.goes first)
    where
      by-slot : (address : ℕ) → address ≡ (range_of state.ranges a0).low → (r : Result ℕ LookupFailure) → called_slot slots (noted_root image t) address ≡ r
          → (found_slot at r >>= (λ slot. rules slot (capability_at slots slot))) ≡ Ok left → IsNamed rules
      by-slot address low (Ok slot) found goes = record {
        slot = slot;
        named = ap (λ (n : ℕ). capability_found slots (called_slot slots (noted_root image t) n)) (sym low)
            ∙ ap (λ (r : Result ℕ LookupFailure). capability_found slots r) found;
        rule = goes;
      }
      by-slot address low (Err failure) found goes =
          absurd (let clash : ◌≡◌ {A = Result AfterCall Refusal} (Err (CapNotThere at)) (Ok left) = goes in cc)

  -- it takes from some notification
  data TakesSome (asked : Asked) : Type 0 where
    takes_from : (offset : ℕ) (r : Rights) (badge : ℕ) → capability_named image t state ≡ Notification offset r badge → asked ≡ Takes offset → TakesSome asked

  received-so : (replies : Bool) (call : Cap → Asked) → ((offset : ℕ) (r : Rights) (badge : ℕ) → call (Notification offset r badge) ≡ Takes offset) → (slot : ℕ)
      → capability_named image t state ≡ capability_at slots slot → ReceivesBy image state true (capability_at slots slot) left
      → TakesSome (call (capability_named image t state))
  received-so replies call takes slot named (on_endpoint offset r badge is reads end) =
      absurd (not-written message_registers (ap (λ (a : AfterCall). a.written) end) (λ clash. absurd cc))
  received-so replies call takes slot named (on_notification offset r badge is reads end) =
      takes_from offset r badge (named ∙ is) (ap call (named ∙ is) ∙ takes offset r badge)

  invoked-no_wait : (call : Call) (has_answer : Bool) → invocation image t at state call has_answer ≡ Ok left → left.is_wait ≡ false
  invoked-no_wait call has_answer is = sym (ap wait_of is) ∙ never-waits image t at state call has_answer

  sent-so : (kind : SendCall) (slot : ℕ) (capability : Cap) → SendsBy image t at state kind slot capability left → ⊥
  sent-so kind slot capability (calls offset r badge calling is writes grants keeps end) =
      not-written message_registers (ap (λ (a : AfterCall). a.written) end) (λ clash. absurd cc)
  sent-so kind slot capability (sends offset r badge sending is writes keeps end) =
      not-written [] (ap (λ (a : AfterCall). a.written) end) (λ clash. absurd cc)
  sent-so kind slot capability (tries offset r badge trying is writes keeps end) = no-wait (ap (λ (a : AfterCall). a.is_wait) end)
  sent-so kind slot capability (signals offset r badge is writes end) = no-wait (ap (λ (a : AfterCall). a.is_wait) end ∙ never (answers kind))
    where
      never : (b : Bool) → (if b then known_behind state (with_answer state.ranges) false (a0 ∷ a1 ∷ []) else changes_nothing state false).is_wait ≡ false
      never true = refl
      never false = refl
  sent-so kind slot capability (invokes none is) = no-wait (invoked-no_wait (call_on image t slot capability) (answers kind) is)

  by-call-takes : (call : SystemCall) → by_call image t at state call ≡ Ok left → TakesSome (asked_by call (capability_named image t state))
  by-call-takes (Sends kind) is =
      let named = named-by (send_rule image t at state kind) is in
      absurd (sent-so kind (IsNamed.slot named) (capability_at slots (IsNamed.slot named))
      (sends-law image t at state kind (IsNamed.slot named) (capability_at slots (IsNamed.slot named)) left (IsNamed.rule named)))
  by-call-takes (Receives Receiving) is =
      let named = named-by (λ slot. receive_rule image at state true) is in
      received-so false (asked_by (Receives Receiving)) (λ offset r badge. refl) (IsNamed.slot named) (IsNamed.named named)
      (receives-law image at state true (capability_at slots (IsNamed.slot named)) left (IsNamed.rule named))
  by-call-takes (Receives Polling) is =
      let named = named-by (λ slot. receive_rule image at state false) is in
      absurd (no-wait (polled (capability_at slots (IsNamed.slot named))
      (receives-law image at state false (capability_at slots (IsNamed.slot named)) left (IsNamed.rule named))))
    where
      polled : (capability : Cap) → ReceivesBy image state false capability left → left.is_wait ≡ false
      polled capability (on_endpoint offset r badge is reads end) = ap (λ (a : AfterCall). a.is_wait) end
      polled capability (on_notification offset r badge is reads end) = ap (λ (a : AfterCall). a.is_wait) end
  by-call-takes RepliesAndReceives is =
      let named = named-by (λ slot. receive_rule image at state true) is in
      received-so true (asked_by RepliesAndReceives) (λ offset r badge. refl) (IsNamed.slot named) (IsNamed.named named)
      (receives-law image at state true (capability_at slots (IsNamed.slot named)) left (IsNamed.rule named))
  by-call-takes Replies is = absurd (no-wait (ap (λ (a : AfterCall). a.is_wait) (others-law image t at state Replies left tt is)))
  by-call-takes Yields is = absurd (no-wait (ap (λ (a : AfterCall). a.is_wait) (others-law image t at state Yields left tt is)))
  by-call-takes PutsCharacter is = absurd (no-wait (ap (λ (a : AfterCall). a.is_wait) (others-law image t at state PutsCharacter left tt is)))

  by-number-takes : (o : Option SystemCall) → by_number image t at state o ≡ Ok left → TakesSome (asked_known o (capability_named image t state))
  by-number-takes (Some call) is = by-call-takes call is
  by-number-takes None is = absurd (let clash : ◌≡◌ {A = Result AfterCall Refusal} (Err (CallRefused at IllegalOperation)) (Ok left) = is in cc)

  call-takes : after_call image t at state ≡ Ok left → TakesSome (asked_known (call_of (range_of state.ranges a7).low) (capability_named image t state))
  unfolding after_call
  call-takes is =
      let first = passes (known at state a7) _ left is in
      let low : Passes.value first ≡ (range_of state.ranges a7).low = low-is (Passes.value first) at (range_of state.ranges a7) (Passes.is first) in
      by-number-takes (call_of (range_of state.ranges a7).low)
      (subst (λ (n : ℕ). by_number image t at state (call_of n) ≡ Ok left) low (Passes.goes first))

-- ---- at a point of a thread

module _ (image : Image) (t : Numbered) (point : ℕ) (state : PointState) (left : AfterCall) (queue : ℕ) (capability : Cap)
    (ecall : instruction_at t.thread point ≡ Some Ecall) (signal : left ≡ behind_signal state)
    (is : after_call image t.thread (point_of t point) state ≡ Ok left) (receives-law : ReceivesLaw) (sends-law : SendsLaw) (others-law : NeedNothing)
    (named : NamesThere image t state capability) (leads : NamesQueue queue capability) where
  here : TakesSome image t.thread (point_of t point) state left signal receives-law sends-law others-law
      (asked_known (call_of (range_of state.ranges a7).low) (capability_named image t.thread state))
  here = call-takes image t.thread (point_of t point) state left signal receives-law sends-law others-law is

  same-capability : capability_named image t.thread state ≡ capability
  same-capability =
      ap (λ (r : Range). capability_found (noted_kernel image t.thread state.slots).slots
      (called_slot (noted_kernel image t.thread state.slots).slots (noted_root image t.thread) r.low)) named.known
      ∙ ap (λ (r : Result ℕ LookupFailure). capability_found (noted_kernel image t.thread state.slots).slots r) named.found ∙ named.is

  same-queue : (offset : ℕ) (r : Rights) (badge : ℕ) → capability ≡ Notification offset r badge → offset ≡ queue
  same-queue offset r badge so = elim leads [
    | inl endpoint ↦ absurd (let clash : Some (NewNotification, offset) ≡ Some (NewEndpoint, queue) = subst (λ
        (c : Cap). Names NewEndpoint queue c) so endpoint in
        let pair : (NewNotification, offset) ≡ (NewEndpoint, queue) = cc in
        let kinds : NewNotification ≡ NewEndpoint = ap (λ (p : NewObject × ℕ). p.0) pair in cc)
    | inr other ↦ (let same : Some (NewNotification, offset) ≡ Some (NewNotification, queue) = subst (λ (c : Cap). Names NewNotification queue c) so other in
        let pair : (NewNotification, offset) ≡ (NewNotification, queue) = cc in ap (λ (p : NewObject × ℕ). p.1) pair)
  ]

  pub takes-here : asked_at image t.thread point state ≡ Takes queue
  unfolding asked_at
  takes-here = ap (λ (o : Option Instr). asked_of image t.thread state o) ecall ∙ (elim here [
    | takes_from offset r badge held asks ↦ asks ∙ ap Takes (same-queue offset r badge (sym same-capability ∙ held))
  ])
