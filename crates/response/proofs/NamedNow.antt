-- What a point of a program asks is what the thread that is there asks now.
use Rattle.std.proofs.Common.{ℕ, ◌≡◌, ◌∙◌, ◌≤◌, Bool, true, false, if◌then◌else◌, Option, Some, Result, Ok, Err, List, refl, sym, ap, arith}
use Rattle.std.specs.Prelude.{Contains}
use Rattle.std.proofs.lemmas.Bool.{eqb-true}
use Rattle.model.specs.declared.capabilities.Cap.{Cap}
use Rattle.model.specs.declared.instructions.Instr.{Instr}
use Rattle.model.specs.declared.labels.Label.{Label}
use Rattle.model.specs.declared.lookup_failures.LookupFailure.{LookupFailure}
use Rattle.model.specs.declared.ranges.Range.{Range}
use Rattle.model.specs.declared.refusals.Point.{Point}
use Rattle.model.specs.declared.refusals.Refusal.{Refusal}
use Rattle.model.specs.declared.refusals.Refusal.TheVariants.{CallNotConstant}
use Rattle.model.specs.declared.system_calls.ReceiveCall.TheVariants.{Receiving, Polling}
use Rattle.model.specs.declared.system_calls.SystemCall.{SystemCall}
use Rattle.model.specs.declared.system_calls.SystemCall.TheVariants.{Sends, Receives, RepliesAndReceives, Replies, Yields, PutsCharacter}
use Rattle.model.specs.Acceptance.Accepted.{IsAccepted}
use Rattle.model.specs.Acceptance.CallRules.{AfterCall, after_call, by_call, by_capability, known, one_value, receive_rule, send_rule}
use Rattle.model.specs.Acceptance.NotedKernel.{noted_kernel, noted_root}
use Rattle.model.specs.Acceptance.NotedStates.{PointState}
use Rattle.model.specs.Acceptance.PointStates.{point_of}
use Rattle.model.specs.Acceptance.RangeRules.{is_single}
use Rattle.model.specs.Acceptance.Ranges.{range_of}
use Rattle.model.specs.Acceptance.ThreadInvariants.{tcb_of}
use Rattle.model.specs.Capabilities.Lookup.{called_slot}
use Rattle.model.specs.Capabilities.Slots.{capability_at}
use Rattle.model.specs.Images.Described.{Numbered, numbered_threads}
use Rattle.model.specs.Images.Image.{Image}
use Rattle.model.specs.Kernel.Messages.{a7}
use Rattle.model.specs.Kernel.State.{State, ThreadState}
use Rattle.model.specs.Kernel.Steps.{call_of, named_slot, registers_of}
use Rattle.model.specs.Machine.ProgramMemory.{read}
use Rattle.headline.proofs.Laws.{at-place, named-here}
use Rattle.headline.specs.calls.Known.{CallsSo}
use Rattle.headline.specs.facts.Waiting.{NamesThere}
use Rattle.headline.specs.moves.Laws.{Laws}
use Rattle.headline.specs.moves.Moving.{CallsAt}
use Rattle.response.specs.Asking.{Answers, Asks_nothing, Calls, asked_at, asked_by, asked_known, asked_of, capability_found}
use Rattle.response.specs.Asking.{capability_named}
use Rattle.response.proofs.AskedNow.{asked_now}
use Rattle.response.proofs.Takers.{passes}
use Rattle.response.proofs.Waiting.{one-left}

-- ---- a register that has to have one value has it

single-low : (n value : ℕ) (at : Point) (r : Range) → one_value at r ≡ Ok n → r.low ≤ value → value ≤ r.high → r.low ≡ value
single-low n value at r is low high = elim (is_single r)
    as (λ (b : Bool). is_single r ≡ b → (if b then Ok r.low else Err (CallNotConstant at)) ≡ Ok n → r.low ≡ value) [
      | true ↦ λ single _. let one = eqb-true r.low r.high single in omega (arith, one, low, high)
      | false ↦ λ _ none. absurd (let clash : ◌≡◌ {A = Result ℕ Refusal} (Err (CallNotConstant at)) (Ok n) = none in cc)
    ] refl is

-- the capability that is found by what is noted
pub named-is : (image : Image) (t : Numbered) (state : PointState) (capability : Cap) → NamesThere image t state capability
    → capability_named image t.thread state ≡ capability
named-is image t state capability named =
    ap (λ (r : Range). capability_found (noted_kernel image t.thread state.slots).slots
    (called_slot (noted_kernel image t.thread state.slots).slots (noted_root image t.thread) r.low)) named.known
    ∙ ap (λ (r : Result ℕ LookupFailure). capability_found (noted_kernel image t.thread state.slots).slots r) named.found ∙ named.is

module _ (laws : Laws) (bytes : List ℕ) (image : Image) (s : State) (labels : List Label) (accepted : IsAccepted bytes image) (t : Numbered)
    (listed : Contains (numbered_threads image) t) (own : ThreadState) (point : ℕ) (state : PointState) (left : AfterCall)
    (at : CallsAt image t s labels own point state left) where
  abbrev tcb : ℕ
  tcb = tcb_of image t

  same-own : registers_of s tcb ≡ own.registers
  same-own = ap (λ (u : ThreadState). u.registers) (at-place s tcb own at.there)

  -- the capability that its registers name
  by-named : (rules : ℕ → Cap → Result AfterCall Refusal) → by_capability image t.thread (point_of t point) state rules ≡ Ok left
      → capability_named image t.thread state ≡ capability_found s.slots (named_slot s tcb)
  by-named rules is =
      let names = named-here laws bytes image s labels accepted t listed own point state left at rules is in
      named-is image t state (capability_at s.slots names.slot) names.there
      ∙ sym (ap (λ (r : Result ℕ LookupFailure). capability_found s.slots r) names.named)

  by-call-same : (call : SystemCall) → by_call image t.thread (point_of t point) state call ≡ Ok left
      → asked_by call (capability_named image t.thread state) ≡ asked_by call (capability_found s.slots (named_slot s tcb))
  by-call-same (Sends kind) is = ap (λ (c : Cap). asked_by (Sends kind) c) (by-named (send_rule image t.thread (point_of t point) state kind) is)
  by-call-same (Receives Receiving) is =
      ap (λ (c : Cap). asked_by (Receives Receiving) c) (by-named (λ slot. receive_rule image (point_of t point) state true) is)
  by-call-same (Receives Polling) is =
      ap (λ (c : Cap). asked_by (Receives Polling) c) (by-named (λ slot. receive_rule image (point_of t point) state false) is)
  by-call-same RepliesAndReceives is =
      ap (λ (c : Cap). asked_by RepliesAndReceives c) (by-named (λ slot. receive_rule image (point_of t point) state true) is)
  by-call-same Replies is = refl
  by-call-same Yields is = refl
  by-call-same PutsCharacter is = refl

  -- so where it calls an endpoint
  by-call-names : (call : SystemCall) (e : ℕ) → by_call image t.thread (point_of t point) state call ≡ Ok left
      → asked_by call (capability_named image t.thread state) ≡ Calls e → capability_named image t.thread state ≡ capability_found s.slots (named_slot s tcb)
  by-call-names (Sends kind) e is asks = by-named (send_rule image t.thread (point_of t point) state kind) is
  by-call-names (Receives Receiving) e is asks = by-named (λ slot. receive_rule image (point_of t point) state true) is
  by-call-names (Receives Polling) e is asks = by-named (λ slot. receive_rule image (point_of t point) state false) is
  by-call-names RepliesAndReceives e is asks = by-named (λ slot. receive_rule image (point_of t point) state true) is
  by-call-names Replies e is asks = absurd (let clash : Answers ≡ Calls e = asks in cc)
  by-call-names Yields e is asks = absurd (let clash : Asks_nothing ≡ Calls e = asks in cc)
  by-call-names PutsCharacter e is asks = absurd (let clash : Asks_nothing ≡ Calls e = asks in cc)

  rule-is : after_call image t.thread (point_of t point) state ≡ Ok left
  rule-is =
      let allowed = laws.allowed bytes image t point state accepted listed at.stands.inside at.stands.known at.ecall in
      allowed.is ∙ ap (λ (a : AfterCall). Ok a) (one-left (sym allowed.at ∙ at.call))

  -- the number that its registers hold
  number-low : after_call image t.thread (point_of t point) state ≡ Ok left → (range_of state.ranges a7).low ≡ read own.registers a7
  unfolding after_call
  number-low is =
      let first = passes (known (point_of t point) state a7) _ left is in
      let within = at.stands.registers 17 (omega arith) in
      single-low first.value (read own.registers a7) (point_of t point) (range_of state.ranges a7) first.is within.0 within.1

  so : CallsSo image t.thread (point_of t point) state left own.registers
  so = laws.number image t.thread (point_of t point) state left own.registers rule-is at.stands.registers

  -- what is asked is what its call asks of the capability that is known
  asks-by : asked_at image t.thread point state ≡ asked_by so.call (capability_named image t.thread state)
  unfolding asked_at
  asks-by =
      ap (λ (o : Option Instr). asked_of image t.thread state o) at.ecall
      ∙ ap (λ (n : ℕ). asked_known (call_of n) (capability_named image t.thread state)) (number-low rule-is)
      ∙ ap (λ (o : Option SystemCall). asked_known o (capability_named image t.thread state)) so.number

  pub names-so : (e : ℕ) → asked_at image t.thread point state ≡ Calls e
      → capability_named image t.thread state ≡ capability_found s.slots (named_slot s (tcb_of image t))
  names-so e asks = by-call-names so.call e so.rule (sym asks-by ∙ asks)

  pub asks-so : asked_at image t.thread point state ≡ asked_now s (tcb_of image t)
  asks-so =
      let number : call_of (read (registers_of s tcb) a7) ≡ Some so.call = ap (λ r. call_of (read r a7)) same-own ∙ so.number in
      asks-by ∙ by-call-same so.call so.rule
      ∙ sym (ap (λ (o : Option SystemCall). asked_known o (capability_found s.slots (named_slot s tcb))) number)
