-- Whoever waits takes from a notification, accepts from an endpoint, sends there or calls.
use Rattle.std.proofs.Common.{ℕ, ◌≡◌, ◌∙◌, Bool, true, false, if◌then◌else◌, Option, Some, None, Result, Ok, Err, [], ◌∷◌, refl}
use Rattle.std.proofs.Common.{sym, ap, subst}
use Rattle.model.specs.declared.capabilities.Cap.{Cap}
use Rattle.model.specs.declared.capabilities.Cap.TheVariants.{Endpoint, Notification}
use Rattle.model.specs.declared.refusals.Point.{Point}
use Rattle.model.specs.declared.refusals.Refusal.{Refusal}
use Rattle.model.specs.declared.refusals.Refusal.TheVariants.{CallRefused}
use Rattle.model.specs.declared.rights.Rights.{Rights}
use Rattle.model.specs.declared.errors.KError.TheVariants.{IllegalOperation}
use Rattle.model.specs.declared.system_calls.ReceiveCall.TheVariants.{Receiving, Polling}
use Rattle.model.specs.declared.system_calls.SendCall.{SendCall}
use Rattle.model.specs.declared.system_calls.SystemCall.{SystemCall}
use Rattle.model.specs.declared.system_calls.SystemCall.TheVariants.{Sends, Receives, RepliesAndReceives, Replies, Yields, PutsCharacter}
use Rattle.model.specs.Acceptance.CallRules.{AfterCall, after_call, answers, by_call, by_capability, by_number, changes_nothing, known, known_behind}
use Rattle.model.specs.Acceptance.CallRules.{receive_rule, send_rule, with_answer}
use Rattle.model.specs.Acceptance.NotedKernel.{noted_kernel}
use Rattle.model.specs.Acceptance.NotedStates.{PointState}
use Rattle.model.specs.Acceptance.Ranges.{range_of}
use Rattle.model.specs.Capabilities.Slots.{Slots, capability_at}
use Rattle.model.specs.Images.Image.{Image, Thread}
use Rattle.model.specs.Kernel.Messages.{a0, a1, a7}
use Rattle.model.specs.Kernel.Steps.{call_of}
use Rattle.headline.specs.calls.Laws.{NeedNothing, Receives as ReceivesLaw, Sends as SendsLaw}
use Rattle.headline.specs.calls.Messages.{ReceivesBy, SendsBy, calls, invokes, on_endpoint, on_notification, sends, signals, tries}
use Rattle.headline.specs.facts.Waiting.{behind_receive, behind_reply, behind_signal}
use Rattle.typestate.specs.Calls.{call_on}
use Rattle.response.specs.Asking.{Accepts, Asked, Calls, SendsTo, Takes, asked_by, asked_known, asked_to_send, capability_named}
use Rattle.response.proofs.Sole.{IsNamed, named-by}
use Rattle.response.proofs.Takers.{Passes, low-is, never-waits, passes, wait_of}

-- what it asks, of what its call names, and what is known after it
pub data WaitsBy (image : Image) (t : Thread) (state : PointState) (left : AfterCall) (asked : Asked) : Type 0 where
  takes_word : (o : ℕ) (r : Rights) (badge : ℕ) → capability_named image t state ≡ Notification o r badge → asked ≡ Takes o
      → left ≡ behind_signal state → WaitsBy image t state left asked
  accepts_from : (o : ℕ) (r : Rights) (badge : ℕ) (replies : Bool) → capability_named image t state ≡ Endpoint o r badge → asked ≡ Accepts o replies
      → left ≡ behind_receive image o state → WaitsBy image t state left asked
  sends_there : (o : ℕ) (r : Rights) (badge : ℕ) → capability_named image t state ≡ Endpoint o r badge → asked ≡ SendsTo o
      → left ≡ changes_nothing state true → WaitsBy image t state left asked
  calls_there : (o : ℕ) (r : Rights) (badge : ℕ) → capability_named image t state ≡ Endpoint o r badge → asked ≡ Calls o
      → left ≡ behind_reply state → WaitsBy image t state left asked

module _ (image : Image) (t : Thread) (at : Point) (state : PointState) (left : AfterCall) (waits_so : left.is_wait ≡ true)
    (receives-law : ReceivesLaw) (sends-law : SendsLaw) (others-law : NeedNothing) where
  abbrev slots : Slots
  slots = (noted_kernel image t state.slots).slots

  abbrev Waits : Asked → Type 0
  Waits asked = WaitsBy image t state left asked

  abbrev Named : (ℕ → Cap → Result AfterCall Refusal) → Type 0
  Named rules = IsNamed image t at state left waits_so receives-law sends-law others-law rules

  no-wait : left.is_wait ≡ false → ⊥
  no-wait is = let clash : true ≡ false = sym waits_so ∙ is in absurd cc

  received-so : (call : Cap → Asked) (replies : Bool) → ((o : ℕ) (r : Rights) (badge : ℕ) → call (Notification o r badge) ≡ Takes o)
      → ((o : ℕ) (r : Rights) (badge : ℕ) → call (Endpoint o r badge) ≡ Accepts o replies) → (slot : ℕ)
      → capability_named image t state ≡ capability_at slots slot → ReceivesBy image state true (capability_at slots slot) left
      → Waits (call (capability_named image t state))
  received-so call replies takes accepts slot named (on_endpoint o r badge is reads end) =
      accepts_from o r badge replies (named ∙ is) (ap call (named ∙ is) ∙ accepts o r badge) end
  received-so call replies takes accepts slot named (on_notification o r badge is reads end) =
      takes_word o r badge (named ∙ is) (ap call (named ∙ is) ∙ takes o r badge) end

  sent-so : (kind : SendCall) (slot : ℕ) → capability_named image t state ≡ capability_at slots slot
      → SendsBy image t at state kind slot (capability_at slots slot) left → Waits (asked_to_send kind (capability_named image t state))
  sent-so kind slot named (calls o r badge calling is writes grants keeps end) =
      calls_there o r badge (named ∙ is)
      (ap (λ (c : Cap). asked_to_send kind c) (named ∙ is) ∙ ap (λ (k : SendCall). asked_to_send k (Endpoint o r badge)) calling) end
  sent-so kind slot named (sends o r badge sending is writes keeps end) =
      sends_there o r badge (named ∙ is)
      (ap (λ (c : Cap). asked_to_send kind c) (named ∙ is) ∙ ap (λ (k : SendCall). asked_to_send k (Endpoint o r badge)) sending) end
  sent-so kind slot named (tries o r badge trying is writes keeps end) = absurd (no-wait (ap (λ (a : AfterCall). a.is_wait) end))
  sent-so kind slot named (signals o r badge is writes end) = absurd (no-wait (ap (λ (a : AfterCall). a.is_wait) end ∙ never (answers kind)))
    where
      never : (b : Bool) → (if b then known_behind state (with_answer state.ranges) false (a0 ∷ a1 ∷ []) else changes_nothing state false).is_wait ≡ false
      never true = refl
      never false = refl
  sent-so kind slot named (invokes some is) =
      absurd (no-wait (sym (ap wait_of is) ∙ never-waits image t at state (call_on image t slot (capability_at slots slot)) (answers kind)))

  named-here : (rules : ℕ → Cap → Result AfterCall Refusal) → by_capability image t at state rules ≡ Ok left
      → Named rules
  named-here rules is = named-by image t at state left waits_so receives-law sends-law others-law rules is

  by-call-waits : (call : SystemCall) → by_call image t at state call ≡ Ok left → Waits (asked_by call (capability_named image t state))
  by-call-waits (Sends kind) is =
      let named = named-here (send_rule image t at state kind) is in
      sent-so kind (IsNamed.slot named) (IsNamed.named named)
      (sends-law image t at state kind (IsNamed.slot named) (capability_at slots (IsNamed.slot named)) left (IsNamed.rule named))
  by-call-waits (Receives Receiving) is =
      let named = named-here (λ slot. receive_rule image at state true) is in
      received-so (asked_by (Receives Receiving)) false (λ o r badge. refl) (λ o r badge. refl) (IsNamed.slot named) (IsNamed.named named)
      (receives-law image at state true (capability_at slots (IsNamed.slot named)) left (IsNamed.rule named))
  by-call-waits (Receives Polling) is =
      let named = named-here (λ slot. receive_rule image at state false) is in
      absurd (no-wait (polled (capability_at slots (IsNamed.slot named))
      (receives-law image at state false (capability_at slots (IsNamed.slot named)) left (IsNamed.rule named))))
    where
      polled : (capability : Cap) → ReceivesBy image state false capability left → left.is_wait ≡ false
      polled capability (on_endpoint o r badge is reads end) = ap (λ (a : AfterCall). a.is_wait) end
      polled capability (on_notification o r badge is reads end) = ap (λ (a : AfterCall). a.is_wait) end
  by-call-waits RepliesAndReceives is =
      let named = named-here (λ slot. receive_rule image at state true) is in
      received-so (asked_by RepliesAndReceives) true (λ o r badge. refl) (λ o r badge. refl) (IsNamed.slot named) (IsNamed.named named)
      (receives-law image at state true (capability_at slots (IsNamed.slot named)) left (IsNamed.rule named))
  by-call-waits Replies is = absurd (no-wait (ap (λ (a : AfterCall). a.is_wait) (others-law image t at state Replies left tt is)))
  by-call-waits Yields is = absurd (no-wait (ap (λ (a : AfterCall). a.is_wait) (others-law image t at state Yields left tt is)))
  by-call-waits PutsCharacter is = absurd (no-wait (ap (λ (a : AfterCall). a.is_wait) (others-law image t at state PutsCharacter left tt is)))

  by-number-waits : (o : Option SystemCall) → by_number image t at state o ≡ Ok left → Waits (asked_known o (capability_named image t state))
  by-number-waits (Some call) is = by-call-waits call is
  by-number-waits None is = absurd (let clash : ◌≡◌ {A = Result AfterCall Refusal} (Err (CallRefused at IllegalOperation)) (Ok left) = is in cc)

  pub way-to-wait : after_call image t at state ≡ Ok left
      → WaitsBy image t state left (asked_known (call_of (range_of state.ranges a7).low) (capability_named image t state))
  unfolding after_call
  way-to-wait is =
      let first = passes (known at state a7) _ left is in
      let low : Passes.value first ≡ (range_of state.ranges a7).low = low-is (Passes.value first) at (range_of state.ranges a7) (Passes.is first) in
      by-number-waits (call_of (range_of state.ranges a7).low)
      (subst (λ (n : ℕ). by_number image t at state (call_of n) ≡ Ok left) low (Passes.goes first))
