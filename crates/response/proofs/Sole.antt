-- Who waits and waits for no message takes from a notification, in whose queue it is.
use Rattle.std.proofs.Common.{ℕ, ◌≡◌, ◌∙◌, Bool, true, false, if◌then◌else◌, Option, Some, None, Result, Ok, Err, [], ◌∷◌, refl}
use Rattle.std.proofs.Common.{sym, ap, subst}
use Rattle.model.specs.declared.capabilities.Cap.{Cap}
use Rattle.model.specs.declared.capabilities.Cap.TheVariants.{Endpoint, Notification}
use Rattle.model.specs.declared.lookup_failures.LookupFailure.{LookupFailure}
use Rattle.model.specs.declared.refusals.Point.{Point}
use Rattle.model.specs.declared.refusals.Refusal.{Refusal}
use Rattle.model.specs.declared.refusals.Refusal.TheVariants.{CallRefused, CapNotThere}
use Rattle.model.specs.declared.rights.Rights.{Rights}
use Rattle.model.specs.declared.errors.KError.TheVariants.{IllegalOperation}
use Rattle.model.specs.declared.system_calls.ReceiveCall.TheVariants.{Receiving, Polling}
use Rattle.model.specs.declared.system_calls.SendCall.{SendCall}
use Rattle.model.specs.declared.system_calls.SendCall.TheVariants.{Calling, Sending}
use Rattle.model.specs.declared.system_calls.SystemCall.{SystemCall}
use Rattle.model.specs.declared.system_calls.SystemCall.TheVariants.{Sends, Receives, RepliesAndReceives, Replies, Yields, PutsCharacter}
use Rattle.model.specs.Acceptance.CallRules.{AfterCall, after_call, answers, by_call, by_capability, by_number, changes_nothing, found_slot, known}
use Rattle.model.specs.Acceptance.CallRules.{known_behind, receive_rule, send_rule, with_answer}
use Rattle.model.specs.Acceptance.NotedKernel.{noted_kernel, noted_root}
use Rattle.model.specs.Acceptance.NotedStates.{PointState}
use Rattle.model.specs.Acceptance.Ranges.{range_of}
use Rattle.model.specs.Capabilities.Lookup.{called_slot}
use Rattle.model.specs.Capabilities.Slots.{Slots, capability_at}
use Rattle.model.specs.Images.Format.{◌>>=◌}
use Rattle.model.specs.Images.Image.{Image, Thread}
use Rattle.model.specs.Kernel.Messages.{a0, a1, a7}
use Rattle.model.specs.Kernel.Steps.{call_of}
use Rattle.headline.specs.calls.Laws.{NeedNothing, Receives as ReceivesLaw, Sends as SendsLaw}
use Rattle.headline.specs.calls.Messages.{ReceivesBy, SendsBy, calls, invokes, on_endpoint, on_notification, sends, signals, tries}
use Rattle.headline.specs.facts.Waiting.{behind_signal}
use Rattle.typestate.specs.Calls.{call_on}
use Rattle.response.specs.Weights.{waits_for_no_message}
use Rattle.response.proofs.Takers.{Passes, low-is, never-waits, passes, wait_of}
use Rattle.response.specs.Asking.{asked_to_send, Asked, Takes, asked_by, asked_known, capability_found, capability_named}

-- ---- a call that waits, where the point waits for no message

module _ (image : Image) (t : Thread) (at : Point) (state : PointState) (left : AfterCall) (waits_so : left.is_wait ≡ true)
    (receives-law : ReceivesLaw) (sends-law : SendsLaw) (others-law : NeedNothing) where
  abbrev slots : Slots
  slots = (noted_kernel image t state.slots).slots

  no-wait : left.is_wait ≡ false → ⊥
  no-wait is = let clash : true ≡ false = sym waits_so ∙ is in absurd cc

  -- it takes from some notification, and a word is its answer
  pub record TakesWord (asked : Asked) : Type 0 where
    pub offset : ℕ
    pub rights : Rights
    pub badge : ℕ
    pub named : capability_named image t state ≡ Notification offset rights badge
    pub takes : asked ≡ Takes offset
    pub answer : left ≡ behind_signal state

  no-message : (asked : Asked) → waits_for_no_message asked ≡ true → (other : Asked) → asked ≡ other → waits_for_no_message other ≡ false → ⊥
  no-message asked none other is so = let clash : false ≡ true = sym so ∙ sym (ap waits_for_no_message is) ∙ none in absurd cc

  pub record IsNamed (rules : ℕ → Cap → Result AfterCall Refusal) : Type 0 where
    pub slot : ℕ
    pub named : capability_named image t state ≡ capability_at slots slot
    pub rule : rules slot (capability_at slots slot) ≡ Ok left

  pub named-by : (rules : ℕ → Cap → Result AfterCall Refusal) → by_capability image t at state rules ≡ Ok left → IsNamed rules
  named-by rules is =
      let first = passes (known at state a0) _ left is in
      let low : Passes.value first ≡ (range_of state.ranges a0).low = low-is (Passes.value first) at (range_of state.ranges a0) (Passes.is first) in
      by-slot (Passes.value first) low (called_slot slots (noted_root image t) (Passes.value first)) refl (Passes.goes first)
    where
      by-slot : (address : ℕ) → address ≡ (range_of state.ranges a0).low → (r : Result ℕ LookupFailure) → called_slot slots (noted_root image t) address ≡ r
          → (found_slot at r >>= (λ slot. rules slot (capability_at slots slot))) ≡ Ok left → IsNamed rules
      by-slot address low (Ok slot) found goes = record {
        slot = slot;
        named = ap (λ (n : ℕ). capability_found slots (called_slot slots (noted_root image t) n)) (sym low)
            ∙ ap (λ (r : Result ℕ LookupFailure). capability_found slots r) found;
        rule = goes;
      }
      by-slot address low (Err failure) found goes =
          absurd (let clash : ◌≡◌ {A = Result AfterCall Refusal} (Err (CapNotThere at)) (Ok left) = goes in cc)

  received-so : (call : Cap → Asked) → ((offset : ℕ) (r : Rights) (badge : ℕ) → call (Notification offset r badge) ≡ Takes offset)
      → ((offset : ℕ) (r : Rights) (badge : ℕ) → waits_for_no_message (call (Endpoint offset r badge)) ≡ false) → (slot : ℕ)
      → capability_named image t state ≡ capability_at slots slot → ReceivesBy image state true (capability_at slots slot) left
      → waits_for_no_message (call (capability_named image t state)) ≡ true → TakesWord (call (capability_named image t state))
  received-so call takes accepts slot named (on_endpoint offset r badge is reads end) none =
      absurd (no-message (call (capability_named image t state)) none (call (Endpoint offset r badge)) (ap call (named ∙ is)) (accepts offset r badge))
  received-so call takes accepts slot named (on_notification offset r badge is reads end) none =
      record { offset = offset; rights = r; badge = badge; named = named ∙ is; takes = ap call (named ∙ is) ∙ takes offset r badge; answer = end }

  sent-so : (kind : SendCall) (slot : ℕ) → capability_named image t state ≡ capability_at slots slot
      → SendsBy image t at state kind slot (capability_at slots slot) left
      → waits_for_no_message (asked_to_send kind (capability_named image t state)) ≡ true → ⊥
  sent-so kind slot named (calls offset r badge calling is writes grants keeps end) none =
      no-message (asked_to_send kind (capability_named image t state)) none (asked_to_send Calling (Endpoint offset r badge))
      (ap (λ (c : Cap). asked_to_send kind c) (named ∙ is) ∙ ap (λ (k : SendCall). asked_to_send k (Endpoint offset r badge)) calling) refl
  sent-so kind slot named (sends offset r badge sending is writes keeps end) none =
      no-message (asked_to_send kind (capability_named image t state)) none (asked_to_send Sending (Endpoint offset r badge))
      (ap (λ (c : Cap). asked_to_send kind c) (named ∙ is) ∙ ap (λ (k : SendCall). asked_to_send k (Endpoint offset r badge)) sending) refl
  sent-so kind slot named (tries offset r badge trying is writes keeps end) none = no-wait (ap (λ (a : AfterCall). a.is_wait) end)
  sent-so kind slot named (signals offset r badge is writes end) none = no-wait (ap (λ (a : AfterCall). a.is_wait) end ∙ never (answers kind))
    where
      never : (b : Bool) → (if b then known_behind state (with_answer state.ranges) false (a0 ∷ a1 ∷ []) else changes_nothing state false).is_wait ≡ false
      never true = refl
      never false = refl
  sent-so kind slot named (invokes some is) none =
      no-wait (sym (ap wait_of is) ∙ never-waits image t at state (call_on image t slot (capability_at slots slot)) (answers kind))

  by-call-takes : (call : SystemCall) → by_call image t at state call ≡ Ok left → waits_for_no_message (asked_by call (capability_named image t state)) ≡ true
      → TakesWord (asked_by call (capability_named image t state))
  by-call-takes (Sends kind) is none =
      let named = named-by (send_rule image t at state kind) is in
      absurd (sent-so kind (IsNamed.slot named) (IsNamed.named named)
      (sends-law image t at state kind (IsNamed.slot named) (capability_at slots (IsNamed.slot named)) left (IsNamed.rule named)) none)
  by-call-takes (Receives Receiving) is none =
      let named = named-by (λ slot. receive_rule image at state true) is in
      received-so (asked_by (Receives Receiving)) (λ offset r badge. refl) (λ offset r badge. refl) (IsNamed.slot named) (IsNamed.named named)
      (receives-law image at state true (capability_at slots (IsNamed.slot named)) left (IsNamed.rule named)) none
  by-call-takes (Receives Polling) is none =
      let named = named-by (λ slot. receive_rule image at state false) is in
      absurd (no-wait (polled (capability_at slots (IsNamed.slot named))
      (receives-law image at state false (capability_at slots (IsNamed.slot named)) left (IsNamed.rule named))))
    where
      polled : (capability : Cap) → ReceivesBy image state false capability left → left.is_wait ≡ false
      polled capability (on_endpoint offset r badge is reads end) = ap (λ (a : AfterCall). a.is_wait) end
      polled capability (on_notification offset r badge is reads end) = ap (λ (a : AfterCall). a.is_wait) end
  by-call-takes RepliesAndReceives is none =
      let named = named-by (λ slot. receive_rule image at state true) is in
      received-so (asked_by RepliesAndReceives) (λ offset r badge. refl) (λ offset r badge. refl) (IsNamed.slot named) (IsNamed.named named)
      (receives-law image at state true (capability_at slots (IsNamed.slot named)) left (IsNamed.rule named)) none
  by-call-takes Replies is none = absurd (no-wait (ap (λ (a : AfterCall). a.is_wait) (others-law image t at state Replies left tt is)))
  by-call-takes Yields is none = absurd (no-wait (ap (λ (a : AfterCall). a.is_wait) (others-law image t at state Yields left tt is)))
  by-call-takes PutsCharacter is none = absurd (no-wait (ap (λ (a : AfterCall). a.is_wait) (others-law image t at state PutsCharacter left tt is)))

  by-number-takes : (o : Option SystemCall) → by_number image t at state o ≡ Ok left
      → waits_for_no_message (asked_known o (capability_named image t state)) ≡ true
      → TakesWord (asked_known o (capability_named image t state))
  by-number-takes (Some call) is none = by-call-takes call is none
  by-number-takes None is none = absurd (let clash : ◌≡◌ {A = Result AfterCall Refusal} (Err (CallRefused at IllegalOperation)) (Ok left) = is in cc)

  pub sole-takes : after_call image t at state ≡ Ok left
      → waits_for_no_message (asked_known (call_of (range_of state.ranges a7).low) (capability_named image t state)) ≡ true
      → TakesWord (asked_known (call_of (range_of state.ranges a7).low) (capability_named image t state))
  unfolding after_call
  sole-takes is none =
      let first = passes (known at state a7) _ left is in
      let low : Passes.value first ≡ (range_of state.ranges a7).low = low-is (Passes.value first) at (range_of state.ranges a7) (Passes.is first) in
      by-number-takes (call_of (range_of state.ranges a7).low)
      (subst (λ (n : ℕ). by_number image t at state (call_of n) ≡ Ok left) low (Passes.goes first)) none
