-- What authority says of deliveries, reasons and queues, by the call and the capability that it names, and of an instruction that is no call.
use Rattle.std.proofs.Common.{ℕ, ℤ, ◌≡◌, ◌≢◌, ◌==◌, ◌-◌, ◌%◌, ◌^◌, ◌⊎◌, Bool, true, false, if◌then◌else◌, List, Option, Some, None, Result, Ok, Err, [], ◌∷◌}
use Rattle.std.proofs.Common.{Contains, refl, sym, subst, ap, ◌∙◌, inl, inr}
use Rattle.std.specs.Int.{w8, to_le_bytes}
use Rattle.std.specs.Option.{option_map_or}
use Rattle.std.proofs.lemmas.Bool.{eq-eqb, ne_eqb}
use Rattle.model.specs.declared.capabilities.Cap.{Cap}
use Rattle.model.specs.declared.capabilities.Cap.TheVariants.{Endpoint, InterruptHandler, Notification}
use Rattle.model.specs.declared.events.Event.TheVariants.{Step}
use Rattle.model.specs.declared.instructions.Access.TheVariants as accesses
use Rattle.model.specs.declared.instructions.AccessSize.TheVariants.{Word}
use Rattle.model.specs.declared.instructions.ImmediateOp.TheVariants.{Addi}
use Rattle.model.specs.declared.instructions.Instr.{Instr}
use Rattle.model.specs.declared.instructions.Instr.TheVariants.{Upper, Jal, Jalr, Branch, Load, Store, Immediate, Shift, Registers, Fence, Ecall, Ebreak}
use Rattle.model.specs.declared.instructions.MemoryFault.{MemoryFault}
use Rattle.model.specs.declared.instructions.Register.{Register}
use Rattle.model.specs.declared.instructions.StoreOp.{StoreOp}
use Rattle.model.specs.declared.instructions.StoreOp.TheVariants.{Sb}
use Rattle.model.specs.declared.lookup_failures.LookupFailure.{LookupFailure}
use Rattle.model.specs.declared.rights.Rights.{Rights}
use Rattle.model.specs.declared.system_calls.ReceiveCall.{ReceiveCall}
use Rattle.model.specs.declared.system_calls.SendCall.{SendCall}
use Rattle.model.specs.declared.system_calls.SystemCall.{SystemCall}
use Rattle.model.specs.declared.system_calls.SystemCall.TheVariants.{Receives, Replies, Sends}
use Rattle.model.specs.Kernel.Deliveries.{Arrives, MayReply, Reason, ReceivesFrom, Signals, as_before, by_line, by_right, caller, faulted, is_message}
use Rattle.model.specs.Kernel.Deliveries.{is_receive, is_send, once_received, receiver, sender, set_back, to_sender, waiter, woken}
use Rattle.model.specs.Acceptance.Authority.{CallNames, Delivers, EndpointChange, NotificationChange, self_of, waits_to_send, waits_to_receive, takes_sender}
use Rattle.model.specs.Acceptance.Authority.{takes_receiver, joins, passes_on, taken, waits, ComputesAlone, IsSignalled, MakesCall, RightChange, StaysWithin}
use Rattle.model.specs.Acceptance.Authority.{computed, dropped, joined, kept, of_sender}
use Rattle.model.specs.Capabilities.Rights.{may_read}
use Rattle.model.specs.Capabilities.Slots.{capability_at}
use Rattle.model.specs.Images.Image.{Image, Thread}
use Rattle.model.specs.Kernel.AddressSpaces.{content_of, with_content}
use Rattle.model.specs.Kernel.Kinds.{kind_at}
use Rattle.model.specs.Kernel.Messages.{delivered, message_between, with_registers}
use Rattle.model.specs.Kernel.Retype.{NewEndpoint, NewNotification}
use Rattle.model.specs.Kernel.Scheduling.{current}
use Rattle.model.specs.Kernel.State.{State, Runnable, Blocked, AwaitsReply, AwaitsHandler, Sender, Sent, BySend, ByCall, ByFault, EndpointState}
use Rattle.model.specs.Kernel.State.{NotificationState, ThreadObject, ThreadState, as_thread, endpoint_at, new_thread, thread_at}
use Rattle.model.specs.Kernel.Steps.{named_slot, registers_of}
use Rattle.model.specs.Machine.Decoding.{decoded}
use Rattle.model.specs.Machine.Effects.{advanced, effect, is_taken, load_size, next_pc, plus, stores}
use Rattle.model.specs.Machine.ProgramMemory.{Content, RegisterFile, ◌>>=◌, loaded, place_or_fault, put_bytes, read, write}
use Rattle.headline.proofs.Laws.{branch-content, jump-content, load-content}
use Rattle.model_laws.specs.Scenarios.{Asks}
use Rattle.model_laws.proofs.QueueChanges.{stays-old, tail-old}
use Rattle.model_laws.proofs.Reasons.{blocked_is, named-capability, no-signal, received_caller}

-- ---- the call

module _ (image : Image) (t : Thread) (s : State) where
  pub one-call : (call : SystemCall) {Such : SystemCall → Cap → Type 0} → Asks image t s call → (names : CallNames image t s Such) → names.call ≡ call
  one-call call asks names = let e : Some names.call ≡ Some call = sym names.asks ∙ asks in cc

  pub not-received : (kind : SendCall) {Such : SystemCall → Cap → Type 0} → Asks image t s (Sends kind) → (names : CallNames image t s Such)
      → is_receive names.call ≡ true → ⊥
  not-received kind asks names gets = let e : false ≡ true = sym (ap is_receive (one-call (Sends kind) asks names)) ∙ gets in cc

  pub not-sent : (kind : ReceiveCall) {Such : SystemCall → Cap → Type 0} → Asks image t s (Receives kind) → (names : CallNames image t s Such)
      → is_send names.call ≡ true → ⊥
  not-sent kind asks names sends = let e : false ≡ true = sym (ap is_send (one-call (Receives kind) asks names)) ∙ sends in cc

  pub signal-sends : (after : State) (n badge : ℕ) (names : CallNames image t s (Signals s after n badge)) → is_send names.call ≡ true
  signal-sends after n badge names = by-such names.such
    where
      by-such : {call : SystemCall} {c : Cap} → Signals s after n badge call c → is_send call ≡ true
      by-such (by_right allowed sends is writes) = sends
      by-such (by_line number sends is bound pending gone) = sends

  pub one-endpoint : (slot endpoint badge : ℕ) (r : Rights) (at e b : ℕ) (allowed : Rights) → named_slot s (self_of image t) ≡ Ok slot
      → capability_at s.slots slot ≡ Endpoint endpoint r badge → named_slot s (self_of image t) ≡ Ok at
      → capability_at s.slots at ≡ Endpoint e allowed b → Endpoint e allowed b ≡ Endpoint endpoint r badge
  one-endpoint slot endpoint badge r at e b allowed named holds also is = sym is ∙ named-capability s (self_of image t) at slot also named ∙ holds

-- ---- deliveries

module _ (image : Image) (t : Thread) (s after : State) (from to : ℕ) where
  abbrev self : ℕ
  self = self_of image t

  -- where the thread may answer nobody
  pub no-reply : (thread_at s (self_of image t)).caller ≡ None → from ≡ self_of image t → (thread_at s from).caller ≡ Some to → ⊥
  no-reply alone at has = let e : None ≡ Some to = sym alone ∙ ap (λ (x : ℕ). (thread_at s x).caller) (sym at) ∙ has in cc

  module _ (slot endpoint badge : ℕ) (r : Rights) (named : named_slot s (self_of image t) ≡ Ok slot)
      (holds : capability_at s.slots slot ≡ Endpoint endpoint r badge) (alone : (thread_at s (self_of image t)).caller ≡ None) where
    -- a send delivers to the first receiver
    pub sent-to : (kind : SendCall) → Asks image t s (Sends kind) → (first : ℕ) (others : List ℕ)
        → (endpoint_at s endpoint).receivers ≡ first ∷ others → Delivers image t s after from to → to ≡ first
    sent-to kind asks first others list (Delivers.sends e b at names takes) =
        let same : Endpoint e names.such.allowed b ≡ Endpoint endpoint r badge =
        one-endpoint image t s slot endpoint badge r names.slot e b names.such.allowed named holds names.named names.such.is in
        let here : e ≡ endpoint = cc in
        let f : to ∷ (endpoint_at after e).receivers ≡ first ∷ others = sym takes.leaves ∙ ap (λ (x : ℕ). (endpoint_at s x).receivers) here ∙ list in cc
    sent-to kind asks first others list (Delivers.receives e x at names there is sort) = absurd (not-received image t s kind asks names names.such.receives)
    sent-to kind asks first others list (Delivers.replies at has waits_so goes) = absurd (no-reply alone at has)

    -- a receive delivers from the first sender to the thread
    pub received-from : (kind : ReceiveCall) → Asks image t s (Receives kind) → (first : Sender) (others : List Sender)
        → (endpoint_at s endpoint).senders ≡ first ∷ others → Delivers image t s after from to → (from ≡ first.thread) × (to ≡ self_of image t)
    received-from kind asks first others list (Delivers.sends e b at names there) = absurd (not-sent image t s kind asks names names.such.sends)
    received-from kind asks first others list (Delivers.receives e x at names takes is sort) =
        let same : Endpoint e names.such.allowed names.such.badge ≡ Endpoint endpoint r badge =
        one-endpoint image t s slot endpoint badge r names.slot e names.such.badge names.such.allowed named holds names.named names.such.is in
        let here : e ≡ endpoint = cc in
        let f : x ∷ (endpoint_at after e).senders ≡ first ∷ others = sym takes.leaves ∙ ap (λ (y : ℕ). (endpoint_at s y).senders) here ∙ list in
        let g : x ≡ first = cc in
        (sym is ∙ ap (λ (y : Sender). y.thread) g, at)
    received-from kind asks first others list (Delivers.replies at has waits_so goes) = absurd (no-reply alone at has)

    -- nothing is delivered through what is no endpoint after the step
    pub ended-delivers : kind_at after endpoint ≢ Some NewEndpoint → Delivers image t s after from to → ⊥
    ended-delivers ended (Delivers.sends e b at names takes) =
        let same : Endpoint e names.such.allowed b ≡ Endpoint endpoint r badge =
        one-endpoint image t s slot endpoint badge r names.slot e b names.such.allowed named holds names.named names.such.is in
        let here : e ≡ endpoint = cc in
        ended (ap (kind_at after) (sym here) ∙ takes.is)
    ended-delivers ended (Delivers.receives e x at names takes is sort) =
        let same : Endpoint e names.such.allowed names.such.badge ≡ Endpoint endpoint r badge =
        one-endpoint image t s slot endpoint badge r names.slot e names.such.badge names.such.allowed named holds names.named names.such.is in
        let here : e ≡ endpoint = cc in
        ended (ap (kind_at after) (sym here) ∙ takes.is)
    ended-delivers ended (Delivers.replies at has waits_so goes) = no-reply alone at has

  -- a reply delivers to one that waits for it, and runs after it
  pub replied-to : (answered : ℕ) → Asks image t s Replies → (thread_at s (self_of image t)).caller ≡ Some answered → Delivers image t s after from to
      → ((thread_at s answered).status ≡ AwaitsReply) × ((thread_at after answered).status ≡ Runnable)
  replied-to answered asks has (Delivers.sends e b at names there) =
      let e : false ≡ true = sym (ap is_send (one-call image t s Replies asks names)) ∙ names.such.sends in absurd cc
  replied-to answered asks has (Delivers.receives e x at names there is sort) =
      let e : false ≡ true = sym (ap is_receive (one-call image t s Replies asks names)) ∙ names.such.receives in absurd cc
  replied-to answered asks has (Delivers.replies at right waits_so goes) =
      let e : Some to ≡ Some answered = sym right ∙ ap (λ (x : ℕ). (thread_at s x).caller) at ∙ has in
      let same : to ≡ answered = cc in
      (ap (λ (x : ℕ). (thread_at s x).status) (sym same) ∙ waits_so, ap (λ (x : ℕ). (thread_at after x).status) (sym same) ∙ goes)

-- ---- reasons

module _ (image : Image) (t : Thread) (s after : State) (other : ℕ) (old new : ThreadState) where
  abbrev By : Type 0
  By = Reason s after (self_of image t) (CallNames image t s) other old new

  -- one that waits for a reply gets the answer
  pub answered-with : old.status ≡ AwaitsReply → Reason s after (self_of image t) (CallNames image t s) other old new
      → new.registers ≡ advanced (delivered old.registers 0 (message_between s (self_of image t) other))
  answered-with waits_so (receiver e b c list blocked names may is comes) = let f : AwaitsReply ≡ Blocked e = sym waits_so ∙ blocked in absurd cc
  answered-with waits_so (sender e first list same blocked names is comes) = let f : AwaitsReply ≡ Blocked e = sym waits_so ∙ blocked in absurd cc
  answered-with waits_so (waiter n b list blocked names is) = let f : AwaitsReply ≡ Blocked n = sym waits_so ∙ blocked in absurd cc
  answered-with waits_so (caller has awaits is comes) = ap (λ (u : ThreadState). u.registers) is
  answered-with waits_so (faulted has awaits is) = let f : AwaitsReply ≡ AwaitsHandler = sym waits_so ∙ awaits in absurd cc
  answered-with waits_so (set_back q blocked some none is) = let f : AwaitsReply ≡ Blocked q = sym waits_so ∙ blocked in absurd cc

  -- all of it
  pub answered-all : old.status ≡ AwaitsReply → Reason s after (self_of image t) (CallNames image t s) other old new → Arrives s after (self_of image t) other
  answered-all waits_so (receiver e b c list blocked names may is comes) = let f : AwaitsReply ≡ Blocked e = sym waits_so ∙ blocked in absurd cc
  answered-all waits_so (sender e first list same blocked names is comes) = let f : AwaitsReply ≡ Blocked e = sym waits_so ∙ blocked in absurd cc
  answered-all waits_so (waiter n b list blocked names is) = let f : AwaitsReply ≡ Blocked n = sym waits_so ∙ blocked in absurd cc
  answered-all waits_so (caller has awaits is comes) = comes
  answered-all waits_so (faulted has awaits is) = let f : AwaitsReply ≡ AwaitsHandler = sym waits_so ∙ awaits in absurd cc
  answered-all waits_so (set_back q blocked some none is) = let f : AwaitsReply ≡ Blocked q = sym waits_so ∙ blocked in absurd cc

  -- where the call names nothing, who waits in a queue is set back with its registers
  pub back-with : (queue : ℕ) (failure : LookupFailure) → named_slot s (self_of image t) ≡ Err failure → old.status ≡ Blocked queue
      → Reason s after (self_of image t) (CallNames image t s) other old new → new.registers ≡ old.registers
  back-with queue failure none waits_so (receiver e b c list blocked names may is comes) =
      let f : Ok names.slot ≡ Err failure = sym names.named ∙ none in absurd cc
  back-with queue failure none waits_so (sender e first list same blocked names is comes) =
      let f : Ok names.slot ≡ Err failure = sym names.named ∙ none in absurd cc
  back-with queue failure none waits_so (waiter n b list blocked names is) = let f : Ok names.slot ≡ Err failure = sym names.named ∙ none in absurd cc
  back-with queue failure none waits_so (caller has awaits is comes) = let f : Blocked queue ≡ AwaitsReply = sym waits_so ∙ awaits in absurd cc
  back-with queue failure none waits_so (faulted has awaits is) = let f : Blocked queue ≡ AwaitsHandler = sym waits_so ∙ awaits in absurd cc
  back-with queue failure none waits_so (set_back q blocked some gone is) = ap (λ (u : ThreadState). u.registers) is

  -- who waits at what is no queue after the step is at its call again, as it was
  pub set-back-only : (queue : ℕ) → old.status ≡ Blocked queue → kind_at after queue ≢ Some NewEndpoint → kind_at after queue ≢ Some NewNotification
      → Reason s after (self_of image t) (CallNames image t s) other old new → new ≡ woken old old.registers
  set-back-only queue waits_so ended gone (receiver e b c takes blocked names may is comes) =
      absurd (ended (ap (kind_at after) (blocked_is queue e old waits_so blocked) ∙ takes.is))
  set-back-only queue waits_so ended gone (sender e first takes same blocked names is comes) =
      absurd (ended (ap (kind_at after) (blocked_is queue e old waits_so blocked) ∙ takes.is))
  set-back-only queue waits_so ended gone (waiter n b takes blocked names is) =
      absurd (gone (ap (kind_at after) (blocked_is queue n old waits_so blocked) ∙ takes.is))
  set-back-only queue waits_so ended gone (caller has awaits is comes) = let f : Blocked queue ≡ AwaitsReply = sym waits_so ∙ awaits in absurd cc
  set-back-only queue waits_so ended gone (faulted has awaits is) = let f : Blocked queue ≡ AwaitsHandler = sym waits_so ∙ awaits in absurd cc
  set-back-only queue waits_so ended gone (set_back q blocked some none is) = is

  sent-registers : (first : Sender) (sent : Sent) → new ≡ once_received first sent old
      → (new.registers ≡ old.registers) ⊎ (new.registers ≡ advanced old.registers)
  sent-registers first BySend is = inr (ap (λ (u : ThreadState). u.registers) is)
  sent-registers first ByCall is = inl (ap (λ (u : ThreadState). u.registers) is)
  sent-registers first (ByFault fault) is = inl (ap (λ (u : ThreadState). u.registers) is)

  -- by a receive, who waits in a queue goes on, or stays where it is
  pub received-with : (queue : ℕ) (kind : ReceiveCall) → Asks image t s (Receives kind) → old.status ≡ Blocked queue
      → Reason s after (self_of image t) (CallNames image t s) other old new → (new.registers ≡ old.registers) ⊎ (new.registers ≡ advanced old.registers)
  received-with queue kind asks waits_so (receiver e b c list blocked names may is comes) = absurd (not-sent image t s kind asks names names.such.sends)
  received-with queue kind asks waits_so (sender e first list same blocked names is comes) = sent-registers first first.sent is
  received-with queue kind asks waits_so (waiter n b list blocked names is) =
      absurd (not-sent image t s kind asks names (signal-sends image t s after n b names))
  received-with queue kind asks waits_so (caller has awaits is comes) = let f : Blocked queue ≡ AwaitsReply = sym waits_so ∙ awaits in absurd cc
  received-with queue kind asks waits_so (faulted has awaits is) = let f : Blocked queue ≡ AwaitsHandler = sym waits_so ∙ awaits in absurd cc
  received-with queue kind asks waits_so (set_back q blocked some gone is) = inl (ap (λ (u : ThreadState). u.registers) is)

  given-by : (e b : ℕ) (before c : Option ℕ) → before ≡ None → c ≡ Some (self_of image t)
      → MayReply after (self_of image t) (CallNames image t s) e b before c → (thread_at after (self_of image t)).status ≡ AwaitsReply
  given-by e b before c none has (as_before same) = let f : None ≡ Some (self_of image t) = sym none ∙ sym same ∙ has in absurd cc
  given-by e b before c none has (to_sender names is waits_so) = waits_so

  -- who gives the right to reply waits
  pub giver-waits : (queue : ℕ) → old.status ≡ Blocked queue → old.caller ≡ None → new.caller ≡ Some (self_of image t)
      → Reason s after (self_of image t) (CallNames image t s) other old new → (thread_at after (self_of image t)).status ≡ AwaitsReply
  giver-waits queue waits_so none has (receiver e b c list blocked names may is comes) =
      given-by e b old.caller c none (sym (ap (λ (u : ThreadState). u.caller) is) ∙ has) may
  giver-waits queue waits_so none has (sender e first list same blocked names is comes) =
      let f : None ≡ Some (self_of image t) = sym none ∙ sym (received_caller first first.sent old) ∙ sym (ap (λ (u : ThreadState). u.caller) is) ∙ has in
      absurd cc
  giver-waits queue waits_so none has (waiter n b list blocked names is) =
      let f : None ≡ Some (self_of image t) = sym none ∙ sym (ap (λ (u : ThreadState). u.caller) is) ∙ has in absurd cc
  giver-waits queue waits_so none has (caller right awaits is comes) = let f : Blocked queue ≡ AwaitsReply = sym waits_so ∙ awaits in absurd cc
  giver-waits queue waits_so none has (faulted right awaits is) = let f : Blocked queue ≡ AwaitsHandler = sym waits_so ∙ awaits in absurd cc
  giver-waits queue waits_so none has (set_back q blocked some gone is) =
      let f : None ≡ Some (self_of image t) = sym none ∙ sym (ap (λ (u : ThreadState). u.caller) is) ∙ has in absurd cc

  -- by a send to an endpoint that stays, who waits there gets all of the message
  pub told-all : (slot endpoint badge : ℕ) (r : Rights) (kind : SendCall) → Asks image t s (Sends kind) → named_slot s (self_of image t) ≡ Ok slot
      → capability_at s.slots slot ≡ Endpoint endpoint r badge → old.status ≡ Blocked endpoint → after.objects endpoint ≢ None
      → Reason s after (self_of image t) (CallNames image t s) other old new → Arrives s after (self_of image t) other
  told-all slot endpoint badge r kind asks named holds waits_so stays (receiver e b c list blocked names may is comes) = comes
  told-all slot endpoint badge r kind asks named holds waits_so stays (sender e first list same blocked names is comes) =
      absurd (not-received image t s kind asks names names.such.receives)
  told-all slot endpoint badge r kind asks named holds waits_so stays (waiter n b list blocked names is) =
      absurd (no-signal s after n b endpoint badge r names.call (capability_at s.slots names.slot)
      (named-capability s (self_of image t) names.slot slot names.named named ∙ holds) names.such)
  told-all slot endpoint badge r kind asks named holds waits_so stays (caller has awaits is comes) =
      let f : Blocked endpoint ≡ AwaitsReply = sym waits_so ∙ awaits in absurd cc
  told-all slot endpoint badge r kind asks named holds waits_so stays (faulted has awaits is) =
      let f : Blocked endpoint ≡ AwaitsHandler = sym waits_so ∙ awaits in absurd cc
  told-all slot endpoint badge r kind asks named holds waits_so stays (set_back q blocked some gone is) =
      absurd (stays (ap after.objects (blocked_is endpoint q old waits_so blocked) ∙ gone))

module _ (image : Image) (t : Thread) (s after : State) (other : ℕ) (old new : ThreadState) (endpoint : ℕ) (first : Sender) (others : List Sender)
    (list : (endpoint_at s endpoint).senders ≡ first ∷ others) where
  -- by a receive from an endpoint that stays, the thread gets all of the first sender's message
  pub heard-all : (kind : ReceiveCall) → Asks image t s (Receives kind) → is_message first.sent ≡ true → old.status ≡ Blocked endpoint
      → after.objects endpoint ≢ None → Reason s after (self_of image t) (CallNames image t s) other old new → Arrives s after other (self_of image t)
  heard-all kind asks says waits_so stays (receiver e b c there blocked names may is comes) = absurd (not-sent image t s kind asks names names.such.sends)
  heard-all kind asks says waits_so stays (sender e x takes same blocked names is comes) =
      let here : e ≡ endpoint = blocked_is e endpoint old blocked waits_so in
      let f : x ∷ (endpoint_at after e).senders ≡ first ∷ others = sym takes.leaves ∙ ap (λ (y : ℕ). (endpoint_at s y).senders) here ∙ list in
      let g : x ≡ first = cc in
      comes (ap (λ (y : Sender). is_message y.sent) g ∙ says)
  heard-all kind asks says waits_so stays (waiter n b there blocked names is) =
      absurd (not-sent image t s kind asks names (signal-sends image t s after n b names))
  heard-all kind asks says waits_so stays (caller has awaits is comes) = let f : Blocked endpoint ≡ AwaitsReply = sym waits_so ∙ awaits in absurd cc
  heard-all kind asks says waits_so stays (faulted has awaits is) = let f : Blocked endpoint ≡ AwaitsHandler = sym waits_so ∙ awaits in absurd cc
  heard-all kind asks says waits_so stays (set_back q blocked some gone is) =
      absurd (stays (ap after.objects (blocked_is endpoint q old waits_so blocked) ∙ gone))

-- ---- rights to reply and signals, where what gives them ends

-- no right to reply comes from what is no endpoint after the step
pub ended-gives : (image : Image) (t : Thread) (s after : State) (slot endpoint badge third : ℕ) (r : Rights) (before now : Option ℕ)
    → named_slot s (self_of image t) ≡ Ok slot → capability_at s.slots slot ≡ Endpoint endpoint r badge → kind_at after endpoint ≢ Some NewEndpoint
    → before ≡ None → now ≡ Some third → RightChange image t s after before now → ⊥
ended-gives image t s after slot endpoint badge third r before now named holds ended none has (kept same rests) =
    let f : None ≡ Some third = sym none ∙ sym same ∙ has in cc
ended-gives image t s after slot endpoint badge third r before now named holds ended none has (dropped gone) =
    let f : None ≡ Some third = sym gone ∙ has in cc
ended-gives image t s after slot endpoint badge third r before now named holds ended none has (of_sender e first names takes gives is) =
    let same : Endpoint e names.such.allowed names.such.badge ≡ Endpoint endpoint r badge =
    one-endpoint image t s slot endpoint badge r names.slot e names.such.badge names.such.allowed named holds names.named names.such.is in
    let here : e ≡ endpoint = cc in
    ended (ap (kind_at after) (sym here) ∙ takes.is)

-- what is signalled is a notification before and after
pub signalled-kinds : (s after : State) (n badge : ℕ) → IsSignalled s after n badge
    → (kind_at s n ≡ Some NewNotification) × (kind_at after n ≡ Some NewNotification)
signalled-kinds s after n badge (joined was still empty is) = (was, still)
signalled-kinds s after n badge (IsSignalled.passed first takes runs) = (takes.was, takes.is)

-- ---- who joins

module _ (image : Image) (t : Thread) (s after : State) (endpoint : ℕ) (old new : EndpointState) where
  -- a new receiver joins by a call that receives, and a capability that reads
  pub receives-by : EndpointChange image t s after endpoint old new → (x : ℕ) → Contains new.receivers x → (Contains old.receivers x → ⊥)
      → CallNames image t s (ReceivesFrom endpoint)
  receives-by (waits_to_send y asks is) x among fresh =
      absurd (fresh (stays-old old.receivers new.receivers x (ap (λ (e : EndpointState). e.receivers) is) among))
  receives-by (waits_to_receive names is) x among fresh = names
  receives-by (takes_sender first names is same served) x among fresh = absurd (fresh (stays-old old.receivers new.receivers x same among))
  receives-by (takes_receiver badge first names is same served) x among fresh = absurd (fresh (tail-old old.receivers new.receivers first x is among))

module _ (image : Image) (t : Thread) (s after : State) (notification : ℕ) (old new : NotificationState) where
  -- a new waiter by one that reads
  pub waits-by : NotificationChange image t s after notification old new → (x : ℕ) → Contains new.waiters x → (Contains old.waiters x → ⊥)
      → (r : Rights) (badge slot : ℕ) → named_slot s (self_of image t) ≡ Ok slot → capability_at s.slots slot ≡ Notification notification r badge
      → may_read r ≡ true
  waits-by (joins b names none is) x among fresh r badge slot named holds =
      absurd (fresh (stays-old old.waiters new.waiters x (ap (λ (n : NotificationState). n.waiters) is) among))
  waits-by (passes_on b first names list same served) x among fresh r badge slot named holds =
      absurd (fresh (tail-old old.waiters new.waiters first x list among))
  waits-by (taken names is) x among fresh r badge slot named holds =
      absurd (fresh (stays-old old.waiters new.waiters x (ap (λ (n : NotificationState). n.waiters) is) among))
  waits-by (waits names is) x among fresh r badge slot named holds =
      let e : Notification notification names.such.allowed names.such.badge ≡ Notification notification r badge =
      sym names.such.is ∙ named-capability s (self_of image t) names.slot slot names.named named ∙ holds in
      let same : names.such.allowed ≡ r = cc in
      subst (λ (q : Rights). may_read q ≡ true) same names.such.reads

-- a handler signals nothing where the interrupt stays pending
pub kept-line : (s after : State) (n b number : ℕ) (call : SystemCall) (capability : Cap) → capability ≡ InterruptHandler number
    → after.pending number ≡ true → Signals s after n b call capability → ⊥
kept-line s after n b number call capability is still (by_right allowed sends other writes) =
    let f : Notification n allowed b ≡ InterruptHandler number = sym other ∙ is in cc
kept-line s after n b number call capability is still (by_line line sends other there pending gone) =
    let f : InterruptHandler line ≡ InterruptHandler number = sym other ∙ is in
    let same : line ≡ number = cc in
    let clash : true ≡ false = sym still ∙ ap after.pending (sym same) ∙ gone in cc

-- ---- an instruction that is no system call

module _ (image : Image) (s after : State) (self word : ℕ) (instruction : Instr) (now : current s ≡ Some self)
    (fetched : loaded (content_of s self) accesses.Fetch Word (registers_of s self).pc ≡ Ok word) (spelled : decoded word ≡ Some instruction)
    (plain : instruction ≢ Ecall) where
  -- there is one at the pc
  one-instruction : (other : ℕ) (another : Instr) → loaded (content_of s self) accesses.Fetch Word (registers_of s self).pc ≡ Ok other
      → decoded other ≡ Some another → another ≡ instruction
  one-instruction other another also is =
      let e : ◌≡◌ {A = Result ℕ MemoryFault} (Ok other) (Ok word) = sym also ∙ fetched in
      let same : other ≡ word = cc in
      let f : Some another ≡ Some instruction = sym is ∙ ap decoded same ∙ spelled in cc

  computed-so : ComputesAlone s after self → after ≡ computed s self instruction
  computed-so alone =
      alone.is ∙ ap (λ (i : Instr). computed s self i) (one-instruction alone.word alone.instruction alone.fetched alone.spelled)

  -- and it is done
  pub done-so : StaysWithin image s Step after → after ≡ computed s self instruction
  done-so within = elim within [
    | inl idle ↦ let e : Some self ≡ None = sym now ∙ idle.0 in absurd cc
    | inr own ↦
        let e : Some (self_of image own.thread) ≡ Some self = sym own.runs ∙ now in
        let same : self_of image own.thread ≡ self = cc in
        computed-so (subst (ComputesAlone s after) same (own.plain (λ makes.
        let call : MakesCall s self = subst (MakesCall s) same makes in
        plain (sym (one-instruction call.word Ecall call.fetched call.call)))))
  ]

-- a byte is what memory has there
byte-kept : (o : Option ℕ) (value : ℕ) → value ≡ option_map_or (λ (byte : ℕ). byte) o 0 → option_map_or (λ (byte : ℕ). Some value) o None ≡ o
byte-kept None value same = refl
byte-kept (Some byte) value same = ap (λ (n : ℕ). Some n) same

module _ (s : State) (self : ℕ) where
  abbrev r : RegisterFile
  r = registers_of s self

  abbrev content : Content
  content = content_of s self

  registers-put : (left : RegisterFile) (c : Content) → registers_of (with_content (with_registers s self left) c) self ≡ left
  registers-put left c =
      ap (λ (b : Bool). (option_map_or (λ (u : ThreadState). u) (as_thread (if b then Some (ThreadObject (record (thread_at s self) { registers = left })) else
      s.objects self)) new_thread).registers) (eq-eqb self self refl)

  -- addi leaves its sum
  pub sum-left : (rd rs1 : Register) (immediate : ℤ) → registers_of (computed s self (Immediate Addi rd rs1 immediate)) self
      ≡ advanced (write (registers_of s self) rd (plus (read (registers_of s self) rs1) immediate))
  unfolding effect
  sum-left rd rs1 immediate = registers-put (advanced (write r rd (plus (read r rs1) immediate))) content

  -- what is no store leaves memory
  content-kept : (i : Instr) → ((op : StoreOp) (rs1 rs2 : Register) (offset : ℤ) → i ≢ Store op rs1 rs2 offset)
      → (effect (registers_of s self) (content_of s self) i).content ≡ content_of s self
  unfolding effect
  content-kept (Upper op rd immediate) other = refl
  content-kept (Jal rd offset) other = jump-content r content (write r rd (next_pc r)) (plus r.pc offset)
  content-kept (Jalr rd rs1 offset) other =
      let target = plus (read r rs1) offset in jump-content r content (write r rd (next_pc r)) (target - target % 2)
  content-kept (Branch op rs1 rs2 offset) other = branch-content r content (is_taken op (read r rs1) (read r rs2)) (plus r.pc offset)
  content-kept (Load op rd rs1 offset) other =
      load-content r content op rd (loaded content accesses.Load (load_size op) (plus (read r rs1) offset))
  content-kept (Store op rs1 rs2 offset) other = absurd (other op rs1 rs2 offset refl)
  content-kept (Immediate op rd rs1 immediate) other = refl
  content-kept (Shift op rd rs1 amount) other = refl
  content-kept (Registers op rd rs1 rs2) other = refl
  content-kept Fence other = refl
  content-kept Ecall other = refl
  content-kept Ebreak other = refl

  pub bytes-kept : (i : Instr) → ((op : StoreOp) (rs1 rs2 : Register) (offset : ℤ) → i ≢ Store op rs1 rs2 offset) → (place : ℕ)
      → (computed s self i).bytes place ≡ s.bytes place
  bytes-kept i other place =
      byte-kept (s.bytes place) ((effect r content i).content.byte place) (ap (λ (c : Content). c.byte place) (content-kept i other))

  -- a store of a byte
  module _ (rs1 rs2 : Register) (offset : ℤ) (place : ℕ)
      (at : (content_of s self).place accesses.Store (plus (read (registers_of s self) rs1) offset) ≡ Some place) where
    abbrev left : ℕ → ℕ
    left other = (effect r content (Store Sb rs1 rs2 offset)).content.byte other

    stored-byte : (other : ℕ) → (effect (registers_of s self) (content_of s self) (Store Sb rs1 rs2 offset)).content.byte other
        ≡ (if other == place then read (registers_of s self) rs2 % 2 ^ 8 else (content_of s self).byte other)
    unfolding effect
    stored-byte other =
        ap (λ (o : Option ℕ). (stores r content ((place_or_fault o accesses.Store (plus (read r rs1) offset) >>= (λ p. Ok (p ∷ [])))
        >>= (λ places. Ok (put_bytes content places (to_le_bytes w8 (read r rs2)))))).content.byte other) at

    -- puts the low byte of its register there
    pub byte-put : (old : ℕ) → s.bytes place ≡ Some old
        → (computed s self (Store Sb rs1 rs2 offset)).bytes place ≡ Some (read (registers_of s self) rs2 % 2 ^ 8)
    byte-put old there =
        ap (λ (o : Option ℕ). option_map_or (λ (byte : ℕ). Some (left place)) o None) there
        ∙ ap (λ (n : ℕ). Some n) (stored-byte place
        ∙ ap (λ (b : Bool). if b then read r rs2 % 2 ^ 8 else content.byte place) (eq-eqb place place refl))

    -- and leaves the others
    pub bytes-beside : (other : ℕ) → other ≢ place → (computed s self (Store Sb rs1 rs2 offset)).bytes other ≡ s.bytes other
    bytes-beside other apart =
        byte-kept (s.bytes other) (left other) (stored-byte other
        ∙ ap (λ (b : Bool). if b then read r rs2 % 2 ^ 8 else content.byte other) (ne_eqb other place apart))
