-- A thread that acknowledges a line of an accepted image opens it, or takes what is pending.
use Rattle.std.proofs.Common.{ℕ, ◌≡◌, ◌∙◌, Bool, true, false, if◌then◌else◌, is_some, Option, Some, None, Result, Ok, Err, List, [], ◌∷◌, refl, sym, ap, subst}
use Rattle.std.specs.Prelude.{Contains}
use Rattle.std.specs.Option.{option_map_or}
use Rattle.model.specs.declared.capabilities.Cap.{Cap}
use Rattle.model.specs.declared.capabilities.Cap.TheVariants.{Empty, Untyped, Endpoint, Notification, CNode, Frame, PageTable, Tcb, RootTable, InterruptControl}
use Rattle.model.specs.declared.capabilities.Cap.TheVariants.{InterruptHandler}
use Rattle.model.specs.declared.errors.KError.{KError}
use Rattle.model.specs.declared.events.Event.TheVariants.{Step}
use Rattle.model.specs.declared.invocations.HandlerCall.TheVariants.{Acknowledge, Clear, SetNotification}
use Rattle.model.specs.declared.invocations.Invocation.{Invocation}
use Rattle.model.specs.declared.invocations.Invocation.TheVariants.{OnUntyped, OnThread, OnCNode, OnFrame, OnTable, OnControl, OnHandler}
use Rattle.model.specs.declared.labels.Label.{Label}
use Rattle.model.specs.declared.lookup_failures.LookupFailure.{LookupFailure}
use Rattle.model.specs.declared.system_calls.ReceiveCall.{ReceiveCall}
use Rattle.model.specs.declared.system_calls.ReceiveCall.TheVariants.{Receiving, Polling}
use Rattle.model.specs.declared.system_calls.SendCall.{SendCall}
use Rattle.model.specs.declared.system_calls.SendCall.TheVariants.{Calling, Sending, Trying}
use Rattle.model.specs.declared.system_calls.SystemCall.{SystemCall}
use Rattle.model.specs.declared.system_calls.SystemCall.TheVariants.{Sends, Receives, RepliesAndReceives, Replies, Yields, PutsCharacter}
use Rattle.model.specs.Acceptance.Accepted.{IsAccepted}
use Rattle.model.specs.Acceptance.NotedStates.{NotedSlot}
use Rattle.model.specs.Acceptance.ThreadInvariants.{tcb_of}
use Rattle.model.specs.Capabilities.Slots.{Slots, capability_at}
use Rattle.model.specs.Images.Described.{Numbered, numbered_threads}
use Rattle.model.specs.Images.Image.{Image}
use Rattle.model.specs.Kernel.Interrupts.{Signal, acknowledge, binding, interrupt, with_pending}
use Rattle.model.specs.Kernel.Invocations.{perform}
use Rattle.model.specs.Kernel.Messages.{a7, passes, signals}
use Rattle.model.specs.Kernel.Scheduling.{current, is_runnable}
use Rattle.model.specs.Kernel.State.{NotificationState, State, as_thread, notification_at, put, thread_at}
use Rattle.model.specs.Kernel.Steps.{answered, call_of, completed, named_slot, registers_of, step}
use Rattle.model.specs.Machine.ProgramMemory.{read}
use Rattle.headline.proofs.Laws.{invocation-leaves}
use Rattle.headline.specs.calls.Messages.{IsInvoked}
use Rattle.headline.specs.facts.Standing.{AllStand}
use Rattle.headline.specs.invocations.Invoking.{Invokes}
use Rattle.headline.specs.invocations.Laws.{Laws}
use Rattle.headline.specs.invocations.Performed.{MayInvoke}
use Rattle.headline.specs.moves.Steps.{MakesCall}
use Rattle.response.specs.Asking.{Asked, Acknowledges, Rings, Calls, SendsTo, Tries, Answers, Asks_nothing, asked_known}
use Rattle.response.specs.Asking.{asked_to_receive, asked_to_send, capability_found}
use Rattle.response.proofs.AskedNow.{asked_now}
use Rattle.response.proofs.Interrupts.{put-at}
use Rattle.typestate.specs.Calls.{call_on}

-- ---- only a send to a line's handler acknowledges

abbrev is_ack : Asked → Bool
is_ack (Acknowledges number) = true
is_ack _ = false

never-acks : {A : Type 0} (asked : Asked) (number : ℕ) → is_ack asked ≡ false → asked ≡ Acknowledges number → A
never-acks asked number never is = let clash : true ≡ false = sym (ap is_ack is) ∙ never in absurd cc

one-line : {a b : ℕ} → Acknowledges a ≡ Acknowledges b → a ≡ b
one-line both = cc

handler-acked : (kind : SendCall) (c : Cap) (number : ℕ) → asked_to_send kind c ≡ Acknowledges number → c ≡ InterruptHandler number
handler-acked kind (InterruptHandler irq_line) number is = ap InterruptHandler (one-line is)
handler-acked Calling (Endpoint offset r badge) number is = never-acks (Calls offset) number refl is
handler-acked Sending (Endpoint offset r badge) number is = never-acks (SendsTo offset) number refl is
handler-acked Trying (Endpoint offset r badge) number is = never-acks (Tries offset) number refl is
handler-acked kind (Notification offset r badge) number is = never-acks (Rings offset) number refl is
handler-acked kind Empty number is = never-acks Asks_nothing number refl is
handler-acked kind (Untyped offset bits watermark) number is = never-acks Asks_nothing number refl is
handler-acked kind (CNode offset radix guard) number is = never-acks Asks_nothing number refl is
handler-acked kind (Frame offset r mapping) number is = never-acks Asks_nothing number refl is
handler-acked kind (PageTable offset mapping) number is = never-acks Asks_nothing number refl is
handler-acked kind (Tcb offset) number is = never-acks Asks_nothing number refl is
handler-acked kind (RootTable offset) number is = never-acks Asks_nothing number refl is
handler-acked kind InterruptControl number is = never-acks Asks_nothing number refl is

receives-no-ack : (replies : Bool) (kind : ReceiveCall) (c : Cap) → is_ack (asked_to_receive replies kind c) ≡ false
receives-no-ack replies Receiving (Endpoint offset r badge) = refl
receives-no-ack replies Receiving (Notification offset r badge) = refl
receives-no-ack replies Receiving Empty = refl
receives-no-ack replies Receiving (Untyped offset bits watermark) = refl
receives-no-ack replies Receiving (CNode offset radix guard) = refl
receives-no-ack replies Receiving (Frame offset r mapping) = refl
receives-no-ack replies Receiving (PageTable offset mapping) = refl
receives-no-ack replies Receiving (Tcb offset) = refl
receives-no-ack replies Receiving (RootTable offset) = refl
receives-no-ack replies Receiving InterruptControl = refl
receives-no-ack replies Receiving (InterruptHandler irq_line) = refl
receives-no-ack replies Polling (Endpoint offset r badge) = refl
receives-no-ack replies Polling (Notification offset r badge) = refl
receives-no-ack replies Polling Empty = refl
receives-no-ack replies Polling (Untyped offset bits watermark) = refl
receives-no-ack replies Polling (CNode offset radix guard) = refl
receives-no-ack replies Polling (Frame offset r mapping) = refl
receives-no-ack replies Polling (PageTable offset mapping) = refl
receives-no-ack replies Polling (Tcb offset) = refl
receives-no-ack replies Polling (RootTable offset) = refl
receives-no-ack replies Polling InterruptControl = refl
receives-no-ack replies Polling (InterruptHandler irq_line) = refl

-- the call that acknowledges, and the slot that it names
record IsAck (slots : Slots) (number : ℕ) (call : Option SystemCall) (found : Result ℕ LookupFailure) : Type 0 where
  pub kind : SendCall
  pub slot : ℕ
  pub call_is : call ≡ Some (Sends kind)
  pub found_is : found ≡ Ok slot
  pub handler : capability_at slots slot ≡ InterruptHandler number

ack-sent : (slots : Slots) (number : ℕ) (kind : SendCall) (found : Result ℕ LookupFailure) → asked_to_send kind (capability_found slots found)
    ≡ Acknowledges number → IsAck slots number (Some (Sends kind)) found
ack-sent slots number kind (Ok slot) is = record {
  kind = kind;
  slot = slot;
  call_is = refl;
  found_is = refl;
  handler = handler-acked kind (capability_at slots slot) number is;
}
ack-sent slots number kind (Err failure) is = never-acks Asks_nothing number refl is

ack-is : (slots : Slots) (number : ℕ) (call : Option SystemCall) (found : Result ℕ LookupFailure)
    → asked_known call (capability_found slots found) ≡ Acknowledges number → IsAck slots number call found
ack-is slots number None found is = never-acks Asks_nothing number refl is
ack-is slots number (Some (Sends kind)) found is = ack-sent slots number kind found is
ack-is slots number (Some (Receives kind)) found is =
    never-acks (asked_to_receive false kind (capability_found slots found)) number (receives-no-ack false kind (capability_found slots found)) is
ack-is slots number (Some RepliesAndReceives) found is =
    never-acks (asked_to_receive true Receiving (capability_found slots found)) number (receives-no-ack true Receiving (capability_found slots found)) is
ack-is slots number (Some Replies) found is = never-acks Answers number refl is
ack-is slots number (Some Yields) found is = never-acks Asks_nothing number refl is
ack-is slots number (Some PutsCharacter) found is = never-acks Asks_nothing number refl is

-- ---- what it leaves

signals-pending : (s : State) (o badge : ℕ) (n : NotificationState) (l : List ℕ) → (signals s o badge n l).pending ≡ s.pending
signals-pending s o badge n [] = refl
signals-pending s o badge n (x ∷ others) = refl

-- the line is open, or what was pending is no more
pub data Acked (s : State) (number : ℕ) (after : State) : Type 0 where
  opened : after.masked number ≡ false → Acked s number after
  cleared : s.pending number ≡ true → after.pending number ≡ false → Acked s number after

-- an answer leaves all lines
record SameLines (s after : State) : Type 0 where
  pub masked : after.masked ≡ s.masked
  pub pending : after.pending ≡ s.pending

answered-lines : (s : State) (thread : ℕ) (kind : SendCall) → SameLines s (answered s thread kind 0)
answered-lines s thread Calling = record { masked = refl; pending = refl }
answered-lines s thread Sending = record { masked = refl; pending = refl }
answered-lines s thread Trying = record { masked = refl; pending = refl }

completed-lines : (s : State) (thread : ℕ) (kind : SendCall) → SameLines s (completed s thread kind)
completed-lines s thread kind = elim (is_some (as_thread (s.objects thread))) as (λ b. SameLines s
    (if b then (if is_runnable (thread_at s thread).status then answered s thread kind 0 else passes s thread) else s)) [
      | true ↦ elim (is_runnable (thread_at s thread).status) as (λ b. SameLines s (if b then answered s thread kind 0 else passes s thread)) [
        | true ↦ answered-lines s thread kind
        | false ↦ record { masked = refl; pending = refl }
      ]
      | false ↦ record { masked = refl; pending = refl }
    ]

completed-acked : (s after : State) (number thread : ℕ) (kind : SendCall) → Acked s number after → Acked s number (completed after thread kind)
completed-acked s after number thread kind (opened is) = opened (ap (λ (f : ℕ → Bool). f number) (completed-lines after thread kind).masked ∙ is)
completed-acked s after number thread kind (cleared was is) =
    cleared was (ap (λ (f : ℕ → Bool). f number) (completed-lines after thread kind).pending ∙ is)

module _ (s : State) (number : ℕ) (bound : Signal) (is : binding s number ≡ Some bound) where
  abbrev unmasked : State
  unmasked = record s { masked = put s.masked number false }

  abbrev taken : State
  taken = with_pending unmasked number false

  delivered : s.pending number ≡ true → Acked s number (interrupt taken number bound)
  delivered was =
      cleared was
      (ap (λ (f : ℕ → Bool). f number) (signals-pending taken bound.notification bound.badge (notification_at taken bound.notification)
      (notification_at taken bound.notification).waiters)
      ∙ put-at s.pending number false)

  acknowledge-acks : Acked s number (acknowledge s number)
  acknowledge-acks = elim (s.pending number)
      as (λ b. s.pending number ≡ b → Acked s number (if b then option_map_or (interrupt taken number) (binding s number) unmasked else unmasked)) [
        | true ↦ λ was. subst (λ (b : Option Signal). Acked s number (option_map_or (interrupt taken number) b unmasked)) (sym is) (delivered was)
        | false ↦ λ _. opened (put-at s.masked number false)
      ] refl

-- ---- the step

refused : {A : Type 0} → false ≡ true → A
refused clash = absurd cc

module _ (laws : Laws) (bytes : List ℕ) (image : Image) (s : State) (labels : List Label) (accepted : IsAccepted bytes image) (all : AllStand image s labels)
    (t : Numbered) (listed : Contains (numbered_threads image) t) (now : current s ≡ Some (tcb_of image t)) (number : ℕ) (bound : Signal)
    (is : binding s number ≡ Some bound) (asks : asked_now s (tcb_of image t) ≡ Acknowledges number) where
  abbrev tcb : ℕ
  tcb = tcb_of image t

  ack : IsAck s.slots number (call_of (read (registers_of s (tcb_of image t)) a7)) (named_slot s (tcb_of image t))
  ack = ack-is s.slots number (call_of (read (registers_of s tcb) a7)) (named_slot s tcb) asks

  invokes : Invokes s (tcb_of image t)
  invokes = record {
    kind = IsAck.kind ack;
    slot = IsAck.slot ack;
    number = IsAck.call_is ack;
    named = IsAck.found_is ack;
    invoked = subst IsInvoked (sym (IsAck.handler ack)) tt;
  }

  module _ (slot : ℕ) (named : named_slot s (tcb_of image t) ≡ Ok slot) where
    handler : capability_at s.slots slot ≡ InterruptHandler number
    handler =
        let same : IsAck.slot ack ≡ slot = (let both : ◌≡◌ {A = Result ℕ LookupFailure} (Ok (IsAck.slot ack)) (Ok slot) = sym (IsAck.found_is ack)
        ∙ named in cc) in
        sym (ap (capability_at s.slots) same) ∙ IsAck.handler ack

    other-kind : {A : Type 0} (c : Cap) → capability_at s.slots slot ≡ c → (InterruptHandler number ≡ c → ⊥) → A
    other-kind c held other = absurd (other (sym handler ∙ held))

    by-call : (state : List NotedSlot) (c : Invocation) → MayInvoke image t s state slot c → (after : State)
        → perform s (call_on image t.thread slot (capability_at s.slots slot)) c ≡ Ok after → Acked s number after
    by-call state (OnHandler irq_line Acknowledge) m after made =
        let line : number ≡ irq_line = (let both : InterruptHandler number ≡ InterruptHandler irq_line = sym handler ∙ m.on in cc) in
        let same : acknowledge s irq_line ≡ after = (let e : ◌≡◌ {A = Result State KError} (Ok (acknowledge s irq_line)) (Ok after) = made in cc) in
        subst (Acked s number) (ap (acknowledge s) line ∙ same) (acknowledge-acks s number bound is)
    by-call state (OnHandler irq_line (SetNotification name)) m after made = refused m.may
    by-call state (OnHandler irq_line Clear) m after made = refused m.may
    by-call state (OnUntyped memory asked) m after made =
        other-kind (Untyped memory.offset memory.bits memory.watermark) m.on (λ clash. absurd cc)
    by-call state (OnCNode c) m after made = other-kind (CNode m.on.0 m.on.1 m.on.2) m.on.3 (λ clash. absurd cc)
    by-call state (OnFrame held c) m after made = other-kind (Frame m.on.0 held m.on.1) m.on.2 (λ clash. absurd cc)
    by-call state (OnTable c) m after made = refused m.may
    by-call state (OnThread thread c) m after made = refused m.may
    by-call state (OnControl irq_line destination) m after made = refused m.may

  pub acked : MakesCall s (tcb_of image t) → Acked s number (step s Step).0
  acked makes =
      invocation-leaves laws bytes image s labels accepted all t listed now (Acked s number)
      (λ own point state left at kind slot c named may after made. completed-acked s after number tcb kind (by-call slot named state.slots c may after made))
      makes invokes
