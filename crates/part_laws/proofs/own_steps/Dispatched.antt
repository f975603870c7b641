-- An instruction of a thread of the part, on both sides: what it does to registers and memory, and which call it makes.
use Rattle.std.proofs.Common.{ℕ, ◌≡◌, ◌∙◌, ◌+◌, ◌==◌, ◌%◌, ◌^◌, ◌⊎◌, inl, inr, Bool, true, false, if◌then◌else◌, List, [], ◌∷◌, Option, Some, None, Result}
use Rattle.std.proofs.Common.{Ok, Err}
use Rattle.std.proofs.Common.{refl, sym, ap, ap₂, subst, arith}
use Rattle.std.specs.Prelude.{Contains}
use Rattle.std.specs.Option.{option_map_or}
use Rattle.std.proofs.lemmas.Bool.{false≢true}
use Rattle.model.specs.declared.capabilities.Cap.{Cap}
use Rattle.model.specs.declared.capabilities.Cap.TheVariants.{Empty, Untyped, Endpoint, Notification, CNode, Frame, PageTable, Tcb, RootTable, InterruptControl}
use Rattle.model.specs.declared.capabilities.Cap.TheVariants.{InterruptHandler}
use Rattle.model.specs.declared.instructions.Access.TheVariants.{Fetch}
use Rattle.model.specs.declared.instructions.AccessSize.TheVariants as sizes
use Rattle.model.specs.declared.instructions.Cause.TheVariants.{Misaligned}
use Rattle.model.specs.declared.instructions.Exec.{Exec}
use Rattle.model.specs.declared.instructions.Exec.TheVariants.{Next, Ecall, Trap, Memory}
use Rattle.model.specs.declared.instructions.Instr.{Instr}
use Rattle.model.specs.declared.instructions.Instr.TheVariants as instructions
use Rattle.model.specs.declared.instructions.MemoryFault.{MemoryFault}
use Rattle.model.specs.declared.labels.Label.TheVariants.{Ran}
use Rattle.model.specs.declared.labels.Outcome.TheVariants.{Plain, Put}
use Rattle.model.specs.declared.lookup_failures.LookupFailure.{LookupFailure}
use Rattle.model.specs.declared.system_calls.ReceiveCall.{ReceiveCall}
use Rattle.model.specs.declared.system_calls.ReceiveCall.TheVariants.{Receiving, Polling}
use Rattle.model.specs.declared.system_calls.SendCall.{SendCall}
use Rattle.model.specs.declared.system_calls.SendCall.TheVariants.{Calling, Sending, Trying}
use Rattle.model.specs.declared.system_calls.SystemCall.{SystemCall}
use Rattle.model.specs.declared.system_calls.SystemCall.TheVariants.{Sends, Receives, RepliesAndReceives, Replies, Yields, PutsCharacter}
use Rattle.model.specs.Acceptance.Authority.{MakesCall}
use Rattle.model.specs.Capabilities.Lookup.{called_slot}
use Rattle.model.specs.Capabilities.Rights.{may_grant_reply, may_read, may_write}
use Rattle.model.specs.Capabilities.Slots.{Slots, capability_at}
use Rattle.model.specs.Images.Image.{Image}
use Rattle.model.specs.Kernel.AddressSpaces.{content_of, with_content}
use Rattle.model.specs.Kernel.Messages.{Message, a0, a1, a7, deliver_word, info_word, message_between, receive, receives, replied, reply, reply_to_call}
use Rattle.model.specs.Kernel.Messages.{reply_to_fault, resumption, send, sends, tries_to_send, try_to_receive, try_to_send, waits_to_receive, with_caller}
use Rattle.model.specs.Kernel.Messages.{with_registers}
use Rattle.model.specs.Kernel.Scheduling.{block, full_slice, wake, yielded}
use Rattle.model.specs.Kernel.State.{State, Status, Inactive, Runnable, Blocked, AwaitsReply, AwaitsHandler, Object, ThreadObject, EndpointState, Sender}
use Rattle.model.specs.Kernel.State.{BySend, ByCall, ThreadState, as_endpoint, cspace_slot, endpoint_at, new_endpoint, thread_at, with_thread}
use Rattle.model.specs.Kernel.Steps.{Done, after_effect, answered, call_of, calls, calls_known, cspace_of, invokes, memory_base, named_slot, receive_by}
use Rattle.model.specs.Kernel.Steps.{receive_call}
use Rattle.model.specs.Kernel.Steps.{receive_named, receive_on_endpoint, receive_on_notification, registers_of, runs, runs_decoded, runs_fetched}
use Rattle.model.specs.Kernel.Steps.{runs_instruction, send_by, send_call, send_named, send_on, sender, system_call}
use Rattle.model.specs.Kernel.Waits.{is_error, is_fault}
use Rattle.model.specs.Machine.Decoding.{decoded}
use Rattle.model.specs.Machine.Effects.{Effect, branches, effect, is_taken, jumps, loads, next_pc, plus, stores}
use Rattle.model.specs.Machine.ProgramMemory.{Content, RegisterFile, loaded, read, write}
use Rattle.headline.specs.calls.Messages.{IsInvoked}
use Rattle.headline.specs.parts.Agreeing.{WaitInside}
use Rattle.headline.specs.parts.Parts.{Part, is_thread_in}
use Rattle.headline.specs.parts.Views.{SameView}
use Rattle.part_laws.specs.own.Dispatch.{CallsOnBoth, LeadsTo, RunsOnBoth, SameDone}
use Rattle.part_laws.specs.Agreeing.{AgreeFor, HasBuffers, IsByteOfPart, IsOfPart}
use Rattle.part_laws.proofs.changes.Agreeing.{changed-agrees, same-thread, to_tail-agrees}
use Rattle.part_laws.proofs.changes.Messages.{buffers-carried, bytes-agree, passes-agree, passes-with-agree, receive-agrees, registers-agree, send-agrees}
use Rattle.part_laws.proofs.changes.Signals.{poll-agrees, reply-agrees, wait-agrees}
use Rattle.part_laws.proofs.own_steps.SameViews.{does-same, same-loaded}

-- ---- endpoints and slots over a reply

-- what was there is there, or no endpoint is
abbrev KeepsEndpoint : Option Object → Option Object → Type 0
KeepsEndpoint o p = (as_endpoint p ≡ as_endpoint o) ⊎ (as_endpoint p ≡ None)

over-put : (own : ThreadState) (o p : Option Object) → KeepsEndpoint o p → (b : Bool) → KeepsEndpoint o (if b then Some (ThreadObject own) else p)
over-put own o p keeps true = inr refl
over-put own o p keeps false = keeps

keeps-put : (s : State) (x : ℕ) (own : ThreadState) (e : ℕ) → KeepsEndpoint (s.objects e) ((with_thread s x own).objects e)
keeps-put s x own e = over-put own (s.objects e) (s.objects e) (inl refl) (e == x)

module _ (s : State) (e : ℕ) where
  abbrev Still : Option Object → Type 0
  Still p = KeepsEndpoint (s.objects e) p

  keeps-call : (a : State) (x caller : ℕ) (m : Message) → Still (a.objects e) → Still ((reply_to_call a x caller m).objects e)
  keeps-call a x caller m keeps =
      over-put _ (s.objects e) _ (over-put _ (s.objects e) _ (over-put _ (s.objects e) (a.objects e) keeps (e == caller)) (e == caller)) (e == caller)

  keeps-fault : (a : State) (x : ℕ) (m : Message) → Still (a.objects e) → Still ((reply_to_fault a x m).objects e)
  keeps-fault a x m keeps = by (m.label == 0)
    where
      by : (b : Bool) → Still
          ((if b then wake (with_registers a x (record (thread_at a x).registers { pc = resumption (thread_at a x).registers.pc m.words })) x
          else block a x Inactive).objects e)
      by true = over-put _ (s.objects e) _ (over-put _ (s.objects e) (a.objects e) keeps (e == x)) (e == x)
      by false = over-put _ (s.objects e) (a.objects e) keeps (e == x)

  keeps-replied : (a : State) (x caller : ℕ) (status : Status) (m : Message) → Still (a.objects e) → Still ((replied a x caller status m).objects e)
  keeps-replied a x caller AwaitsReply m keeps = keeps-call a x caller m keeps
  keeps-replied a x caller AwaitsHandler m keeps = keeps-fault a caller m keeps
  keeps-replied a x caller Inactive m keeps = keeps
  keeps-replied a x caller Runnable m keeps = keeps
  keeps-replied a x caller (Blocked queue) m keeps = keeps

keeps-reply : (s : State) (x e : ℕ) → KeepsEndpoint (s.objects e) ((reply s x).objects e)
keeps-reply s x e = by (thread_at s x).caller
  where
    by : (o : Option ℕ) → KeepsEndpoint (s.objects e)
        ((option_map_or (λ caller. replied (with_caller s x None) x caller (thread_at s caller).status (message_between s x caller)) o s).objects e)
    by None = inl refl
    by (Some caller) =
        keeps-replied s e (with_caller s x None) x caller (thread_at s caller).status (message_between s x caller)
        (keeps-put s x (record (thread_at s x) { caller = None }) e)

slots-fault : (s : State) (x : ℕ) (m : Message) → (reply_to_fault s x m).slots ≡ s.slots
slots-fault s x m = by (m.label == 0)
  where
    by : (b : Bool) → (if b then wake (with_registers s x (record (thread_at s x).registers { pc = resumption (thread_at s x).registers.pc m.words })) x
        else block s x Inactive).slots ≡ s.slots
    by true = refl
    by false = refl

slots-replied : (s : State) (x caller : ℕ) (status : Status) (m : Message) → (replied s x caller status m).slots ≡ s.slots
slots-replied s x caller AwaitsReply m = refl
slots-replied s x caller AwaitsHandler m = slots-fault s caller m
slots-replied s x caller Inactive m = refl
slots-replied s x caller Runnable m = refl
slots-replied s x caller (Blocked queue) m = refl

slots-reply : (s : State) (x : ℕ) → (reply s x).slots ≡ s.slots
slots-reply s x = by (thread_at s x).caller
  where
    by : (o : Option ℕ) → (option_map_or (λ caller. replied (with_caller s x None) x caller (thread_at s caller).status (message_between s x caller)) o s).slots
        ≡ s.slots
    by None = refl
    by (Some caller) = slots-replied (with_caller s x None) x caller (thread_at s caller).status (message_between s x caller)

-- ---- which instructions make a call

abbrev is_call : Exec → Bool
is_call Next = false
is_call Ecall = true
is_call (Trap cause) = false
is_call (Memory address access) = false

-- ---- both sides

module _ (image : Image) (part : Part) (s t : State) (x : ℕ) (both : RunsOnBoth image part s t x) where
  abbrev in_part : ℕ → Bool
  in_part = is_thread_in image part

  abbrev Same : Done → Done → Type 0
  Same a b = SameDone image part a b

  abbrev Agree : State → State → Type 0
  Agree a b = AgreeFor image part a b

  one : in_part x ≡ true
  one = both.inside

  abbrev Quiet : Done → Type 0
  Quiet a = is_fault (Ran (memory_base + x) (registers_of s x).pc a.1) ≡ false

  abbrev Right : Done → Type 0
  Right a = is_error (Ran (memory_base + x) (registers_of s x).pc a.1) ≡ false

  answered-agrees : (a b : State) → Agree a b → (kind : SendCall) (number : ℕ) → Agree (answered a x kind number) (answered b x kind number)
  answered-agrees a b agree Calling number =
      passes-with-agree image part a b x (write (write (registers_of a x) a0 0) a1 (info_word number 0))
      (write (write (registers_of b x) a0 0) a1 (info_word number 0))
      (ap (λ (own : ThreadState). write (write own.registers a0 0) a1 (info_word number 0)) (same-thread image part a b x agree one)) agree one
  answered-agrees a b agree Sending number = passes-agree image part a b x agree one
  answered-agrees a b agree Trying number = passes-agree image part a b x agree one

  same-endpoint : (a b : State) (e : ℕ) → Agree a b → IsOfPart image part e → endpoint_at a e ≡ endpoint_at b e
  same-endpoint a b e agree of = ap (λ (o : Option Object). option_map_or (λ n. n) (as_endpoint o) new_endpoint) (agree.objects e of)

  -- ---- choices

  if-right : (b : Bool) (p q o r : Done) → (b ≡ true → Same p q) → Right (if b then p else o)
      → is_error (Ran (memory_base + x) (registers_of s x).pc o.1) ≡ true → Same (if b then p else o) (if b then q else r)
  if-right true p q o r given right wrong = given refl
  if-right false p q o r given right wrong = absurd (false≢true (sym right ∙ wrong))

  if-quiet : (b : Bool) (p q o r : Done) → (b ≡ true → Same p q) → Quiet (if b then p else o)
      → is_fault (Ran (memory_base + x) (registers_of s x).pc o.1) ≡ true → Same (if b then p else o) (if b then q else r)
  if-quiet true p q o r given quiet wrong = given refl
  if-quiet false p q o r given quiet wrong = absurd (false≢true (sym quiet ∙ wrong))

  yielded-agrees : (a b : State) → Agree a b → Agree (yielded a x) (yielded b x)
  yielded-agrees a b agree =
      to_tail-agrees image part _ _ x (changed-agrees image part a b x (λ own. record own { slice = full_slice }) agree one) one

  module _ (c : CallsOnBoth image part s t x) where
    -- ---- calls that send

    tries-agree : (e : ℕ) (y : Sender) → IsOfPart image part e → in_part y.thread ≡ true → Agree (try_to_send s e y) (try_to_send t e y)
    tries-agree e y of inside =
        let given = send-agrees image part s t e y both.agree both.buffers of inside (c.waiters e of) in
        let same = ap (λ (n : EndpointState). n.receivers) (same-endpoint s t e both.agree of) in
        subst (λ (all : List ℕ). Agree (try_to_send s e y) (tries_to_send t e y all)) same
        (by (endpoint_at s e).receivers (subst (λ (all : List ℕ). Agree (send s e y) (sends t e y all)) (sym same) given))
      where
        by : (all : List ℕ) → Agree (sends s e y all) (sends t e y all) → Agree (tries_to_send s e y all) (tries_to_send t e y all)
        by [] given = passes-agree image part s t y.thread both.agree inside
        by (r ∷ others) given = given

    send-on-agrees : (kind : SendCall) (e badge : ℕ) (grant : Bool) → IsOfPart image part e
        → Same (send_on s x kind e badge grant) (send_on t x kind e badge grant)
    send-on-agrees Calling e badge grant of =
        record { state = send-agrees image part s t e (sender x ByCall badge grant) both.agree both.buffers of one (c.waiters e of); outcome = refl }
    send-on-agrees Sending e badge grant of =
        record { state = send-agrees image part s t e (sender x BySend badge grant) both.agree both.buffers of one (c.waiters e of); outcome = refl }
    send-on-agrees Trying e badge grant of = record { state = tries-agree e (sender x BySend badge grant) of one; outcome = refl }

    module _ (kind : SendCall) (slot : ℕ) (number : call_of (read (registers_of s x) a7) ≡ Some (Sends kind)) (named : named_slot s x ≡ Ok slot) where
      invoked : (held : Cap) → capability_at s.slots slot ≡ held → IsInvoked held → Same (invokes s x kind slot held) (invokes t x kind slot held)
      invoked held is some =
          subst (λ (d : Cap). Same (invokes s x kind slot d) (invokes t x kind slot d)) is (c.invocation kind slot number named (subst IsInvoked (sym is) some))

      send-by-agrees : (held : Cap) → capability_at s.slots slot ≡ held → Right (send_by s x kind slot held)
          → Same (send_by s x kind slot held) (send_by t x kind slot held)
      send-by-agrees (Endpoint offset r badge) is right =
          if-right (may_write r) _ _ _ _
          (λ may. send-on-agrees kind offset badge (may_grant_reply r)
          (c.endpoint (read (registers_of s x) a0) slot offset badge r named is (inl may))) right refl
      send-by-agrees (Notification offset r badge) is right =
          if-right (may_write r) _ _ _ _
          (λ may. record {
            state = answered-agrees _ _ (c.rings (read (registers_of s x) a0) slot offset badge r named is may) kind 0;
            outcome = refl;
          }) right refl
      send-by-agrees Empty is right = invoked _ is tt
      send-by-agrees (Untyped offset bits watermark) is right = invoked _ is tt
      send-by-agrees (CNode offset radix guard) is right = invoked _ is tt
      send-by-agrees (Frame offset r mapping) is right = invoked _ is tt
      send-by-agrees (PageTable offset mapping) is right = invoked _ is tt
      send-by-agrees (Tcb offset) is right = invoked _ is tt
      send-by-agrees (RootTable offset) is right = invoked _ is tt
      send-by-agrees InterruptControl is right = invoked _ is tt
      send-by-agrees (InterruptHandler line) is right = invoked _ is tt

    send-named-agrees : (kind : SendCall) → call_of (read (registers_of s x) a7) ≡ Some (Sends kind) → (r : Result ℕ LookupFailure) → named_slot s x ≡ r
        → Quiet (send_named s x kind r) → Right (send_named s x kind r) → Same (send_named s x kind r) (send_named t x kind r)
    send-named-agrees kind number (Ok slot) named quiet right =
        subst (λ (held : Cap). Same (send_by s x kind slot (capability_at s.slots slot)) (send_by t x kind slot held))
        (c.held (read (registers_of s x) a0) slot named)
        (send-by-agrees kind slot number named (capability_at s.slots slot) refl right)
    send-named-agrees Calling number (Err failure) named quiet right = absurd (false≢true (sym quiet))
    send-named-agrees Sending number (Err failure) named quiet right = absurd (false≢true (sym quiet))
    send-named-agrees Trying number (Err failure) named quiet right =
        record { state = passes-agree image part s t x both.agree one; outcome = refl }

    -- ---- calls that receive, from a state in which other threads have changed

    abbrev AllWaitInside : State → Type 0
    AllWaitInside a = (e : ℕ) → IsOfPart image part e → WaitInside image part (endpoint_at a e)

    inside-after : (a b : State) → ((e : ℕ) → KeepsEndpoint (a.objects e) (b.objects e)) → AllWaitInside a → AllWaitInside b
    inside-after a b keeps all e of = elim (keeps e) [
      | inl same ↦ subst (λ (o : Option EndpointState). WaitInside image part (option_map_or (λ n. n) o new_endpoint)) (sym same) (all e of)
      | inr none ↦ subst (λ (o : Option EndpointState). WaitInside image part (option_map_or (λ n. n) o new_endpoint)) (sym none)
          (record { receivers = λ r there. absurd (none-in r there); senders = λ y there. absurd (none-sent y there) })
    ]
      where
        none-in : (r : ℕ) → Contains [] r → ⊥
        none-in r there = let less = there.1 in omega (arith, less)

        none-sent : (y : Sender) → Contains [] y → ⊥
        none-sent y there = let less = there.1 in omega (arith, less)

    module _ (a b : State) (agree : Agree a b) (here : a.slots ≡ s.slots) (there : b.slots ≡ t.slots) (inside : AllWaitInside a) where
      has : HasBuffers image part a
      has = buffers-carried image part s a here both.buffers

      first : AllWaitInside (with_caller a x None)
      first = inside-after a (with_caller a x None) (keeps-put a x (record (thread_at a x) { caller = None })) inside

      polls-agree : (e : ℕ) → IsOfPart image part e → Agree (try_to_receive a e x) (try_to_receive b e x)
      polls-agree e of =
          let p = with_caller a x None in
          let q = with_caller b x None in
          let ready : Agree p q = changed-agrees image part a b x (λ own. record own { caller = None }) agree one in
          let same : (endpoint_at p e).senders ≡ (endpoint_at q e).senders = ap (λ (n : EndpointState). n.senders) (same-endpoint p q e ready of) in
          let given : Agree (receive a e x) (receive b e x) = receive-agrees image part a b e x agree has of one (first e of) in
          subst (λ (all : List Sender). Agree (try_to_receive a e x) (receives q e x (deliver_word q x 0) all)) same
          (by p q ready (endpoint_at p e).senders
          (subst (λ (all : List Sender). Agree (receive a e x) (receives q e x (waits_to_receive q e x) all)) (sym same) given))
        where
          by : (p q : State) → Agree p q → (all : List Sender)
              → Agree (receives p e x (waits_to_receive p e x) all) (receives q e x (waits_to_receive q e x) all)
              → Agree (receives p e x (deliver_word p x 0) all) (receives q e x (deliver_word q x 0) all)
          by p q ready [] given =
              passes-with-agree image part p q x (write (thread_at p x).registers a0 0) (write (thread_at q x).registers a0 0)
              (ap (λ (own : ThreadState). write own.registers a0 0) (same-thread image part p q x ready one)) ready one
          by p q ready (y ∷ others) given = given

      receive-on-agrees : (kind : ReceiveCall) (e : ℕ) → IsOfPart image part e → Same (receive_on_endpoint a x kind e) (receive_on_endpoint b x kind e)
      receive-on-agrees Receiving e of = record { state = receive-agrees image part a b e x agree has of one (first e of); outcome = refl }
      receive-on-agrees Polling e of = record { state = polls-agree e of; outcome = refl }

      wait-on-agrees : (kind : ReceiveCall) (n : ℕ) → IsOfPart image part n → Same (receive_on_notification a x kind n) (receive_on_notification b x kind n)
      wait-on-agrees Receiving n of = record { state = wait-agrees image part a b n x agree of one; outcome = refl }
      wait-on-agrees Polling n of = record { state = poll-agrees image part a b n x agree of one; outcome = refl }

      receive-by-agrees : (kind : ReceiveCall) (address slot : ℕ) → LeadsTo s x address slot → (held : Cap) → capability_at s.slots slot ≡ held
          → Quiet (receive_by a x kind held) → Same (receive_by a x kind held) (receive_by b x kind held)
      receive-by-agrees kind address slot leads (Endpoint offset r badge) is quiet =
          if-quiet (may_read r) _ _ _ _ (λ may. receive-on-agrees kind offset (c.endpoint address slot offset badge r leads is (inr may))) quiet refl
      receive-by-agrees kind address slot leads (Notification offset r badge) is quiet =
          if-quiet (may_read r) _ _ _ _ (λ may. wait-on-agrees kind offset (c.notification address slot offset badge r leads is may)) quiet refl
      receive-by-agrees kind address slot leads Empty is quiet = absurd (false≢true (sym quiet))
      receive-by-agrees kind address slot leads (Untyped offset bits watermark) is quiet = absurd (false≢true (sym quiet))
      receive-by-agrees kind address slot leads (CNode offset radix guard) is quiet = absurd (false≢true (sym quiet))
      receive-by-agrees kind address slot leads (Frame offset r mapping) is quiet = absurd (false≢true (sym quiet))
      receive-by-agrees kind address slot leads (PageTable offset mapping) is quiet = absurd (false≢true (sym quiet))
      receive-by-agrees kind address slot leads (Tcb offset) is quiet = absurd (false≢true (sym quiet))
      receive-by-agrees kind address slot leads (RootTable offset) is quiet = absurd (false≢true (sym quiet))
      receive-by-agrees kind address slot leads InterruptControl is quiet = absurd (false≢true (sym quiet))
      receive-by-agrees kind address slot leads (InterruptHandler line) is quiet = absurd (false≢true (sym quiet))

      receive-named-agrees : (kind : ReceiveCall) (address : ℕ) (r : Result ℕ LookupFailure) → called_slot s.slots (cspace_of s x) address ≡ r
          → Quiet (receive_named a x kind r) → Same (receive_named a x kind r) (receive_named b x kind r)
      receive-named-agrees kind address (Err failure) is quiet = absurd (false≢true (sym quiet))
      receive-named-agrees kind address (Ok slot) is quiet =
          let held : capability_at a.slots slot ≡ capability_at s.slots slot = ap (λ (m : Slots). capability_at m slot) here in
          let other : capability_at s.slots slot ≡ capability_at b.slots slot = c.held address slot is ∙ sym (ap (λ (m : Slots). capability_at m slot) there) in
          subst (λ (k : Cap). Same (receive_by a x kind k) (receive_by b x kind (capability_at b.slots slot))) (sym held)
          (subst (λ (k : Cap). Same (receive_by a x kind (capability_at s.slots slot)) (receive_by b x kind k)) other
          (receive-by-agrees kind address slot is (capability_at s.slots slot) refl (subst (λ (k : Cap). Quiet (receive_by a x kind k)) held quiet)))

      receive-call-agrees : (kind : ReceiveCall) → Quiet (receive_call a x kind) → Same (receive_call a x kind) (receive_call b x kind)
      receive-call-agrees kind quiet =
          let address : ℕ = read (registers_of a x) a0 in
          let found : Result ℕ LookupFailure = called_slot s.slots (cspace_of s x) address in
          let left : named_slot a x ≡ found = ap (λ (m : Slots). called_slot m (capability_at m (cspace_slot x)) address) here in
          let right : named_slot b x ≡ found =
          ap (λ (own : ThreadState). called_slot b.slots (cspace_of b x) (read own.registers a0)) (sym (same-thread image part a b x agree one))
          ∙ ap (λ (m : Slots). called_slot m (capability_at m (cspace_slot x)) address) there ∙ sym (c.finds address) in
          subst (λ (r : Result ℕ LookupFailure). Same (receive_named a x kind r) (receive_named b x kind (named_slot b x))) (sym left)
          (subst (λ (r : Result ℕ LookupFailure). Same (receive_named a x kind found) (receive_named b x kind r)) (sym right)
          (receive-named-agrees kind address found refl (subst (λ (r : Result ℕ LookupFailure). Quiet (receive_named a x kind r)) left quiet)))

    -- ---- all calls

    same-named : named_slot s x ≡ named_slot t x
    same-named =
        c.finds (read (registers_of s x) a0)
        ∙ ap (λ (own : ThreadState). called_slot t.slots (cspace_of t x) (read own.registers a0)) (same-thread image part s t x both.agree one)

    replies-agree : Agree (reply s x) (reply t x)
    replies-agree = reply-agrees image part s t x both.agree both.buffers one c.caller

    calls-agree : (call : SystemCall) → call_of (read (registers_of s x) a7) ≡ Some call → Quiet (calls s x call) → Right (calls s x call)
        → Same (calls s x call) (calls t x call)
    calls-agree (Sends kind) number quiet right =
        subst (λ (r : Result ℕ LookupFailure). Same (send_call s x kind) (send_named t x kind r)) same-named
        (send-named-agrees kind number (named_slot s x) refl quiet right)
    calls-agree (Receives kind) number quiet right = receive-call-agrees s t both.agree refl refl c.waiters kind quiet
    calls-agree RepliesAndReceives number quiet right =
        receive-call-agrees (reply s x) (reply t x) replies-agree (slots-reply s x) (slots-reply t x)
        (inside-after s (reply s x) (keeps-reply s x) c.waiters) Receiving quiet
    calls-agree Replies number quiet right = record { state = passes-agree image part _ _ x replies-agree one; outcome = refl }
    calls-agree Yields number quiet right = record { state = yielded-agrees _ _ (passes-agree image part s t x both.agree one); outcome = refl }
    calls-agree PutsCharacter number quiet right =
        record {
          state = passes-agree image part s t x both.agree one;
          outcome = ap (λ (own : ThreadState). Put (read own.registers a0 % 2 ^ 8)) (same-thread image part s t x both.agree one);
        }

    known-agrees : (o : Option SystemCall) (n : ℕ) → call_of (read (registers_of s x) a7) ≡ o → Quiet (calls_known s x n o)
        → Right (calls_known s x n o) → Same (calls_known s x n o) (calls_known t x n o)
    known-agrees (Some call) n number quiet right = calls-agree call number quiet right
    known-agrees None n number quiet right = absurd (false≢true (sym quiet))

    system-call-agrees : Quiet (system_call s x) → Right (system_call s x) → Same (system_call s x) (system_call t x)
    unfolding system_call
    system-call-agrees quiet right =
        subst (λ (own : ThreadState). Same (system_call s x) (calls_known t x (read own.registers a7) (call_of (read own.registers a7))))
        (same-thread image part s t x both.agree one)
        (known-agrees (call_of (read (registers_of s x) a7)) (read (registers_of s x) a7) refl quiet right)

  -- ---- one instruction

  with-content-agrees : (p q : RegisterFile) (c d : Content) → p ≡ q → SameView (IsByteOfPart image part) c d
      → Agree (with_content (with_registers s x p) c) (with_content (with_registers t x q) d)
  with-content-agrees p q c d same view =
      bytes-agree image part (with_registers s x p) (with_registers t x q) _ _
      (λ place of. ap₂ (λ (o : Option ℕ) (n : ℕ). option_map_or (λ _. Some n) o None) (both.agree.bytes place of) (view.byte place of))
      (registers-agree image part s t x p q same both.agree one)

  effects-agree : (pc other : ℕ) (r q : RegisterFile) (exec : Exec) (a b : Done)
      → (is_call exec ≡ true → Quiet (system_call s x) → Right (system_call s x) → Same (system_call s x) (system_call t x))
      → Quiet (after_effect s x pc r exec a) → Right (after_effect s x pc r exec a)
      → Same a b → Same (after_effect s x pc r exec a) (after_effect t x other q exec b)
  effects-agree pc other r q Next a b calls quiet right same = same
  effects-agree pc other r q Ecall a b calls quiet right same = calls refl quiet right
  effects-agree pc other r q (Trap cause) a b calls quiet right same = absurd (false≢true (sym quiet))
  effects-agree pc other r q (Memory address access) a b calls quiet right same = absurd (false≢true (sym quiet))

  instruction-agrees : (instr : Instr) → (is_call (effect (registers_of s x) (content_of s x) instr).exec ≡ true → MakesCall s x)
      → Quiet (runs_instruction s x instr) → Right (runs_instruction s x instr) → Same (runs_instruction s x instr) (runs_instruction t x instr)
  instruction-agrees instr makes quiet right =
      let r = registers_of s x in
      let same : registers_of s x ≡ registers_of t x = ap (λ (own : ThreadState). own.registers) (same-thread image part s t x both.agree one) in
      let does = does-same (IsByteOfPart image part) r (content_of s x) (content_of t x) both.view instr in
      let e = effect r (content_of s x) instr in
      let f = effect r (content_of t x) instr in
      subst (λ (q : RegisterFile). Same (runs_instruction s x instr)
      (let g = effect q (content_of t x) instr in after_effect t x q.pc q g.exec (with_content (with_registers t x g.registers) g.content, Plain))) same
      (subst (λ (exec : Exec). Same (runs_instruction s x instr)
      (after_effect t x r.pc r exec (with_content (with_registers t x f.registers) f.content, Plain))) does.exec
      (effects-agree r.pc r.pc r r e.exec _ _ (λ is. system-call-agrees (both.calls (makes is))) quiet right
      (record { state = with-content-agrees e.registers f.registers e.content f.content does.registers does.view; outcome = refl })))

  -- no other instruction makes a call
  module _ (r : RegisterFile) (c : Content) where
    jumps-on : (written : RegisterFile) (target : ℕ) → is_call (jumps r c written target).exec ≡ false
    jumps-on written target = elim (target % 4 == 0) as (λ b. is_call
        (let e : Effect = if b then record { registers = record written { pc = target }; content = c; exec = Next }
        else record { registers = r; content = c; exec = Trap Misaligned } in e.exec) ≡ false) [
          | true ↦ refl
          | false ↦ refl
        ]

    branches-on : (taken : Bool) (target : ℕ) → is_call (branches r c taken target).exec ≡ false
    branches-on true target = jumps-on r target
    branches-on false target = refl

    call-only : (instr : Instr) → is_call (effect r c instr).exec ≡ true → instr ≡ instructions.Ecall
    unfolding effect
    call-only (instructions.Upper op rd immediate) is = absurd (false≢true is)
    call-only (instructions.Jal rd offset) is = absurd (false≢true (sym (jumps-on (write r rd (next_pc r)) _) ∙ is))
    call-only (instructions.Jalr rd rs1 offset) is = absurd (false≢true (sym (jumps-on (write r rd (next_pc r)) _) ∙ is))
    call-only (instructions.Branch op rs1 rs2 offset) is =
        absurd (false≢true (sym (branches-on (is_taken op (read r rs1) (read r rs2)) (plus r.pc offset)) ∙ is))
    call-only (instructions.Load op rd rs1 offset) is = absurd (false≢true (sym (loads-on _) ∙ is))
      where
        loads-on : (v : Result ℕ MemoryFault) → is_call (loads r c op rd v).exec ≡ false
        loads-on (Ok n) = refl
        loads-on (Err fault) = refl
    call-only (instructions.Store op rs1 rs2 offset) is = absurd (false≢true (sym (stores-on _) ∙ is))
      where
        stores-on : (v : Result Content MemoryFault) → is_call (stores r c v).exec ≡ false
        stores-on (Ok d) = refl
        stores-on (Err fault) = refl
    call-only (instructions.Immediate op rd rs1 immediate) is = absurd (false≢true is)
    call-only (instructions.Shift op rd rs1 amount) is = absurd (false≢true is)
    call-only (instructions.Registers op rd rs1 rs2) is = absurd (false≢true is)
    call-only instructions.Fence is = absurd (false≢true is)
    call-only instructions.Ecall is = refl
    call-only instructions.Ebreak is = absurd (false≢true is)

  abbrev fetched : Result ℕ MemoryFault
  fetched = loaded (content_of s x) Fetch sizes.Word (registers_of s x).pc

  decoded-agrees : (word : ℕ) → fetched ≡ Ok word → (o : Option Instr) → decoded word ≡ o → Quiet (runs_decoded s x o) → Right (runs_decoded s x o)
      → Same (runs_decoded s x o) (runs_decoded t x o)
  decoded-agrees word at None is quiet right = absurd (false≢true (sym quiet))
  decoded-agrees word at (Some instr) is quiet right =
      instruction-agrees instr
      (λ calls. record { word = word; fetched = at; call = is ∙ ap Some (call-only (registers_of s x) (content_of s x) instr calls) }) quiet right

  fetched-agrees : (r : Result ℕ MemoryFault) → fetched ≡ r → Quiet (runs_fetched s x r) → Right (runs_fetched s x r)
      → Same (runs_fetched s x r) (runs_fetched t x r)
  fetched-agrees (Ok word) at quiet right = decoded-agrees word at (decoded word) refl quiet right
  fetched-agrees (Err failed) at quiet right = absurd (false≢true (sym quiet))

  pub runs-agree : Quiet (runs s x) → Right (runs s x) → Same (runs s x) (runs t x)
  unfolding runs
  runs-agree quiet right =
      let same : registers_of s x ≡ registers_of t x = ap (λ (own : ThreadState). own.registers) (same-thread image part s t x both.agree one) in
      subst (λ (r : RegisterFile). Same (runs s x) (runs_fetched t x (loaded (content_of t x) Fetch sizes.Word r.pc))) same
      (subst (λ (r : Result ℕ MemoryFault). Same (runs s x) (runs_fetched t x r))
      (same-loaded (IsByteOfPart image part) (content_of s x) (content_of t x) both.view Fetch sizes.Word (registers_of s x).pc)
      (fetched-agrees fetched refl quiet right))
