-- Messages between threads of a part, on both sides: what is sent, received and replied agrees, in registers, buffers, queues and lists.
use Rattle.std.proofs.Common.{ℕ, ◌≡◌, ◌∙◌, ◌+◌, ◌-◌, ◌*◌, ◌%◌, ◌^◌, ◌≤◌, ◌++◌, Bool, true, false, if◌then◌else◌, is_some, min, List, [], ◌∷◌, Option, Some}
use Rattle.std.proofs.Common.{None}
use Rattle.std.proofs.Common.{refl, sym, ap, ap₂, subst, arith}
use Rattle.std.specs.Prelude.{Contains}
use Rattle.std.specs.Option.{option_map_or}
use Rattle.model.proofs.SlotChanges.{within-bounds}
use Rattle.model.specs.declared.slot_entries.Entry.{Entry}
use Rattle.model.specs.declared.capabilities.Cap.TheVariants.{Empty}
use Rattle.model.specs.Capabilities.CapabilityKinds.{frame_of}
use Rattle.model.specs.Capabilities.Slots.{Slots, capability_at, is_within}
use Rattle.model.specs.Images.Image.{Image}
use Rattle.model.specs.Kernel.Messages.{Message, a1, buffer_of, bytes_between, bytes_sent, deliver, deliver_with, delivered, fault_message}
use Rattle.model.specs.Kernel.Messages.{greatest_length, length_between, message_between, message_of, message_to, passes, passes_with, receive}
use Rattle.model.specs.Kernel.Messages.{received, received_waiting, receives, register_words, send, sends, waits_to_receive}
use Rattle.model.specs.Kernel.Messages.{with_caller, with_copied, with_registers}
use Rattle.model.specs.Kernel.Scheduling.{block}
use Rattle.model.specs.Kernel.State.{State, Inactive, Blocked, AwaitsReply, AwaitsHandler, Object, ThreadObject, EndpointObject, EndpointState}
use Rattle.model.specs.Kernel.State.{Sender, Sent, BySend, ByCall, ByFault, ThreadState, as_endpoint, buffer_slot, endpoint_at, new_endpoint, slot_of}
use Rattle.model.specs.Kernel.State.{thread_at, with_endpoint}
use Rattle.model.specs.Machine.Effects.{advanced}
use Rattle.model.specs.Machine.ProgramMemory.{RegisterFile, read}
use Rattle.part_laws.specs.Agreeing.{AgreeFor, HasBuffers, IsByteOfPart, IsOfPart}
use Rattle.headline.specs.parts.Agreeing.{is_block_slot, WaitInside}
use Rattle.headline.specs.parts.Parts.{Part, is_thread_in}
use Rattle.part_laws.proofs.changes.Agreeing.{block-agrees, changed-agrees, puts-agree, same-thread, wake-agrees}
use Rattle.part_laws.proofs.changes.Members.{member-of}

module _ (image : Image) (part : Part) where
  abbrev in_part : ℕ → Bool
  in_part = is_thread_in image part

  pub buffers-carried : (s t : State) → t.slots ≡ s.slots → HasBuffers image part s → HasBuffers image part t
  buffers-carried s t same has x source place inside is low high =
      has x source place inside (ap (λ (m : Slots). frame_of (capability_at m (buffer_slot x))) (sym same) ∙ is) low high

  -- ---- registers, rights to reply and bytes

  pub registers-agree : (s t : State) (x : ℕ) (a b : RegisterFile) → a ≡ b → AgreeFor image part s t → in_part x ≡ true
      → AgreeFor image part (with_registers s x a) (with_registers t x b)
  registers-agree s t x a b same agree inside =
      puts-agree image part s t x (ThreadObject (record (thread_at s x) { registers = a })) (ThreadObject (record (thread_at t x) { registers = b }))
      (ap₂ (λ (own : ThreadState) (r : RegisterFile). ThreadObject (record own { registers = r })) (same-thread image part s t x agree inside) same) agree

  pub passes-agree : (s t : State) (x : ℕ) → AgreeFor image part s t → in_part x ≡ true → AgreeFor image part (passes s x) (passes t x)
  passes-agree s t x agree inside =
      registers-agree s t x (advanced (thread_at s x).registers) (advanced (thread_at t x).registers)
      (ap (λ (own : ThreadState). advanced own.registers) (same-thread image part s t x agree inside)) agree inside

  pub passes-with-agree : (s t : State) (x : ℕ) (a b : RegisterFile) → a ≡ b → AgreeFor image part s t → in_part x ≡ true
      → AgreeFor image part (passes_with s x a) (passes_with t x b)
  passes-with-agree s t x a b same agree inside = passes-agree _ _ x (registers-agree s t x a b same agree inside) inside

  pub caller-agrees : (s t : State) (x : ℕ) (caller : Option ℕ) → AgreeFor image part s t → in_part x ≡ true
      → AgreeFor image part (with_caller s x caller) (with_caller t x caller)
  caller-agrees s t x caller agree inside = changed-agrees image part s t x (λ own. record own { caller = caller }) agree inside

  pub bytes-agree : (s t : State) (a b : ℕ → Option ℕ) → ((place : ℕ) → IsByteOfPart image part place → a place ≡ b place) → AgreeFor image part s t
      → AgreeFor image part (record s { bytes = a }) (record t { bytes = b })
  bytes-agree s t a b same agree = record {
    objects = λ offset of. agree.objects offset of;
    bytes = λ place of. same place of;
    slots = λ slot of. agree.slots slot of;
    masked = λ line of. agree.masked line of;
    pending = λ line of. agree.pending line of;
    ready = λ priority. agree.ready priority;
  }

  -- ---- buffers

  same-buffer : (s t : State) (x : ℕ) → AgreeFor image part s t → in_part x ≡ true → buffer_of s x ≡ buffer_of t x
  same-buffer s t x agree inside =
      let m = member-of image part x inside in
      ap (λ (o : Option Entry). frame_of (option_map_or (λ (e : Entry). e.capability) o Empty))
      (agree.slots (buffer_slot x) (is_block_slot m.thread 2 (record { listed = m.listed; inside = m.inside })
      (ap (λ (o : ℕ). slot_of o 2) (sym m.block)) (omega arith)))

  abbrev bytes_by : State → ℕ → Option ℕ → Option ℕ → ℕ → Option ℕ
  bytes_by s count from to =
      option_map_or (λ source. option_map_or (λ target. with_copied s.bytes source target (count - register_words)) to s.bytes) from s.bytes

  copied-same : (s t : State) (from count place : ℕ) → AgreeFor image part s t → HasBuffers image part s → in_part from ≡ true → count ≤ 127
      → IsByteOfPart image part place → (a b : Option ℕ) → buffer_of s from ≡ a → bytes_by s count a b place ≡ bytes_by t count a b place
  copied-same s t from count place agree has inside few of None b is = agree.bytes place of
  copied-same s t from count place agree has inside few of (Some source) None is = agree.bytes place of
  copied-same s t from count place agree has inside few of (Some source) (Some target) is =
      elim (is_within (target + 4 * register_words) (4 * (count - register_words)) place)
      as (λ b. is_within (target + 4 * register_words) (4 * (count - register_words)) place ≡ b
      → (if b then s.bytes (source + (place - target)) else s.bytes place) ≡ (if b then t.bytes (source + (place - target)) else t.bytes place)) [
        | true ↦ λ within.
            let bounds = within-bounds (target + 4 * register_words) (4 * (count - register_words)) place within in
            let low = bounds.0 in
            let high = bounds.1 in
            agree.bytes (source + (place - target)) (has from source (source + (place - target)) inside is (omega arith) (omega (arith, low, high, few)))
        | false ↦ λ _. agree.bytes place of
      ] refl

  pub between-same : (s t : State) (from to count place : ℕ) → AgreeFor image part s t → HasBuffers image part s → in_part from ≡ true → in_part to ≡ true
      → count ≤ 127 → IsByteOfPart image part place → bytes_between s from to count place ≡ bytes_between t from to count place
  between-same s t from to count place agree has one other few of =
      copied-same s t from count place agree has one few of (buffer_of s from) (buffer_of s to) refl
      ∙ ap₂ (λ (a b : Option ℕ). bytes_by t count a b place) (same-buffer s t from agree one) (same-buffer s t to agree other)

  same-length : (s t : State) (from to : ℕ) → AgreeFor image part s t → in_part from ≡ true → in_part to ≡ true
      → length_between s from to ≡ length_between t from to
  same-length s t from to agree one other =
      ap₂ (λ (own : ThreadState) (most : ℕ). min (read own.registers a1 % 2 ^ 7) most) (same-thread image part s t from agree one)
      (ap₂ (λ (a b : Option ℕ). min (if is_some a then 120 else register_words) (if is_some b then 120 else register_words))
      (same-buffer s t from agree one) (same-buffer s t to agree other))

  pub few-length : (s : State) (from to : ℕ) → length_between s from to ≤ 127
  few-length s from to = field (read (thread_at s from).registers a1) (min (greatest_length s from) (greatest_length s to))
    where
      field : (info most : ℕ) → min (info % 2 ^ 7) most ≤ 127
      field info most = omega arith

  pub same-between : (s t : State) (from to : ℕ) → AgreeFor image part s t → in_part from ≡ true → in_part to ≡ true
      → message_between s from to ≡ message_between t from to
  same-between s t from to agree one other =
      ap₂ (λ (own : ThreadState) (n : ℕ). let m : Message = record (message_of own) { count = n } in m) (same-thread image part s t from agree one)
      (same-length s t from to agree one other)

  -- ---- deliveries

  pub deliver-agrees : (s t : State) (x badge : ℕ) (a b : Message) → a ≡ b → AgreeFor image part s t → in_part x ≡ true
      → AgreeFor image part (deliver s x badge a) (deliver t x badge b)
  deliver-agrees s t x badge a b same agree inside =
      passes-with-agree s t x (delivered (thread_at s x).registers badge a) (delivered (thread_at t x).registers badge b)
      (ap₂ (λ (own : ThreadState) (m : Message). delivered own.registers badge m) (same-thread image part s t x agree inside) same) agree inside

  delivered-agrees : (s t : State) (from to badge : ℕ) → AgreeFor image part s t → HasBuffers image part s → in_part from ≡ true → in_part to ≡ true
      → AgreeFor image part (deliver_with s (bytes_between s from to (length_between s from to)) to badge (message_between s from to))
      (deliver_with t (bytes_between t from to (length_between t from to)) to badge (message_between t from to))
  delivered-agrees s t from to badge agree has one other =
      deliver-agrees _ _ to badge (message_between s from to) (message_between t from to) (same-between s t from to agree one other)
      (bytes-agree s t (bytes_between s from to (length_between s from to)) (bytes_between t from to (length_between t from to))
      (λ place of. between-same s t from to (length_between s from to) place agree has one other (few-length s from to) of
      ∙ ap (λ (n : ℕ). bytes_between t from to n place) (same-length s t from to agree one other)) agree) other

  sent-agrees : (s t : State) (x : Sender) (sent : Sent) (to : ℕ) → AgreeFor image part s t → HasBuffers image part s → in_part x.thread ≡ true
      → in_part to ≡ true
      → AgreeFor image part (deliver_with s (bytes_sent s x sent to) to x.badge (message_to s x sent to))
      (deliver_with t (bytes_sent t x sent to) to x.badge (message_to t x sent to))
  sent-agrees s t x BySend to agree has one other = delivered-agrees s t x.thread to x.badge agree has one other
  sent-agrees s t x ByCall to agree has one other = delivered-agrees s t x.thread to x.badge agree has one other
  sent-agrees s t x (ByFault fault) to agree has one other =
      deliver-agrees _ _ to x.badge (fault_message fault) (fault_message fault) refl
      (bytes-agree s t s.bytes t.bytes (λ place of. agree.bytes place of) agree) other

  received-agrees : (s t : State) (x : Sender) (sent : Sent) (to : ℕ) → AgreeFor image part s t → in_part x.thread ≡ true → in_part to ≡ true
      → AgreeFor image part (received s x sent to) (received t x sent to)
  received-agrees s t x BySend to agree one other = passes-agree s t x.thread agree one
  received-agrees s t x (ByFault fault) to agree one other =
      caller-agrees _ _ to (Some x.thread) (block-agrees image part s t x.thread AwaitsHandler agree one) other
  received-agrees s t x ByCall to agree one other = by x.grant_reply
    where
      by : (b : Bool) → AgreeFor image part
          (if b then with_caller (block s x.thread AwaitsReply) to (Some x.thread) else block s x.thread Inactive)
          (if b then with_caller (block t x.thread AwaitsReply) to (Some x.thread) else block t x.thread Inactive)
      by true = caller-agrees _ _ to (Some x.thread) (block-agrees image part s t x.thread AwaitsReply agree one) other
      by false = block-agrees image part s t x.thread Inactive agree one

  waiting-agrees : (s t : State) (x : Sender) (sent : Sent) (to : ℕ) → AgreeFor image part s t → in_part x.thread ≡ true → in_part to ≡ true
      → AgreeFor image part (received_waiting s x sent to) (received_waiting t x sent to)
  waiting-agrees s t x BySend to agree one other = wake-agrees image part _ _ x.thread (passes-agree s t x.thread agree one) one
  waiting-agrees s t x ByCall to agree one other = received-agrees s t x ByCall to agree one other
  waiting-agrees s t x (ByFault fault) to agree one other = received-agrees s t x (ByFault fault) to agree one other

  -- ---- endpoints

  same-endpoint : (s t : State) (e : ℕ) → AgreeFor image part s t → IsOfPart image part e → endpoint_at s e ≡ endpoint_at t e
  same-endpoint s t e agree of = ap (λ (o : Option Object). option_map_or (λ x. x) (as_endpoint o) new_endpoint) (agree.objects e of)

  endpoint-agrees : (s t : State) (e : ℕ) (a b : EndpointState) → a ≡ b → AgreeFor image part s t
      → AgreeFor image part (with_endpoint s e a) (with_endpoint t e b)
  endpoint-agrees s t e a b same agree = puts-agree image part s t e (EndpointObject a) (EndpointObject b) (ap EndpointObject same) agree

  sends-agree : (s t : State) (e : ℕ) (x : Sender) (all : List ℕ) → AgreeFor image part s t → HasBuffers image part s → IsOfPart image part e
      → in_part x.thread ≡ true → ((r : ℕ) → Contains all r → in_part r ≡ true) → AgreeFor image part (sends s e x all) (sends t e x all)
  sends-agree s t e x [] agree has of one inside =
      block-agrees image part _ _ x.thread (Blocked e) (endpoint-agrees s t e _ _
      (ap (λ (n : EndpointState). let new : EndpointState = record n { senders = n.senders ++ x ∷ [] } in new) (same-endpoint s t e agree of)) agree) one
  sends-agree s t e x (r ∷ others) agree has of one inside =
      let here : in_part r ≡ true = inside r (0, omega arith, refl) in
      let first = endpoint-agrees s t e _ _
      (ap (λ (n : EndpointState). let new : EndpointState = record n { receivers = others } in new) (same-endpoint s t e agree of)) agree in
      received-agrees _ _ x x.sent r (wake-agrees image part _ _ r
      (sent-agrees _ _ x x.sent r first (buffers-carried s (with_endpoint s e (record
      (endpoint_at s e) { receivers = others })) refl has) one here) here) one here

  pub send-agrees : (s t : State) (e : ℕ) (x : Sender) → AgreeFor image part s t → HasBuffers image part s → IsOfPart image part e
      → in_part x.thread ≡ true → WaitInside image part (endpoint_at s e) → AgreeFor image part (send s e x) (send t e x)
  send-agrees s t e x agree has of one inside =
      subst (λ (n : EndpointState). AgreeFor image part (send s e x) (sends t e x n.receivers)) (same-endpoint s t e agree of)
      (sends-agree s t e x (endpoint_at s e).receivers agree has of one inside.receivers)

  receives-agree : (s t : State) (e receiver : ℕ) (a b : State) (all : List Sender) → AgreeFor image part s t → AgreeFor image part a b
      → HasBuffers image part s → IsOfPart image part e → in_part receiver ≡ true → ((x : Sender) → Contains all x → in_part x.thread ≡ true)
      → AgreeFor image part (receives s e receiver a all) (receives t e receiver b all)
  receives-agree s t e receiver a b [] agree otherwise has of one inside = otherwise
  receives-agree s t e receiver a b (x ∷ others) agree otherwise has of one inside =
      let there : in_part x.thread ≡ true = inside x (0, omega arith, refl) in
      let first = endpoint-agrees s t e _ _
      (ap (λ (n : EndpointState). let new : EndpointState = record n { senders = others } in new) (same-endpoint s t e agree of)) agree in
      waiting-agrees _ _ x x.sent receiver
      (sent-agrees _ _ x x.sent receiver first (buffers-carried s (with_endpoint s e (record (endpoint_at s e) { senders = others })) refl has) there one)
      there one

  waits-agree : (s t : State) (e receiver : ℕ) → AgreeFor image part s t → IsOfPart image part e → in_part receiver ≡ true
      → AgreeFor image part (waits_to_receive s e receiver) (waits_to_receive t e receiver)
  waits-agree s t e receiver agree of one =
      block-agrees image part _ _ receiver (Blocked e) (endpoint-agrees s t e _ _
      (ap (λ (n : EndpointState). let new : EndpointState = record n { receivers = n.receivers ++ receiver ∷ [] }
      in new) (same-endpoint s t e agree of)) agree) one

  pub receive-agrees : (s t : State) (e receiver : ℕ) → AgreeFor image part s t → HasBuffers image part s → IsOfPart image part e
      → in_part receiver ≡ true → WaitInside image part (endpoint_at (with_caller s receiver None) e)
      → AgreeFor image part (receive s e receiver) (receive t e receiver)
  receive-agrees s t e receiver agree has of one inside =
      let a = with_caller s receiver None in
      let b = with_caller t receiver None in
      let ready : AgreeFor image part a b = caller-agrees s t receiver None agree one in
      subst (λ (n : EndpointState). AgreeFor image part (receive s e receiver) (receives b e receiver (waits_to_receive b e receiver) n.senders))
      (same-endpoint a b e ready of)
      (receives-agree a b e receiver _ _ (endpoint_at a e).senders ready (waits-agree a b e receiver ready of one)
      (buffers-carried s a refl has) of one inside.senders)
