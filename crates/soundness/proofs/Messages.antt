-- Messages, replies and signals.
use Rattle.std.proofs.Common.{ℕ, ◌≡◌, ◌≢◌, ◌∙◌, ◌==◌, ◌^◌, ◌<◌, ◌++◌, true, false, if◌then◌else◌, List, [], ◌∷◌, Option, Some, None, option_map, refl, sym, ap}
use Rattle.std.proofs.Common.{inl, inr, subst, arith}
use Rattle.std.specs.Prelude.{bit_or, All}
use Rattle.std.specs.Option.{option_map_or}
use Rattle.std.proofs.lemmas.Bool.{eqb-true}
use Rattle.std.proofs.lemmas.List.Elements.{All-head}
use Rattle.std.proofs.lemmas.Nat.{or_lt}
use Rattle.model.specs.Kernel.Kinds.{kind_at, kind_of}
use Rattle.model.specs.Kernel.Messages.{Message, a0, bytes_between, bytes_sent, deliver, deliver_sent, deliver_with, deliver_word, delivered, message_between}
use Rattle.model.specs.Kernel.Messages.{message_to, passes, poll, receive, received, received_waiting, receives, replied, reply, reply_to_call, reply_to_fault}
use Rattle.model.specs.Kernel.Messages.{resumption, send, send_to, sends, signal, signals, takes_word, tries_to_send, try_to_receive, try_to_send, wait}
use Rattle.model.specs.Kernel.Messages.{waits_for_signal, waits_to_receive, with_caller, with_registers}
use Rattle.model.specs.Kernel.Retype.{NewObject, NewThread, NewEndpoint, NewNotification}
use Rattle.model.specs.Kernel.Scheduling.{block, full_slice, is_runnable, wake}
use Rattle.model.specs.Kernel.Soundness.{awaits_answer, IsSound, SenderIsSound}
use Rattle.model.specs.Kernel.State.{State, Status, Inactive, Runnable, Blocked, AwaitsReply, AwaitsHandler, Object, ThreadObject, EndpointObject}
use Rattle.model.specs.Kernel.State.{NotificationObject, CNodeObject, FrameObject, PageTableObject, RootTableObject, EndpointState, NotificationState, Sender}
use Rattle.model.specs.Kernel.State.{Sent, BySend, ByCall, ByFault, ThreadState, endpoint_at, new_endpoint, new_notification, notification_at, thread_at}
use Rattle.model.specs.Kernel.State.{with_endpoint, with_notification, with_object, as_endpoint, as_notification}
use Rattle.model.specs.Machine.Effects.{advanced}
use Rattle.model.specs.Machine.ProgramMemory.{RegisterFile, write}
use Rattle.soundness.specs.Running.{IsRunning}
use Rattle.soundness.proofs.Buffers.{between-bytes}
use Rattle.soundness.proofs.Delivered.{MessageIsSound, between-message, deliver_sent-moving, deliver_with-moving, deliver_word-moving, passes-moving}
use Rattle.soundness.proofs.Delivered.{registers-moving}
use Rattle.soundness.proofs.Grants.{awaiting-whole, thread-kinds}
use Rattle.soundness.proofs.Moving.{Moving, own_of, put-either, put-here, put-other, rights-none, runs_of}
use Rattle.soundness.proofs.QueueSteps.{first-receiver, first-sender, first-waiter, in_queue, listed-as, running, standing, with-receiver, with-sender}
use Rattle.soundness.proofs.QueueSteps.{with-waiter, with-word, without-receiver, without-sender, without-waiter}
use Rattle.soundness.proofs.Registers.{registers-of, with-pc, written-sound}
use Rattle.soundness.proofs.Rest.{endpoint-kind, notification-kind}
use Rattle.soundness.proofs.Steps.{caller-fine, stopped-whole, woken-whole}
use Rattle.soundness.proofs.ThreadCalls.{fine-of, passes-whole, registers-whole, same-whole}

-- ---- what objects are

pub endpoint-object : (s : State) (q : ℕ) → kind_at s q ≡ Some NewEndpoint → s.objects q ≡ Some (EndpointObject (endpoint_at s q))
endpoint-object s q is =
    let own = endpoint-kind (s.objects q) is in
    own.1 ∙ ap (λ (e : EndpointState). Some (EndpointObject e)) (sym (ap (λ (o : Option Object). option_map_or (λ e. e) (as_endpoint o) new_endpoint) own.1))

pub notification-object : (s : State) (q : ℕ) → kind_at s q ≡ Some NewNotification → s.objects q ≡ Some (NotificationObject (notification_at s q))
notification-object s q is =
    let own = notification-kind (s.objects q) is in
    own.1 ∙ ap (λ (n : NotificationState). Some (NotificationObject n))
    (sym (ap (λ (o : Option Object). option_map_or (λ n. n) (as_notification o) new_notification) own.1))

-- another object of the same type
pub object-kinds : (s : State) (q : ℕ) (o : Object) → option_map kind_of (Some o) ≡ kind_at s q → (offset : ℕ)
    → kind_at (with_object s q o) offset ≡ kind_at s offset
object-kinds s q o same = put-either s.objects q (Some o) (λ offset p. option_map kind_of p ≡ kind_at s offset) same (λ _ _. refl)

-- what is not the thread stays what it is
pub registers-other : (s : State) (x y : ℕ) (r : RegisterFile) → y ≢ x → (with_registers s x r).objects y ≡ s.objects y
registers-other s x y r other = put-other s.objects x (Some (ThreadObject (record (thread_at s x) { registers = r }))) y other

pub deliver-other : (s : State) (x badge : ℕ) (message : Message) (y : ℕ) → y ≢ x → (deliver s x badge message).objects y ≡ s.objects y
deliver-other s x badge message y other =
    let r = delivered (thread_at s x).registers badge message in
    let one = with_registers s x r in
    registers-other one x y (advanced (thread_at one x).registers) other ∙ registers-other s x y r other

pub deliver_sent-other : (s : State) (sender : Sender) (receiver y : ℕ) → y ≢ receiver → (deliver_sent s sender receiver).objects y ≡ s.objects y
deliver_sent-other s sender receiver y other =
    deliver-other (record s { bytes = bytes_sent s sender sender.sent receiver }) receiver sender.badge (message_to s sender sender.sent receiver) y other

pub wake-other : (s : State) (x y : ℕ) → y ≢ x → (wake s x).objects y ≡ s.objects y
wake-other s x y other = put-other s.objects x (Some (ThreadObject (record (thread_at s x) { status = Runnable; slice = full_slice }))) y other

pub deliver_word-whole : (s : State) (x word : ℕ) → IsSound s → kind_at s x ≡ Some NewThread → word < 2 ^ 32 → IsSound (deliver_word s x word)
deliver_word-whole s x word whole is less =
    let r = write (thread_at s x).registers a0 word in
    let t : ThreadState = record (thread_at s x) { registers = r } in
    passes-whole (with_registers s x r)
    (registers-whole s whole x is r (written-sound (thread_at s x).registers a0 word (registers-of (thread_at s x) (fine-of s whole x is)) less)) x
    (thread-kinds s x t is x ∙ is)

pub running-object : (s t : State) (x : ℕ) → t.objects x ≡ s.objects x → IsRunning s x → IsRunning t x
running-object s t x same runs = record {
  kind = ap (option_map kind_of) same ∙ runs.kind;
  runs = ap (λ (o : Option Object). is_runnable (own_of o).status) same ∙ runs.runs;
}

-- ---- what becomes of a sender

called-whole : (kinds : ℕ → Option NewObject) (s : State) (sender : Sender) (receiver : ℕ) (r : ℕ → ℕ) → Moving kinds s sender.thread r (λ _. 0) false
    → kinds sender.thread ≡ Some NewThread → kinds receiver ≡ Some NewThread → IsSound (received s sender ByCall receiver)
called-whole kinds s sender receiver r moving one other =
    elim sender.grant_reply as (λ b. IsSound (if b then with_caller (block s sender.thread AwaitsReply) receiver (Some sender.thread) else
    block s sender.thread Inactive)) [
      | true ↦ awaiting-whole kinds s sender.thread receiver r AwaitsReply moving one other refl (λ _. refl) refl
      | false ↦ stopped-whole kinds s sender.thread r (λ _. 0) false moving one Inactive refl (λ _. refl) (λ e. e)
    ]

-- one that runs
received-whole : (s : State) (sender : Sender) (sent : Sent) (receiver : ℕ) → IsSound s → IsRunning s sender.thread
    → kind_at s receiver ≡ Some NewThread
    → IsSound (received s sender sent receiver)
received-whole s sender BySend receiver whole runs is = passes-whole s whole sender.thread runs.kind
received-whole s sender ByCall receiver whole runs is =
    called-whole (kind_at s) s sender receiver (runs_of (s.objects sender.thread)) (running s sender.thread whole runs) runs.kind is
received-whole s sender (ByFault fault) receiver whole runs is =
    awaiting-whole (kind_at s) s sender.thread receiver (runs_of (s.objects sender.thread)) AwaitsHandler (running s sender.thread whole runs) runs.kind is refl
    (λ _. refl) refl

-- one that waited
waited-whole : (kinds : ℕ → Option NewObject) (s : State) (sender : Sender) (sent : Sent) (receiver : ℕ) (r : ℕ → ℕ)
    → Moving kinds s sender.thread r (λ _. 0) false
    → kinds sender.thread ≡ Some NewThread → kinds receiver ≡ Some NewThread → IsSound (received_waiting s sender sent receiver)
waited-whole kinds s sender BySend receiver r moving one other =
    woken-whole kinds (passes s sender.thread) sender.thread r (passes-moving kinds s sender.thread r (λ _. 0) false sender.thread one moving) one
waited-whole kinds s sender ByCall receiver r moving one other = called-whole kinds s sender receiver r moving one other
waited-whole kinds s sender (ByFault fault) receiver r moving one other =
    awaiting-whole kinds s sender.thread receiver r AwaitsHandler moving one other refl (λ _. refl) refl

-- ---- sending

module _ (s : State) (q : ℕ) (sender : Sender) (whole : IsSound s) (is : kind_at s q ≡ Some NewEndpoint) (runs : IsRunning s sender.thread)
    (sound : SenderIsSound sender) where
  sent_to-whole : (receiver : ℕ) (others : List ℕ) → (endpoint_at s q).receivers ≡ receiver ∷ others
      → IsSound (send_to (with_endpoint s q (record (endpoint_at s q) { receivers = others })) sender receiver)
  sent_to-whole receiver others first =
      let e = endpoint_at s q in
      let object = endpoint-object s q is in
      let x = sender.thread in
      let r = runs_of (s.objects receiver) in
      let s1 = with_endpoint s q (record e { receivers = others }) in
      let waits = first-receiver s whole q e receiver others object first in
      let one = without-receiver s whole q e receiver others object first in
      let two = deliver_sent-moving (kind_at s) s1 receiver r (λ _. 0) false sender receiver runs.kind waits.kind one sound in
      let s2 = deliver_sent s1 sender receiver in
      let three = woken-whole (kind_at s) s2 receiver r two waits.kind in
      let s3 = wake s2 receiver in
      let apart : x ≢ receiver = λ same. (let clash : false ≡ true = sym (ap is_runnable waits.status)
      ∙ sym (ap (λ (y : ℕ). is_runnable (thread_at s y).status) same) ∙ runs.runs in cc) in
      let distinct : x ≢ q = λ same. (let clash : Some NewThread ≡ Some NewEndpoint = sym runs.kind ∙ ap (kind_at s) same ∙ is in cc) in
      let stays : s3.objects x ≡ s.objects x =
      wake-other s2 receiver x apart ∙ deliver_sent-other s1 sender receiver x apart
      ∙ put-other s.objects q (Some (EndpointObject (record e { receivers = others }))) x distinct in
      received-whole s3 sender sender.sent receiver three (running-object s s3 x stays runs)
      (thread-kinds s2 receiver _ (two.listed.kind receiver ∙ waits.kind) receiver ∙ two.listed.kind receiver ∙ waits.kind)

  sends-whole : (receivers : List ℕ) → (endpoint_at s q).receivers ≡ receivers → IsSound (sends s q sender receivers)
  sends-whole [] none =
      let e = endpoint_at s q in
      stopped-whole (kind_at s) (with_endpoint s q (record e { senders = e.senders ++ sender ∷ [] })) sender.thread (runs_of (s.objects sender.thread))
      (in_queue (Blocked q)) false
      (with-sender s whole q e sender (endpoint-object s q is) none runs sound) runs.kind (Blocked q) refl (λ _. refl) (λ a. a)
  sends-whole (receiver ∷ others) first = sent_to-whole receiver others first

  pub send-whole : IsSound (send s q sender)
  send-whole = sends-whole (endpoint_at s q).receivers refl

  tries-whole : (receivers : List ℕ) → (endpoint_at s q).receivers ≡ receivers → IsSound (tries_to_send s q sender receivers)
  tries-whole [] none = passes-whole s whole sender.thread runs.kind
  tries-whole (receiver ∷ others) first = sent_to-whole receiver others first

  pub try_to_send-whole : IsSound (try_to_send s q sender)
  try_to_send-whole = tries-whole (endpoint_at s q).receivers refl

-- ---- receiving

-- a thread that gives its right to reply away
module _ (s : State) (x : ℕ) (whole : IsSound s) (is : kind_at s x ≡ Some NewThread) where
  pub dropped-whole : IsSound (with_caller s x None)
  dropped-whole =
      same-whole s whole x is (record (thread_at s x) { caller = None }) (caller-fine (thread_at s x) None (fine-of s whole x is))
      (λ c e. let clash : None ≡ Some c = e in absurd cc) refl refl

  pub dropped-kinds : (offset : ℕ) → kind_at (with_caller s x None) offset ≡ kind_at s offset
  dropped-kinds = thread-kinds s x (record (thread_at s x) { caller = None }) is

  pub dropped-runs : is_runnable (thread_at s x).status ≡ true → IsRunning (with_caller s x None) x
  dropped-runs runs = record {
    kind = dropped-kinds x ∙ is;
    runs = subst (λ (o : Option Object). is_runnable (own_of o).status ≡ true)
        (sym (put-here s.objects x (Some (ThreadObject (record (thread_at s x) { caller = None }))))) runs;
  }

module _ (s : State) (q receiver : ℕ) (whole : IsSound s) (is : kind_at s q ≡ Some NewEndpoint) (runs : IsRunning s receiver) where
  receives-whole : (otherwise : State) (senders : List Sender) → (endpoint_at s q).senders ≡ senders → ((endpoint_at s q).senders ≡ [] → IsSound otherwise)
      → IsSound (receives s q receiver otherwise senders)
  receives-whole otherwise [] none whole_otherwise = whole_otherwise none
  receives-whole otherwise (sender ∷ others) first whole_otherwise =
      let e = endpoint_at s q in
      let object = endpoint-object s q is in
      let x = sender.thread in
      let r = runs_of (s.objects x) in
      let s1 = with_endpoint s q (record e { senders = others }) in
      let waits = first-sender s whole q e sender others object first in
      let one = without-sender s whole q e sender others object first in
      let sound = All-head SenderIsSound sender others (subst (All SenderIsSound) first (whole.threads.senders q e object)) in
      let two = deliver_sent-moving (kind_at s) s1 x r (λ _. 0) false sender receiver waits.kind runs.kind one sound in
      waited-whole (kind_at s) (deliver_sent s1 sender receiver) sender sender.sent receiver r two waits.kind runs.kind

  waits-whole : (endpoint_at s q).senders ≡ [] → IsSound (waits_to_receive s q receiver)
  waits-whole none =
      let e = endpoint_at s q in
      stopped-whole (kind_at s) (with_endpoint s q (record e { receivers = e.receivers ++ receiver ∷ [] })) receiver (runs_of (s.objects receiver))
      (in_queue (Blocked q)) false
      (with-receiver s whole q e receiver (endpoint-object s q is) none runs) runs.kind (Blocked q) refl (λ _. refl) (λ a. a)

module _ (s : State) (q receiver : ℕ) (whole : IsSound s) (is : kind_at s q ≡ Some NewEndpoint) (runs : IsRunning s receiver) where
  abbrev ready : State
  ready = with_caller s receiver None

  ready-whole : IsSound ready
  ready-whole = dropped-whole s receiver whole runs.kind

  ready-runs : IsRunning ready receiver
  ready-runs = dropped-runs s receiver whole runs.kind runs.runs

  ready-endpoint : kind_at ready q ≡ Some NewEndpoint
  ready-endpoint = dropped-kinds s receiver whole runs.kind q ∙ is

  pub receive-whole : IsSound (receive s q receiver)
  receive-whole =
      receives-whole ready q receiver ready-whole ready-endpoint ready-runs (waits_to_receive ready q receiver) (endpoint_at ready q).senders refl
      (waits-whole ready q receiver ready-whole ready-endpoint ready-runs)

  pub try_to_receive-whole : IsSound (try_to_receive s q receiver)
  try_to_receive-whole =
      receives-whole ready q receiver ready-whole ready-endpoint ready-runs (deliver_word ready receiver 0) (endpoint_at ready q).senders refl
      (λ _. deliver_word-whole ready receiver 0 ready-whole ready-runs.kind (omega arith))

-- ---- notifications

module _ (s : State) (q : ℕ) (whole : IsSound s) (is : kind_at s q ≡ Some NewNotification) where
  abbrev own_notification : NotificationState
  own_notification = notification_at s q

  object : s.objects q ≡ Some (NotificationObject (notification_at s q))
  object = notification-object s q is

  signals-whole : (badge : ℕ) (waiters : List ℕ) → badge < 2 ^ 28 → own_notification.waiters ≡ waiters
      → IsSound (signals s q badge own_notification waiters)
  signals-whole badge [] less none =
      with-word s whole q own_notification (bit_or own_notification.word badge) object
      (or_lt 28 own_notification.word badge (whole.threads.words q own_notification object) less) (inl none)
  signals-whole badge (waiter ∷ others) less first =
      let s1 = with_notification s q (record own_notification { waiters = others }) in
      let waits = first-waiter s whole q own_notification waiter others object first in
      let one = without-waiter s whole q own_notification waiter others object first in
      let r = runs_of (s.objects waiter) in
      woken-whole (kind_at s) (deliver_word s1 waiter badge) waiter r
      (deliver_word-moving (kind_at s) s1 waiter r (λ _. 0) false waiter badge waits.kind one (omega (arith, less))) waits.kind

  pub signal-whole : (badge : ℕ) → badge < 2 ^ 28 → IsSound (signal s q badge)
  signal-whole badge less = signals-whole badge own_notification.waiters less refl

  takes-whole : (thread : ℕ) (otherwise : State) → kind_at s thread ≡ Some NewThread → (own_notification.word ≡ 0 → IsSound otherwise)
      → IsSound (takes_word s q thread otherwise)
  takes-whole thread otherwise is_thread whole_otherwise =
      let word = own_notification.word in
      let s1 = with_notification s q (record own_notification { word = 0 }) in
      let less = whole.threads.words q own_notification object in
      elim (word == 0) as (λ b. (word == 0) ≡ b → IsSound (if b then otherwise else deliver_word s1 thread word)) [
        | true ↦ λ test. whole_otherwise (eqb-true word 0 test)
        | false ↦ λ _.
            deliver_word-whole s1 thread word (with-word s whole q own_notification 0 object (omega arith) (inr refl))
            (object-kinds s q (NotificationObject (record own_notification { word = 0 })) (sym is) thread ∙ is_thread) (omega (arith, less))
      ] refl

  pub wait-whole : (thread : ℕ) → IsRunning s thread → IsSound (wait s q thread)
  wait-whole thread runs =
      takes-whole thread (waits_for_signal s q thread) runs.kind
      (λ clear. stopped-whole (kind_at s) (with_notification s q (record own_notification { waiters = own_notification.waiters ++ thread ∷ [] })) thread
      (runs_of (s.objects thread)) (in_queue (Blocked q)) false
      (with-waiter s whole q own_notification thread object clear runs) runs.kind (Blocked q) refl (λ _. refl) (λ a. a))

  pub poll-whole : (thread : ℕ) → IsRunning s thread → IsSound (poll s q thread)
  poll-whole thread runs = takes-whole thread (deliver_word s thread 0) runs.kind (λ _. deliver_word-whole s thread 0 whole runs.kind (omega arith))

-- ---- replies

answering-kind : (o : Option Object) → awaits_answer (own_of o).status ≡ true → option_map kind_of o ≡ Some NewThread
answering-kind (Some (ThreadObject t)) is = refl
answering-kind None is = let e : false ≡ true = is in absurd cc
answering-kind (Some (EndpointObject x)) is = let e : false ≡ true = is in absurd cc
answering-kind (Some (NotificationObject x)) is = let e : false ≡ true = is in absurd cc
answering-kind (Some (CNodeObject x)) is = let e : false ≡ true = is in absurd cc
answering-kind (Some FrameObject) is = let e : false ≡ true = is in absurd cc
answering-kind (Some PageTableObject) is = let e : false ≡ true = is in absurd cc
answering-kind (Some RootTableObject) is = let e : false ≡ true = is in absurd cc

resumption-less : (pc : ℕ) (words : List ℕ) → pc < 2 ^ 32 → All (λ word. word < 2 ^ 32) words → resumption pc words < 2 ^ 32
resumption-less pc [] less small = less
resumption-less pc (word ∷ words) less small = let first = All-head (λ (n : ℕ). n < 2 ^ 32) word words small in omega (arith, first)

-- the caller, for whom nobody holds a right any more
module _ (s : State) (thread caller : ℕ) (message : Message) (whole : IsSound s) (is_thread : kind_at s caller ≡ Some NewThread)
    (sound : MessageIsSound message) (free : (other : ℕ) → (thread_at s other).caller ≢ Some caller) where
  -- it is in no queue
  alone : (status : Status) → (thread_at s caller).status ≡ status → ((queue : ℕ) → ◌≡◌ {A = ℕ} (in_queue status queue) 0) →
      Moving (kind_at s) s caller (runs_of (s.objects caller)) (λ _. 0) false
  alone status is nowhere =
      let moving = standing s caller status whole is in
      let known : Moving (kind_at s) s caller (runs_of (s.objects caller)) (in_queue status) false =
      record { listed = moving.listed; rights = rights-none s caller (awaits_answer status) moving.rights free } in
      listed-as (kind_at s) s caller (runs_of (s.objects caller)) (in_queue status) (λ _. 0) false false known nowhere refl

  called_back-whole : Moving (kind_at s) s caller (runs_of (s.objects caller)) (λ _. 0) false → IsSound (reply_to_call s thread caller message)
  called_back-whole moving =
      let r = runs_of (s.objects caller) in
      let bytes = bytes_between s thread caller message.count in
      woken-whole (kind_at s) (deliver_with s bytes caller 0 message) caller r
      (deliver_with-moving (kind_at s) s caller r (λ _. 0) false bytes caller 0 message is_thread moving
      (between-bytes s moving.listed.rest thread caller message.count sound.count) (omega arith) sound) is_thread

  handled-whole : Moving (kind_at s) s caller (runs_of (s.objects caller)) (λ _. 0) false → IsSound (reply_to_fault s caller message)
  handled-whole moving =
      let r = runs_of (s.objects caller) in
      let file = (thread_at s caller).registers in
      let fine = fine-of s whole caller is_thread in
      let registers = registers-of (thread_at s caller) fine in
      elim (message.label == 0)
      as (λ b. IsSound (if b then wake (with_registers s caller (record file { pc = resumption file.pc message.words })) caller else
      block s caller Inactive)) [
        | true ↦
            woken-whole (kind_at s) (with_registers s caller (record file { pc = resumption file.pc message.words })) caller r
            (registers-moving (kind_at s) s caller r (λ _. 0) false caller is_thread (record file { pc = resumption file.pc message.words }) moving
            (with-pc file (resumption file.pc message.words) registers (resumption-less file.pc message.words registers.pc sound.words))) is_thread
        | false ↦ stopped-whole (kind_at s) s caller r (λ _. 0) false moving is_thread Inactive refl (λ _. refl) (λ e. e)
      ]

  replied-whole : (status : Status) → (thread_at s caller).status ≡ status → IsSound (replied s thread caller status message)
  replied-whole AwaitsReply is = called_back-whole (alone AwaitsReply is (λ _. refl))
  replied-whole AwaitsHandler is = handled-whole (alone AwaitsHandler is (λ _. refl))
  replied-whole Inactive is = whole
  replied-whole Runnable is = whole
  replied-whole (Blocked queue) is = whole

module _ (s : State) (thread : ℕ) (whole : IsSound s) (is_thread : kind_at s thread ≡ Some NewThread) where
  abbrev without_right : State
  without_right = with_caller s thread None

  status-still : (other : ℕ) → (thread_at without_right other).status ≡ (thread_at s other).status
  status-still =
      put-either s.objects thread (Some (ThreadObject (record (thread_at s thread) { caller = None })))
      (λ other o. (own_of o).status ≡ (thread_at s other).status) refl (λ _ _. refl)

  right-gone : (caller : ℕ) → (thread_at s thread).caller ≡ Some caller → (other : ℕ) → (thread_at without_right other).caller ≢ Some caller
  right-gone caller is =
      put-either s.objects thread (Some (ThreadObject (record (thread_at s thread) { caller = None }))) (λ other o. (own_of o).caller ≢ Some caller)
      (λ e. let clash : None ≡ Some caller = e in cc)
      (λ other apart e. apart (whole.threads.one_right other thread caller e is))

  reply-by : (o : Option ℕ) → (thread_at s thread).caller ≡ o
      → IsSound (option_map_or (λ caller. replied without_right thread caller (thread_at s caller).status (message_between s thread caller)) o s)
  reply-by None is = whole
  reply-by (Some caller) is =
      replied-whole without_right thread caller (message_between s thread caller) (dropped-whole s thread whole is_thread)
      (dropped-kinds s thread whole is_thread caller ∙ answering-kind (s.objects caller) (whole.threads.callers thread caller is))
      (between-message s thread caller (fine-of s whole thread is_thread)) (right-gone caller is) (thread_at s caller).status (status-still caller)

  pub reply-whole : IsSound (reply s thread)
  reply-whole = reply-by (thread_at s thread).caller refl
