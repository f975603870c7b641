-- What a system call makes of the other threads: one at most gets more to run, the first that waits at what the call rings or sends to; a sender
-- whose message is received owes that denied more.
use Rattle.std.proofs.Common.{ℕ, ◌≡◌, ◌≢◌, ◌∙◌, ◌⊎◌, ◌+◌, ◌-◌, ◌/◌, ◌%◌, ◌^◌, ◌≤◌, ◌&&◌, inl, inr, Bool, true, false, if◌then◌else◌, Option}
use Rattle.std.proofs.Common.{Some, None, option_map, List, [], ◌∷◌, refl, sym, ap, subst, arith}
use Rattle.std.specs.Prelude.{Contains}
use Rattle.std.specs.Option.{option_map_or}
use Rattle.std.proofs.lemmas.Bool.{leb-true}
use Rattle.model.specs.declared.capabilities.Cap.{Cap}
use Rattle.model.specs.declared.capabilities.Cap.TheVariants.{Empty}
use Rattle.model.specs.declared.labels.Label.{Label}
use Rattle.model.specs.declared.slot_entries.Entry.{Entry}
use Rattle.model.specs.declared.system_calls.SendCall.TheVariants.{Calling, Sending, Trying}
use Rattle.model.specs.declared.system_calls.SystemCall.{SystemCall}
use Rattle.model.specs.declared.system_calls.SystemCall.TheVariants.{Sends, Receives, RepliesAndReceives, Replies, Yields, PutsCharacter}
use Rattle.model.specs.Acceptance.Accepted.{IsAccepted}
use Rattle.model.specs.Acceptance.Authority.{CallNames, WithinAuthority, self_of}
use Rattle.model.specs.Acceptance.PointStates.{noted}
use Rattle.model.specs.Acceptance.ThreadInvariants.{IsWaiting, tcb_of}
use Rattle.model.specs.Capabilities.Slots.{capability_at}
use Rattle.model.specs.Images.Described.{Numbered, numbered_threads}
use Rattle.model.specs.Images.Image.{Image}
use Rattle.model.specs.Kernel.Deliveries.{Reason, SendsTo as SendsToEndpoint, Signals, TakesReceiver, TakesSender, TakesWaiter, caller, faulted}
use Rattle.model.specs.Kernel.Deliveries.{once_received, receiver, sender, set_back, waiter, woken}
use Rattle.model.specs.Kernel.Kinds.{Names, kind_at, kind_of}
use Rattle.model.specs.Kernel.Messages.{a0, delivered, message_between}
use Rattle.model.specs.Kernel.Retype.{NewEndpoint, NewNotification, NewObject}
use Rattle.model.specs.Kernel.Scheduling.{is_runnable}
use Rattle.model.specs.Kernel.State.{AwaitsHandler, AwaitsReply, Blocked, CNodeObject, FrameObject, PageTableObject, RootTableObject, EndpointObject}
use Rattle.model.specs.Kernel.State.{EndpointState, Inactive, NotificationObject}
use Rattle.model.specs.Kernel.State.{NotificationState, Object, Runnable, Sender, Sent, State, Status, ThreadObject, ThreadState, as_endpoint}
use Rattle.model.specs.Kernel.State.{endpoint_at, new_endpoint, notification_at, thread_at}
use Rattle.model.specs.Kernel.Waits.{open_count}
use Rattle.model.specs.Machine.Effects.{advanced}
use Rattle.model.specs.Machine.ProgramMemory.{RegisterFile, write}
use Rattle.soundness.proofs.Laws.{endpoint-kind, notification-kind}
use Rattle.headline.proofs.Laws.{held-there, one-owner}
use Rattle.headline.specs.facts.Standing.{AllStand}
use Rattle.headline.specs.facts.Waiting.{NamesQueue, QueuesSo, WaitsSo}
use Rattle.headline.specs.moves.Laws.{Laws}
use Rattle.response.specs.Asking.{Accepts, Acknowledges, Answers, Asked, Asks_nothing, Calls, Looks, Polls, Rings, SendsTo, Takes, Tries, asked_at, asked_by}
use Rattle.response.specs.Asking.{asked_to_send}
use Rattle.response.specs.Laws.{WaitsToTake}
use Rattle.response.specs.Left.{left_of_thread, point_now}
use Rattle.response.specs.Levels.{is_of_level}
use Rattle.response.specs.Owed.{WaitsWhereAsked, asked_noted, asked_there, going_on, owed_as, owed_of_thread}
use Rattle.response.specs.Weights.{Pays, Weights, pays_for, price_of}
use Rattle.response.proofs.AskedNow.{asked_now}
use Rattle.response.proofs.AtBells.{there-is}
use Rattle.response.proofs.Interrupts.{thread-of, thread-same}
use Rattle.response.proofs.OwnMessages.{delivered-pc}
use Rattle.response.proofs.OwnCalls.{write-pc}
use Rattle.response.proofs.Rises.{waiters-of}
use Rattle.response.proofs.Rung.{asks-of, rung_by, signals-rung}
use Rattle.response.proofs.WaitingThreads.{WaitsAt, accepts-there, as_caller, as_sender, asks-there, called-there, here, leads-on, owed-is, runs-on}
use Rattle.response.proofs.WaitingThreads.{sends-there, waits-at}

-- ---- what a call reaches

-- a notification that is rung, or an endpoint to which a message goes
abbrev pub reached_by : State → State → Asked → Option ℕ
reached_by s after (SendsTo e) = Some e
reached_by s after (Calls e) = Some e
reached_by s after (Tries e) = Some e
reached_by s after (Rings o) = Some o
reached_by s after (Acknowledges number) = rung_by s after (Acknowledges number)
reached_by s after (Takes o) = None
reached_by s after (Polls o) = None
reached_by s after (Accepts o replies) = None
reached_by s after (Looks o) = None
reached_by s after Answers = None
reached_by s after Asks_nothing = None

-- who waits there for what comes
abbrev pub takers_in : Option Object → List ℕ
takers_in (Some (EndpointObject e)) = e.receivers
takers_in (Some (NotificationObject n)) = n.waiters
takers_in None = []
takers_in (Some (ThreadObject t)) = []
takers_in (Some (CNodeObject radix)) = []
takers_in (Some FrameObject) = []
takers_in (Some PageTableObject) = []
takers_in (Some RootTableObject) = []

pub rung-reached : (s after : State) (asked : Asked) (o : ℕ) → rung_by s after asked ≡ Some o → reached_by s after asked ≡ Some o
rung-reached s after (Rings other) o is = is
rung-reached s after (Acknowledges number) o is = is
rung-reached s after (SendsTo e) o is = absurd (let clash : ◌≡◌ {A = Option ℕ} None (Some o) = is in cc)
rung-reached s after (Calls e) o is = absurd (let clash : ◌≡◌ {A = Option ℕ} None (Some o) = is in cc)
rung-reached s after (Tries e) o is = absurd (let clash : ◌≡◌ {A = Option ℕ} None (Some o) = is in cc)
rung-reached s after (Takes e) o is = absurd (let clash : ◌≡◌ {A = Option ℕ} None (Some o) = is in cc)
rung-reached s after (Polls e) o is = absurd (let clash : ◌≡◌ {A = Option ℕ} None (Some o) = is in cc)
rung-reached s after (Accepts e replies) o is = absurd (let clash : ◌≡◌ {A = Option ℕ} None (Some o) = is in cc)
rung-reached s after (Looks e) o is = absurd (let clash : ◌≡◌ {A = Option ℕ} None (Some o) = is in cc)
rung-reached s after Answers o is = absurd (let clash : ◌≡◌ {A = Option ℕ} None (Some o) = is in cc)
rung-reached s after Asks_nothing o is = absurd (let clash : ◌≡◌ {A = Option ℕ} None (Some o) = is in cc)

by-send : (s after : State) (e badge : ℕ) (call : SystemCall) (c : Cap) → SendsToEndpoint e badge call c → reached_by s after (asked_by call c) ≡ Some e
by-send s after e badge (Sends Calling) c d = ap (λ (x : Cap). reached_by s after (asked_to_send Calling x)) d.is
by-send s after e badge (Sends Sending) c d = ap (λ (x : Cap). reached_by s after (asked_to_send Sending x)) d.is
by-send s after e badge (Sends Trying) c d = ap (λ (x : Cap). reached_by s after (asked_to_send Trying x)) d.is
by-send s after e badge (Receives kind) c d = absurd (let clash : false ≡ true = d.sends in cc)
by-send s after e badge RepliesAndReceives c d = absurd (let clash : false ≡ true = d.sends in cc)
by-send s after e badge Replies c d = absurd (let clash : false ≡ true = d.sends in cc)
by-send s after e badge Yields c d = absurd (let clash : false ≡ true = d.sends in cc)
by-send s after e badge PutsCharacter c d = absurd (let clash : false ≡ true = d.sends in cc)

-- ---- a thread's share

abbrev pub share : Image → ℕ → Weights → State → List Label → Numbered → ℕ
share image priority w s labels u = left_of_thread image priority w s labels u + owed_of_thread image priority w s u

pub rests-left : (image : Image) (priority : ℕ) (w : Weights) (s : State) (labels : List Label) (u : Numbered)
    → is_runnable (thread_at s (tcb_of image u)).status ≡ false → left_of_thread image priority w s labels u ≡ 0
rests-left image priority w s labels u rests = elim (is_of_level priority u) as (λ b. (if b && is_runnable (thread_at s (tcb_of image u)).status
    then u.thread.header.budget - open_count (tcb_of image u) labels + w.still u.number (point_now image s u) else 0) ≡ 0) [
      | true ↦ ap (λ (b : Bool). if b then u.thread.header.budget - open_count (tcb_of image u) labels + w.still u.number (point_now image s u) else 0) rests
      | false ↦ refl
    ]

pub owed-same : (image : Image) (priority : ℕ) (w : Weights) (s after : State) (u : Numbered)
    → (thread_at after (tcb_of image u)).status ≡ (thread_at s (tcb_of image u)).status
    → (thread_at after (tcb_of image u)).registers.pc ≡ (thread_at s (tcb_of image u)).registers.pc
    → owed_of_thread image priority w after u ≡ owed_of_thread image priority w s u
owed-same image priority w s after u status pc =
    ap (λ (k : ℕ). owed_as w (going_on priority w u ((k - u.thread.header.base) / 4))
    (asked_noted image u ((k - u.thread.header.base) / 4) (noted image u ((k - u.thread.header.base) / 4))) (thread_at after (tcb_of image u)).status) pc
    ∙ ap (λ (x : Status). owed_as w (going_on priority w u (point_now image s u)) (asked_there image s u) x) status

pub owed-runs : (image : Image) (priority : ℕ) (w : Weights) (s : State) (u : Numbered) → (thread_at s (tcb_of image u)).status ≡ Runnable
    → owed_of_thread image priority w s u ≡ 0
owed-runs image priority w s u runs = ap (λ (x : Status). owed_as w (going_on priority w u (point_now image s u)) (asked_there image s u) x) runs

abbrev receivers-of : Option Object → List ℕ
receivers-of o = (option_map_or (λ (e : EndpointState). e) (as_endpoint o) new_endpoint).receivers

abbrev senders-of : Option Object → List Sender
senders-of o = (option_map_or (λ (e : EndpointState). e) (as_endpoint o) new_endpoint).senders

module _ (laws : Laws) (bytes : List ℕ) (image : Image) (accepted : IsAccepted bytes image) (priority : ℕ) (w : Weights) (pays : Pays image priority w)
    (s after : State) (labels later : List Label) (all : AllStand image s labels) (behind : AllStand image after later)
    (told : (a b : ThreadState) → (a ≡ b) ⊎ (a ≢ b)) (t : Numbered) (listed : Contains (numbered_threads image) t)
    (within : WithinAuthority image t.thread s after)
    (takes : (u : Numbered) (queue : ℕ) (n : NotificationState) (others : List ℕ) → Contains (numbered_threads image) u
    → s.objects queue ≡ Some (NotificationObject n) → n.waiters ≡ tcb_of image u ∷ others → WaitsToTake image u s labels queue)
    (where_asked : (u : Numbered) → Contains (numbered_threads image) u → WaitsWhereAsked image u s)
    (counts : (thread : ℕ) → thread ≢ tcb_of image t → open_count thread later ≡ open_count thread labels) where
  abbrev reached : Option ℕ
  reached = reached_by s after (asked_now s (tcb_of image t))

  abbrev before_of : Numbered → ℕ
  before_of = share image priority w s labels

  abbrev after_of : Numbered → ℕ
  after_of = share image priority w after later

  -- it is as it was; the first that waits at what is reached; a sender whose message is received; or one that is answered
  pub data Moved (u : Numbered) : Type 0 where
    as_it_was : after.objects (tcb_of image u) ≡ s.objects (tcb_of image u) → after_of u ≤ before_of u → Moved u
    worth : (o : ℕ) (rest : List ℕ) → reached ≡ Some o → takers_in (s.objects o) ≡ tcb_of image u ∷ rest → after_of u ≤ price_of w o → Moved u
    gave : (e : ℕ) → (thread_at s (tcb_of image u)).status ≡ Blocked e → after_of u + price_of w e ≤ before_of u → Moved u
    answered : (thread_at s (tcb_of image u)).status ≡ AwaitsReply → after_of u ≤ before_of u → Moved u

  module _ (u : Numbered) (among : Contains (numbered_threads image) u) (apart : tcb_of image u ≢ tcb_of image t) where
    abbrev tcb : ℕ
    tcb = tcb_of image u

    module _ (before changed : ThreadState) (was : s.objects (tcb_of image u) ≡ Some (ThreadObject before))
        (is : after.objects (tcb_of image u) ≡ Some (ThreadObject changed)) where
      at_before : thread_at s tcb ≡ before
      at_before = ap thread-of was

      at_changed : thread_at after tcb ≡ changed
      at_changed = ap thread-of is

      waiting : is_runnable before.status ≡ false → WaitsAt image u s labels before
      waiting rests = waits-at laws bytes image s labels accepted all u among before was rests

      -- where it waited nothing was left
      none-left : is_runnable before.status ≡ false → left_of_thread image priority w s labels u ≡ 0
      none-left rests = rests-left image priority w s labels u (ap (λ (x : ThreadState). is_runnable x.status) at_before ∙ rests)

      module _ (v : WaitsAt image u s labels before) where
        abbrev next : ℕ
        next = going_on priority w u v.point

        abbrev asked : Asked
        asked = asked_at image u.thread v.point v.state

        -- what it takes or accepts pays for it
        accept-worth : (o : ℕ) → ((budget here_ next_ : ℕ) → pays_for w budget here_ next_ asked ≡ true → budget + next_ ≤ price_of w o)
            → going_on priority w u v.point ≤ price_of w o
        accept-worth o pays_so = elim (is_of_level priority u) as (λ b. is_of_level priority u ≡ b
            → (if b then u.thread.header.budget + w.still u.number (v.point + 1) else 0) ≤ price_of w o) [
              | true ↦ λ level.
                  pays_so u.thread.header.budget (w.still u.number v.point) (w.still u.number (v.point + 1))
                  (pays.points u v.point v.state (v.point + 1) among level v.stands.inside v.stands.known
                  (leads-on laws bytes image s labels accepted all u among before v))
              | false ↦ λ _. omega arith
            ] refl

        -- it runs on at the next point
        goes-on : (r : RegisterFile) → r.pc ≡ before.registers.pc → changed.registers.pc ≡ (advanced r).pc → changed.status ≡ Runnable
            → after_of u ≤ going_on priority w u v.point
        goes-on r same pc runs =
            runs-on laws bytes image s labels accepted all u among before v priority w after later (ap (λ (x : ThreadState). x.status) at_changed ∙ runs)
            (ap (λ (x : ThreadState). x.registers.pc) at_changed ∙ pc ∙ ap (λ (k : ℕ). (k + 4) % 2 ^ 32) same)

        owed-was : owed_of_thread image priority w s u ≡ owed_as w (going_on priority w u v.point) (asked_at image u.thread v.point v.state) before.status
        owed-was = owed-is laws bytes image s labels accepted all u among before v priority w

        take-pays : (o : ℕ) → asked ≡ Takes o → (budget here_ next_ : ℕ) → pays_for w budget here_ next_ asked ≡ true → budget + next_ ≤ price_of w o
        take-pays o asks budget here_ next_ paid =
            leb-true (budget + next_) (price_of w o) (subst (λ (a : Asked). pays_for w budget here_ next_ a ≡ true) asks paid)

        accept-pays : (o : ℕ) (replies : Bool) → asked ≡ Accepts o replies → (budget here_ next_ : ℕ) → pays_for w budget here_ next_ asked ≡ true
            → budget + next_ ≤ price_of w o
        accept-pays o replies asks budget here_ next_ paid =
            leb-true (budget + next_) (price_of w o) (subst (λ (a : Asked). pays_for w budget here_ next_ a ≡ true) asks paid)

      -- ---- the reasons

      blocked-rests : (queue : ℕ) → before.status ≡ Blocked queue → is_runnable before.status ≡ false
      blocked-rests queue blocked = ap is_runnable blocked

      as-receiver : (e badge : ℕ) (right : Option ℕ) → TakesReceiver s after e tcb → before.status ≡ Blocked e
          → CallNames image t.thread s (SendsToEndpoint e badge) → (r : RegisterFile) → r.pc ≡ before.registers.pc
          → changed.registers.pc ≡ (advanced r).pc → changed.status ≡ Runnable → Moved u
      as-receiver e badge right gone blocked named r same pc runs =
          let found = endpoint-kind (s.objects e) gone.was in
          let q = found.0 in
          let first : q.receivers ≡ tcb ∷ (endpoint_at after e).receivers = sym (ap receivers-of found.1) ∙ gone.leaves in
          let v = waiting (blocked-rests e blocked) in
          let there = accepts-there laws bytes image s labels accepted all u among before v (where_asked u among) e blocked q found.1
          (subst (λ (l : List ℕ). Contains l tcb) (sym first) (0, omega arith, refl)) in
          let less = goes-on v r same pc runs in
          let worth_ = accept-worth v e (accept-pays v e there.0 there.1) in
          worth e (endpoint_at after e).receivers
          (ap (reached_by s after) (asks-of image t.thread s after all.sound.slots.derivation.valid (SendsToEndpoint e badge) named)
          ∙ by-send s after e badge named.call (capability_at s.slots named.slot) named.such)
          (ap takers_in found.1 ∙ first)
          (omega (arith, less, worth_))

      -- a caller whose message is received waits for the answer
      as-caller : (e : ℕ) (blocked : before.status ≡ Blocked e) (v : WaitsAt image u s labels before) → asked_at image u.thread v.point v.state ≡ Calls e
          → changed ≡ record before { status = AwaitsReply } → Moved u
      as-caller e blocked v asks so =
          let at = at_changed ∙ so in
          let pc : (thread_at after tcb).registers.pc ≡ (thread_at s tcb).registers.pc =
          ap (λ (x : ThreadState). x.registers.pc) at ∙ sym (ap (λ (x : ThreadState). x.registers.pc) at_before) in
          let spot = here laws bytes image s labels accepted all u among before v in
          let now : owed_of_thread image priority w after u ≡ going_on priority w u v.point =
          ap (λ (k : ℕ). owed_as w (going_on priority w u ((k - u.thread.header.base) / 4))
          (asked_noted image u ((k - u.thread.header.base) / 4) (noted image u ((k - u.thread.header.base) / 4))) (thread_at after tcb).status) pc
          ∙ ap (λ (x : ThreadState). owed_as w (going_on priority w u (point_now image s u)) (asked_there image s u) x.status) at
          ∙ ap (λ (a : Asked). owed_as w (going_on priority w u (point_now image s u)) a AwaitsReply) (spot.1 ∙ asks)
          ∙ ap (λ (k : ℕ). going_on priority w u k) spot.0 in
          let rests : left_of_thread image priority w after later u ≡ 0 =
          rests-left image priority w after later u (ap (λ (x : ThreadState). is_runnable x.status) at) in
          let before_left = none-left (blocked-rests e blocked) in
          let owes : owed_of_thread image priority w s u ≡ price_of w e + going_on priority w u v.point =
          owed-was v ∙ ap (λ (a : Asked). owed_as w (going_on priority w u v.point) a before.status) asks
          ∙ ap (λ (x : Status). owed_as w (going_on priority w u v.point) (Calls e) x) blocked in
          gave e (ap (λ (x : ThreadState). x.status) at_before ∙ blocked) (omega (arith, now, rests, before_left, owes))

      -- a sender goes on
      as-sender : (e : ℕ) (blocked : before.status ≡ Blocked e) (v : WaitsAt image u s labels before) → asked_at image u.thread v.point v.state ≡ SendsTo e
          → changed ≡ woken before (advanced before.registers) → Moved u
      as-sender e blocked v asks so =
          let less = goes-on v before.registers refl (ap (λ (x : ThreadState). x.registers.pc) so) (ap (λ (x : ThreadState). x.status) so) in
          let before_left = none-left (blocked-rests e blocked) in
          let owes : owed_of_thread image priority w s u ≡ price_of w e + going_on priority w u v.point =
          owed-was v ∙ ap (λ (a : Asked). owed_as w (going_on priority w u v.point) a before.status) asks
          ∙ ap (λ (x : Status). owed_as w (going_on priority w u v.point) (SendsTo e) x) blocked in
          gave e (ap (λ (x : ThreadState). x.status) at_before ∙ blocked) (omega (arith, less, before_left, owes))

      sent-by : (e : ℕ) (first : Sender) → TakesSender s after e first → first.thread ≡ tcb → before.status ≡ Blocked e
          → changed ≡ once_received first first.sent before → Moved u
      sent-by e first gone own blocked so =
          let found = endpoint-kind (s.objects e) gone.was in
          let q = found.0 in
          let head : q.senders ≡ first ∷ (endpoint_at after e).senders = sym (ap senders-of found.1) ∙ gone.leaves in
          let v = waiting (blocked-rests e blocked) in
          let place = subst (λ (l : List Sender). Contains l first) (sym head) (0, omega arith, refl) in
          elim (sends-there laws bytes image s labels accepted all u among before v (where_asked u among) e blocked q found.1 first place own) [
            | as_sender sent asks ↦ as-sender e blocked v asks (so ∙ ap (λ (k : Sent). once_received first k before) sent)
            | as_caller sent grants asks ↦
                as-caller e blocked v asks (so ∙ ap (λ (k : Sent). once_received first k before) sent
                ∙ ap (λ (b : Bool). record before { status = if b then AwaitsReply else Inactive }) grants)
          ]

      as-waiter : (o badge : ℕ) → TakesWaiter s after o tcb → before.status ≡ Blocked o → CallNames image t.thread s (Signals s after o badge)
          → changed ≡ woken before (advanced (write before.registers a0 badge)) → Moved u
      as-waiter o badge gone blocked named so =
          let found = notification-kind (s.objects o) gone.was in
          let head : found.0.waiters ≡ tcb ∷ (notification_at after o).waiters = sym (ap waiters-of found.1) ∙ gone.leaves in
          let waits = takes u o found.0 (notification_at after o).waiters among found.1 head in
          let v = waiting (blocked-rests o blocked) in
          let spot = here laws bytes image s labels accepted all u among before v in
          let other = asks-there image u s waits.own waits.point waits.state waits.there waits.stands in
          let asks : asked_at image u.thread v.point v.state ≡ Takes o = sym spot.1 ∙ other.1 ∙ waits.asks in
          let less = goes-on v (write before.registers a0 badge) (write-pc before.registers a0 badge) (ap (λ (x : ThreadState). x.registers.pc) so)
          (ap (λ (x : ThreadState). x.status) so) in
          let worth_ = accept-worth v o (take-pays v o asks) in
          worth o (notification_at after o).waiters
          (rung-reached s after (asked_now s (tcb_of image t)) o
          (signals-rung image t.thread s after all.sound.slots.derivation.valid o badge named)) (ap takers_in found.1 ∙ head) (omega (arith, less, worth_))

      as-answered : before.status ≡ AwaitsReply → (r : RegisterFile) → r.pc ≡ before.registers.pc → changed.registers.pc ≡ (advanced r).pc
          → changed.status ≡ Runnable → Moved u
      as-answered awaits r same pc runs =
          let v = waiting (ap is_runnable awaits) in
          let called = called-there laws bytes image s labels accepted all u among before v (where_asked u among) awaits in
          let less = goes-on v r same pc runs in
          let before_left = none-left (ap is_runnable awaits) in
          let owes : owed_of_thread image priority w s u ≡ going_on priority w u v.point =
          owed-was v ∙ ap (λ (a : Asked). owed_as w (going_on priority w u v.point) a before.status) called.1
          ∙ ap (λ (x : Status). owed_as w (going_on priority w u v.point) (Calls called.0) x) awaits in
          answered (ap (λ (x : ThreadState). x.status) at_before ∙ awaits) (omega (arith, less, before_left, owes))

      -- what it waits for has a capability in a slot of its own, which the step leaves
      no-end : (queue : ℕ) → before.status ≡ Blocked queue → after.objects queue ≡ None → ⊥
      no-end queue blocked gone =
          let v = waiting (blocked-rests queue blocked) in
          let so : QueuesSo image u s v.state v.left queue = subst (λ (x : Status). WaitsSo image u s v.state v.left x) blocked v.so in
          let held = held-there laws.holds laws.finds bytes image u s accepted among before v.point v.state v.left v.stands v.call (NamesQueue queue)
          so.capability so.named so.leads in
          let mine = within.slots held.slot (λ same. still held.slot held.such (ap (λ (e : Option Entry). option_map_or (λ x. x.capability) e Empty) same)) in
          apart (ap (tcb_of image) (one-owner image accepted.spelled.fits accepted.formed u t held.slot among listed held.own mine))
        where
          none-there : (kind : NewObject) → kind_at after queue ≡ Some kind → ⊥
          none-there kind is_kind =
              let clash : ◌≡◌ {A = Option NewObject} None (Some kind) = sym (ap (option_map kind_of) gone) ∙ is_kind in
              absurd cc

          still : (slot : ℕ) → NamesQueue queue (capability_at s.slots slot) → capability_at s.slots slot ≡ capability_at after.slots slot → ⊥
          still slot (inl endpoint) same =
              none-there NewEndpoint (behind.sound.memory.named slot NewEndpoint queue (subst (λ (c : Cap). Names NewEndpoint queue c) same endpoint))
          still slot (inr bell) same =
              none-there NewNotification (behind.sound.memory.named slot NewNotification queue (subst (λ (c : Cap). Names NewNotification queue c) same bell))

      by-reason : Reason s after (self_of image t.thread) (CallNames image t.thread s) (tcb_of image u) before changed → Moved u
      by-reason (receiver endpoint badge right gone blocked named may so arrives) =
          let message = message_between s (self_of image t.thread) tcb in
          as-receiver endpoint badge right gone blocked named (delivered before.registers badge message)
          (delivered-pc before.registers badge message) (ap (λ (x : ThreadState). x.registers.pc) so)
          (ap (λ (x : ThreadState). x.status) so)
      by-reason (sender endpoint first gone own blocked named so arrives) = sent-by endpoint first gone own blocked so
      by-reason (waiter o badge gone blocked named so) = as-waiter o badge gone blocked named so
      by-reason (caller right awaits so arrives) =
          let message = message_between s (self_of image t.thread) tcb in
          as-answered awaits (delivered before.registers 0 message) (delivered-pc before.registers 0 message)
          (ap (λ (x : ThreadState). x.registers.pc) so) (ap (λ (x : ThreadState). x.status) so)
      by-reason (faulted right awaits so) =
          let v = waiting (ap is_runnable awaits) in
          let never : IsWaiting AwaitsHandler = subst IsWaiting awaits v.waiting in
          absurd never
      by-reason (set_back queue blocked some gone so) = absurd (no-end queue blocked gone)

      kept-share : before ≡ changed → Moved u
      kept-share same =
          let alike : thread_at after tcb ≡ thread_at s tcb = at_changed ∙ sym same ∙ sym at_before in
          let e = thread-same image priority w s after labels later u alike (counts tcb apart) in
          let o = owed-same image priority w s after u (ap (λ (x : ThreadState). x.status) alike) (ap (λ (x : ThreadState). x.registers.pc) alike) in
          as_it_was (is ∙ ap (λ (x : ThreadState). Some (ThreadObject x)) (sym same) ∙ sym was) (omega (arith, e, o))

      by-states : Moved u
      by-states = elim (told before changed) [
        | inl same ↦ kept-share same
        | inr differs ↦ by-reason (within.threads (tcb_of image u) before changed apart was is differs)
      ]

    pub moved : Moved u
    moved =
        let was = there-is image u s labels (all.stand u among) in
        let is = there-is image u after later (behind.stand u among) in
        by-states was.0 is.0 was.1 is.1
