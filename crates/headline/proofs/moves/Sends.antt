-- A send to an endpoint keeps the threads' invariant: the first receiver gets the message, or the thread waits.
use Rattle.std.proofs.Common.{ℕ, zero, suc, ◌≡◌, ◌≢◌, ◌∙◌, ◌==◌, ◌++◌, ◌^◌, ◌<◌, ◌≤◌, inl, inr, Bool, true, false, if◌then◌else◌, Option, Some, List, [], ◌∷◌}
use Rattle.std.proofs.Common.{length, map, get_or, refl, sym, ap, subst, arith}
use Rattle.std.specs.Prelude.{Contains}
use Rattle.std.proofs.lemmas.Bool.{eqb-true, eqb-false}
use Rattle.headline.specs.facts.Standing.{AllStand}
use Rattle.headline.specs.facts.Waiting.{NamesQueue, NamesThere, SendsSo, WaitsAsAsked, WaitsSo, behind_receive, behind_reply}
use Rattle.headline.specs.calls.Messages.{KnownToKeepAt}
use Rattle.model.specs.declared.capabilities.Cap.{Cap}
use Rattle.model.specs.declared.labels.Label.{Label}
use Rattle.model.specs.Acceptance.Accepted.{IsAccepted}
use Rattle.headline.specs.moves.Ground.{SameGround}
use Rattle.model.specs.Acceptance.CallRules.{AfterCall, changes_nothing}
use Rattle.model.specs.Acceptance.NotedStates.{PointState}
use Rattle.model.specs.Acceptance.Promises.{KeepsPromise, promise_at}
use Rattle.model.specs.Acceptance.ThreadInvariants.{IsWaiting, ThreadInvariant, tcb_of}
use Rattle.model.specs.Images.Described.{Numbered, numbered_threads}
use Rattle.model.specs.Images.Image.{Image, ImagePromise}
use Rattle.model.specs.Kernel.Deliveries.{woken}
use Rattle.model.specs.Kernel.Messages.{Message, deliver_sent, delivered, message_between, message_to, received, send_to, waits_to_send, with_caller}
use Rattle.model.specs.Kernel.Scheduling.{block, wake}
use Rattle.model.specs.Kernel.Soundness.{IsSound, waiting_at}
use Rattle.model.specs.Kernel.State.{State, Inactive, Runnable, Blocked, AwaitsReply, Object, ThreadObject, EndpointObject, EndpointState, NotificationObject}
use Rattle.model.specs.Kernel.State.{Sender, Sent, BySend, ByCall, ThreadState, endpoint_at, with_endpoint}
use Rattle.model.specs.Kernel.Steps.{sender}
use Rattle.model.specs.Kernel.Waits.{open_count}
use Rattle.model.specs.Machine.Effects.{advanced}
use Rattle.model.specs.Machine.ProgramMemory.{RegisterFile}
use Rattle.model.specs.Shared.Lists.{times_in}
use Rattle.headline.specs.moves.Moving.{CallsAt}
use Rattle.headline.specs.moves.Laws.{Laws}
use Rattle.headline.specs.calls.Laws.{IsMessage}
use Rattle.headline.proofs.moves.LeftAlone.{one-thread}
use Rattle.headline.proofs.moves.Asked.{asked-once}
use Rattle.headline.proofs.moves.Calling.{IsCounted, QueueChanges, QueuesOn, own-passes, rest-by-queue}
use Rattle.headline.proofs.moves.Pairs.{two-move}
use Rattle.headline.proofs.moves.Passing.{begins}
use Rattle.headline.proofs.moves.Places.{at-endpoint, blocked, blocked-there, caller-here, caller-there, delivered-here, delivered-there, endpoint-here}
use Rattle.headline.proofs.moves.Places.{endpoint-there, went-here, went-there, woke, woke-there}
use Rattle.headline.proofs.moves.Queued.{IsBlockedAt, contains-before, contains-last, contains-more, first-times, more-times, queued-there, times-before}
use Rattle.headline.proofs.moves.Queued.{times-behind}
use Rattle.headline.proofs.moves.Standing.{all-stand, touches-none}
use Rattle.headline.proofs.moves.Waiters.{StandsWaiting, delivered-pc, message-fine, message-keeps, stands-waiting}
use Rattle.headline.proofs.moves.Woken.{FitsBehind, wakes-up}

-- a sender among others is a thread among their threads
pub sender-times : (xs : List Sender) (y : Sender) (receivers : List ℕ) → Contains xs y → 1 ≤ times_in (map (λ (x : Sender). x.thread) xs ++ receivers) y.thread
sender-times xs y receivers among =
    let some = among-senders xs among.0 among.1 among.2 in
    let more = times-before (map (λ (x : Sender). x.thread) xs) receivers y.thread in
    omega (arith, some, more)
  where
    among-senders : (xs : List Sender) (k : ℕ) → k < length xs → get_or xs k y ≡ y → 1 ≤ times_in (map (λ (x : Sender). x.thread) xs) y.thread
    among-senders [] k inside is = absurd (omega (arith, inside))
    among-senders (x ∷ xs) zero inside is = first-times (map (λ (x : Sender). x.thread) xs) y.thread x.thread (ap (λ (z : Sender). z.thread) is)
    among-senders (x ∷ xs) (suc k) inside is =
        let rest = among-senders xs k (omega (arith, inside)) is in
        let more = more-times (map (λ (x : Sender). x.thread) xs) y.thread x.thread in
        omega (arith, rest, more)

-- the first receiver is in the queue
receiver-times : (senders : List ℕ) (r : ℕ) (others : List ℕ) → 1 ≤ times_in (senders ++ r ∷ others) r
receiver-times senders r others =
    let first = first-times others r r refl in
    let more = times-behind senders (r ∷ others) r in
    omega (arith, first, more)

-- the first receiver of an endpoint is blocked there
pub receiver-blocked : (s : State) → IsSound s → (e : ℕ) → s.objects e ≡ Some (EndpointObject (endpoint_at s e)) → (r : ℕ) (others : List ℕ)
    → (endpoint_at s e).receivers ≡ r ∷ others → IsBlockedAt s r e
receiver-blocked s sound e was r others first =
    let ep = endpoint_at s e in
    queued-there s r e sound.threads
    (subst (λ (o : Option Object). 1 ≤ times_in (waiting_at o) r) (sym was)
    (subst (λ (xs : List ℕ). 1 ≤ times_in (map (λ (y : Sender). y.thread) ep.senders ++ xs) r) (sym first)
    (receiver-times (map (λ (y : Sender). y.thread) ep.senders) r others)))

module _ (laws : Laws) (bytes : List ℕ) (image : Image) (s : State) (labels later : List Label) (accepted : IsAccepted bytes image)
    (all : AllStand image s labels)
    (t : Numbered) (listed : Contains (numbered_threads image) t) (own : ThreadState) (point : ℕ) (state : PointState) (left : AfterCall)
    (at : CallsAt image t s labels own point state left) (counts : IsCounted image t labels later left.is_wait)
    (e : ℕ) (old : EndpointState) (was : s.objects e ≡ Some (EndpointObject old))
    (sent : Sent) (badge : ℕ) (grants : Bool) (after : State) (sound : IsSound after) (store : SameGround image s after) where
  abbrev tcb : ℕ
  tcb = tcb_of image t

  abbrev x : Sender
  x = sender tcb sent badge grants

  abbrev ep : EndpointState
  ep = endpoint_at s e

  e-apart : e ≢ tcb
  e-apart is = let clash : Some (EndpointObject old) ≡ Some (ThreadObject own) = sym was ∙ ap s.objects is ∙ at.there in absurd cc

  was-ep : s.objects e ≡ Some (EndpointObject ep)
  was-ep = was ∙ ap (λ (f : EndpointState). Some (EndpointObject f)) (sym (at-endpoint s e old was))

  -- ---- nobody receives

  module _ (none : ep.receivers ≡ []) (objects : (y : ℕ) → after.objects y ≡ (waits_to_send s e x).objects y) (waits : left.is_wait ≡ true)
      (capability : Cap) (named : NamesThere image t state capability) (leads : NamesQueue e capability) (so : SendsSo image e state left capability x) where
    abbrev queued : EndpointState
    queued = record ep { senders = ep.senders ++ x ∷ [] }

    abbrev one : State
    one = with_endpoint s e queued

    abbrev next : ThreadState
    next = record own { status = Blocked e }

    after-own : after.objects tcb ≡ Some (ThreadObject next)
    after-own = objects tcb ∙ blocked one tcb (Blocked e) own (endpoint-there s e queued tcb (λ is. e-apart (sym is)) ∙ at.there)

    after-queue : after.objects e ≡ Some (EndpointObject queued)
    after-queue = objects e ∙ blocked-there one tcb (Blocked e) e e-apart ∙ endpoint-here s e queued

    after-others : (y : ℕ) → y ≢ e → (y == tcb) ≡ false → after.objects y ≡ s.objects y
    after-others y other rests = objects y ∙ blocked-there one tcb (Blocked e) y (eqb-false y tcb rests) ∙ endpoint-there s e queued y other

    queued-on : (thread : ℕ) → (thread == tcb) ≡ false → QueuesOn (EndpointObject ep) (EndpointObject queued) thread
    queued-on thread rests = record {
      sends = λ f y is among mine. let same : queued ≡ f = cc in (
        ep,
        refl,
        contains-before ep.senders y x (subst (λ (g : EndpointState). Contains g.senders y) (sym same) among)
            (λ is_x. eqb-false thread tcb rests (sym mine ∙ ap (λ (z : Sender). z.thread) is_x)),
      );
      receives = λ f is among. let same : queued ≡ f = cc in (ep, refl, subst (λ (g : EndpointState). Contains g.receivers thread) (sym same) among);
      waits = λ n is among. absurd cc;
    }

    changes : QueueChanges s after e (EndpointObject ep) (EndpointObject queued) (λ y. y == tcb)
    changes = record {
      was = was-ep;
      is = after-queue;
      old_none = λ u clash. absurd cc;
      new_none = λ u clash. absurd cc;
      others = after-others;
      moved = λ y move. (next, ap after.objects (eqb-true y tcb move) ∙ after-own);
      queues = queued-on;
    }

    -- the thread runs, so it is in no queue yet
    not-queued : (y : Sender) → Contains ep.senders y → y.thread ≡ tcb → ⊥
    not-queued y among mine =
        let there = queued-there s y.thread e all.sound.threads
        (subst (λ (o : Option Object). 1 ≤ times_in (waiting_at o) y.thread) (sym was-ep) (sender-times ep.senders y ep.receivers among)) in
        let same : there.own ≡ own = one-thread (s.objects tcb) there.own own (ap s.objects (sym mine) ∙ there.is) at.there in
        let clash : Blocked e ≡ Runnable = sym there.status ∙ ap (λ (u : ThreadState). u.status) same ∙ at.status in absurd cc

    sends-own : (f : EndpointState) (y : Sender) → after.objects e ≡ Some (EndpointObject f) → Contains f.senders y → y.thread ≡ tcb
        → SendsSo image e state left capability y
    sends-own f y is among mine =
        let same : queued ≡ f = let both : Some (EndpointObject queued) ≡ Some (EndpointObject f) = sym after-queue ∙ is in cc in
        elim (contains-last ep.senders y x (subst (λ (g : EndpointState). Contains g.senders y) (sym same) among)) [
          | inl before ↦ absurd (not-queued y before mine)
          | inr last ↦ subst (SendsSo image e state left capability) last so
        ]

    asked : WaitsAsAsked image t after
    asked =
        asked-once image t after next after-own point state left at.stands.pc at.stands.known at.call
        (record {
          capability = capability;
          named = named;
          leads = leads;
          sends = sends-own;
          receives = λ f is among. absurd (let same : queued ≡ f = let both : Some (EndpointObject queued) ≡ Some (EndpointObject f) = sym after-queue ∙ is in
              cc in
              let empty : Contains [] tcb = subst (λ (xs : List ℕ). Contains xs tcb) (ap (λ (g : EndpointState). g.receivers) (sym same) ∙ none) among in
              omega (arith, empty.1));
          waits = λ n is among. absurd (let clash : Some (EndpointObject queued) ≡ Some (NotificationObject n) = sym after-queue ∙ is in cc);
        })

    own-begins : ThreadInvariant image t after later
    own-begins =
        begins laws.stand_on image t s after own point state (touches-none bytes image t s after accepted listed all.sound sound store) at.stands next later
        (at.ecall, (left, at.call, waits)) after-own tt refl (counts.waits waits)

    pub waits-stand : AllStand image after later
    waits-stand =
        all-stand laws.stand_on bytes image s after labels later (λ y. y == tcb) accepted all sound store
        (rest-by-queue s after e (EndpointObject ep) (EndpointObject queued) (λ y. y == tcb) changes)
        (λ u among move.
        let same : t ≡ u = laws.own_blocks bytes image t u accepted listed among (sym (eqb-true (tcb_of image u) tcb move)) in
        subst (λ v. ThreadInvariant image v after later × WaitsAsAsked image v after) same (own-begins, asked))
        (λ offset u move there. record { thread = t; listed = listed; is = eqb-true offset tcb move })
        (λ u among rests. counts.others (tcb_of image u) (eqb-false (tcb_of image u) tcb rests))

  -- ---- somebody receives

  module _ (keeps : KnownToKeepAt image e state badge) (r : ℕ) (others : List ℕ) (first : ep.receivers ≡ r ∷ others) (small : badge < 2 ^ 28)
      (objects : (y : ℕ) → after.objects y ≡ (send_to (with_endpoint s e (record ep { receivers = others })) x r).objects y) where
    abbrev fewer : EndpointState
    fewer = record ep { receivers = others }

    abbrev taken : State
    taken = with_endpoint s e fewer

    abbrev message : Message
    message = message_to taken x sent r

    blocked-at : IsBlockedAt s r e
    blocked-at = receiver-blocked s all.sound e was-ep r others first

    abbrev receiver : ThreadState
    receiver = blocked-at.own

    r-apart : r ≢ tcb
    r-apart is =
        let same : receiver ≡ own = one-thread (s.objects tcb) receiver own (ap s.objects (sym is) ∙ blocked-at.is) at.there in
        let clash : Blocked e ≡ Runnable = sym blocked-at.status ∙ ap (λ (u : ThreadState). u.status) same ∙ at.status in absurd cc

    r-queue : r ≢ e
    r-queue is = let clash : Some (ThreadObject receiver) ≡ Some (EndpointObject old) = sym blocked-at.is ∙ ap s.objects is ∙ was in absurd cc

    taken-r : taken.objects r ≡ Some (ThreadObject receiver)
    taken-r = endpoint-there s e fewer r r-queue ∙ blocked-at.is

    taken-own : taken.objects tcb ≡ Some (ThreadObject own)
    taken-own = endpoint-there s e fewer tcb (λ is. e-apart (sym is)) ∙ at.there

    abbrev written : RegisterFile
    written = delivered receiver.registers badge message

    abbrev two : State
    two = deliver_sent taken x r

    abbrev three : State
    three = wake two r

    three-r : three.objects r ≡ Some (ThreadObject (woken receiver (advanced written)))
    three-r = woke two r (record receiver { registers = advanced written }) (delivered-here taken r badge message receiver taken-r)

    three-there : (y : ℕ) → y ≢ r → three.objects y ≡ taken.objects y
    three-there y other = woke-there two r y other ∙ delivered-there taken r badge message y other

    three-own : three.objects tcb ≡ Some (ThreadObject own)
    three-own = three-there tcb (λ is. r-apart (sym is)) ∙ taken-own

    waits-so : StandsWaiting image s labels r receiver
    waits-so = stands-waiting image s labels all r receiver blocked-at.is (subst IsWaiting (sym blocked-at.status) tt)

    queued-still : (thread : ℕ) → QueuesOn (EndpointObject ep) (EndpointObject fewer) thread
    queued-still thread = record {
      sends = λ f y is among mine. let same : fewer ≡ f = cc in (ep, refl, subst (λ (g : EndpointState). Contains g.senders y) (sym same) among);
      receives = λ f is among. let same : fewer ≡ f = cc in (
        ep,
        refl,
        subst (λ (xs : List ℕ). Contains xs thread) (sym first)
            (contains-more r thread others (subst (λ (g : EndpointState). Contains g.receivers thread) (sym same) among)),
      );
      waits = λ n is among. absurd cc;
    }

    own-sends : IsMessage (message_between taken tcb r)
    own-sends = message-fine taken tcb r own taken-own (all.sound.threads.threads tcb own at.there)

    abbrev KeptAt : Message → Type 0
    KeptAt m = (p : ImagePromise) → promise_at image e ≡ Some p → KeepsPromise p badge m

    own-keeps : KeptAt (message_between taken tcb r)
    own-keeps p is = message-keeps taken tcb r badge own p taken-own (laws.sent own state badge p at.stands.registers (keeps p is))

    there-r : s.objects (tcb_of image waits-so.thread) ≡ Some (ThreadObject receiver)
    there-r = ap s.objects (sym waits-so.is) ∙ blocked-at.is

    count-r : open_count (tcb_of image waits-so.thread) later ≡ open_count (tcb_of image waits-so.thread) labels
    count-r = counts.others (tcb_of image waits-so.thread) (λ is. r-apart (waits-so.is ∙ is))

    receiver-wakes : (gone : ThreadState) → after.objects r ≡ Some (ThreadObject gone) → gone.status ≡ Runnable → gone.registers ≡ advanced written →
        IsMessage message → KeptAt message
        → ThreadInvariant image waits-so.thread after later × WaitsAsAsked image waits-so.thread after
    receiver-wakes gone is runs registers fine kept =
        wakes-up laws bytes image s labels later accepted all after sound store waits-so.thread waits-so.listed count-r receiver there-r written gone
        (ap after.objects (sym waits-so.is) ∙ is) runs registers
        (λ at_state behind so fit_registers.
        let among : Contains ep.receivers (tcb_of image waits-so.thread) =
        subst (λ (xs : List ℕ). Contains xs (tcb_of image waits-so.thread)) (sym first) (0, omega arith, waits-so.is) in
        let behind_is : behind ≡ behind_receive image e at_state =
        (subst (WaitsSo image waits-so.thread s at_state behind) blocked-at.status so).receives ep was-ep
        among in
        let fit = laws.message receiver.registers at_state.ranges (promise_at image e) badge message fit_registers small fine kept in
        subst (λ (l : AfterCall). FitsBehind at_state l receiver.registers written) (sym behind_is)
        (record { slots = refl; pc = delivered-pc receiver.registers badge message; only = fit.1; within = fit.0 }))
        (subst IsWaiting (sym blocked-at.status) tt)

    pair-stands : (next gone : ThreadState) → after.objects tcb ≡ Some (ThreadObject next) → after.objects r ≡ Some (ThreadObject gone)
        → ((y : ℕ) → y ≢ tcb → y ≢ r → after.objects y ≡ three.objects y) → ThreadInvariant image t after later × WaitsAsAsked image t after
        → ThreadInvariant image waits-so.thread after later × WaitsAsAsked image waits-so.thread after → AllStand image after later
    pair-stands next gone own_is r_is apart own_stands r_stands =
        two-move laws bytes image s labels later accepted all after sound store t listed waits-so.thread waits-so.listed r waits-so.is counts.others e
        (EndpointObject ep) (EndpointObject fewer)
        was-ep (apart e e-apart (λ is. r-queue (sym is)) ∙ three-there e (λ is. r-queue (sym is)) ∙ endpoint-here s e fewer) (λ u clash. absurd cc)
        (λ u clash. absurd cc) next gone own_is r_is
        (λ y other own_apart r_apart. apart y own_apart r_apart ∙ three-there y r_apart ∙ endpoint-there s e fewer y other)
        (λ thread own_apart r_apart. queued-still thread) own_stands r_stands

    sent-by : (kind : Sent) → sent ≡ kind → (y : ℕ) → after.objects y ≡ (received three x kind r).objects y
    sent-by kind is y = objects y ∙ ap (λ k. (received three x k r).objects y) is

    -- ---- the message passes

    pub sent-stands : sent ≡ BySend → left ≡ changes_nothing state left.is_wait → AllStand image after later
    sent-stands kind asks =
        let next : ThreadState = record own { registers = advanced own.registers } in
        let gone : ThreadState = woken receiver (advanced written) in
        let own_is : after.objects tcb ≡ Some (ThreadObject next) = sent-by BySend kind tcb ∙ went-here three tcb own three-own in
        let r_is : after.objects r ≡ Some (ThreadObject gone) = sent-by BySend kind r ∙ went-there three tcb r r-apart ∙ three-r in
        let fine : IsMessage message = subst (λ (k : Sent). IsMessage (message_to taken x k r)) (sym kind) own-sends in
        let kept : KeptAt message = subst (λ (k : Sent). KeptAt (message_to taken x k r)) (sym kind) own-keeps in
        let fit = subst (λ (l : AfterCall). FitsBehind state l own.registers own.registers) (sym asks)
        (record { slots = refl; pc = refl; only = λ k less none. refl; within = at.stands.registers }) in
        pair-stands next gone own_is r_is (λ y own_apart r_apart. sent-by BySend kind y ∙ went-there three tcb y own_apart)
        (own-passes laws bytes image s labels later accepted all t listed own point state left at after sound store (ap (λ (l : AfterCall). l.slots) asks)
        (record { next = next; is = own_is; runs = at.status; written = own.registers; registers = refl; pc = refl; only = fit.only; within = fit.within })
        counts)
        (receiver-wakes gone r_is refl refl fine kept)

    -- ---- the thread waits for the reply

    pub called-stands : sent ≡ ByCall → grants ≡ true → left ≡ behind_reply state → AllStand image after later
    called-stands kind grant asks =
        let next : ThreadState = record own { status = AwaitsReply } in
        let gone : ThreadState = record (woken receiver (advanced written)) { caller = Some tcb } in
        let four : State = block three tcb AwaitsReply in
        let granted : (y : ℕ) → after.objects y ≡ (with_caller four r (Some tcb)).objects y =
        λ y. sent-by ByCall kind y ∙ ap (λ b. (if b then with_caller four r (Some tcb) else block three tcb Inactive).objects y) grant in
        let own_is : after.objects tcb ≡ Some (ThreadObject next) =
        granted tcb ∙ caller-there four r (Some tcb) tcb (λ is. r-apart (sym is)) ∙ blocked three tcb AwaitsReply own three-own in
        let r_is : after.objects r ≡ Some (ThreadObject gone) =
        granted r ∙ caller-here four r (Some tcb) (woken receiver (advanced written)) (blocked-there three tcb AwaitsReply r r-apart ∙ three-r) in
        let fine : IsMessage message = subst (λ (k : Sent). IsMessage (message_to taken x k r)) (sym kind) own-sends in
        let kept : KeptAt message = subst (λ (k : Sent). KeptAt (message_to taken x k r)) (sym kind) own-keeps in
        let wait = ap (λ (l : AfterCall). l.is_wait) asks in
        pair-stands next gone own_is r_is (λ y own_apart r_apart. granted y ∙ caller-there four r (Some tcb) y r_apart
        ∙ blocked-there three tcb AwaitsReply y own_apart) (
          begins laws.stand_on image t s after own point state (touches-none bytes image t s after accepted listed all.sound sound store) at.stands next later
              (at.ecall, (left, at.call, wait)) own_is tt refl (counts.waits wait),
          asked-once image t after next own_is point state left at.stands.pc at.stands.known at.call asks,
        )
        (receiver-wakes gone r_is refl refl fine kept)
