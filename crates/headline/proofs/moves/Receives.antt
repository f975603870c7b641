-- A receive on an endpoint keeps the threads' invariant: the first sender is received, or the thread waits.
use Rattle.std.proofs.Common.{ℕ, ◌≡◌, ◌≢◌, ◌∙◌, ◌==◌, ◌++◌, ◌^◌, ◌<◌, ◌≤◌, false, if◌then◌else◌, Option, Some, None, List, [], ◌∷◌, length, map, get_or, refl}
use Rattle.std.proofs.Common.{sym, ap, subst, arith}
use Rattle.std.specs.Prelude.{Contains}
use Rattle.std.proofs.lemmas.Bool.{eqb-true, eqb-false}
use Rattle.headline.specs.facts.Standing.{AllStand}
use Rattle.headline.specs.calls.Messages.{KnownToKeepAt}
use Rattle.headline.specs.facts.Waiting.{NamesQueue, NamesThere, SendsAs, WaitsAsAsked, WaitsSo, behind_receive}
use Rattle.model.specs.declared.capabilities.Cap.{Cap}
use Rattle.model.specs.declared.labels.Label.{Label}
use Rattle.model.specs.Acceptance.Accepted.{IsAccepted}
use Rattle.headline.specs.moves.Ground.{SameGround}
use Rattle.model.specs.Acceptance.CallRules.{AfterCall, known_behind, message_registers, with_received}
use Rattle.model.specs.Acceptance.NotedStates.{PointState}
use Rattle.model.specs.Acceptance.Promises.{KeepsPromise, promise_at}
use Rattle.model.specs.Acceptance.ThreadInvariants.{IsWaiting, ThreadInvariant, tcb_of}
use Rattle.model.specs.Images.Described.{Numbered, numbered_threads}
use Rattle.model.specs.Images.Image.{Image, ImagePromise}
use Rattle.model.specs.Kernel.Deliveries.{woken}
use Rattle.model.specs.Kernel.Messages.{Message, deliver_sent, delivered, message_between, message_to, passes, receive_from, received_waiting}
use Rattle.model.specs.Kernel.Messages.{waits_to_receive, with_caller}
use Rattle.model.specs.Kernel.Scheduling.{block}
use Rattle.model.specs.Kernel.Soundness.{IsSound, SenderIsSound, waiting_at}
use Rattle.model.specs.Kernel.State.{State, Inactive, Runnable, Blocked, AwaitsReply, Object, ThreadObject, EndpointObject, EndpointState, NotificationObject}
use Rattle.model.specs.Kernel.State.{Sender, Sent, BySend, ByCall, ByFault, ThreadState, endpoint_at, with_endpoint}
use Rattle.model.specs.Kernel.Waits.{open_count}
use Rattle.model.specs.Machine.Effects.{advanced}
use Rattle.model.specs.Shared.Lists.{times_in}
use Rattle.headline.specs.moves.Moving.{CallsAt}
use Rattle.headline.specs.moves.Laws.{Laws}
use Rattle.headline.specs.calls.Laws.{IsMessage}
use Rattle.headline.proofs.moves.LeftAlone.{one-thread}
use Rattle.headline.proofs.moves.Asked.{asked-once}
use Rattle.headline.proofs.moves.Calling.{IsCounted, QueueChanges, QueuesOn, own-passes, own-registers, rest-by-queue}
use Rattle.headline.proofs.moves.Pairs.{two-move}
use Rattle.headline.proofs.moves.Passing.{begins}
use Rattle.headline.proofs.moves.Places.{at-endpoint, blocked, blocked-there, caller-here, caller-there, delivered-here, delivered-there, endpoint-here}
use Rattle.headline.proofs.moves.Places.{endpoint-there, went-here, went-there, woke, woke-there}
use Rattle.headline.proofs.moves.Queued.{IsBlockedAt, contains-before, contains-more, first-times, queued-there}
use Rattle.headline.proofs.moves.Standing.{all-stand, touches-none}
use Rattle.headline.proofs.moves.Waiters.{StandsWaiting, called-so, delivered-pc, message-fine, message-keeps, no-fault, sent-so, stands-waiting}
use Rattle.headline.proofs.moves.Woken.{FitsBehind, wakes-up}

-- the threads of senders, the first first
first-sender : (x : Sender) (others : List Sender) (receivers : List ℕ) → 1 ≤ times_in (map (λ (y : Sender). y.thread) (x ∷ others) ++ receivers) x.thread
first-sender x others receivers = first-times (map (λ (y : Sender). y.thread) others ++ receivers) x.thread x.thread refl

module _ (laws : Laws) (bytes : List ℕ) (image : Image) (s : State) (labels later : List Label) (accepted : IsAccepted bytes image)
    (all : AllStand image s labels)
    (t : Numbered) (listed : Contains (numbered_threads image) t) (own : ThreadState) (point : ℕ) (state : PointState) (left : AfterCall)
    (at : CallsAt image t s labels own point state left) (counts : IsCounted image t labels later left.is_wait)
    (e : ℕ) (old : EndpointState) (was : s.objects e ≡ Some (EndpointObject old))
    (after : State) (sound : IsSound after) (store : SameGround image s after) where
  abbrev tcb : ℕ
  tcb = tcb_of image t

  abbrev ready : State
  ready = with_caller s tcb None

  abbrev ep : EndpointState
  ep = endpoint_at ready e

  abbrev free : ThreadState
  free = record own { caller = None }

  e-apart : e ≢ tcb
  e-apart is = let clash : Some (EndpointObject old) ≡ Some (ThreadObject own) = sym was ∙ ap s.objects is ∙ at.there in absurd cc

  ep-same : ep ≡ old
  ep-same = at-endpoint ready e old (caller-there s tcb None e e-apart ∙ was)

  was-ep : s.objects e ≡ Some (EndpointObject ep)
  was-ep = was ∙ ap (λ (f : EndpointState). Some (EndpointObject f)) (sym ep-same)

  ready-own : ready.objects tcb ≡ Some (ThreadObject free)
  ready-own = caller-here s tcb None own at.there

  -- ---- nobody sends

  module _ (none : ep.senders ≡ []) (objects : (y : ℕ) → after.objects y ≡ (waits_to_receive ready e tcb).objects y)
      (asks : left ≡ behind_receive image e state)
      (capability : Cap) (named : NamesThere image t state capability) (leads : NamesQueue e capability) where
    abbrev queued : EndpointState
    queued = record ep { receivers = ep.receivers ++ tcb ∷ [] }

    abbrev one : State
    one = with_endpoint ready e queued

    abbrev next : ThreadState
    next = record free { status = Blocked e }

    after-own : after.objects tcb ≡ Some (ThreadObject next)
    after-own = objects tcb ∙ blocked one tcb (Blocked e) free (endpoint-there ready e queued tcb (λ is. e-apart (sym is)) ∙ ready-own)

    after-queue : after.objects e ≡ Some (EndpointObject queued)
    after-queue = objects e ∙ blocked-there one tcb (Blocked e) e e-apart ∙ endpoint-here ready e queued

    after-others : (y : ℕ) → y ≢ e → (y == tcb) ≡ false → after.objects y ≡ s.objects y
    after-others y other rests =
        objects y ∙ blocked-there one tcb (Blocked e) y (eqb-false y tcb rests) ∙ endpoint-there ready e queued y other
        ∙ caller-there s tcb None y (eqb-false y tcb rests)

    queued-on : (thread : ℕ) → (thread == tcb) ≡ false → QueuesOn (EndpointObject ep) (EndpointObject queued) thread
    queued-on thread rests = record {
      sends = λ f x is among mine. let same : queued ≡ f = cc in (ep, refl, subst (λ (g : EndpointState). Contains g.senders x) (sym same) among);
      receives = λ f is among. let same : queued ≡ f = cc in (
        ep,
        refl,
        contains-before ep.receivers thread tcb
            (subst (λ (g : EndpointState). Contains g.receivers thread) (sym same) among) (eqb-false thread tcb rests),
      );
      waits = λ n is among. absurd cc;
    }

    changes : QueueChanges s after e (EndpointObject ep) (EndpointObject queued) (λ y. y == tcb)
    changes = record {
      was = was-ep;
      is = after-queue;
      old_none = λ u clash. absurd cc;
      new_none = λ u clash. absurd cc;
      others = after-others;
      moved = λ y move. (next, ap after.objects (eqb-true y tcb move) ∙ after-own);
      queues = queued-on;
    }

    asked : WaitsAsAsked image t after
    asked =
        asked-once image t after next after-own point state left at.stands.pc at.stands.known at.call
        (record {
          capability = capability;
          named = named;
          leads = leads;
          sends = λ f x is among mine. absurd (let same : queued ≡ f = let both : Some (EndpointObject queued) ≡ Some (EndpointObject f) = sym after-queue
              ∙ is in cc in
              let empty : Contains [] x = subst (λ (xs : List Sender). Contains xs x) (ap (λ (g : EndpointState). g.senders) (sym same) ∙ none) among in
              omega (arith, empty.1));
          receives = λ f is among. asks;
          waits = λ n is among. absurd (let clash : Some (EndpointObject queued) ≡ Some (NotificationObject n) = sym after-queue ∙ is in cc);
        })

    own-begins : ThreadInvariant image t after later
    own-begins =
        begins laws.stand_on image t s after own point state (touches-none bytes image t s after accepted listed all.sound sound store) at.stands next later
        (at.ecall, (left, at.call, ap (λ (l : AfterCall). l.is_wait) asks)) after-own tt refl (counts.waits (ap (λ (l : AfterCall). l.is_wait) asks))

    pub blocks-stand : AllStand image after later
    blocks-stand =
        all-stand laws.stand_on bytes image s after labels later (λ y. y == tcb) accepted all sound store
        (rest-by-queue s after e (EndpointObject ep) (EndpointObject queued) (λ y. y == tcb) changes)
        (λ u among move.
        let same : t ≡ u = laws.own_blocks bytes image t u accepted listed among (sym (eqb-true (tcb_of image u) tcb move)) in
        subst (λ v. ThreadInvariant image v after later × WaitsAsAsked image v after) same (own-begins, asked))
        (λ offset u move there. record { thread = t; listed = listed; is = eqb-true offset tcb move })
        (λ u among rests. counts.others (tcb_of image u) (eqb-false (tcb_of image u) tcb rests))

  -- ---- somebody sends

  module _ (x : Sender) (others : List Sender) (first : ep.senders ≡ x ∷ others)
      (objects : (y : ℕ) → after.objects y ≡ (receive_from (with_endpoint ready e (record ep { senders = others })) x tcb).objects y)
      (promise : Option ImagePromise) (of_image : (p : ImagePromise) → promise ≡ Some p → promise_at image e ≡ Some p)
      (asks : left ≡ known_behind state (with_received state.ranges promise) left.is_wait message_registers) where
    abbrev from : ℕ
    from = x.thread

    abbrev fewer : EndpointState
    fewer = record ep { senders = others }

    abbrev taken : State
    taken = with_endpoint ready e fewer

    abbrev message : Message
    message = message_to taken x x.sent tcb

    abbrev two : State
    two = deliver_sent taken x tcb

    blocked-from : IsBlockedAt s from e
    blocked-from =
        queued-there s from e all.sound.threads
        (subst (λ (o : Option Object). 1 ≤ times_in (waiting_at o) from) (sym was-ep)
        (subst (λ (xs : List Sender). 1 ≤ times_in (map (λ (y : Sender). y.thread) xs ++ ep.receivers) from) (sym first) (first-sender x others ep.receivers)))

    abbrev sender : ThreadState
    sender = blocked-from.own

    from-apart : from ≢ tcb
    from-apart is =
        let same : sender ≡ own = one-thread (s.objects tcb) sender own (ap s.objects (sym is) ∙ blocked-from.is) at.there in
        let clash : Blocked e ≡ Runnable = sym blocked-from.status ∙ ap (λ (u : ThreadState). u.status) same ∙ at.status in absurd cc

    from-queue : from ≢ e
    from-queue is = let clash : Some (ThreadObject sender) ≡ Some (EndpointObject old) = sym blocked-from.is ∙ ap s.objects is ∙ was in absurd cc

    taken-from : taken.objects from ≡ Some (ThreadObject sender)
    taken-from = endpoint-there ready e fewer from from-queue ∙ caller-there s tcb None from from-apart ∙ blocked-from.is

    taken-own : taken.objects tcb ≡ Some (ThreadObject free)
    taken-own = endpoint-there ready e fewer tcb (λ is. e-apart (sym is)) ∙ ready-own

    abbrev received : ThreadState
    received = record free { registers = advanced (delivered own.registers x.badge message) }

    two-own : two.objects tcb ≡ Some (ThreadObject received)
    two-own = delivered-here taken tcb x.badge message free taken-own

    two-from : two.objects from ≡ Some (ThreadObject sender)
    two-from = delivered-there taken tcb x.badge message from from-apart ∙ taken-from

    two-others : (y : ℕ) → y ≢ e → y ≢ tcb → two.objects y ≡ s.objects y
    two-others y other apart = delivered-there taken tcb x.badge message y apart ∙ endpoint-there ready e fewer y other ∙ caller-there s tcb None y apart

    two-queue : two.objects e ≡ Some (EndpointObject fewer)
    two-queue = delivered-there taken tcb x.badge message e e-apart ∙ endpoint-here ready e fewer

    waits-so : StandsWaiting image s labels from sender
    waits-so = stands-waiting image s labels all from sender blocked-from.is (subst IsWaiting (sym blocked-from.status) tt)

    sends-so : (u : Numbered) (state : PointState) (left : AfterCall) → from ≡ tcb_of image u → WaitsSo image u s state left sender.status →
        SendsAs state left x
    sends-so u state left is so =
        ((subst (WaitsSo image u s state left) blocked-from.status so).sends ep x was-ep
        (subst (λ (xs : List Sender). Contains xs x) (sym first) (0, omega arith, refl)) is).kind

    keeps-so : (u : Numbered) (state : PointState) (left : AfterCall) → from ≡ tcb_of image u → WaitsSo image u s state left sender.status →
        KnownToKeepAt image e state x.badge
    keeps-so u state left is so =
        ((subst (WaitsSo image u s state left) blocked-from.status so).sends ep x was-ep
        (subst (λ (xs : List Sender). Contains xs x) (sym first) (0, omega arith, refl)) is).keeps

    queued-still : (thread : ℕ) → QueuesOn (EndpointObject ep) (EndpointObject fewer) thread
    queued-still thread = record {
      sends = λ f y is among mine. let same : fewer ≡ f = cc in (
        ep,
        refl,
        subst (λ (xs : List Sender). Contains xs y) (sym first)
            (contains-more x y others (subst (λ (g : EndpointState). Contains g.senders y) (sym same) among)),
      );
      receives = λ f is among. let same : fewer ≡ f = cc in (ep, refl, subst (λ (g : EndpointState). Contains g.receivers thread) (sym same) among);
      waits = λ n is among. absurd cc;
    }

    -- what becomes of the two
    pair-stands : (next gone : ThreadState) → after.objects tcb ≡ Some (ThreadObject next) → after.objects from ≡ Some (ThreadObject gone)
        → ((y : ℕ) → y ≢ tcb → y ≢ from → after.objects y ≡ two.objects y) → ThreadInvariant image t after later × WaitsAsAsked image t after
        → ThreadInvariant image waits-so.thread after later × WaitsAsAsked image waits-so.thread after → AllStand image after later
    pair-stands next gone own_is from_is apart own_stands from_stands =
        two-move laws bytes image s labels later accepted all after sound store t listed waits-so.thread waits-so.listed from waits-so.is counts.others e
        (EndpointObject ep) (EndpointObject fewer)
        was-ep (apart e e-apart (λ is. from-queue (sym is)) ∙ two-queue) (λ u clash. absurd cc) (λ u clash. absurd cc) next gone own_is from_is
        (λ y other own_apart from_apart. apart y own_apart from_apart ∙ two-others y other own_apart) (λ thread own_apart from_apart. queued-still thread)
        own_stands from_stands

    -- ---- the thread that receives

    abbrev KeptHere : Message → Type 0
    KeptHere m = (p : ImagePromise) → promise ≡ Some p → KeepsPromise p x.badge m

    is-fine : IsMessage message → KeptHere message → x.badge < 2 ^ 28 → FitsBehind state left own.registers (delivered own.registers x.badge message)
    is-fine fine kept small =
        let fit = laws.message own.registers state.ranges promise x.badge message
        (own-registers laws bytes image s labels later accepted all t listed own point state left at) small fine kept in
        subst (λ (l : AfterCall). FitsBehind state l own.registers (delivered own.registers x.badge message)) (sym asks)
        (record { slots = refl; pc = delivered-pc own.registers x.badge message; only = fit.1; within = fit.0 })

    small-badge : x.badge < 2 ^ 28
    small-badge =
        let each = all.sound.threads.senders e ep was-ep in
        let less : 0 < length ep.senders = subst (λ (xs : List Sender). 0 < length xs) (sym first) (omega arith) in
        (subst (λ (xs : List Sender). SenderIsSound (get_or xs 0 x)) first (each 0 x less)).badge

    sender-message : IsMessage (message_between taken from tcb)
    sender-message = message-fine taken from tcb sender taken-from (all.sound.threads.threads from sender blocked-from.is)

    sender-keeps : KeptHere (message_between taken from tcb)
    sender-keeps p is =
        message-keeps taken from tcb x.badge sender p taken-from
        (laws.sent sender waits-so.state x.badge p waits-so.stands.registers
        (keeps-so waits-so.thread waits-so.state waits-so.left waits-so.is waits-so.so p (of_image p is)))

    own-receives : (next : ThreadState) → after.objects tcb ≡ Some (ThreadObject next) → next.status ≡ own.status → next.registers ≡ received.registers →
        IsMessage message → KeptHere message
        → ThreadInvariant image t after later × WaitsAsAsked image t after
    own-receives next is status registers fine kept =
        let fit = is-fine fine kept small-badge in
        own-passes laws bytes image s labels later accepted all t listed own point state left at after sound store fit.slots
        (record {
          next = next;
          is = is;
          runs = status ∙ at.status;
          written = delivered own.registers x.badge message;
          registers = registers;
          pc = fit.pc;
          only =
              fit.only;
          within = fit.within;
        }) counts

    sent-by : (kind : Sent) → x.sent ≡ kind → (y : ℕ) → after.objects y ≡ (received_waiting two x kind tcb).objects y
    sent-by kind is y = objects y ∙ ap (λ k. (received_waiting two x k tcb).objects y) is

    there-from : s.objects (tcb_of image waits-so.thread) ≡ Some (ThreadObject sender)
    there-from = ap s.objects (sym waits-so.is) ∙ blocked-from.is

    count-from : open_count (tcb_of image waits-so.thread) later ≡ open_count (tcb_of image waits-so.thread) labels
    count-from = counts.others (tcb_of image waits-so.thread) (λ is. from-apart (waits-so.is ∙ is))

    -- ---- the sender passes

    by-send : x.sent ≡ BySend → AllStand image after later
    by-send kind =
        let gone : ThreadState = woken sender (advanced sender.registers) in
        let three : State = passes two from in
        let from_is : after.objects from ≡ Some (ThreadObject gone) = sent-by BySend kind from
        ∙ woke three from (record sender { registers = advanced sender.registers }) (went-here two from sender two-from) in
        let apart : (y : ℕ) → y ≢ from → after.objects y ≡ two.objects y = λ y other. sent-by BySend kind y ∙ woke-there three from y other
        ∙ went-there two from y other in
        let own_is : after.objects tcb ≡ Some (ThreadObject received) = apart tcb (λ is. from-apart (sym is)) ∙ two-own in
        let fine : IsMessage message = subst (λ (k : Sent). IsMessage (message_to taken x k tcb)) (sym kind) sender-message in
        let kept : KeptHere message = subst (λ (k : Sent). KeptHere (message_to taken x k tcb)) (sym kind) sender-keeps in
        pair-stands received gone own_is from_is (λ y other beside. apart y beside) (own-receives received own_is refl refl fine kept)
        (wakes-up laws bytes image s labels later accepted all after sound store waits-so.thread waits-so.listed count-from sender there-from sender.registers
        gone
        (ap after.objects (sym waits-so.is) ∙ from_is) refl refl
        (λ at_state behind so registers.
        let behind_is = sent-so at_state behind x (sends-so waits-so.thread at_state behind waits-so.is so) kind in
        subst (λ (l : AfterCall). FitsBehind at_state l sender.registers sender.registers) (sym behind_is)
        (record { slots = refl; pc = refl; only = λ k less none. refl; within = registers.within }))
        (subst IsWaiting (sym blocked-from.status) tt))

    -- ---- the sender waits for the reply

    by-call : x.sent ≡ ByCall → AllStand image after later
    by-call kind =
        let so = sends-so waits-so.thread waits-so.state waits-so.left waits-so.is waits-so.so in
        let calls = called-so waits-so.state waits-so.left x so kind in
        let gone : ThreadState = record sender { status = AwaitsReply } in
        let next : ThreadState = record received { caller = Some from } in
        let three : State = block two from AwaitsReply in
        let granted : (y : ℕ) → after.objects y ≡ (with_caller three tcb (Some from)).objects y =
        λ y. sent-by ByCall kind y ∙ ap (λ b. (if b then with_caller three tcb (Some from) else block two from Inactive).objects y) calls.0 in
        let own_is : after.objects tcb ≡ Some (ThreadObject next) =
        granted tcb ∙ caller-here three tcb (Some from) received (blocked-there two from AwaitsReply tcb (λ is. from-apart (sym is)) ∙ two-own) in
        let from_is : after.objects from ≡ Some (ThreadObject gone) = granted from ∙ caller-there three tcb (Some from) from from-apart
        ∙ blocked two from AwaitsReply sender two-from in
        let fine : IsMessage message = subst (λ (k : Sent). IsMessage (message_to taken x k tcb)) (sym kind) sender-message in
        let kept : KeptHere message = subst (λ (k : Sent). KeptHere (message_to taken x k tcb)) (sym kind) sender-keeps in
        let from_here : after.objects (tcb_of image waits-so.thread) ≡ Some (ThreadObject gone) = ap after.objects (sym waits-so.is) ∙ from_is in
        pair-stands next gone own_is from_is
        (λ y other beside. granted y ∙ caller-there three tcb (Some from) y other ∙ blocked-there two from AwaitsReply y beside)
        (own-receives next own_is refl refl fine kept) (
          begins laws.stand_on image waits-so.thread s after sender waits-so.point waits-so.state
              (touches-none bytes image waits-so.thread s after accepted waits-so.listed all.sound sound store) waits-so.stands gone later
              (waits-so.ecall, (waits-so.left, waits-so.call, waits-so.wait)) from_here tt refl
              (count-from ∙ ap (λ (n : ℕ). open_count n labels) (sym waits-so.is) ∙ waits-so.none),
          asked-once image waits-so.thread after gone from_here waits-so.point waits-so.state waits-so.left waits-so.stands.pc waits-so.stands.known
              waits-so.call calls.1,
        )

    by-kind : (kind : Sent) → x.sent ≡ kind → AllStand image after later
    by-kind BySend kind = by-send kind
    by-kind ByCall kind = by-call kind
    by-kind (ByFault fault) kind =
        absurd (no-fault waits-so.state waits-so.left x fault (sends-so waits-so.thread waits-so.state waits-so.left waits-so.is waits-so.so) kind)

    pub receives-stand : AllStand image after later
    receives-stand = by-kind x.sent refl
