-- Calls on a notification. By a wait or a poll its word is taken, or the thread waits in its queue, or gets nothing; a signal leaves the thread at its call.
use Rattle.std.proofs.Common.{ℕ, ◌≡◌, ◌≢◌, ◌∙◌, ◌==◌, ◌++◌, ◌^◌, ◌<◌, ◌≤◌, Bool, true, false, if◌then◌else◌, Option, Some, List, [], ◌∷◌, refl, sym, ap, subst}
use Rattle.std.proofs.Common.{arith}
use Rattle.std.specs.Prelude.{Contains, bit_or}
use Rattle.std.specs.Option.{option_map_or}
use Rattle.std.proofs.lemmas.Bool.{eqb-true, eqb-false}
use Rattle.headline.specs.facts.Standing.{AllStand}
use Rattle.headline.specs.facts.Waiting.{NamesQueue, NamesThere, QueuesSo, WaitsAsAsked, behind_signal}
use Rattle.headline.proofs.facts.Laws.{at-place}
use Rattle.model.specs.declared.capabilities.Cap.{Cap}
use Rattle.model.specs.declared.labels.Label.{Label}
use Rattle.model.specs.Acceptance.Accepted.{IsAccepted}
use Rattle.headline.specs.moves.Ground.{SameGround}
use Rattle.model.specs.Acceptance.CallRules.{AfterCall, badges, known_behind}
use Rattle.model.specs.Acceptance.NotedStates.{PointState}
use Rattle.model.specs.Acceptance.Ranges.{with_range}
use Rattle.model.specs.Acceptance.ThreadInvariants.{ThreadInvariant, tcb_of}
use Rattle.model.specs.Images.Described.{Numbered, numbered_threads}
use Rattle.model.specs.Images.Image.{Image}
use Rattle.model.specs.Kernel.Messages.{a0, deliver_word, poll, signal, signals, wait, waits_for_signal}
use Rattle.model.specs.Kernel.Scheduling.{block}
use Rattle.model.specs.Kernel.Soundness.{IsSound, waiting_at}
use Rattle.model.specs.Kernel.State.{State, Runnable, Blocked, Object, ThreadObject, EndpointObject, NotificationObject, NotificationState, ThreadState}
use Rattle.model.specs.Kernel.State.{as_notification, new_notification, notification_at, thread_at, with_notification}
use Rattle.model.specs.Shared.Lists.{times_in}
use Rattle.model.specs.Machine.Effects.{advanced}
use Rattle.model.specs.Machine.ProgramMemory.{RegisterFile, write}
use Rattle.headline.specs.moves.Laws.{Laws}
use Rattle.headline.specs.moves.Moving.{CallsAt, PassesWith}
use Rattle.headline.proofs.moves.Asked.{asked-once}
use Rattle.headline.proofs.moves.Calling.{IsCounted, QueuesOn, own-passes, own-registers, rest-by-queue}
use Rattle.headline.proofs.moves.LeftAlone.{one-thread}
use Rattle.headline.proofs.moves.Passing.{begins}
use Rattle.headline.proofs.moves.Places.{blocked, blocked-there, passed, passed-there, woke-there}
use Rattle.headline.proofs.moves.Puts.{put-here, put-there}
use Rattle.headline.proofs.moves.Queued.{IsBlockedAt, contains-before, first-times, queued-there}
use Rattle.headline.proofs.moves.Signals.{signal-stands}
use Rattle.headline.proofs.moves.SimpleCalls.{calls-on, it-moves, with-registers}
use Rattle.headline.proofs.moves.Standing.{touches-none}

module _ (laws : Laws) (bytes : List ℕ) (image : Image) (s : State) (labels later : List Label) (accepted : IsAccepted bytes image)
    (all : AllStand image s labels)
    (t : Numbered) (listed : Contains (numbered_threads image) t) (own : ThreadState) (point : ℕ) (state : PointState) (left : AfterCall)
    (at : CallsAt image t s labels own point state left) (counts : IsCounted image t labels later left.is_wait)
    (n : ℕ) (old : NotificationState) (was : s.objects n ≡ Some (NotificationObject old)) where
  abbrev tcb : ℕ
  tcb = tcb_of image t

  tcb-apart : tcb ≢ n
  tcb-apart same = absurd (let clash : Some (ThreadObject own) ≡ Some (NotificationObject old) = sym at.there ∙ ap s.objects same ∙ was in cc)

  read-there : notification_at s n ≡ old
  read-there = ap (λ (o : Option Object). option_map_or (λ (x : NotificationState). x) (as_notification o) new_notification) was

  -- a word reaches the thread, and it passes with that
  module _ (is_wait : Bool) (left_is : left ≡ known_behind state (with_range state.ranges a0 badges) is_wait (a0 ∷ [])) (word : ℕ) (small : word < 2 ^ 28)
      (after : State) (there : after.objects (tcb_of image t) ≡ Some (ThreadObject (record own { registers = advanced (write own.registers a0 word) }))) where
    gets-word : PassesWith after (tcb_of image t) own state left
    gets-word =
        let fit = laws.signal own.registers state.ranges word (own-registers laws bytes image s labels later accepted all t listed own point state left at)
        small in
        subst (λ (l : AfterCall). PassesWith after tcb own state l) (sym left_is) (record {
          next = record own { registers = advanced (write own.registers a0 word) };
          is = there;
          runs = at.status;
          written = write own.registers a0 word;
          registers = refl;
          pc = refl;
          only = fit.1;
          within = fit.0;
        })

  -- ---- the notification's queue changes, and this thread moves

  module _ (new : NotificationState) (after : State) (sound : IsSound after) (store : SameGround image s after)
      (is : after.objects n ≡ Some (NotificationObject new))
      (others : (y : ℕ) → y ≢ n → y ≢ tcb_of image t → after.objects y ≡ s.objects y)
      (fewer : (thread : ℕ) → thread ≢ tcb_of image t → Contains new.waiters thread → Contains old.waiters thread) where
    queues-on : (thread : ℕ) → thread ≢ tcb → QueuesOn (NotificationObject old) (NotificationObject new) thread
    queues-on thread other = record {
      sends = λ e x clash among mine. absurd cc;
      receives = λ e clash among. absurd cc;
      waits = λ m same among. (
        old,
        refl,
        fewer thread other
            (let e : new ≡ m = cc in subst (λ (x : NotificationState). Contains x.waiters thread) (sym e) among),
      );
    }

    beside-queue : (next : ThreadState) → after.objects (tcb_of image t) ≡ Some (ThreadObject next)
        → ThreadInvariant image t after later × WaitsAsAsked image t after → AllStand image after later
    beside-queue next there stands =
        it-moves laws bytes image s labels later accepted all t listed own point state left at counts after sound store
        (rest-by-queue s after n (NotificationObject old) (NotificationObject new) (λ y. y == tcb) (record {
          was = was;
          is = is;
          old_none = λ u clash. absurd cc;
          new_none = λ u clash. absurd cc;
          others = λ y apart rests. others y apart (eqb-false y tcb rests);
          moved = λ y moves. (next, ap after.objects (eqb-true y tcb moves) ∙ there);
          queues = λ thread rests. queues-on thread (eqb-false thread tcb rests);
        }))
        stands

  -- ---- the word is taken

  module _ (is_wait : Bool) (left_is : left ≡ known_behind state (with_range state.ranges a0 badges) is_wait (a0 ∷ []))
      (after : State) (sound : IsSound after) (store : SameGround image s after)
      (objects : (y : ℕ) → after.objects y ≡ (deliver_word (with_notification s n (record old { word = 0 })) (tcb_of image t) old.word).objects y) where
    abbrev emptied : NotificationState
    emptied = record old { word = 0 }

    abbrev one : State
    one = with_notification s n emptied

    abbrev written : RegisterFile
    written = write (thread_at one tcb).registers a0 old.word

    one-own : one.objects tcb ≡ Some (ThreadObject own)
    one-own = put-there s.objects n (Some (NotificationObject emptied)) tcb tcb-apart ∙ at.there

    taken-own : after.objects tcb ≡ Some (ThreadObject (record own { registers = advanced (write own.registers a0 old.word) }))
    taken-own =
        objects tcb ∙ passed one tcb written
        ∙ ap (λ (u : ThreadState). Some (ThreadObject (record u { registers = advanced (write u.registers a0 old.word) }))) (at-place one tcb own one-own)

    takes-word : AllStand image after later
    takes-word =
        let passes = gets-word is_wait left_is old.word (all.sound.threads.words n old was) after taken-own in
        beside-queue emptied after sound store
        (objects n ∙ passed-there one tcb written n (λ same. tcb-apart (sym same)) ∙ put-here s.objects n (Some (NotificationObject emptied)) n refl)
        (λ y apart other. objects y ∙ passed-there one tcb written y other ∙ put-there s.objects n (Some (NotificationObject emptied)) y apart)
        (λ thread other among. among)
        passes.next passes.is
        (own-passes laws bytes image s labels later accepted all t listed own point state left at after sound store (ap (λ (l : AfterCall). l.slots) left_is)
        passes counts)

  -- ---- the thread waits

  module _ (left_is : left ≡ behind_signal state) (capability : Cap) (named : NamesThere image t state capability) (leads : NamesQueue n capability)
      (after : State) (sound : IsSound after) (store : SameGround image s after)
      (objects : (y : ℕ) → after.objects y
      ≡ (block (with_notification s n (record old { waiters = old.waiters ++ tcb_of image t ∷ [] })) (tcb_of image t) (Blocked n)).objects y) where
    abbrev longer : NotificationState
    longer = record old { waiters = old.waiters ++ tcb ∷ [] }

    abbrev two : State
    two = with_notification s n longer

    abbrev next : ThreadState
    next = record own { status = Blocked n }

    two-own : after.objects tcb ≡ Some (ThreadObject next)
    two-own = objects tcb ∙ blocked two tcb (Blocked n) own (put-there s.objects n (Some (NotificationObject longer)) tcb tcb-apart ∙ at.there)

    queue-there : after.objects n ≡ Some (NotificationObject longer)
    queue-there = objects n ∙ blocked-there two tcb (Blocked n) n (λ same. tcb-apart (sym same))
        ∙ put-here s.objects n (Some (NotificationObject longer)) n refl

    queues-so : QueuesSo image t after state left n
    queues-so = record {
      capability = capability;
      named = named;
      leads = leads;
      sends = λ e x there among mine. absurd (let clash : Some (NotificationObject longer) ≡ Some (EndpointObject e) = sym queue-there ∙ there in cc);
      receives = λ e there among. absurd (let clash : Some (NotificationObject longer) ≡ Some (EndpointObject e) = sym queue-there ∙ there in cc);
      waits = λ m there among. left_is;
    }

    waits-there : ThreadInvariant image t after later × WaitsAsAsked image t after
    waits-there =
        let is_wait : left.is_wait ≡ true = ap (λ (l : AfterCall). l.is_wait) left_is in (
          begins laws.stand_on image t s after own point state (touches-none bytes image t s after accepted listed all.sound sound store) at.stands next later
              (at.ecall, (left, at.call, is_wait)) two-own tt refl (counts.waits is_wait),
          asked-once image t after next two-own point state left at.stands.pc at.stands.known at.call queues-so,
        )

    blocks : AllStand image after later
    blocks =
        beside-queue longer after sound store queue-there
        (λ y apart other. objects y ∙ blocked-there two tcb (Blocked n) y other ∙ put-there s.objects n (Some (NotificationObject longer)) y apart)
        (λ thread other among. contains-before old.waiters thread tcb among other)
        next two-own waits-there

  -- ---- the two calls

  pub wait-stands : left ≡ behind_signal state → (capability : Cap) → NamesThere image t state capability → NamesQueue n capability
      → IsSound (wait s n (tcb_of image t)) → AllStand image (wait s n (tcb_of image t)) later
  wait-stands left_is capability named leads =
      let m = notification_at s n in
      let taken = deliver_word (with_notification s n (record m { word = 0 })) tcb m.word in
      elim (m.word == 0) as (λ b. let after = if b then waits_for_signal s n tcb else taken in IsSound after → AllStand image after later) [
        | true ↦ λ sound. blocks left_is capability named leads (waits_for_signal s n tcb) sound
            (record { memory_bits = refl; boot_radix = refl; slots = λ slot. refl; bytes = λ frame place code low high. refl })
            (λ y. ap (λ (o : NotificationState). (block (with_notification s n (record o { waiters = o.waiters ++ tcb ∷ [] })) tcb (Blocked n)).objects y)
            read-there)
        | false ↦ λ sound. takes-word true left_is taken sound
            (record { memory_bits = refl; boot_radix = refl; slots = λ slot. refl; bytes = λ frame place code low high. refl })
            (λ y. ap (λ (o : NotificationState). (deliver_word (with_notification s n (record o { word = 0 })) tcb o.word).objects y) read-there)
      ]

  gets-nothing : left ≡ known_behind state (with_range state.ranges a0 badges) false (a0 ∷ []) → IsSound (deliver_word s (tcb_of image t) 0)
      → AllStand image (deliver_word s (tcb_of image t) 0) later
  gets-nothing left_is sound =
      let r : RegisterFile = write (thread_at s tcb).registers a0 0 in
      with-registers laws bytes image s labels later accepted all t listed own point state left at counts (λ u. write u a0 0)
      (ap (λ (l : AfterCall). l.slots) left_is)
      (gets-word false left_is 0 (omega arith) (deliver_word s tcb 0)
      (passed s tcb r ∙ ap (λ (u : ThreadState). Some (ThreadObject (record u { registers = advanced (write u.registers a0 0) })))
      (at-place s tcb own at.there)))
      sound

  pub poll-stands : left ≡ known_behind state (with_range state.ranges a0 badges) false (a0 ∷ []) → IsSound (poll s n (tcb_of image t))
      → AllStand image (poll s n (tcb_of image t)) later
  poll-stands left_is =
      let m = notification_at s n in
      let taken = deliver_word (with_notification s n (record m { word = 0 })) tcb m.word in
      elim (m.word == 0) as (λ b. let after = if b then deliver_word s tcb 0 else taken in IsSound after → AllStand image after later) [
        | true ↦ gets-nothing left_is
        | false ↦ λ sound. takes-word false left_is taken sound
            (record { memory_bits = refl; boot_radix = refl; slots = λ slot. refl; bytes = λ frame place code low high. refl })
            (λ y. ap (λ (o : NotificationState). (deliver_word (with_notification s n (record o { word = 0 })) tcb o.word).objects y) read-there)
      ]

-- ---- a signal, after which the thread has its answer yet to get

-- the threads' invariant holds, and this one is at its call
pub record HasSignalled (image : Image) (t : Numbered) (after : State) (labels : List Label) (own : ThreadState) (point : ℕ) (state : PointState)
    (left : AfterCall) : Type 0 where
  pub all : AllStand image after labels
  pub at : CallsAt image t after labels own point state left

module _ (laws : Laws) (bytes : List ℕ) (image : Image) (s : State) (labels : List Label) (accepted : IsAccepted bytes image) (all : AllStand image s labels)
    (t : Numbered) (listed : Contains (numbered_threads image) t) (own : ThreadState) (point : ℕ) (state : PointState) (left : AfterCall)
    (at : CallsAt image t s labels own point state left)
    (n : ℕ) (old : NotificationState) (was : s.objects n ≡ Some (NotificationObject old)) (badge : ℕ) (small : badge < 2 ^ 28) where
  caller-apart : tcb_of image t ≢ n
  caller-apart same = absurd (let clash : Some (ThreadObject own) ≡ Some (NotificationObject old) = sym at.there ∙ ap s.objects same ∙ was in cc)

  -- whoever waits there does not run
  waiter-apart : (w : ℕ) (others : List ℕ) → old.waiters ≡ w ∷ others → tcb_of image t ≢ w
  waiter-apart w others first same =
      let waits : IsBlockedAt s w n =
      queued-there s w n all.sound.threads
      (subst (λ (o : Option Object). 1 ≤ times_in (waiting_at o) w) (sym was)
      (subst (λ (xs : List ℕ). 1 ≤ times_in xs w) (sym first) (first-times others w w refl))) in
      let alike : waits.own ≡ own = one-thread (s.objects w) waits.own own waits.is (ap s.objects (sym same) ∙ at.there) in
      absurd (let clash : Blocked n ≡ Runnable = sym waits.status ∙ ap (λ (u : ThreadState). u.status) alike ∙ at.status in cc)

  caller-stays : (waiters : List ℕ) → old.waiters ≡ waiters → (signals s n badge old waiters).objects (tcb_of image t) ≡ s.objects (tcb_of image t)
  caller-stays [] none = put-there s.objects n (Some (NotificationObject (record old { word = bit_or old.word badge }))) (tcb_of image t) caller-apart
  caller-stays (w ∷ others) first =
      let one = with_notification s n (record old { waiters = others }) in
      woke-there (deliver_word one w badge) w (tcb_of image t) (waiter-apart w others first)
      ∙ passed-there one w (write (thread_at one w).registers a0 badge) (tcb_of image t) (waiter-apart w others first)
      ∙ put-there s.objects n (Some (NotificationObject (record old { waiters = others }))) (tcb_of image t) caller-apart

  signals-store : (waiters : List ℕ) (o : NotificationState) → SameGround image s (signals s n badge o waiters)
  signals-store [] o = record { memory_bits = refl; boot_radix = refl; slots = λ slot. refl; bytes = λ frame place code low high. refl }
  signals-store (w ∷ others) o = record { memory_bits = refl; boot_radix = refl; slots = λ slot. refl; bytes = λ frame place code low high. refl }

  -- where slots, bytes and objects are those after the signal
  pub signal-leaves-so : (after : State) → IsSound after → SameGround image s after → ((y : ℕ) → after.objects y ≡ (signal s n badge).objects y)
      → HasSignalled image t after labels own point state left
  signal-leaves-so after sound store objects =
      let same : notification_at s n ≡ old = ap (λ (o : Option Object). option_map_or (λ (x : NotificationState). x) (as_notification o) new_notification)
      was in
      let there : after.objects (tcb_of image t) ≡ Some (ThreadObject own) =
      objects (tcb_of image t) ∙ ap (λ (o : NotificationState). (signals s n badge o o.waiters).objects (tcb_of image t)) same ∙ caller-stays old.waiters refl
      ∙ at.there in
      record {
        all = signal-stands laws bytes image s labels labels accepted all (λ u member. refl) n badge small old was after sound store objects;
        at = calls-on laws bytes image s labels accepted all t listed own point state left at after sound store own there refl refl;
      }

  pub signal-leaves : IsSound (signal s n badge) → HasSignalled image t (signal s n badge) labels own point state left
  signal-leaves sound = signal-leaves-so (signal s n badge) sound (signals-store (notification_at s n).waiters (notification_at s n)) (λ y. refl)
