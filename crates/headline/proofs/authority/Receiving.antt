-- A thread receives from an endpoint: the first sender's message, or it waits, or goes on with nothing. What that changes stays within
-- authority.
use Rattle.std.proofs.Common.{ℕ, ◌≡◌, ◌≢◌, ◌++◌, true, false, Option, Some, None, option_map, List, [], ◌∷◌, refl, sym, ◌∙◌, ap, subst, inl, inr}
use Rattle.std.specs.Option.{option_map_or}
use Rattle.std.proofs.lemmas.Bool.Decides.{eqb_tells}
use Rattle.model.specs.Acceptance.Authority.{CallNames, Delivers, dropped, gives_right, of_sender, same_slice, self_of, takes_sender}
use Rattle.model.specs.Acceptance.Authority.{waits_to_receive}
use Rattle.model.specs.Capabilities.Slots.{Slots}
use Rattle.model.specs.Images.Image.{Image, Thread}
use Rattle.model.specs.Kernel.Deliveries.{Arrives, is_message, once_received, ReceivesFrom, sender as of_first, TakesSender, woken}
use Rattle.model.specs.Kernel.Kinds.{kind_of}
use Rattle.model.specs.Kernel.Messages.{Message, a0, bytes_between, bytes_sent, deliver, deliver_sent, deliver_word, delivered, length_between, message_to}
use Rattle.model.specs.Kernel.Messages.{passes, waits_to_receive as waits_in_queue, with_caller}
use Rattle.model.specs.Kernel.Scheduling.{block, wake}
use Rattle.model.specs.Kernel.Soundness.{IsSound}
use Rattle.model.specs.Kernel.State.{State, Status, Runnable, Blocked, Object, ThreadObject, EndpointObject, EndpointState, Sender, Sent, BySend}
use Rattle.model.specs.Kernel.State.{ByCall, ByFault, ThreadState, as_endpoint, as_thread, endpoint_at, new_endpoint, new_thread, thread_at, with_endpoint}
use Rattle.model.specs.Machine.Effects.{advanced}
use Rattle.model.specs.Machine.ProgramMemory.{write}
use Rattle.headline.proofs.facts.Laws.{at-place}
use Rattle.headline.proofs.moves.Laws.{at-endpoint, blocked, blocked-there, caller-here, caller-there, delivered-here, delivered-there, endpoint-here}
use Rattle.headline.proofs.moves.Laws.{endpoint-there, passed, passed-there, went-here, went-there, woke, woke-there}
use Rattle.headline.proofs.authority.Changes.{KeepsSlice, KeepsStore, OtherChange, stays, of_thread, of_endpoint}
use Rattle.headline.proofs.authority.Deliveries.{arrives-so, StaysOrDelivered, bytes-delivered, length-same}
use Rattle.headline.proofs.authority.Gains.{block-gains, gains-none, nothing-ready, one-ready, rest-gains, wake-gains}
use Rattle.headline.proofs.authority.Awaited.{resting-absent, resting-apart, sender-waits}
use Rattle.headline.proofs.authority.Interrupted.{Waits}

module _ (image : Image) (t : Thread) (s : State) (sound : IsSound s) (own : ThreadState) (is : s.objects (self_of image t) ≡ Some (ThreadObject own))
    (runs : own.status ≡ Runnable) (e : ℕ) (old : EndpointState) (was : s.objects e ≡ Some (EndpointObject old))
    (names : CallNames image t s (ReceivesFrom e)) where
  abbrev self : ℕ
  self = self_of image t

  not-queue : (thread : ℕ) (u : ThreadState) → s.objects thread ≡ Some (ThreadObject u) → thread ≢ e
  not-queue thread u there same = let clash : Some (ThreadObject u) ≡ Some (EndpointObject old) = sym there ∙ ap s.objects same ∙ was in absurd cc

  self-queue : self ≢ e
  self-queue = not-queue self own is

  -- ---- the right to reply goes first

  abbrev ready : State
  ready = with_caller s self None

  abbrev cleared : ThreadState
  cleared = record own { caller = None }

  ready-self : ready.objects self ≡ Some (ThreadObject cleared)
  ready-self = caller-here s self None own is

  ready-there : (y : ℕ) → y ≢ self → ready.objects y ≡ s.objects y
  ready-there y not_self = caller-there s self None y not_self

  ready-queue : endpoint_at ready e ≡ old
  ready-queue = at-endpoint ready e old (ready-there e (λ same. self-queue (sym same)) ∙ was)

  -- ---- nobody sends

  abbrev longer : EndpointState
  longer = record (endpoint_at ready e) { receivers = (endpoint_at ready e).receivers ++ self ∷ [] }

  abbrev queued : State
  queued = waits_in_queue ready e self

  abbrev waiting : ThreadState
  waiting = record cleared { status = Blocked e }

  queued-self : queued.objects self ≡ Some (ThreadObject waiting)
  queued-self = blocked (with_endpoint ready e longer) self (Blocked e) cleared (endpoint-there ready e longer self self-queue ∙ ready-self)

  queued-there : (y : ℕ) → y ≢ self → y ≢ e → queued.objects y ≡ s.objects y
  queued-there y not_self not_queue =
      blocked-there (with_endpoint ready e longer) self (Blocked e) y not_self ∙ endpoint-there ready e longer y not_queue ∙ ready-there y not_self

  queued-queue : queued.objects e ≡ Some (EndpointObject longer)
  queued-queue = blocked-there (with_endpoint ready e longer) self (Blocked e) e (λ same. self-queue (sym same)) ∙ endpoint-here ready e longer

  pub receiver-waits : KeepsSlice image t s (waits_in_queue (with_caller s (self_of image t) None) e (self_of image t))
  receiver-waits = record {
    change = record {
      store = record { memory_bits = refl; boot_radix = refl; slots = λ slot. refl; bytes = λ place. inl refl };
      own = own;
      now = waiting;
      was = is;
      is = queued-self;
      itself = record { priority = refl; fault_address = refl; slice = same_slice refl; right = dropped refl };
      others = λ y not_self. elim (eqb_tells y e) [
        | inl here ↦
            of_endpoint old longer (ap s.objects here.1 ∙ was) (ap queued.objects here.1 ∙ queued-queue)
            (waits_to_receive (subst (λ (q : ℕ). CallNames image t s (ReceivesFrom q)) (sym here.1) names)
            (ap (λ (q : EndpointState). record q { receivers = q.receivers ++ self ∷ [] }) ready-queue))
        | inr apart ↦ stays (queued-there y not_self apart.1)
      ];
      lines = λ number either. elim either [ inl differs ↦ absurd (differs refl) | inr differs ↦ absurd (differs refl) ];
      ready = λ priority. nothing-ready s queued self priority (block-gains (with_endpoint ready e longer) self (Blocked e) priority);
    };
    slice = refl;
  }

  -- ---- nothing is there, and the thread goes on

  abbrev gone_on : ThreadState
  gone_on = record cleared { registers = advanced (write (thread_at ready self).registers a0 0) }

  polled-self : (deliver_word ready self 0).objects self ≡ Some (ThreadObject gone_on)
  polled-self =
      passed ready self (write (thread_at ready self).registers a0 0)
      ∙ ap (λ (u : ThreadState). Some (ThreadObject (record u { registers = advanced (write (thread_at ready self).registers a0 0) })))
      (at-place ready self cleared ready-self)

  polled-there : (y : ℕ) → y ≢ self → (deliver_word ready self 0).objects y ≡ s.objects y
  polled-there y not_self = passed-there ready self (write (thread_at ready self).registers a0 0) y not_self ∙ ready-there y not_self

  pub receives-nothing : KeepsSlice image t s (deliver_word (with_caller s (self_of image t) None) (self_of image t) 0)
  receives-nothing = record {
    change = record {
      store = record { memory_bits = refl; boot_radix = refl; slots = λ slot. refl; bytes = λ place. inl refl };
      own = own;
      now = gone_on;
      was = is;
      is = polled-self;
      itself = record { priority = refl; fault_address = refl; slice = same_slice refl; right = dropped refl };
      others = λ y not_self. stays (polled-there y not_self);
      lines = λ number either. elim either [ inl differs ↦ absurd (differs refl) | inr differs ↦ absurd (differs refl) ];
      ready = λ priority. nothing-ready s (deliver_word ready self 0) self priority (gains-none self (s.ready priority));
    };
    slice = refl;
  }

  -- ---- the first sender's message

  module _ (first : Sender) (others : List Sender) (list : old.senders ≡ first ∷ others) where
    abbrev from : ℕ
    from = first.thread

    abbrev fewer : EndpointState
    fewer = record (endpoint_at ready e) { senders = others }

    abbrev taken : State
    taken = with_endpoint ready e fewer

    pub waits : Waits s first.thread e
    waits = sender-waits s sound e old was first others list

    from-self : from ≢ self
    from-self = resting-apart s from self waits.own own waits.is is waits.rests runs

    from-queue : from ≢ e
    from-queue = not-queue from waits.own waits.is

    abbrev message : Message
    message = message_to taken first first.sent self

    -- with the bytes of the message
    abbrev told : State
    told = record taken { bytes = bytes_sent taken first first.sent self }

    abbrev got : State
    got = deliver told self first.badge message

    abbrev filled : ThreadState
    filled = record cleared { registers = advanced (delivered own.registers first.badge message) }

    got-self : got.objects self ≡ Some (ThreadObject filled)
    got-self = delivered-here told self first.badge message cleared (endpoint-there ready e fewer self self-queue ∙ ready-self)

    got-there : (y : ℕ) → y ≢ self → y ≢ e → got.objects y ≡ s.objects y
    got-there y not_self not_queue = delivered-there told self first.badge message y not_self ∙ endpoint-there ready e fewer y not_queue
        ∙ ready-there y not_self

    got-queue : got.objects e ≡ Some (EndpointObject fewer)
    got-queue = delivered-there told self first.badge message e (λ same. self-queue (sym same)) ∙ endpoint-here ready e fewer

    got-from : got.objects from ≡ Some (ThreadObject waits.own)
    got-from = got-there from from-self from-queue ∙ waits.is

    -- the queue is that of before without the sender, in each state that has this queue
    shorter : (after : State) → after.objects e ≡ Some (EndpointObject fewer) → (endpoint_at s e).senders ≡ first ∷ (endpoint_at after e).senders
    shorter after queue =
        ap (λ (q : EndpointState). q.senders) (at-endpoint s e old was) ∙ list
        ∙ ap (λ (o : Option Object). first ∷ (option_map_or (λ (q : EndpointState). q) (as_endpoint o) new_endpoint).senders) (sym queue)

    -- the sender leaves it
    takes : (after : State) → after.objects e ≡ Some (EndpointObject fewer) → TakesSender s after e first
    takes after queue = record {
      was = ap (option_map kind_of) was;
      is = ap (option_map kind_of) queue;
      leaves = shorter after queue;
    }

    -- the sender's message is as long as before the right goes and the queue is shorter
    length-still : length_between taken from self ≡ length_between s from self
    length-still =
        length-same s taken from self refl (ap (λ (o : Option Object). (option_map_or (λ (v : ThreadState). v) (as_thread o) new_thread).registers)
        (endpoint-there ready e fewer from from-queue ∙ ready-there from from-self))

    -- bytes change by the message alone, and by no report of a fault
    bytes-told : (sent : Sent) → first.sent ≡ sent → (after : State) → after.objects e ≡ Some (EndpointObject fewer)
        → after.bytes ≡ bytes_sent taken first sent self → (place : ℕ) → StaysOrDelivered image t s after place
    bytes-told BySend is after queue bytes =
        bytes-delivered image t s after sound from self (Delivers.receives e first refl names (takes after queue) refl (inl is))
        (bytes ∙ ap (bytes_between s from self) length-still)
    bytes-told ByCall is after queue bytes =
        bytes-delivered image t s after sound from self (Delivers.receives e first refl names (takes after queue) refl (inr is))
        (bytes ∙ ap (bytes_between s from self) length-still)
    bytes-told (ByFault fault) is after queue bytes = λ place. inl (ap (λ (all : ℕ → Option ℕ). all place) bytes)

    -- and it comes whole
    arrives-told : (sent : Sent) → first.sent ≡ sent → (after : State) → after.bytes ≡ bytes_sent taken first sent self → is_message sent ≡ true
        → Arrives s after from self
    arrives-told BySend is after bytes some = arrives-so s after from self (bytes ∙ ap (bytes_between s from self) length-still)
    arrives-told ByCall is after bytes some = arrives-so s after from self (bytes ∙ ap (bytes_between s from self) length-still)
    arrives-told (ByFault fault) is after bytes some = absurd (let clash : false ≡ true = some in cc)

    arrives-at : (after : State) → after.bytes ≡ bytes_sent taken first first.sent self → (y : ℕ) → y ≡ from → is_message first.sent ≡ true
        → Arrives s after y self
    arrives-at after bytes y here some =
        subst (λ (x : ℕ). Arrives s after x self) (sym here) (arrives-told first.sent refl after bytes some)

    store-told : (after : State) → after.objects e ≡ Some (EndpointObject fewer) → after.memory_bits ≡ s.memory_bits → after.boot_radix ≡ s.boot_radix
        → after.slots ≡ s.slots → after.bytes ≡ bytes_sent taken first first.sent self → KeepsStore image t s after
    store-told after queue memory radix slots bytes = record {
      memory_bits = memory;
      boot_radix = radix;
      slots = λ slot. ap (λ (all : Slots). all slot) slots;
      bytes = bytes-told first.sent refl after queue bytes;
    }

    receivers-same : (record (endpoint_at ready e) { senders = others }).receivers ≡ old.receivers
    receivers-same = ap (λ (q : EndpointState). q.receivers) ready-queue

    -- ---- one that sent runs again

    module _ (sent : first.sent ≡ BySend) where
      abbrev passing : State
      passing = passes got from

      abbrev last : State
      last = wake passing from

      abbrev changed : ThreadState
      changed = woken waits.own (advanced waits.own.registers)

      passing-from : passing.objects from ≡ Some (ThreadObject (record waits.own { registers = advanced waits.own.registers }))
      passing-from = went-here got from waits.own got-from

      last-from : last.objects from ≡ Some (ThreadObject changed)
      last-from = woke passing from (record waits.own { registers = advanced waits.own.registers }) passing-from

      last-there : (y : ℕ) → y ≢ from → last.objects y ≡ got.objects y
      last-there y not_from = woke-there passing from y not_from ∙ went-there got from y not_from

      last-self : last.objects self ≡ Some (ThreadObject filled)
      last-self = last-there self (λ same. from-self (sym same)) ∙ got-self

      last-queue : last.objects e ≡ Some (EndpointObject fewer)
      last-queue = last-there e (λ same. from-queue (sym same)) ∙ got-queue

      runs-there : (thread_at last from).status ≢ Blocked e
      runs-there still =
          let clash : Runnable ≡ Blocked e = sym (ap (λ (v : ThreadState). v.status) (at-place last from changed last-from)) ∙ still in absurd cc

      pub sent-received : KeepsSlice image t s
          (wake (passes (deliver_sent (with_endpoint (with_caller s (self_of image t) None) e
          (record (endpoint_at (with_caller s (self_of image t) None) e) { senders = others })) first (self_of image t)) first.thread) first.thread)
      sent-received = record {
        change = record {
          store = store-told last last-queue refl refl refl refl;
          own = own;
          now = filled;
          was = is;
          is = last-self;
          itself = record { priority = refl; fault_address = refl; slice = same_slice refl; right = dropped refl };
          others = λ y not_self. elim (eqb_tells y from) [
            | inl here ↦
                of_thread waits.own changed (ap s.objects here.1 ∙ waits.is) (ap last.objects here.1 ∙ last-from)
                (of_first e first (takes last last-queue) (sym here.1) waits.blocked names (ap (λ (x : Sent). once_received first x waits.own) (sym sent))
                (arrives-at last refl y here.1))
            | inr apart ↦ elim (eqb_tells y e) [
              | inl here ↦
                  of_endpoint old fewer (ap s.objects here.1 ∙ was) (ap last.objects here.1 ∙ last-queue)
                  (takes_sender first (subst (λ (q : ℕ). CallNames image t s (ReceivesFrom q)) (sym here.1) names) list receivers-same
                  (λ still. runs-there (still ∙ ap Blocked here.1)))
              | inr away ↦ stays (last-there y apart.1 ∙ got-there y not_self away.1)
            ]
          ];
          lines = λ number either. elim either [ inl differs ↦ absurd (differs refl) | inr differs ↦ absurd (differs refl) ];
          ready = λ priority.
              one-ready s last self priority from waits.own.priority
              (wake-gains passing self from (record waits.own { registers = advanced waits.own.registers }) passing-from from-self
              (resting-absent s sound from waits.own waits.is waits.rests) priority)
              (λ here. record {
                before = waits.own;
                changed = changed;
                was = waits.is;
                rested = waits.rests;
                is = last-from;
                runs = refl;
                at = sym here;
              });
        };
        slice = refl;
      }

    -- ---- one that waits for an answer, or stops

    module _ (status : Status) (becomes : once_received first first.sent waits.own ≡ record waits.own { status = status }) (rests : status ≢ Blocked e) where
      abbrev stopped : State
      stopped = block got from status

      abbrev awaiting : ThreadState
      awaiting = record waits.own { status = status }

      stopped-from : stopped.objects from ≡ Some (ThreadObject awaiting)
      stopped-from = blocked got from status waits.own got-from

      stopped-there : (y : ℕ) → y ≢ from → stopped.objects y ≡ got.objects y
      stopped-there y not_from = blocked-there got from status y not_from

      stopped-self : stopped.objects self ≡ Some (ThreadObject filled)
      stopped-self = stopped-there self (λ same. from-self (sym same)) ∙ got-self

      stopped-queue : stopped.objects e ≡ Some (EndpointObject fewer)
      stopped-queue = stopped-there e (λ same. from-queue (sym same)) ∙ got-queue

      -- of each other object in a state afterwards
      afterwards : (after : State) → after.objects from ≡ Some (ThreadObject awaiting) → after.objects e ≡ Some (EndpointObject fewer)
          → after.bytes ≡ bytes_sent taken first first.sent self
          → ((y : ℕ) → y ≢ self → y ≢ from → after.objects y ≡ got.objects y) → (y : ℕ) → y ≢ self → OtherChange image t s after y
      afterwards after after-from after-queue after-bytes after-there y not_self = elim (eqb_tells y from) [
        | inl here ↦
            of_thread waits.own awaiting (ap s.objects here.1 ∙ waits.is) (ap after.objects here.1 ∙ after-from)
            (of_first e first (takes after after-queue) (sym here.1) waits.blocked names (sym becomes) (arrives-at after after-bytes y here.1))
        | inr apart ↦ elim (eqb_tells y e) [
          | inl here ↦
              of_endpoint old fewer (ap s.objects here.1 ∙ was) (ap after.objects here.1 ∙ after-queue)
              (takes_sender first (subst (λ (q : ℕ). CallNames image t s (ReceivesFrom q)) (sym here.1) names) list receivers-same
              (λ still. rests (sym (ap (λ (v : ThreadState). v.status) (at-place after from awaiting after-from)) ∙ still ∙ ap Blocked here.1)))
          | inr away ↦ stays (after-there y not_self apart.1 ∙ got-there y not_self away.1)
        ]
      ]

      -- the thread gets no right to reply
      pub stopped-received : KeepsSlice image t s
          (block (deliver_sent (with_endpoint (with_caller s (self_of image t) None) e
          (record (endpoint_at (with_caller s (self_of image t) None) e) { senders = others })) first (self_of image t)) first.thread status)
      stopped-received = record {
        change = record {
          store = store-told stopped stopped-queue refl refl refl refl;
          own = own;
          now = filled;
          was = is;
          is = stopped-self;
          itself = record { priority = refl; fault_address = refl; slice = same_slice refl; right = dropped refl };
          others = afterwards stopped stopped-from stopped-queue refl (λ y not_self not_from. stopped-there y not_from);
          lines = λ number either. elim either [ inl differs ↦ absurd (differs refl) | inr differs ↦ absurd (differs refl) ];
          ready = λ priority.
              nothing-ready s stopped self priority
              (rest-gains got self from status (resting-absent s sound from waits.own waits.is waits.rests) priority);
        };
        slice = refl;
      }

      -- the thread gets the right to reply
      module _ (gives : gives_right first first.sent ≡ true) where
        abbrev final : State
        final = with_caller stopped self (Some from)

        abbrev answering : ThreadState
        answering = record filled { caller = Some from }

        final-from : final.objects from ≡ Some (ThreadObject awaiting)
        final-from = caller-there stopped self (Some from) from from-self ∙ stopped-from

        final-self : final.objects self ≡ Some (ThreadObject answering)
        final-self = caller-here stopped self (Some from) filled stopped-self

        final-there : (y : ℕ) → y ≢ self → y ≢ from → final.objects y ≡ got.objects y
        final-there y not_self not_from = caller-there stopped self (Some from) y not_self ∙ stopped-there y not_from

        final-queue : final.objects e ≡ Some (EndpointObject fewer)
        final-queue = caller-there stopped self (Some from) e (λ same. self-queue (sym same)) ∙ stopped-queue

        pub call-received : KeepsSlice image t s
            (with_caller (block (deliver_sent (with_endpoint (with_caller s (self_of image t) None) e
            (record (endpoint_at (with_caller s (self_of image t) None) e) { senders = others })) first (self_of image t)) first.thread status)
            (self_of image t) (Some first.thread))
        call-received = record {
          change = record {
            store = store-told final final-queue refl refl refl refl;
            own = own;
            now = answering;
            was = is;
            is = final-self;
            itself = record {
              priority = refl;
              fault_address = refl;
              slice = same_slice refl;
              right = of_sender e first names (takes final final-queue) gives refl;
            };
            others = afterwards final final-from final-queue refl final-there;
            lines = λ number either. elim either [ inl differs ↦ absurd (differs refl) | inr differs ↦ absurd (differs refl) ];
            ready = λ priority.
                nothing-ready s final self priority
                (rest-gains got self from status (resting-absent s sound from waits.own waits.is waits.rests) priority);
          };
          slice = refl;
        }
