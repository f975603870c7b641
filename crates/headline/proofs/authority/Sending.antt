-- A thread sends to an endpoint: the first receiver gets the message, or the thread waits. What that changes stays within authority.
use Rattle.std.proofs.Common.{ℕ, ◌≡◌, ◌≢◌, ◌++◌, Bool, Option, Some, option_map, List, [], ◌∷◌, refl, sym, ◌∙◌, ap, subst, inl, inr}
use Rattle.std.specs.Option.{option_map_or}
use Rattle.std.proofs.lemmas.Bool.Decides.{eqb_tells}
use Rattle.model.specs.Acceptance.Authority.{AsksAs, CallNames, Delivers, waits_to_send, takes_receiver, IsWoken, kept, same_slice}
use Rattle.model.specs.Acceptance.Authority.{self_of}
use Rattle.model.specs.Capabilities.Slots.{Slots}
use Rattle.model.specs.Images.Image.{Image, Thread}
use Rattle.model.specs.Kernel.Deliveries.{Arrives, as_before, CallsTo, receiver, SendsTo, TakesReceiver, to_sender, woken}
use Rattle.model.specs.Kernel.Kinds.{kind_of}
use Rattle.model.specs.Kernel.Messages.{Message, bytes_between, deliver, deliver_with, delivered, length_between, message_between}
use Rattle.model.specs.Kernel.Messages.{waits_to_send as waits_in_queue, with_caller}
use Rattle.model.specs.Kernel.Scheduling.{block, wake}
use Rattle.model.specs.Kernel.Soundness.{IsSound, awaits_answer}
use Rattle.model.specs.Kernel.State.{State, Status, Runnable, Blocked, AwaitsReply, Object, ThreadObject, EndpointObject, EndpointState, Sender, Sent}
use Rattle.model.specs.Kernel.State.{ThreadState, as_endpoint, as_thread, endpoint_at, new_endpoint, new_thread, thread_at, with_endpoint}
use Rattle.model.specs.Kernel.Steps.{sender}
use Rattle.model.specs.Machine.Effects.{advanced}
use Rattle.model.specs.Machine.ProgramMemory.{RegisterFile}
use Rattle.headline.proofs.facts.Laws.{at-place}
use Rattle.headline.proofs.moves.Laws.{at-endpoint, blocked, blocked-there, caller-here, caller-there, delivered-here, delivered-there, endpoint-here}
use Rattle.headline.proofs.moves.Laws.{endpoint-there, woke, woke-there}
use Rattle.headline.proofs.authority.Changes.{ChangesObjects, KeepsStore, stays, of_thread, of_endpoint}
use Rattle.headline.proofs.authority.Deliveries.{arrives-so, bytes-delivered}
use Rattle.headline.proofs.authority.Gains.{Gains, block-gains, gains-both, nothing-ready, one-ready, wake-gains, woken_at}
use Rattle.headline.proofs.authority.Awaited.{awaited-apart, blocked-awaits, receiver-waits, resting-absent, resting-apart, runs-awaits}
use Rattle.headline.proofs.authority.Interrupted.{Waits}
use Rattle.headline.proofs.authority.PlainSteps.{append-none}

module _ (image : Image) (t : Thread) (s : State) (sound : IsSound s) (own : ThreadState) (is : s.objects (self_of image t) ≡ Some (ThreadObject own))
    (runs : own.status ≡ Runnable) (e : ℕ) (old : EndpointState) (was : s.objects e ≡ Some (EndpointObject old)) (badge : ℕ) where
  abbrev self : ℕ
  self = self_of image t

  not-queue : (thread : ℕ) (u : ThreadState) → s.objects thread ≡ Some (ThreadObject u) → thread ≢ e
  not-queue thread u there same = let clash : Some (ThreadObject u) ≡ Some (EndpointObject old) = sym there ∙ ap s.objects same ∙ was in absurd cc

  queue-is : endpoint_at s e ≡ old
  queue-is = at-endpoint s e old was

  -- whom the thread may answer is none of those that the step changes
  not-caller : (caller : ℕ) → own.caller ≡ Some caller → (caller ≢ self) × (caller ≢ e)
  not-caller caller right = (
    awaited-apart s sound self caller own is right self (runs-awaits s self own is runs),
    awaited-apart s sound self caller own is right e
        (ap (λ (o : Option Object). awaits_answer (option_map_or (λ (v : ThreadState). v) (as_thread o) new_thread).status) was),
  )

  -- ---- the thread waits

  module _ (sent : Sent) (grants : Bool) (asks : AsksAs image t s e (sender (self_of image t) sent badge grants)) where
    abbrev x : Sender
    x = sender self sent badge grants

    abbrev longer : EndpointState
    longer = record (endpoint_at s e) { senders = (endpoint_at s e).senders ++ x ∷ [] }

    abbrev queued : State
    queued = waits_in_queue s e x

    abbrev waiting : ThreadState
    waiting = record own { status = Blocked e }

    queued-self : queued.objects self ≡ Some (ThreadObject waiting)
    queued-self = blocked (with_endpoint s e longer) self (Blocked e) own (endpoint-there s e longer self (not-queue self own is) ∙ is)

    queued-there : (y : ℕ) → y ≢ self → y ≢ e → queued.objects y ≡ s.objects y
    queued-there y not_self not_queue = blocked-there (with_endpoint s e longer) self (Blocked e) y not_self ∙ endpoint-there s e longer y not_queue

    queued-queue : queued.objects e ≡ Some (EndpointObject longer)
    queued-queue = blocked-there (with_endpoint s e longer) self (Blocked e) e (λ same. not-queue self own is (sym same)) ∙ endpoint-here s e longer

    pub waits-changes : ChangesObjects image t s (waits_in_queue s e (sender (self_of image t) sent badge grants))
    waits-changes = record {
      store = record { memory_bits = refl; boot_radix = refl; slots = λ slot. refl; bytes = λ place. inl refl };
      own = own;
      now = waiting;
      was = is;
      is = queued-self;
      itself = record {
        priority = refl;
        fault_address = refl;
        slice = same_slice refl;
        right = kept refl (λ caller right. let away = not-caller caller right in queued-there caller away.0 away.1);
      };
      others = λ y not_self. elim (eqb_tells y e) [
        | inl here ↦
            of_endpoint old longer (ap s.objects here.1 ∙ was) (ap queued.objects here.1 ∙ queued-queue)
            (waits_to_send x (subst (λ (q : ℕ). AsksAs image t s q x) (sym here.1) asks)
            (ap (λ (q : EndpointState). record q { senders = q.senders ++ x ∷ [] }) queue-is))
        | inr apart ↦ stays (queued-there y not_self apart.1)
      ];
      lines = λ number either. elim either [ inl differs ↦ absurd (differs refl) | inr differs ↦ absurd (differs refl) ];
      ready = λ priority. nothing-ready s queued self priority (block-gains (with_endpoint s e longer) self (Blocked e) priority);
    }

  -- ---- the first receiver gets the message

  module _ (r : ℕ) (others : List ℕ) (first : old.receivers ≡ r ∷ others) (names : CallNames image t s (SendsTo e badge)) where
    abbrev fewer : EndpointState
    fewer = record (endpoint_at s e) { receivers = others }

    -- the queue without the receiver, and the bytes with the message
    abbrev taken : State
    taken = record (with_endpoint s e fewer) { bytes = bytes_between s self r (length_between s self r) }

    waits : Waits s r e
    waits = receiver-waits s sound e old was r others first

    r-self : r ≢ self
    r-self = resting-apart s r self waits.own own waits.is is waits.rests runs

    r-queue : r ≢ e
    r-queue = not-queue r waits.own waits.is

    abbrev message : Message
    message = message_between s self r

    abbrev written : RegisterFile
    written = delivered waits.own.registers badge message

    abbrev two : State
    two = deliver taken r badge message

    abbrev three : State
    three = wake two r

    abbrev changed : ThreadState
    changed = woken waits.own (advanced written)

    two-r : two.objects r ≡ Some (ThreadObject (record waits.own { registers = advanced written }))
    two-r = delivered-here taken r badge message waits.own (endpoint-there s e fewer r r-queue ∙ waits.is)

    three-r : three.objects r ≡ Some (ThreadObject changed)
    three-r = woke two r (record waits.own { registers = advanced written }) two-r

    three-there : (z : ℕ) → z ≢ r → z ≢ e → three.objects z ≡ s.objects z
    three-there z not_r not_queue = woke-there two r z not_r ∙ delivered-there taken r badge message z not_r ∙ endpoint-there s e fewer z not_queue

    three-queue : three.objects e ≡ Some (EndpointObject fewer)
    three-queue =
        woke-there two r e (λ same. r-queue (sym same)) ∙ delivered-there taken r badge message e (λ same. r-queue (sym same)) ∙ endpoint-here s e fewer

    three-self : three.objects self ≡ Some (ThreadObject own)
    three-self = three-there self (λ same. r-self (sym same)) (not-queue self own is) ∙ is

    three-ready : (priority : ℕ) → Gains self (s.ready priority) (three.ready priority) (woken_at r waits.own.priority priority)
    three-ready = wake-gains two self r (record waits.own { registers = advanced written }) two-r r-self
        (resting-absent s sound r waits.own waits.is waits.rests)

    not-r : (caller : ℕ) → own.caller ≡ Some caller → caller ≢ r
    not-r caller right = awaited-apart s sound self caller own is right r (blocked-awaits s r waits.own e waits.is waits.blocked)

    -- the queue is that of before without the receiver, in each state that has this queue
    shorter : (after : State) → after.objects e ≡ Some (EndpointObject fewer) → (endpoint_at s e).receivers ≡ r ∷ (endpoint_at after e).receivers
    shorter after queue =
        ap (λ (q : EndpointState). q.receivers) queue-is ∙ first
        ∙ ap (λ (o : Option Object). r ∷ (option_map_or (λ (q : EndpointState). q) (as_endpoint o) new_endpoint).receivers) (sym queue)

    -- the receiver leaves it
    takes : (after : State) → after.objects e ≡ Some (EndpointObject fewer) → (z : ℕ) → z ≡ r → TakesReceiver s after e z
    takes after queue z here = record {
      was = ap (option_map kind_of) was;
      is = ap (option_map kind_of) queue;
      leaves = shorter after queue ∙ ap (λ (q : ℕ). q ∷ (endpoint_at after e).receivers) (sym here);
    }

    -- bytes change by the message alone
    store-told : (after : State) → after.objects e ≡ Some (EndpointObject fewer) → after.memory_bits ≡ s.memory_bits → after.boot_radix ≡ s.boot_radix
        → after.slots ≡ s.slots → after.bytes ≡ bytes_between s self r (length_between s self r) → KeepsStore image t s after
    store-told after queue memory radix slots bytes = record {
      memory_bits = memory;
      boot_radix = radix;
      slots = λ slot. ap (λ (all : Slots). all slot) slots;
      bytes = bytes-delivered image t s after sound self r (Delivers.sends e badge refl names (takes after queue r refl)) bytes;
    }

    registers-are : (z : ℕ) → z ≡ r → changed ≡ woken waits.own (advanced (delivered waits.own.registers badge (message_between s self z)))
    registers-are z here = ap (λ (q : ℕ). woken waits.own (advanced (delivered waits.own.registers badge (message_between s self q)))) (sym here)

    arrives-at : (after : State) → after.bytes ≡ bytes_between s self r (length_between s self r) → (z : ℕ) → z ≡ r → Arrives s after self z
    arrives-at after bytes z here = subst (Arrives s after self) (sym here) (arrives-so s after self r bytes)

    -- who runs in a state afterwards waits no more
    runs-there : (after : State) (u : ThreadState) → after.objects r ≡ Some (ThreadObject u) → u.status ≡ Runnable →
        (thread_at after r).status ≢ Blocked e
    runs-there after u there now still =
        let clash : Runnable ≡ Blocked e = sym now ∙ sym (ap (λ (v : ThreadState). v.status) (at-place after r u there)) ∙ still in absurd cc

    woken-there : (after : State) (u : ThreadState) → after.objects r ≡ Some (ThreadObject u) → u.status ≡ Runnable → u.priority ≡ waits.own.priority
        → (priority : ℕ) → priority ≡ waits.own.priority → IsWoken s after priority r
    woken-there after u there now same priority here = record {
      before = waits.own;
      changed = u;
      was = waits.is;
      rested = waits.rests;
      is = there;
      runs = now;
      at = same ∙ sym here;
    }

    -- the thread goes on, before its own registers change
    pub given-changes : ChangesObjects image t s
        (wake (deliver_with (with_endpoint s e (record (endpoint_at s e) { receivers = others })) (bytes_between s (self_of image t) r
        (length_between s (self_of image t) r)) r badge (message_between s (self_of image t) r)) r)
    given-changes = record {
      store = store-told three three-queue refl refl refl refl;
      own = own;
      now = own;
      was = is;
      is = three-self;
      itself = record {
        priority = refl;
        fault_address = refl;
        slice = same_slice refl;
        right = kept refl (λ caller right. three-there caller (not-r caller right) (not-caller caller right).1);
      };
      others = λ z not_self. elim (eqb_tells z r) [
        | inl here ↦
            of_thread waits.own changed (ap s.objects here.1 ∙ waits.is) (ap three.objects here.1 ∙ three-r)
            (receiver e badge waits.own.caller (takes three three-queue z here.1)
            waits.blocked names (as_before refl) (registers-are z here.1) (arrives-at three refl z here.1))
        | inr apart ↦ elim (eqb_tells z e) [
          | inl here ↦
              of_endpoint old fewer (ap s.objects here.1 ∙ was) (ap three.objects here.1 ∙ three-queue)
              (takes_receiver badge r (subst (λ (q : ℕ). CallNames image t s (SendsTo q badge)) (sym here.1) names) first
              (ap (λ (q : EndpointState). q.senders) queue-is)
              (λ still. runs-there three changed three-r refl (still ∙ ap Blocked here.1)))
          | inr away ↦ stays (three-there z apart.1 away.1)
        ]
      ];
      lines = λ number either. elim either [ inl differs ↦ absurd (differs refl) | inr differs ↦ absurd (differs refl) ];
      ready = λ priority. one-ready s three self priority r waits.own.priority (three-ready priority) (woken-there three changed three-r refl refl priority);
    }

    -- the thread stops, and nobody may reply to it
    module _ (status : Status) where
      abbrev halted : State
      halted = block three self status

      halted-there : (z : ℕ) → z ≢ self → halted.objects z ≡ three.objects z
      halted-there z not_self = blocked-there three self status z not_self

      halted-r : halted.objects r ≡ Some (ThreadObject changed)
      halted-r = halted-there r r-self ∙ three-r

      halted-queue : halted.objects e ≡ Some (EndpointObject fewer)
      halted-queue = halted-there e (λ same. not-queue self own is (sym same)) ∙ three-queue

      halted-ready : (priority : ℕ) → Gains self (s.ready priority) (halted.ready priority) (woken_at r waits.own.priority priority)
      halted-ready priority =
          subst (Gains self (s.ready priority) (halted.ready priority)) (sym (append-none (woken_at r waits.own.priority priority)))
          (gains-both self (s.ready priority) (three.ready priority) (halted.ready priority) (woken_at r waits.own.priority priority) []
          (three-ready priority) (block-gains three self status priority))

      pub halted-changes : ChangesObjects image t s
          (block (wake (deliver_with (with_endpoint s e (record (endpoint_at s e) { receivers = others })) (bytes_between s (self_of image t) r
          (length_between s (self_of image t) r)) r badge (message_between s (self_of image t) r)) r) (self_of image t) status)
      halted-changes = record {
        store = store-told halted halted-queue refl refl refl refl;
        own = own;
        now = record own { status = status };
        was = is;
        is = blocked three self status own three-self;
        itself = record {
          priority = refl;
          fault_address = refl;
          slice = same_slice refl;
          right = kept refl (λ caller right.
              halted-there caller (not-caller caller right).0 ∙ three-there caller (not-r caller right) (not-caller caller right).1);
        };
        others = λ z not_self. elim (eqb_tells z r) [
          | inl here ↦
              of_thread waits.own changed (ap s.objects here.1 ∙ waits.is) (ap halted.objects here.1 ∙ halted-r)
              (receiver e badge waits.own.caller (takes halted halted-queue z here.1)
              waits.blocked names (as_before refl) (registers-are z here.1) (arrives-at halted refl z here.1))
          | inr apart ↦ elim (eqb_tells z e) [
            | inl here ↦
                of_endpoint old fewer (ap s.objects here.1 ∙ was) (ap halted.objects here.1 ∙ halted-queue)
                (takes_receiver badge r (subst (λ (q : ℕ). CallNames image t s (SendsTo q badge)) (sym here.1) names) first
                (ap (λ (q : EndpointState). q.senders) queue-is)
                (λ still. runs-there halted changed halted-r refl (still ∙ ap Blocked here.1)))
            | inr away ↦ stays (halted-there z not_self ∙ three-there z apart.1 away.1)
          ]
        ];
        lines = λ number either. elim either [ inl differs ↦ absurd (differs refl) | inr differs ↦ absurd (differs refl) ];
        ready = λ priority. one-ready s halted self priority r waits.own.priority (halted-ready priority)
            (woken-there halted changed halted-r refl refl priority);
      }

    -- the thread waits for the answer, and the receiver may reply to it
    module _ (calls : CallNames image t s (CallsTo e badge)) where
      abbrev stopped : State
      stopped = block three self AwaitsReply

      abbrev last : State
      last = with_caller stopped r (Some self)

      abbrev replying : ThreadState
      replying = record changed { caller = Some self }

      abbrev waiting-so : ThreadState
      waiting-so = record own { status = AwaitsReply }

      last-self : last.objects self ≡ Some (ThreadObject waiting-so)
      last-self = caller-there stopped r (Some self) self (λ same. r-self (sym same)) ∙ blocked three self AwaitsReply own three-self

      last-r : last.objects r ≡ Some (ThreadObject replying)
      last-r = caller-here stopped r (Some self) changed (blocked-there three self AwaitsReply r r-self ∙ three-r)

      last-there : (z : ℕ) → z ≢ self → z ≢ r → last.objects z ≡ three.objects z
      last-there z not_self not_r = caller-there stopped r (Some self) z not_r ∙ blocked-there three self AwaitsReply z not_self

      last-queue : last.objects e ≡ Some (EndpointObject fewer)
      last-queue = last-there e (λ same. not-queue self own is (sym same)) (λ same. r-queue (sym same)) ∙ three-queue

      last-ready : (priority : ℕ) → Gains self (s.ready priority) (last.ready priority) (woken_at r waits.own.priority priority)
      last-ready priority =
          subst (Gains self (s.ready priority) (last.ready priority)) (sym (append-none (woken_at r waits.own.priority priority)))
          (gains-both self (s.ready priority) (three.ready priority) (last.ready priority) (woken_at r waits.own.priority priority) []
          (three-ready priority) (block-gains three self AwaitsReply priority))

      pub called-changes : ChangesObjects image t s
          (with_caller (block (wake (deliver_with (with_endpoint s e (record (endpoint_at s e) { receivers = others })) (bytes_between s (self_of image t) r
          (length_between s (self_of image t) r)) r badge (message_between s (self_of image t) r)) r) (self_of image t) AwaitsReply) r
          (Some (self_of image t)))
      called-changes = record {
        store = store-told last last-queue refl refl refl refl;
        own = own;
        now = waiting-so;
        was = is;
        is = last-self;
        itself = record {
          priority = refl;
          fault_address = refl;
          slice = same_slice refl;
          right = kept refl (λ caller right.
              last-there caller (not-caller caller right).0 (not-r caller right) ∙ three-there caller (not-r caller right) (not-caller caller right).1);
        };
        others = λ z not_self. elim (eqb_tells z r) [
          | inl here ↦
              of_thread waits.own replying (ap s.objects here.1 ∙ waits.is) (ap last.objects here.1 ∙ last-r)
              (receiver e badge (Some self) (takes last last-queue z here.1)
              waits.blocked names (to_sender calls refl (ap (λ (u : ThreadState). u.status) (at-place last self waiting-so last-self)))
              (ap (λ (u : ThreadState). record u { caller = Some self }) (registers-are z here.1)) (arrives-at last refl z here.1))
          | inr apart ↦ elim (eqb_tells z e) [
            | inl here ↦
                of_endpoint old fewer (ap s.objects here.1 ∙ was) (ap last.objects here.1 ∙ last-queue)
                (takes_receiver badge r (subst (λ (q : ℕ). CallNames image t s (SendsTo q badge)) (sym here.1) names) first
                (ap (λ (q : EndpointState). q.senders) queue-is)
                (λ still. runs-there last replying last-r refl (still ∙ ap Blocked here.1)))
            | inr away ↦ stays (last-there z not_self apart.1 ∙ three-there z apart.1 away.1)
          ]
        ];
        lines = λ number either. elim either [ inl differs ↦ absurd (differs refl) | inr differs ↦ absurd (differs refl) ];
        ready = λ priority. one-ready s last self priority r waits.own.priority (last-ready priority)
            (woken-there last replying last-r refl refl priority);
      }
