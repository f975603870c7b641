-- A thread signals a notification, takes its word or waits for it. What that changes stays within authority.
use Rattle.std.proofs.Common.{ℕ, ◌≡◌, ◌≢◌, ◌⊎◌, ◌++◌, Bool, Option, Some, option_map, List, [], ◌∷◌, refl, sym, ◌∙◌, ap, subst, inl, inr}
use Rattle.std.specs.Prelude.{bit_or}
use Rattle.std.specs.Option.{option_map_or}
use Rattle.std.proofs.lemmas.Bool.Decides.{eqb_tells}
use Rattle.model.specs.Acceptance.Authority.{Acknowledges, CallNames, IsSignalled, joined, LineChange, joins, kept, passes_on}
use Rattle.model.specs.Acceptance.Authority.{same_slice, self_of, taken, WaitsFor, waits}
use Rattle.model.specs.Images.Image.{Image, Thread}
use Rattle.model.specs.Kernel.Deliveries.{Signals, TakesWaiter, waiter, woken}
use Rattle.model.specs.Kernel.Kinds.{kind_of}
use Rattle.model.specs.Kernel.Messages.{a0, deliver_word, waits_for_signal}
use Rattle.model.specs.Kernel.Scheduling.{wake}
use Rattle.model.specs.Kernel.Soundness.{IsSound, awaits_answer, waiting_at}
use Rattle.model.specs.Kernel.State.{State, Runnable, Blocked, Object, ThreadObject, NotificationObject, NotificationState, ThreadState, as_notification}
use Rattle.model.specs.Kernel.State.{as_thread, new_notification, new_thread, notification_at, thread_at, with_notification}
use Rattle.model.specs.Machine.Effects.{advanced}
use Rattle.model.specs.Machine.ProgramMemory.{RegisterFile, write}
use Rattle.headline.proofs.facts.Laws.{at-place}
use Rattle.headline.proofs.moves.Laws.{blocked, blocked-there, passed, passed-there, woke, woke-there}
use Rattle.headline.proofs.moves.Laws.{put-here, put-there}
use Rattle.headline.proofs.authority.Changes.{ChangesObjects, KeepsSlice, stays, of_thread, of_notification}
use Rattle.headline.proofs.authority.Gains.{block-gains, gains-none, nothing-ready, one-ready, wake-gains}
use Rattle.headline.proofs.authority.Awaited.{awaited-apart, blocked-awaits, first-waits, resting-absent, resting-apart, runs-awaits}
use Rattle.headline.proofs.authority.Interrupted.{Waits}

-- a notification

notification-here : (s : State) (x : ℕ) (n : NotificationState) → (with_notification s x n).objects x ≡ Some (NotificationObject n)
notification-here s x n = put-here s.objects x (Some (NotificationObject n)) x refl

notification-there : (s : State) (x : ℕ) (n : NotificationState) (y : ℕ) → y ≢ x → (with_notification s x n).objects y ≡ s.objects y
notification-there s x n y other = put-there s.objects x (Some (NotificationObject n)) y other

pub at-notification : (s : State) (x : ℕ) (n : NotificationState) → s.objects x ≡ Some (NotificationObject n) → notification_at s x ≡ n
at-notification s x n is = ap (λ (o : Option Object). option_map_or (λ (u : NotificationState). u) (as_notification o) new_notification) is

module _ (image : Image) (t : Thread) (s : State) (sound : IsSound s) (own : ThreadState) (is : s.objects (self_of image t) ≡ Some (ThreadObject own))
    (runs : own.status ≡ Runnable) where
  -- ---- nothing is there, and the thread goes on

  abbrev gone_on : ThreadState
  gone_on = record own { registers = advanced (write (thread_at s (self_of image t)).registers a0 0) }

  self-apart : (caller : ℕ) → own.caller ≡ Some caller → caller ≢ self_of image t
  self-apart caller right =
      awaited-apart s sound (self_of image t) caller own is right (self_of image t) (runs-awaits s (self_of image t) own is runs)

  pub polls-nothing : KeepsSlice image t s (deliver_word s (self_of image t) 0)
  polls-nothing = record {
    change = record {
      store = record { memory_bits = refl; boot_radix = refl; slots = λ slot. refl; bytes = λ place. inl refl };
      own = own;
      now = gone_on;
      was = is;
      is =
          passed s (self_of image t) (write (thread_at s (self_of image t)).registers a0 0)
          ∙ ap (λ (u : ThreadState). Some (ThreadObject (record u { registers = advanced (write (thread_at s (self_of image t)).registers a0 0) })))
          (at-place s (self_of image t) own is);
      itself = record {
        priority = refl;
        fault_address = refl;
        slice = same_slice refl;
        right = kept refl
            (λ caller right. passed-there s (self_of image t) (write (thread_at s (self_of image t)).registers a0 0) caller (self-apart caller right));
      };
      others = λ y not_self. stays (passed-there s (self_of image t) (write (thread_at s (self_of image t)).registers a0 0) y not_self);
      lines = λ number either. elim either [ inl differs ↦ absurd (differs refl) | inr differs ↦ absurd (differs refl) ];
      ready = λ priority. nothing-ready s (deliver_word s (self_of image t) 0) (self_of image t) priority (gains-none (self_of image t) (s.ready priority));
    };
    slice = refl;
  }

  module _ (n : ℕ) (old : NotificationState) (was : s.objects n ≡ Some (NotificationObject old)) where
    abbrev self : ℕ
    self = self_of image t

    not-word : (thread : ℕ) (u : ThreadState) → s.objects thread ≡ Some (ThreadObject u) → thread ≢ n
    not-word thread u there same =
        let clash : Some (ThreadObject u) ≡ Some (NotificationObject old) = sym there ∙ ap s.objects same ∙ was in absurd cc

    self-word : self ≢ n
    self-word = not-word self own is

    word-is : notification_at s n ≡ old
    word-is = at-notification s n old was

    -- whom the thread may answer is none of those that the step changes
    not-caller : (caller : ℕ) → own.caller ≡ Some caller → (caller ≢ self) × (caller ≢ n)
    not-caller caller right = (
      self-apart caller right,
      awaited-apart s sound self caller own is right n
          (ap (λ (o : Option Object). awaits_answer (option_map_or (λ (v : ThreadState). v) (as_thread o) new_thread).status) was),
    )

    -- ---- the thread takes the word

    abbrev empty : NotificationState
    empty = record (notification_at s n) { word = 0 }

    module _ (names : CallNames image t s (WaitsFor n)) where
      abbrev cleared : State
      cleared = with_notification s n empty

      abbrev word : ℕ
      word = (notification_at s n).word

      abbrev taking : State
      taking = deliver_word cleared self word

      abbrev with_word : RegisterFile
      with_word = write (thread_at cleared self).registers a0 word

      taking-there : (y : ℕ) → y ≢ self → y ≢ n → taking.objects y ≡ s.objects y
      taking-there y not_self not_word = passed-there cleared self with_word y not_self ∙ notification-there s n empty y not_word

      taking-self : taking.objects self ≡ Some (ThreadObject (record own { registers = advanced with_word }))
      taking-self =
          passed cleared self with_word
          ∙ ap (λ (u : ThreadState). Some (ThreadObject (record u { registers = advanced with_word })))
          (at-place cleared self own (notification-there s n empty self self-word ∙ is))

      taking-word : taking.objects n ≡ Some (NotificationObject empty)
      taking-word = passed-there cleared self with_word n (λ same. self-word (sym same)) ∙ notification-here s n empty

      pub word-taken : KeepsSlice image t s
          (deliver_word (with_notification s n (record (notification_at s n) { word = 0 })) (self_of image t) (notification_at s n).word)
      word-taken = record {
        change = record {
          store = record { memory_bits = refl; boot_radix = refl; slots = λ slot. refl; bytes = λ place. inl refl };
          own = own;
          now = record own { registers = advanced with_word };
          was = is;
          is = taking-self;
          itself = record {
            priority = refl;
            fault_address = refl;
            slice = same_slice refl;
            right = kept refl (λ caller right. let away = not-caller caller right in taking-there caller away.0 away.1);
          };
          others = λ y not_self. elim (eqb_tells y n) [
            | inl here ↦
                of_notification old empty (ap s.objects here.1 ∙ was) (ap taking.objects here.1 ∙ taking-word)
                (taken (subst (λ (q : ℕ). CallNames image t s (WaitsFor q)) (sym here.1) names)
                (ap (λ (q : NotificationState). record q { word = 0 }) word-is))
            | inr apart ↦ stays (taking-there y not_self apart.1)
          ];
          lines = λ number either. elim either [ inl differs ↦ absurd (differs refl) | inr differs ↦ absurd (differs refl) ];
          ready = λ priority. nothing-ready s taking self priority (gains-none self (s.ready priority));
        };
        slice = refl;
      }

      -- ---- the thread waits

      abbrev longer : NotificationState
      longer = record (notification_at s n) { waiters = (notification_at s n).waiters ++ self ∷ [] }

      abbrev queued : State
      queued = waits_for_signal s n self

      abbrev waiting : ThreadState
      waiting = record own { status = Blocked n }

      queued-self : queued.objects self ≡ Some (ThreadObject waiting)
      queued-self = blocked (with_notification s n longer) self (Blocked n) own (notification-there s n longer self self-word ∙ is)

      queued-there : (y : ℕ) → y ≢ self → y ≢ n → queued.objects y ≡ s.objects y
      queued-there y not_self not_word =
          blocked-there (with_notification s n longer) self (Blocked n) y not_self ∙ notification-there s n longer y not_word

      queued-word : queued.objects n ≡ Some (NotificationObject longer)
      queued-word = blocked-there (with_notification s n longer) self (Blocked n) n (λ same. self-word (sym same)) ∙ notification-here s n longer

      pub waits-for-word : KeepsSlice image t s (waits_for_signal s n (self_of image t))
      waits-for-word = record {
        change = record {
          store = record { memory_bits = refl; boot_radix = refl; slots = λ slot. refl; bytes = λ place. inl refl };
          own = own;
          now = waiting;
          was = is;
          is = queued-self;
          itself = record {
            priority = refl;
            fault_address = refl;
            slice = same_slice refl;
            right = kept refl (λ caller right. let away = not-caller caller right in queued-there caller away.0 away.1);
          };
          others = λ y not_self. elim (eqb_tells y n) [
            | inl here ↦
                of_notification old longer (ap s.objects here.1 ∙ was) (ap queued.objects here.1 ∙ queued-word)
                (waits (subst (λ (q : ℕ). CallNames image t s (WaitsFor q)) (sym here.1) names)
                (ap (λ (q : NotificationState). record q { waiters = q.waiters ++ self ∷ [] }) word-is))
            | inr apart ↦ stays (queued-there y not_self apart.1)
          ];
          lines = λ number either. elim either [ inl differs ↦ absurd (differs refl) | inr differs ↦ absurd (differs refl) ];
          ready = λ priority. nothing-ready s queued self priority (block-gains (with_notification s n longer) self (Blocked n) priority);
        };
        slice = refl;
      }

    -- ---- a signal, with which lines may change

    module _ (badge : ℕ) (masked pending : ℕ → Bool)
        (names : (later : State) → later.pending ≡ pending → CallNames image t s (Signals s later n badge)) where
      names-at : (later : State) → later.pending ≡ pending → (y : ℕ) → y ≡ n → CallNames image t s (Signals s later y badge)
      names-at later same y here = subst (λ (q : ℕ). CallNames image t s (Signals s later q badge)) (sym here) (names later same)

      abbrev LinesChange : State → Type 0
      LinesChange after =
          (number : ℕ) → (s.masked number ≢ masked number) ⊎ (s.pending number ≢ pending number)
          → CallNames image t s (Acknowledges number) × LineChange s after number

      -- nobody waits, and the badge joins the word
      module _ (none : old.waiters ≡ []) where
        abbrev joining_word : NotificationState
        joining_word = record (notification_at s n) { word = bit_or (notification_at s n).word badge }

        abbrev joining : State
        joining = record (with_notification s n joining_word) { masked = masked; pending = pending }

        joining-there : (y : ℕ) → y ≢ n → joining.objects y ≡ s.objects y
        joining-there y not_word = notification-there s n joining_word y not_word

        pub joins-signalled : IsSignalled s
            (record (with_notification s n (record (notification_at s n) {
              word = bit_or
                  (notification_at s n).word badge;
            })) { masked = masked; pending = pending })
            n badge
        joins-signalled =
            joined (ap (option_map kind_of) was) (ap (option_map kind_of) (notification-here s n joining_word))
            (ap (λ (q : NotificationState). q.waiters) word-is ∙ none)
            (ap (λ (q : NotificationState). q.word) (at-notification joining n joining_word (notification-here s n joining_word)))

        pub badge-joins : LinesChange (record (with_notification s n (record (notification_at s n) { word = bit_or (notification_at s n).word badge }))
            { masked = masked; pending = pending })
            → ChangesObjects image t s (record (with_notification s n (record (notification_at s n) { word = bit_or (notification_at s n).word badge }))
            { masked = masked; pending = pending })
        badge-joins lines = record {
          store = record { memory_bits = refl; boot_radix = refl; slots = λ slot. refl; bytes = λ place. inl refl };
          own = own;
          now = own;
          was = is;
          is = joining-there self self-word ∙ is;
          itself = record {
            priority = refl;
            fault_address = refl;
            slice = same_slice refl;
            right = kept refl (λ caller right. joining-there caller (not-caller caller right).1);
          };
          others = λ y not_self. elim (eqb_tells y n) [
            | inl here ↦
                of_notification old joining_word (ap s.objects here.1 ∙ was) (ap joining.objects here.1 ∙ notification-here s n joining_word)
                (joins badge (names-at joining refl y here.1) none (ap (λ (q : NotificationState). record q { word = bit_or q.word badge }) word-is))
            | inr apart ↦ stays (joining-there y apart.1)
          ];
          lines = lines;
          ready = λ priority. nothing-ready s joining self priority (gains-none self (s.ready priority));
        }

      -- the first waiter gets the badge
      module _ (w : ℕ) (others : List ℕ) (first : old.waiters ≡ w ∷ others) where
        abbrev fewer : NotificationState
        fewer = record (notification_at s n) { waiters = others }

        abbrev shorter : State
        shorter = with_notification s n fewer

        rests : Waits s w n
        rests = first-waits s sound n w others (ap waiting_at was ∙ first)

        w-self : w ≢ self
        w-self = resting-apart s w self rests.own own rests.is is rests.rests runs

        w-word : w ≢ n
        w-word = not-word w rests.own rests.is

        abbrev given : RegisterFile
        given = write (thread_at shorter w).registers a0 badge

        abbrev two : State
        two = deliver_word shorter w badge

        abbrev waking : State
        waking = record (wake two w) { masked = masked; pending = pending }

        abbrev changed : ThreadState
        changed = woken rests.own (advanced (write rests.own.registers a0 badge))

        shorter-w : thread_at shorter w ≡ rests.own
        shorter-w = at-place shorter w rests.own (notification-there s n fewer w w-word ∙ rests.is)

        two-w : two.objects w ≡ Some (ThreadObject (record rests.own { registers = advanced (write rests.own.registers a0 badge) }))
        two-w =
            passed shorter w given
            ∙ ap (λ (u : ThreadState). Some (ThreadObject (record u { registers = advanced (write u.registers a0 badge) }))) shorter-w

        waking-w : waking.objects w ≡ Some (ThreadObject changed)
        waking-w = woke two w (record rests.own { registers = advanced (write rests.own.registers a0 badge) }) two-w

        waking-there : (y : ℕ) → y ≢ w → y ≢ n → waking.objects y ≡ s.objects y
        waking-there y not_w not_word = woke-there two w y not_w ∙ passed-there shorter w given y not_w ∙ notification-there s n fewer y not_word

        waking-word : waking.objects n ≡ Some (NotificationObject fewer)
        waking-word =
            woke-there two w n (λ same. w-word (sym same)) ∙ passed-there shorter w given n (λ same. w-word (sym same)) ∙ notification-here s n fewer

        list : (notification_at s n).waiters ≡ w ∷ (notification_at waking n).waiters
        list =
            ap (λ (q : NotificationState). q.waiters) word-is ∙ first
            ∙ ap (λ (o : Option Object). w ∷ (option_map_or (λ (q : NotificationState). q) (as_notification o) new_notification).waiters) (sym waking-word)

        -- the waiter leaves it
        takes : (y : ℕ) → y ≡ w → TakesWaiter s waking n y
        takes y here = record {
          was = ap (option_map kind_of) was;
          is = ap (option_map kind_of) waking-word;
          leaves = list ∙ ap (λ (q : ℕ). q ∷ (notification_at waking n).waiters) (sym here);
        }

        runs-there : (thread_at waking w).status ≢ Blocked n
        runs-there still =
            let clash : Runnable ≡ Blocked n = sym (ap (λ (v : ThreadState). v.status) (at-place waking w changed waking-w)) ∙ still in absurd cc

        pub wakes-signalled : IsSignalled s
            (record (wake (deliver_word (with_notification s n (record (notification_at s n) { waiters = others })) w badge) w)
            { masked = masked; pending = pending }) n badge
        wakes-signalled = IsSignalled.passed w (takes w refl) (ap (λ (v : ThreadState). v.status) (at-place waking w changed waking-w))

        pub waiter-wakes : LinesChange (record (wake (deliver_word (with_notification s n (record (notification_at s n) { waiters = others })) w badge) w)
            { masked = masked; pending = pending })
            → ChangesObjects image t s (record (wake (deliver_word (with_notification s n (record (notification_at s n) { waiters = others })) w badge) w)
            { masked = masked; pending = pending })
        waiter-wakes lines = record {
          store = record { memory_bits = refl; boot_radix = refl; slots = λ slot. refl; bytes = λ place. inl refl };
          own = own;
          now = own;
          was = is;
          is = waking-there self (λ same. w-self (sym same)) self-word ∙ is;
          itself = record {
            priority = refl;
            fault_address = refl;
            slice = same_slice refl;
            right = kept refl (λ caller right.
                waking-there caller (awaited-apart s sound self caller own is right w (blocked-awaits s w rests.own n rests.is rests.blocked))
                (not-caller caller right).1);
          };
          others = λ y not_self. elim (eqb_tells y w) [
            | inl here ↦
                of_thread rests.own changed (ap s.objects here.1 ∙ rests.is) (ap waking.objects here.1 ∙ waking-w)
                (waiter n badge (takes y here.1) rests.blocked (names waking refl) refl)
            | inr apart ↦ elim (eqb_tells y n) [
              | inl here ↦
                  of_notification old fewer (ap s.objects here.1 ∙ was) (ap waking.objects here.1 ∙ waking-word)
                  (passes_on badge w (names-at waking refl y here.1) first (ap (λ (q : NotificationState). q.word) word-is)
                  (λ still. runs-there (still ∙ ap Blocked here.1)))
              | inr away ↦ stays (waking-there y apart.1 away.1)
            ]
          ];
          lines = lines;
          ready = λ priority.
              one-ready s waking self priority w rests.own.priority
              (wake-gains two self w (record rests.own { registers = advanced (write rests.own.registers a0 badge) }) two-w w-self
              (resting-absent s sound w rests.own rests.is rests.rests) priority)
              (λ here. record {
                before = rests.own;
                changed = changed;
                was = rests.is;
                rested = rests.rests;
                is = waking-w;
                runs = refl;
                at = sym here;
              });
        }
