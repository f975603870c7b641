-- Replies, signals and interrupts of a part, on both sides.
use Rattle.std.proofs.Common.{ℕ, ◌≡◌, ◌∙◌, ◌==◌, ◌++◌, ◌≤◌, Bool, true, false, nat_lt, if◌then◌else◌, bit_or, List, [], ◌∷◌, Option, Some, None, refl, ap}
use Rattle.std.proofs.Common.{subst, arith}
use Rattle.std.specs.Prelude.{Contains}
use Rattle.std.specs.Option.{option_map_or}
use Rattle.model.specs.declared.events.Event.TheVariants.{Irq}
use Rattle.model.specs.Images.Image.{Image}
use Rattle.model.specs.Kernel.Interrupts.{Signal, binding, interrupt, raise, with_pending}
use Rattle.model.specs.Kernel.Messages.{Message, a0, bytes_between, deliver_word, message_between, poll, replied, reply, reply_to_call, reply_to_fault}
use Rattle.model.specs.Kernel.Messages.{resumption, signal, signals, takes_word, wait, waits_for_signal, with_caller, with_registers}
use Rattle.model.specs.Kernel.Scheduling.{block, wake}
use Rattle.model.specs.Kernel.State.{State, Status, Inactive, Runnable, Blocked, AwaitsReply, AwaitsHandler, NotificationObject, NotificationState, Object}
use Rattle.model.specs.Kernel.State.{ThreadState, as_notification, new_notification, notification_at, put, thread_at, with_notification}
use Rattle.model.specs.Kernel.Steps.{step}
use Rattle.model.specs.Machine.ProgramMemory.{RegisterFile, write}
use Rattle.part_laws.specs.Agreeing.{AgreeFor, HasBuffers, IsOfPart}
use Rattle.headline.specs.parts.Parts.{Part, is_line_of, is_thread_in}
use Rattle.part_laws.proofs.changes.Agreeing.{block-agrees, puts-agree, same-thread, wake-agrees}
use Rattle.part_laws.proofs.changes.Messages.{between-same, buffers-carried, bytes-agree, caller-agrees, deliver-agrees, few-length}
use Rattle.part_laws.proofs.changes.Messages.{passes-with-agree, registers-agree, same-between}

module _ (image : Image) (part : Part) where
  abbrev in_part : ℕ → Bool
  in_part = is_thread_in image part

  -- ---- replies

  call-agrees : (s t : State) (x caller : ℕ) (a b : Message) → a ≡ b → AgreeFor image part s t → HasBuffers image part s → in_part x ≡ true
      → in_part caller ≡ true → a.count ≤ 127 → AgreeFor image part (reply_to_call s x caller a) (reply_to_call t x caller b)
  call-agrees s t x caller a b same agree has one other few =
      wake-agrees image part _ _ caller (deliver-agrees image part _ _ caller 0 a b same
      (bytes-agree image part s t (bytes_between s x caller a.count) (bytes_between t x caller b.count)
      (λ place of. between-same image part s t x caller a.count place agree has one other few of
      ∙ ap (λ (m : Message). bytes_between t x caller m.count place) same) agree) other) other

  fault-agrees : (s t : State) (x : ℕ) (a b : Message) → a ≡ b → AgreeFor image part s t → in_part x ≡ true
      → AgreeFor image part (reply_to_fault s x a) (reply_to_fault t x b)
  fault-agrees s t x a b same agree inside =
      subst (λ (m : Message). AgreeFor image part (reply_to_fault s x a) (reply_to_fault t x m)) same (by (a.label == 0))
    where
      resumed : State → RegisterFile
      resumed u = record (thread_at u x).registers { pc = resumption (thread_at u x).registers.pc a.words }

      by : (zero : Bool) → AgreeFor image part
          (if zero then wake (with_registers s x (record (thread_at s x).registers {
            pc = resumption
                (thread_at s x).registers.pc a.words;
          })) x else block s x Inactive)
          (if zero then wake (with_registers t x (record (thread_at t x).registers {
            pc = resumption
                (thread_at t x).registers.pc a.words;
          })) x else block t x Inactive)
      by true =
          wake-agrees image part _ _ x (registers-agree image part s t x (resumed s) (resumed t)
          (ap (λ (own : ThreadState). let r : RegisterFile = record own.registers { pc = resumption own.registers.pc a.words } in r)
          (same-thread image part s t x agree inside)) agree inside) inside
      by false = block-agrees image part s t x Inactive agree inside

  replied-agrees : (s t : State) (x caller : ℕ) (status : Status) (a b : Message) → a ≡ b → AgreeFor image part s t → HasBuffers image part s
      → in_part x ≡ true → in_part caller ≡ true → a.count ≤ 127 → AgreeFor image part (replied s x caller status a) (replied t x caller status b)
  replied-agrees s t x caller AwaitsReply a b same agree has one other few = call-agrees s t x caller a b same agree has one other few
  replied-agrees s t x caller AwaitsHandler a b same agree has one other few = fault-agrees s t caller a b same agree other
  replied-agrees s t x caller Inactive a b same agree has one other few = agree
  replied-agrees s t x caller Runnable a b same agree has one other few = agree
  replied-agrees s t x caller (Blocked queue) a b same agree has one other few = agree

  to-caller : (s t : State) (x : ℕ) (found : Option ℕ) → AgreeFor image part s t → HasBuffers image part s → in_part x ≡ true
      → ((caller : ℕ) → found ≡ Some caller → in_part caller ≡ true)
      → AgreeFor image part
      (option_map_or (λ caller. replied (with_caller s x None) x caller (thread_at s caller).status (message_between s x caller)) found s)
      (option_map_or (λ caller. replied (with_caller t x None) x caller (thread_at t caller).status (message_between t x caller)) found t)
  to-caller s t x None agree has one inside = agree
  to-caller s t x (Some caller) agree has one inside =
      let other : in_part caller ≡ true = inside caller refl in
      let same : (thread_at s caller).status ≡ (thread_at t caller).status =
      ap (λ (own : ThreadState). own.status) (same-thread image part s t caller agree other) in
      subst (λ (status : Status). AgreeFor image part (replied (with_caller s x None) x caller (thread_at s caller).status (message_between s x caller))
      (replied (with_caller t x None) x caller status (message_between t x caller))) same
      (replied-agrees (with_caller s x None) (with_caller t x None) x caller (thread_at s caller).status (message_between s x caller)
      (message_between t x caller)
      (same-between image part s t x caller agree one other) (caller-agrees image part s t x None agree one)
      (buffers-carried image part s (with_caller s x None) refl has) one other (few-length image part s x caller))

  pub reply-agrees : (s t : State) (x : ℕ) → AgreeFor image part s t → HasBuffers image part s → in_part x ≡ true
      → ((caller : ℕ) → (thread_at s x).caller ≡ Some caller → in_part caller ≡ true) → AgreeFor image part (reply s x) (reply t x)
  reply-agrees s t x agree has one inside =
      subst (λ (found : Option ℕ). AgreeFor image part (reply s x)
      (option_map_or (λ caller. replied (with_caller t x None) x caller (thread_at t caller).status (message_between t x caller)) found t))
      (ap (λ (own : ThreadState). own.caller) (same-thread image part s t x agree one))
      (to-caller s t x (thread_at s x).caller agree has one inside)

  -- ---- notifications

  word-agrees : (s t : State) (x word : ℕ) → AgreeFor image part s t → in_part x ≡ true → AgreeFor image part (deliver_word s x word) (deliver_word t x word)
  word-agrees s t x word agree inside =
      passes-with-agree image part s t x (write (thread_at s x).registers a0 word) (write (thread_at t x).registers a0 word)
      (ap (λ (own : ThreadState). write own.registers a0 word) (same-thread image part s t x agree inside)) agree inside

  same-notification : (s t : State) (n : ℕ) → AgreeFor image part s t → IsOfPart image part n → notification_at s n ≡ notification_at t n
  same-notification s t n agree of = ap (λ (o : Option Object). option_map_or (λ x. x) (as_notification o) new_notification) (agree.objects n of)

  notification-agrees : (s t : State) (n : ℕ) (a : NotificationState) → AgreeFor image part s t
      → AgreeFor image part (with_notification s n a) (with_notification t n a)
  notification-agrees s t n a agree = puts-agree image part s t n (NotificationObject a) (NotificationObject a) refl agree

  signals-agree : (s t : State) (n badge : ℕ) (now : NotificationState) (all : List ℕ) → AgreeFor image part s t
      → ((w : ℕ) → Contains all w → in_part w ≡ true) → AgreeFor image part (signals s n badge now all) (signals t n badge now all)
  signals-agree s t n badge now [] agree inside = notification-agrees s t n (record now { word = bit_or now.word badge }) agree
  signals-agree s t n badge now (w ∷ others) agree inside =
      let here : in_part w ≡ true = inside w (0, omega arith, refl) in
      wake-agrees image part _ _ w (word-agrees _ _ w badge (notification-agrees s t n (record now { waiters = others }) agree) here) here

  pub signal-agrees : (s t : State) (n badge : ℕ) → AgreeFor image part s t → IsOfPart image part n
      → ((w : ℕ) → Contains (notification_at s n).waiters w → in_part w ≡ true) → AgreeFor image part (signal s n badge) (signal t n badge)
  signal-agrees s t n badge agree of inside =
      subst (λ (now : NotificationState). AgreeFor image part (signal s n badge) (signals t n badge now now.waiters)) (same-notification s t n agree of)
      (signals-agree s t n badge (notification_at s n) (notification_at s n).waiters agree inside)

  taken-agrees : (s t : State) (n x : ℕ) (now : NotificationState) (a b : State) → AgreeFor image part s t → AgreeFor image part a b → in_part x ≡ true
      → (zero : Bool) → AgreeFor image part
      (if zero then a else deliver_word (with_notification s n (record now { word = 0 })) x now.word)
      (if zero then b else deliver_word (with_notification t n (record now { word = 0 })) x now.word)
  taken-agrees s t n x now a b agree otherwise inside true = otherwise
  taken-agrees s t n x now a b agree otherwise inside false = word-agrees _ _ x now.word (notification-agrees s t n (record now { word = 0 }) agree) inside

  takes-agree : (s t : State) (n x : ℕ) (a b : State) → AgreeFor image part s t → AgreeFor image part a b → IsOfPart image part n → in_part x ≡ true
      → AgreeFor image part (takes_word s n x a) (takes_word t n x b)
  takes-agree s t n x a b agree otherwise of inside =
      subst (λ (now : NotificationState). AgreeFor image part (takes_word s n x a)
      (if now.word == 0 then b else deliver_word (with_notification t n (record now { word = 0 })) x now.word)) (same-notification s t n agree of)
      (taken-agrees s t n x (notification_at s n) a b agree otherwise inside ((notification_at s n).word == 0))

  blocks-agree : (s t : State) (n x : ℕ) → AgreeFor image part s t → IsOfPart image part n → in_part x ≡ true
      → AgreeFor image part (waits_for_signal s n x) (waits_for_signal t n x)
  blocks-agree s t n x agree of inside =
      subst (λ (now : NotificationState). AgreeFor image part (waits_for_signal s n x)
      (block (with_notification t n (record now { waiters = now.waiters ++ x ∷ [] })) x (Blocked n))) (same-notification s t n agree of)
      (block-agrees image part _ _ x (Blocked n)
      (notification-agrees s t n (record (notification_at s n) { waiters = (notification_at s n).waiters ++ x ∷ [] }) agree) inside)

  pub wait-agrees : (s t : State) (n x : ℕ) → AgreeFor image part s t → IsOfPart image part n → in_part x ≡ true
      → AgreeFor image part (wait s n x) (wait t n x)
  wait-agrees s t n x agree of inside = takes-agree s t n x _ _ agree (blocks-agree s t n x agree of inside) of inside

  pub poll-agrees : (s t : State) (n x : ℕ) → AgreeFor image part s t → IsOfPart image part n → in_part x ≡ true
      → AgreeFor image part (poll s n x) (poll t n x)
  poll-agrees s t n x agree of inside = takes-agree s t n x _ _ agree (word-agrees s t x 0 agree inside) of inside

  -- ---- interrupts

  masked-agrees : (s t : State) (line : ℕ) (bit : Bool) → AgreeFor image part s t
      → AgreeFor image part (record s { masked = put s.masked line bit }) (record t { masked = put t.masked line bit })
  masked-agrees s t line bit agree = record {
    objects = λ offset of. agree.objects offset of;
    bytes = λ place of. agree.bytes place of;
    slots = λ slot of. agree.slots slot of;
    masked = λ other of. ap (λ (b : Bool). if other == line then bit else b) (agree.masked other of);
    pending = λ other of. agree.pending other of;
    ready = λ priority. agree.ready priority;
  }

  pending-agrees : (s t : State) (line : ℕ) (bit : Bool) → AgreeFor image part s t → AgreeFor image part (with_pending s line bit) (with_pending t line bit)
  pending-agrees s t line bit agree = record {
    objects = λ offset of. agree.objects offset of;
    bytes = λ place of. agree.bytes place of;
    slots = λ slot of. agree.slots slot of;
    masked = λ other of. agree.masked other of;
    pending = λ other of. ap (λ (b : Bool). if other == line then bit else b) (agree.pending other of);
    ready = λ priority. agree.ready priority;
  }

  kept-mask : (s : State) (n badge : ℕ) (now : NotificationState) (all : List ℕ) → (signals s n badge now all).masked ≡ s.masked
  kept-mask s n badge now [] = refl
  kept-mask s n badge now (w ∷ others) = refl

  interrupts-agree : (s t : State) (line : ℕ) (found : Option Signal) → AgreeFor image part s t
      → ((bound : Signal) → found ≡ Some bound → IsOfPart image part bound.notification
      × ((w : ℕ) → Contains (notification_at s bound.notification).waiters w → in_part w ≡ true))
      → AgreeFor image part (option_map_or (interrupt s line) found (with_pending s line true)) (option_map_or (interrupt t line) found
      (with_pending t line true))
  interrupts-agree s t line None agree inside = pending-agrees s t line true agree
  interrupts-agree s t line (Some bound) agree inside =
      let of = inside bound refl in
      let both = masked-agrees _ _ line true (signal-agrees s t bound.notification bound.badge agree of.0 of.1) in
      subst (λ (m : ℕ → Bool). AgreeFor image part (interrupt s line bound)
      (let u : State = record (signal t bound.notification bound.badge) { masked = put m line true } in u))
      (kept-mask t bound.notification bound.badge (notification_at t bound.notification) (notification_at t bound.notification).waiters)
      (subst (λ (m : ℕ → Bool). AgreeFor image part
      (let u : State = record (signal s bound.notification bound.badge) { masked = put m line true } in u)
      (let u : State = record (signal t bound.notification bound.badge) { masked = put (signal t bound.notification bound.badge).masked line true } in u))
      (kept-mask s bound.notification bound.badge (notification_at s bound.notification) (notification_at s bound.notification).waiters) both)

  pub raise-agrees : (s t : State) (line : ℕ) → AgreeFor image part s t → is_line_of image part line ≡ true → binding s line ≡ binding t line
      → ((bound : Signal) → binding s line ≡ Some bound → IsOfPart image part bound.notification
      × ((w : ℕ) → Contains (notification_at s bound.notification).waiters w → in_part w ≡ true))
      → AgreeFor image part (step s (Irq line)).0 (step t (Irq line)).0
  unfolding step
  raise-agrees s t line agree own same inside =
      subst (λ (bit : Bool). AgreeFor image part (raise s line)
      (if nat_lt 63 line then t else if bit then with_pending t line true else option_map_or (interrupt t line) (binding t line) (with_pending t line true)))
      (agree.masked line own)
      (subst (λ (found : Option Signal). AgreeFor image part (raise s line)
      (if nat_lt 63 line then t else if s.masked line then with_pending t line true else option_map_or (interrupt t line) found
      (with_pending t line true))) same
      (by (nat_lt 63 line) (s.masked line)))
    where
      by : (far bit : Bool) → AgreeFor image part
          (if far then s else if bit then with_pending s line true else option_map_or (interrupt s line) (binding s line) (with_pending s line true))
          (if far then t else if bit then with_pending t line true else option_map_or (interrupt t line) (binding s line) (with_pending t line true))
      by true bit = agree
      by false true = pending-agrees s t line true agree
      by false false = interrupts-agree s t line (binding s line) agree inside
