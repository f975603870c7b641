-- A server that owes an answer: where it waits it sends or calls, and owes the answer there and after that. So it does whatever another thread makes
-- of it.
use Rattle.std.proofs.Common.{All, ℕ, ◌≡◌, ◌≢◌, ◌∙◌, ◌⊎◌, ◌+◌, ◌-◌, ◌/◌, ◌%◌, ◌^◌, ◌<◌, inl, inr, Bool, true, false, Option, Some, None, List, [], ◌∷◌, refl}
use Rattle.std.proofs.Common.{sym, ap, subst, arith}
use Rattle.std.specs.Prelude.{Contains}
use Rattle.std.specs.Option.{option_map_or}
use Rattle.model.specs.declared.instructions.Instr.{Instr}
use Rattle.model.specs.declared.instructions.Instr.TheVariants.{Ecall}
use Rattle.model.specs.declared.labels.Label.{Label}
use Rattle.model.specs.declared.ranges.Range.{Range}
use Rattle.model.specs.Acceptance.Accepted.{IsAccepted}
use Rattle.model.specs.Acceptance.Authority.{CallNames, WithinAuthority, self_of}
use Rattle.model.specs.Acceptance.CallRules.{message_registers}
use Rattle.model.specs.Acceptance.PointStates.{address_of, instruction_at}
use Rattle.model.specs.Acceptance.ThreadInvariants.{IsWaiting, LieWithin, tcb_of}
use Rattle.model.specs.Images.Described.{Numbered, numbered_threads}
use Rattle.model.specs.Images.Image.{Image, Thread}
use Rattle.model.specs.Kernel.Deliveries.{Reason, TakesReceiver, caller, faulted, once_received, receiver, sender, set_back, waiter, woken}
use Rattle.model.specs.Kernel.Messages.{a0, delivered, message_between}
use Rattle.model.specs.Kernel.Scheduling.{head_of, is_runnable}
use Rattle.model.specs.Kernel.Soundness.{waiting_at}
use Rattle.model.specs.Kernel.State.{AwaitsHandler, AwaitsReply, Blocked, ByCall, ByFault, BySend, EndpointState, Inactive, NotificationObject}
use Rattle.model.specs.Kernel.State.{NotificationState, Object, Runnable, Sender, Sent, State, Status, ThreadObject, ThreadState, as_endpoint, endpoint_at}
use Rattle.model.specs.Kernel.State.{as_notification, new_endpoint, new_notification, notification_at, thread_at}
use Rattle.model.specs.Machine.Effects.{advanced}
use Rattle.model.specs.Machine.ProgramMemory.{RegisterFile, write}
use Rattle.soundness.proofs.Laws.{endpoint-kind}
use Rattle.headline.proofs.Laws.{Waits, at-place, first-waits}
use Rattle.headline.specs.authority.Events.{InterruptChange, IsDelivered, WithinInterrupt, joins, passes_on, wakes}
use Rattle.headline.specs.facts.Standing.{AllStand}
use Rattle.headline.specs.measure_facts.Terms.{WritesOnly}
use Rattle.headline.specs.moves.Laws.{Laws}
use Rattle.response.specs.Asking.{Asked, Calls, SendsTo, Takes, asked_at}
use Rattle.response.specs.Left.{point_now}
use Rattle.response.specs.Owed.{WaitsWhereAsked, asked_there}
use Rattle.response.proofs.Laws.{WaitsAt, WaitsBy, accepts-there, accepts_from, asked-same, calls_there, delivered-pc, here, leads-on, next-pc, point-of}
use Rattle.response.proofs.Laws.{sends_there}
use Rattle.response.proofs.Laws.{bell-there, same-thread, takes_word, there-is, thread-of, waits-at, write-pc}
use Rattle.settled_threads.specs.Answering.{IsAnswered, Owes, ReceivesAt, are_known, is_accept, leads_known, owing_for, owing_over, ranges_after_call}
use Rattle.settled_threads.proofs.MessageRegisters.{IsSmall, are-small, called-within, known-so, message-aside, word-aside}

waits-rest : (status : Status) → IsWaiting status → is_runnable status ≡ false
waits-rest (Blocked queue) waits = refl
waits-rest AwaitsReply waits = refl
waits-rest Inactive waits = absurd waits
waits-rest Runnable waits = absurd waits
waits-rest AwaitsHandler waits = absurd waits

head-first : (l : List ℕ) (x : ℕ) → head_of l ≡ Some x → (rest : List ℕ) × (l ≡ x ∷ rest)
head-first [] x is = absurd (let clash : ◌≡◌ {A = Option ℕ} None (Some x) = is in cc)
head-first (y ∷ rest) x is = (rest, (let same : y ≡ x = cc in ap (λ (k : ℕ). k ∷ rest) same))

-- a message that is received leaves the right of its sender
pub received-right : (first : Sender) (kind : Sent) (u : ThreadState) → (once_received first kind u).caller ≡ u.caller
received-right first BySend u = refl
received-right first ByCall u = refl
received-right first (ByFault fault) u = refl

-- what is owed over a system call
pub over-call : (t : Thread) (badge : ℕ) (owed : ℕ → Option (List Range)) (point next : ℕ) (ranges : List Range) (asked : Asked)
    → instruction_at t point ≡ Some Ecall → owed point ≡ Some ranges → owing_over t badge owed asked point next ≡ true
    → owing_for badge (Some ranges) (owed next) (are_known (owed next) (ranges_after_call ranges)) asked ≡ true
over-call t badge owed point next ranges asked ecall here kept =
    let leads : Option (List Range) → Option Instr → Bool = λ known instr.
    option_map_or (λ (some : List Range). leads_known (address_of t point) (address_of t next) some (owed next) instr) known true in
    sym (ap (λ (instr : Option Instr). owing_for badge (Some ranges) (owed next) (leads (Some ranges) instr) asked) ecall)
    ∙ sym (ap (λ (known : Option (List Range)). owing_for badge known (owed next) (leads known (instruction_at t point)) asked) here) ∙ kept

-- the registers of a thread hold words
pub thread-small : (image : Image) (t : Numbered) (s : State) (labels : List Label) → AllStand image s labels → Contains (numbered_threads image) t
    → IsSmall (thread_at s (tcb_of image t)).registers
thread-small image t s labels all among =
    let is = there-is image t s labels (all.stand t among) in
    are-small (thread_at s (tcb_of image t)).registers
    (subst (λ (u : ThreadState). All (λ (word : ℕ). word < 2 ^ 32) u.registers.words) (sym (at-place s (tcb_of image t) is.0 is.1))
    (all.sound.threads.threads (tcb_of image t) is.0 is.1).words)

module _ (image : Image) (endpoint badge : ℕ) (a : IsAnswered image endpoint badge) where
  -- where all that is as it was
  pub still-owes : (s after : State) (r : Numbered) (c : ℕ) → (thread_at after (tcb_of image r)).caller ≡ (thread_at s (tcb_of image r)).caller
      → (thread_at after (tcb_of image r)).status ≡ (thread_at s (tcb_of image r)).status
      → (thread_at after (tcb_of image r)).registers ≡ (thread_at s (tcb_of image r)).registers → Owes image endpoint badge a s r c
      → Owes image endpoint badge a after r c
  still-owes s after r c right status registers o =
      let pc = ap (λ (x : RegisterFile). x.pc) registers in
      record {
        right = right ∙ o.right;
        ranges = o.ranges;
        owing = ap (λ (k : ℕ). a.owed r.number ((k - r.thread.header.base) / 4)) pc ∙ o.owing;
        long = o.long;
        within = subst (λ (x : RegisterFile). LieWithin x o.ranges) (sym registers) o.within;
        awake = λ accepts. ap is_runnable status ∙ o.awake (sym (ap is_accept (asked-same image r s after pc)) ∙ accepts);
      }

module _ (laws : Laws) (bytes : List ℕ) (image : Image) (accepted : IsAccepted bytes image) (endpoint badge : ℕ) (a : IsAnswered image endpoint badge)
    (s : State) (labels : List Label) (all : AllStand image s labels) (r : Numbered) (among : Contains (numbered_threads image) r)
    (receives : ReceivesAt image r endpoint) (c : ℕ) (o : Owes image endpoint badge a s r c) where
  abbrev tcb : ℕ
  tcb = tcb_of image r

  -- ---- where it waits

  module _ (own : ThreadState) (v : WaitsAt image r s labels own) where
    abbrev asked : Asked
    asked = asked_at image r.thread v.point v.state

    -- it sends or calls, and owes the answer after that too
    pub record OwesOn : Type 0 where
      pub no_take : (queue : ℕ) → asked_at image r.thread v.point v.state ≡ Takes queue → ⊥
      pub no_accept : is_accept (asked_at image r.thread v.point v.state) ≡ false
      pub next : are_known (a.owed r.number (v.point + 1)) (ranges_after_call o.ranges) ≡ true

    spot : (point_now image s r ≡ v.point) × (asked_there image s r ≡ asked)
    spot = here laws bytes image s labels accepted all r among own v

    -- what is owed over the call
    abbrev over : Asked → Bool
    over = owing_for badge (Some o.ranges) (a.owed r.number (v.point + 1))
        (are_known (a.owed r.number (v.point + 1)) (ranges_after_call o.ranges))

    edge : over asked ≡ true
    edge =
        over-call r.thread badge (a.owed r.number) v.point (v.point + 1) o.ranges asked v.ecall
        (ap (a.owed r.number) (sym spot.0) ∙ o.owing)
        (a.kept r v.point v.state (v.point + 1) among receives v.stands.inside v.stands.known
        (leads-on laws bytes image s labels accepted all r among own v))

    by-way : WaitsBy image r.thread v.state v.left asked → OwesOn
    by-way (takes_word queue rights badge named asks end) =
        absurd (let clash : false ≡ true = sym (ap over asks) ∙ edge in cc)
    by-way (accepts_from queue rights badge replies named asks end) =
        absurd (let clash : false ≡ true = sym (waits-rest own.status v.waiting)
        ∙ sym (ap (λ (u : ThreadState). is_runnable u.status) (at-place s tcb own v.there)) ∙ o.awake (ap is_accept (spot.1 ∙ asks)) in cc)
    by-way (sends_there queue rights badge named asks end) = record {
      no_take = λ other is. let clash : SendsTo queue ≡ Takes other = sym asks ∙ is in absurd cc;
      no_accept = ap is_accept asks;
      next = sym (ap over asks) ∙ edge;
    }
    by-way (calls_there queue rights badge named asks end) = record {
      no_take = λ other is. let clash : Calls queue ≡ Takes other = sym asks ∙ is in absurd cc;
      no_accept = ap is_accept asks;
      next = sym (ap over asks) ∙ edge;
    }

    pub owes-on : OwesOn
    owes-on = by-way v.way

    -- ---- and where it waits no more, or with another status

    module _ (after : State) (later : List Label) (all_then : AllStand image after later) (right : (thread_at after (tcb_of image r)).caller ≡ own.caller) where
      same-right : (thread_at after tcb).caller ≡ Some c
      same-right = right ∙ sym (ap (λ (u : ThreadState). u.caller) (at-place s tcb own v.there)) ∙ o.right

      was-within : LieWithin own.registers o.ranges
      was-within = subst (λ (u : ThreadState). LieWithin u.registers o.ranges) (at-place s tcb own v.there) o.within

      pub goes-owing : (thread_at after (tcb_of image r)).status ≡ Runnable
          → (thread_at after (tcb_of image r)).registers.pc ≡ (own.registers.pc + 4) % 2 ^ 32
          → WritesOnly own.registers (thread_at after (tcb_of image r)).registers message_registers → Owes image endpoint badge a after r c
      goes-owing runs pc only =
          let known = known-so (a.owed r.number (v.point + 1)) (thread_at after tcb).registers (ranges_after_call o.ranges) owes-on.next
          (called-within own.registers (thread_at after tcb).registers o.ranges o.long
          (thread-small image r after later all_then among) only was-within) in
          record {
            right = same-right;
            ranges = known.ranges;
            owing = ap (a.owed r.number) (ap (λ (k : ℕ). (k - r.thread.header.base) / 4)
                (pc ∙ next-pc laws bytes image s labels accepted all r among own v) ∙ point-of r.thread.header.base (v.point + 1)) ∙ known.is;
            long = known.long;
            within = known.within;
            awake = λ _. ap is_runnable runs;
          }

      pub stays-owing : (thread_at after (tcb_of image r)).registers ≡ own.registers → Owes image endpoint badge a after r c
      stays-owing registers =
          let same : (thread_at after tcb).registers ≡ (thread_at s tcb).registers =
          registers ∙ sym (ap (λ (u : ThreadState). u.registers) (at-place s tcb own v.there)) in
          let pc = ap (λ (x : RegisterFile). x.pc) same in
          record {
            right = same-right;
            ranges = o.ranges;
            owing = ap (λ (k : ℕ). a.owed r.number ((k - r.thread.header.base) / 4)) pc ∙ o.owing;
            long = o.long;
            within = subst (λ (x : RegisterFile). LieWithin x o.ranges) (sym registers) was-within;
            awake = λ accepts. absurd (let clash : false ≡ true = sym owes-on.no_accept ∙ sym (ap is_accept spot.1)
                ∙ sym (ap is_accept (asked-same image r s after pc)) ∙ accepts in cc);
          }

  -- ---- a step of another thread

  module _ (after : State) (later : List Label) (behind : AllStand image after later) (told : (x y : ThreadState) → (x ≡ y) ⊎ (x ≢ y)) (t : Numbered)
      (within : WithinAuthority image t.thread s after) (apart : tcb_of image r ≢ tcb_of image t) (asked_so : WaitsWhereAsked image r s) where
    module _ (before changed : ThreadState) (was : s.objects (tcb_of image r) ≡ Some (ThreadObject before))
        (is : after.objects (tcb_of image r) ≡ Some (ThreadObject changed)) where
      at_changed : thread_at after tcb ≡ changed
      at_changed = ap thread-of is

      at_before : thread_at s tcb ≡ before
      at_before = ap thread-of was

      waiting : is_runnable before.status ≡ false → WaitsAt image r s labels before
      waiting rests = waits-at laws bytes image s labels accepted all r among before was rests

      goes : is_runnable before.status ≡ false → changed.caller ≡ before.caller → changed.status ≡ Runnable → (registers : RegisterFile)
          → changed.registers ≡ advanced registers → registers.pc ≡ before.registers.pc → WritesOnly before.registers registers message_registers
          → Owes image endpoint badge a after r c
      goes rests right runs registers is_now pc only =
          let now = ap (λ (u : ThreadState). u.registers) at_changed ∙ is_now in
          goes-owing before (waiting rests) after later behind (ap (λ (u : ThreadState). u.caller) at_changed ∙ right)
          (ap (λ (u : ThreadState). u.status) at_changed ∙ runs)
          (ap (λ (x : RegisterFile). x.pc) now ∙ ap (λ (k : ℕ). (k + 4) % 2 ^ 32) pc)
          (subst (λ (x : RegisterFile). WritesOnly before.registers x message_registers) (sym now) only)

      stays : is_runnable before.status ≡ false → changed.caller ≡ before.caller → changed.registers ≡ before.registers
          → Owes image endpoint badge a after r c
      stays rests right registers =
          stays-owing before (waiting rests) after later behind (ap (λ (u : ThreadState). u.caller) at_changed ∙ right)
          (ap (λ (u : ThreadState). u.registers) at_changed ∙ registers)

      by-sent : (first : Sender) (kind : Sent) → is_runnable before.status ≡ false → changed ≡ once_received first kind before
          → Owes image endpoint badge a after r c
      by-sent first BySend rests so =
          goes rests (ap (λ (u : ThreadState). u.caller) so) (ap (λ (u : ThreadState). u.status) so) before.registers
          (ap (λ (u : ThreadState). u.registers) so) refl (λ k less other. refl)
      by-sent first ByCall rests so = stays rests (ap (λ (u : ThreadState). u.caller) so) (ap (λ (u : ThreadState). u.registers) so)
      by-sent first (ByFault fault) rests so = stays rests (ap (λ (u : ThreadState). u.caller) so) (ap (λ (u : ThreadState). u.registers) so)

      -- it waits for no message
      no-receiver : (e : ℕ) → TakesReceiver s after e (tcb_of image r) → before.status ≡ Blocked e → ⊥
      no-receiver e gone blocked =
          let found = endpoint-kind (s.objects e) gone.was in
          let first : found.0.receivers ≡ tcb ∷ (endpoint_at after e).receivers =
          sym (ap (λ (x : Option Object). (option_map_or (λ (q : EndpointState). q) (as_endpoint x) new_endpoint).receivers) found.1) ∙ gone.leaves in
          let v = waiting (ap is_runnable blocked) in
          let there = accepts-there laws bytes image s labels accepted all r among before v asked_so e blocked found.0 found.1
          (subst (λ (l : List ℕ). Contains l tcb) (sym first) (0, omega arith, refl)) in
          let clash : true ≡ false = sym (ap is_accept there.1) ∙ (owes-on before v).no_accept in
          absurd cc

      by-reason : Reason s after (self_of image t.thread) (CallNames image t.thread s) (tcb_of image r) before changed → Owes image endpoint badge a after r c
      by-reason (receiver e other right gone blocked named may so arrives) = absurd (no-receiver e gone blocked)
      by-reason (sender e first gone its_own blocked named so arrives) = by-sent first first.sent (ap is_runnable blocked) so
      by-reason (waiter bell word gone blocked named so) =
          goes (ap is_runnable blocked) (ap (λ (u : ThreadState). u.caller) so) (ap (λ (u : ThreadState). u.status) so) (write before.registers a0 word)
          (ap (λ (u : ThreadState). u.registers) so) (write-pc before.registers a0 word) (word-aside before.registers word)
      by-reason (caller right awaits so arrives) =
          let message = message_between s (self_of image t.thread) tcb in
          goes (ap is_runnable awaits) (ap (λ (u : ThreadState). u.caller) so) (ap (λ (u : ThreadState). u.status) so) (delivered before.registers 0 message)
          (ap (λ (u : ThreadState). u.registers) so) (delivered-pc before.registers 0 message) (message-aside before.registers 0 message)
      by-reason (faulted right awaits so) =
          absurd (let never : IsWaiting AwaitsHandler = subst IsWaiting awaits (waiting (ap is_runnable awaits)).waiting in never)
      by-reason (set_back queue blocked some gone so) =
          stays (ap is_runnable blocked) (ap (λ (u : ThreadState). u.caller) so) (ap (λ (u : ThreadState). u.registers) so)

      by-states : Owes image endpoint badge a after r c
      by-states = elim (told before changed) [
        | inl same ↦ (
            let alike : thread_at after tcb ≡ thread_at s tcb = at_changed ∙ sym same ∙ sym at_before in
            still-owes image endpoint badge a s after r c (ap (λ (u : ThreadState). u.caller) alike) (ap (λ (u : ThreadState). u.status) alike)
            (ap (λ (u : ThreadState). u.registers) alike) o)
        | inr differs ↦ by-reason (within.threads tcb before changed apart was is differs)
      ]

    pub other-owes : Owes image endpoint badge a after r c
    other-owes =
        let was = there-is image r s labels (all.stand r among) in
        let is = there-is image r after later (behind.stand r among) in
        by-states was.0 is.0 was.1 is.1

  -- ---- an interrupt

  module _ (after : State) (number : ℕ) (w : WithinInterrupt number s after) (told : (x y : ThreadState) → (x ≡ y) ⊎ (x ≢ y)) (later : List Label)
      (behind : AllStand image after later) where
    module _ (before changed : ThreadState) (was : s.objects (tcb_of image r) ≡ Some (ThreadObject before))
        (is : after.objects (tcb_of image r) ≡ Some (ThreadObject changed)) where
      no-bell : (n : NotificationState) → s.objects tcb ≡ Some (NotificationObject n) → ⊥
      no-bell n at = let clash : Some (ThreadObject before) ≡ Some (NotificationObject n) = sym was ∙ at in absurd cc

      -- it waits at the notification that the line signals
      rests-there : (notification word : ℕ) → IsDelivered number s notification word
          → head_of (notification_at s notification).waiters ≡ Some (tcb_of image r) → is_runnable before.status ≡ false
      rests-there notification word d head =
          let bell = bell-there image s labels all number (record { notification = notification; badge = word }) d.bound in
          let first = head-first (notification_at s notification).waiters tcb head in
          let list : bell.0.waiters ≡ tcb ∷ first.0 =
          sym (ap (λ (x : Option Object). (option_map_or (λ (n : NotificationState). n) (as_notification x) new_notification).waiters) bell.1) ∙ first.1 in
          let waits : Waits s tcb notification = first-waits s all.sound notification tcb first.0 (ap waiting_at bell.1 ∙ list) in
          ap (λ (u : ThreadState). is_runnable u.status) (same-thread (s.objects tcb) before (Waits.own waits) was (Waits.is waits))
          ∙ ap is_runnable (Waits.blocked waits)

      by-interrupt : InterruptChange number s after (tcb_of image r) → Owes image endpoint badge a after r c
      by-interrupt (joins word old d at nobody so) = absurd (no-bell old at)
      by-interrupt (passes_on word first others old d at list so) = absurd (no-bell old at)
      by-interrupt (wakes notification word old d head at so) =
          let same : old ≡ before = same-thread (s.objects tcb) old before at was in
          let now : thread_at after tcb ≡ woken before (advanced (write before.registers a0 word)) =
          ap thread-of so ∙ ap (λ (u : ThreadState). woken u (advanced (write u.registers a0 word))) same in
          goes-owing before (waits-at laws bytes image s labels accepted all r among before was (rests-there notification word d head)) after later behind
          (ap (λ (u : ThreadState). u.caller) now) (ap (λ (u : ThreadState). u.status) now)
          (ap (λ (u : ThreadState). u.registers.pc) now ∙ ap (λ (k : ℕ). (k + 4) % 2 ^ 32) (write-pc before.registers a0 word))
          (subst (λ (x : RegisterFile). WritesOnly before.registers x message_registers) (sym (ap (λ (u : ThreadState). u.registers) now))
          (word-aside before.registers word))

      by-interrupted : Owes image endpoint badge a after r c
      by-interrupted = elim (told before changed) [
        | inl same ↦ (
            let alike : thread_at after tcb ≡ thread_at s tcb = ap thread-of is ∙ sym same ∙ sym (ap thread-of was) in
            still-owes image endpoint badge a s after r c (ap (λ (u : ThreadState). u.caller) alike) (ap (λ (u : ThreadState). u.status) alike)
            (ap (λ (u : ThreadState). u.registers) alike) o)
        | inr differs ↦ by-interrupt (w.objects tcb (λ same. differs (same-thread (s.objects tcb) before changed was (same ∙ is))))
      ]

    pub interrupted-owes : Owes image endpoint badge a after r c
    interrupted-owes =
        let was = there-is image r s labels (all.stand r among) in
        let is = there-is image r after later (behind.stand r among) in
        by-interrupted was.0 is.0 was.1 is.1
