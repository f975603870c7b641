-- A line that is acknowledged: while it is masked a word stands at its notification, or the thread that takes from there has still to acknowledge
-- it. What an interrupt makes of that, and what the first that waits there is.
use Rattle.std.proofs.Common.{ℕ, ◌≡◌, ◌≢◌, ◌∙◌, ◌+◌, ◌-◌, ◌/◌, ◌%◌, ◌^◌, ◌≤◌, inl, inr, true, false, nat_lt, if◌then◌else◌, Option, Some, None}
use Rattle.std.proofs.Common.{List, [], ◌∷◌, refl, sym, ap, subst, arith}
use Rattle.std.specs.Prelude.{Contains, bit_or}
use Rattle.std.specs.Option.{option_map_or}
use Rattle.std.proofs.lemmas.Bool.Decides.{eqb_tells}
use Rattle.model.specs.declared.labels.Label.{Label}
use Rattle.model.specs.Acceptance.Accepted.{IsAccepted}
use Rattle.model.specs.Acceptance.Authority.{IsSignalled, joined, passed}
use Rattle.model.specs.Acceptance.ThreadInvariants.{tcb_of}
use Rattle.model.specs.Capabilities.Slots.{capability_at}
use Rattle.model.specs.Images.Described.{Numbered, described, numbered_threads}
use Rattle.model.specs.Images.Image.{Image}
use Rattle.model.specs.Kernel.Interrupts.{Signal, binding, interrupt, raise, with_pending}
use Rattle.model.specs.Kernel.Messages.{deliver_word, signals}
use Rattle.model.specs.Kernel.Retype.{NewNotification}
use Rattle.model.specs.Kernel.Scheduling.{full_slice, head_of}
use Rattle.model.specs.Kernel.Soundness.{waiting_at}
use Rattle.model.specs.Kernel.State.{Blocked, Inactive, NotificationObject, NotificationState, Object, Runnable, State, ThreadObject, ThreadState}
use Rattle.model.specs.Kernel.State.{as_notification, binding_slot, new_notification, notification_at, put, thread_at, with_notification}
use Rattle.soundness.proofs.Laws.{notification-kind}
use Rattle.headline.proofs.Laws.{Waits, at-place, first-waits}
use Rattle.headline.specs.authority.Events.{InterruptChange, WithinInterrupt, joins, passes_on, wakes}
use Rattle.headline.specs.facts.Standing.{AllStand}
use Rattle.headline.specs.moves.Laws.{Laws}
use Rattle.response.specs.Asking.{asked_at}
use Rattle.response.specs.Laws.{WaitsToTake}
use Rattle.response.specs.Left.{point_now}
use Rattle.response.specs.Resting.{IsTended}
use Rattle.response.proofs.AtBells.{there-is}
use Rattle.response.proofs.Interrupts.{names-bound, put-at, put-off, thread-of, word-of}
use Rattle.response.proofs.Marks.{at-take, badge-some, word-some}
use Rattle.response.proofs.OwnCalls.{pc_at, word-pc}
use Rattle.response.proofs.Waiting.{same-thread}
use Rattle.response.proofs.Woken.{goes-on, next-pc, point-of}

-- what a line is bound to is a notification
pub bell-there : (image : Image) (s : State) (labels : List Label) → AllStand image s labels → (line : ℕ) (b : Signal) → binding s line ≡ Some b
    → (n : NotificationState) × (s.objects b.notification ≡ Some (NotificationObject n))
bell-there image s labels all line b is =
    notification-kind (s.objects b.notification) (all.sound.memory.named (binding_slot s line) NewNotification b.notification
    (names-bound (capability_at s.slots (binding_slot s line)) b is))

module _ (image : Image) (number : ℕ) (a : IsTended image number) where
  pub data Tended (s : State) : Type 0 where
    unmasked : s.masked number ≡ false → Tended s
    has_word : 1 ≤ word-of (s.objects a.queue) → Tended s
    under_way : a.marks (point_now image s a.thread) ≡ false → Tended s

  pub record Tends (s : State) : Type 0 where
    pub tended : Tended s
    -- it is masked where an interrupt is pending
    pub masks : s.pending number ≡ true → s.masked number ≡ true

  pub tends-at-start : Tends (described image)
  unfolding described
  tends-at-start = record { tended = unmasked refl; masks = λ is. absurd (let clash : false ≡ true = is in cc) }

  -- where all this is as it was
  module _ (s after : State) (masked : after.masked number ≡ s.masked number) (pending : after.pending number ≡ s.pending number)
      (word : word-of (after.objects a.queue) ≡ word-of (s.objects a.queue)) (pc : pc_at after (tcb_of image a.thread) ≡ pc_at s (tcb_of image a.thread)) where
    by-tended : Tended s → Tended after
    by-tended (unmasked is) = unmasked (masked ∙ is)
    by-tended (has_word some) = has_word (omega (arith, some, word))
    by-tended (under_way is) = under_way (ap (λ (k : ℕ). a.marks ((k - a.thread.thread.header.base) / 4)) pc ∙ is)

    pub same-tends : Tends s → Tends after
    same-tends tends = record { tended = by-tended tends.tended; masks = λ is. masked ∙ tends.masks (sym pending ∙ is) }

module _ (laws : Laws) (bytes : List ℕ) (image : Image) (accepted : IsAccepted bytes image) (number : ℕ)
    (a : IsTended image number) where
  abbrev tcb : ℕ
  tcb = tcb_of image a.thread

  abbrev base : ℕ
  base = a.thread.thread.header.base

  -- ---- at a take

  module _ (s : State) (labels : List Label) (queue : ℕ) (waits : WaitsToTake image a.thread s labels queue) where
    take-marks : (a.marks waits.point ≡ true) × (a.marks (waits.point + 1) ≡ false)
    take-marks =
        at-take number (a.marks waits.point) (a.marks (waits.point + 1)) (asked_at image a.thread.thread waits.point waits.state) queue waits.asks
        (a.marked waits.point waits.state (waits.point + 1) waits.stands.inside waits.stands.known
        (goes-on laws bytes image accepted s labels a.thread a.listed queue waits))

    pub waits-marked : a.marks (point_now image s a.thread) ≡ true
    waits-marked =
        ap (λ (u : ThreadState). a.marks ((u.registers.pc - base) / 4)) (at-place s tcb waits.own waits.there)
        ∙ ap (λ (k : ℕ). a.marks ((k - base) / 4)) waits.stands.pc ∙ ap a.marks (point-of base waits.point) ∙ take-marks.0

    -- once it goes on it has still to acknowledge
    pub goes-unmarked : (after : State) → pc_at after (tcb_of image a.thread) ≡ (waits.own.registers.pc + 4) % 2 ^ 32
        → a.marks (point_now image after a.thread) ≡ false
    goes-unmarked after pc =
        ap (λ (k : ℕ). a.marks ((k - base) / 4)) (pc ∙ next-pc laws bytes image accepted s labels a.thread a.listed queue waits)
        ∙ ap a.marks (point-of base (waits.point + 1)) ∙ take-marks.1

  -- ---- who waits at its notification

  module _ (s : State) (labels : List Label) (all : AllStand image s labels)
      (takes : (u : Numbered) (queue : ℕ) (n : NotificationState) (others : List ℕ) → Contains (numbered_threads image) u
      → s.objects queue ≡ Some (NotificationObject n) → n.waiters ≡ tcb_of image u ∷ others → WaitsToTake image u s labels queue)
      (bound : binding s number ≡ Some (record { notification = a.queue; badge = a.badge })) where
    queue-is : (n : NotificationState) × (s.objects a.queue ≡ Some (NotificationObject n))
    queue-is = bell-there image s labels all number (record { notification = a.queue; badge = a.badge }) bound

    first-is : (n : NotificationState) → s.objects a.queue ≡ Some (NotificationObject n) → (x : ℕ) (others : List ℕ) → n.waiters ≡ x ∷ others
        → x ≡ tcb_of image a.thread
    first-is n is x others first =
        let waits : Waits s x a.queue = first-waits s all.sound a.queue x others (ap waiting_at is ∙ first) in
        elim (all.others x (Waits.own waits) (Waits.is waits)) [
          | inl stopped ↦ absurd (let clash : Inactive ≡ Blocked a.queue = sym stopped ∙ Waits.blocked waits in cc)
          | inr block ↦
              let w = takes block.thread a.queue n others block.listed is (first ∙ ap (λ (y : ℕ). y ∷ others) block.is) in
              block.is ∙ ap (tcb_of image) (a.alone block.thread w.point w.state block.listed w.stands.inside w.stands.known w.asks)
        ]

    -- it is the thread that acknowledges
    pub first-takes : (n : NotificationState) → s.objects a.queue ≡ Some (NotificationObject n) → (x : ℕ) (others : List ℕ) → n.waiters ≡ x ∷ others
        → WaitsToTake image a.thread s labels a.queue
    first-takes n is x others first =
        takes a.thread a.queue n others a.listed is (first ∙ ap (λ (y : ℕ). y ∷ others) (first-is n is x others first))

    -- what the delivery of the line's interrupt leaves
    pub data Delivered (after : State) : Type 0 where
      worded : 1 ≤ word-of (after.objects a.queue) → Delivered after
      passed_on : WaitsToTake image a.thread s labels a.queue → (thread_at after (tcb_of image a.thread)).status ≡ Runnable → Delivered after

    pub delivered-so : (after : State) → IsSignalled s after a.queue a.badge → Delivered after
    delivered-so after (joined was is nobody word) =
        worded (let some = badge-some (notification_at s a.queue).word a.badge a.some in omega (arith, some, word))
    delivered-so after (passed first gone runs) =
        let found = notification-kind (s.objects a.queue) gone.was in
        let head : found.0.waiters ≡ first ∷ (notification_at after a.queue).waiters =
        sym (ap (λ (o : Option Object). (option_map_or (λ (n : NotificationState). n) (as_notification o) new_notification).waiters) found.1) ∙ gone.leaves in
        passed_on (first-takes found.0 found.1 first (notification_at after a.queue).waiters head)
        (ap (λ (x : ℕ). (thread_at after x).status) (sym (first-is found.0 found.1 first (notification_at after a.queue).waiters head)) ∙ runs)

    -- ---- an interrupt of the line itself

    module _ (tends : Tends image number a s) where
      abbrev Keeps : State → Type 0
      Keeps after = Tends image number a after

      pended : s.masked number ≡ true → Keeps (with_pending s number true)
      pended is = record { tended = by-tended tends.tended; masks = λ _. is }
        where
          by-tended : Tended image number a s → Tended image number a (with_pending s number true)
          by-tended (unmasked is_clear) = unmasked is_clear
          by-tended (has_word some) = has_word some
          by-tended (under_way way) = under_way way

      module _ (n : NotificationState) (at : s.objects a.queue ≡ Some (NotificationObject n)) where
        woke-pc : (x : ℕ) (others : List ℕ) → n.waiters ≡ x ∷ others → pc_at (signals s a.queue a.badge n (x ∷ others)) x ≡ (pc_at s x + 4) % 2 ^ 32
        woke-pc x others first =
            let fewer : NotificationState = record n { waiters = others } in
            let u = with_notification s a.queue fewer in
            let v = deliver_word u x a.badge in
            let waits : Waits s x a.queue = first-waits s all.sound a.queue x others (ap waiting_at at ∙ first) in
            let apart : x ≢ a.queue = λ same. absurd (let clash : Some (ThreadObject (Waits.own waits)) ≡ Some (NotificationObject n) =
            sym (Waits.is waits) ∙ ap s.objects same ∙ at in cc) in
            ap (λ (o : Option Object). (thread-of o).registers.pc)
            (put-at v.objects x (Some (ThreadObject (record (thread_at v x) { status = Runnable; slice = full_slice }))))
            ∙ word-pc u x a.badge
            ∙ ap (λ (o : Option Object). ((thread-of o).registers.pc + 4) % 2 ^ 32) (put-off s.objects a.queue x (Some (NotificationObject fewer)) apart)

        by-waiters : (l : List ℕ) → n.waiters ≡ l
            → Tended image number a (record (signals s a.queue a.badge n l) { masked = put s.masked number true })
        by-waiters [] none =
            has_word (let word = ap word-of (put-at s.objects a.queue (Some (NotificationObject (record n { word = bit_or n.word a.badge })))) in
            let some = badge-some n.word a.badge a.some in omega (arith, some, word))
        by-waiters (x ∷ others) first =
            let w = first-takes n at x others first in
            let here = first-is n at x others first in
            under_way (goes-unmarked s labels a.queue w (record (signals s a.queue a.badge n (x ∷ others)) { masked = put s.masked number true })
            (ap (pc_at (signals s a.queue a.badge n (x ∷ others))) (sym here) ∙ woke-pc x others first
            ∙ ap (λ (k : ℕ). (pc_at s k + 4) % 2 ^ 32) here ∙ ap (λ (u : ThreadState). (u.registers.pc + 4) % 2 ^ 32) (at-place s tcb w.own w.there)))

      interrupted : Keeps (interrupt s number (record { notification = a.queue; badge = a.badge }))
      interrupted = record {
        tended = subst (λ (k : NotificationState). Tended image number a (record (signals s a.queue a.badge k k.waiters) {
          masked = put s.masked number true;
        })) (sym (ap (λ (o : Option Object). option_map_or (λ (k : NotificationState). k) (as_notification o) new_notification) queue-is.1))
            (by-waiters queue-is.0 queue-is.1 queue-is.0.waiters refl);
        masks = λ _. put-at s.masked number true;
      }

      pub raised-tends : Keeps (raise s number)
      raised-tends = elim (nat_lt 63 number) as (λ b. Keeps (if b then s else if s.masked number then with_pending s number true else
          option_map_or (interrupt s number) (binding s number) (with_pending s number true))) [
            | true ↦ tends
            | false ↦ elim (s.masked number) as (λ b. s.masked number ≡ b → Keeps (if b then with_pending s number true else
                option_map_or (interrupt s number) (binding s number) (with_pending s number true))) [
                  | true ↦ pended
                  | false ↦ λ _. subst (λ (b : Option Signal). Keeps (option_map_or (interrupt s number) b (with_pending s number true))) (sym bound)
                      interrupted
                ] refl
          ]

      -- ---- one of another line

      module _ (after : State) (other : ℕ) (apart : number ≢ other) (w : WithinInterrupt other s after) where
        word-left : 1 ≤ word-of (s.objects a.queue) → 1 ≤ word-of (after.objects a.queue)
        word-left some = elim (eqb_tells (word-of (after.objects a.queue)) (word-of (s.objects a.queue))) [
          | inl same ↦ (let word = same.1 in omega (arith, some, word))
          | inr differs ↦ by-change (w.objects a.queue (λ same. differs.1 (sym (ap word-of same))))
        ]
          where
            by-change : InterruptChange other s after a.queue → 1 ≤ word-of (after.objects a.queue)
            by-change (joins badge old d was nobody is) =
                let now = ap word-of is in
                let before = ap word-of was in
                let more = word-some old.word badge (omega (arith, some, before)) in
                omega (arith, more, now)
            by-change (passes_on badge waiter others old d was list is) =
                let now = ap word-of is in let before = ap word-of was in omega (arith, some, now, before)
            by-change (wakes notification badge old d head was is) = absurd (let none = ap word-of was in omega (arith, some, none))

        way-left : a.marks (point_now image s a.thread) ≡ false → a.marks (point_now image after a.thread) ≡ false
        way-left way = elim (eqb_tells (pc_at after tcb) (pc_at s tcb)) [
          | inl same ↦ ap (λ (k : ℕ). a.marks ((k - base) / 4)) same.1 ∙ way
          | inr differs ↦ by-change (w.objects tcb (λ same. differs.1 (sym (ap (λ (o : Option Object). (thread-of o).registers.pc) same))))
        ]
          where
            own : (u : ThreadState) × (s.objects (tcb_of image a.thread) ≡ Some (ThreadObject u))
            own = there-is image a.thread s labels (all.stand a.thread a.listed)

            no-bell : (n : NotificationState) → s.objects tcb ≡ Some (NotificationObject n) → ⊥
            no-bell n is = let clash : Some (ThreadObject own.0) ≡ Some (NotificationObject n) = sym own.1 ∙ is in absurd cc

            head-first : (l : List ℕ) (x : ℕ) → head_of l ≡ Some x → (rest : List ℕ) × (l ≡ x ∷ rest)
            head-first [] x is = absurd (let clash : ◌≡◌ {A = Option ℕ} None (Some x) = is in cc)
            head-first (y ∷ rest) x is = (rest, (let same : y ≡ x = cc in ap (λ (k : ℕ). k ∷ rest) same))

            by-change : InterruptChange other s after (tcb_of image a.thread) → a.marks (point_now image after a.thread) ≡ false
            by-change (joins badge old d was nobody is) = absurd (no-bell old was)
            by-change (passes_on badge waiter others old d was list is) = absurd (no-bell old was)
            by-change (wakes notification badge old d head was is) =
                let bell = bell-there image s labels all other (record { notification = notification; badge = badge }) d.bound in
                let first = head-first (notification_at s notification).waiters tcb head in
                let list : bell.0.waiters ≡ tcb ∷ first.0 =
                sym (ap (λ (o : Option Object). (option_map_or (λ (n : NotificationState). n) (as_notification o) new_notification).waiters) bell.1)
                ∙ first.1 in
                let waits = takes a.thread notification bell.0 first.0 a.listed bell.1 list in
                let same : old ≡ waits.own = same-thread (s.objects tcb) old waits.own was waits.there in
                goes-unmarked s labels notification waits after
                (ap (λ (o : Option Object). (thread-of o).registers.pc) is ∙ ap (λ (x : ThreadState). (x.registers.pc + 4) % 2 ^ 32) same)

        left-tended : Tended image number a s → Tended image number a after
        left-tended (unmasked is) = unmasked (w.masked number apart ∙ is)
        left-tended (has_word some) = has_word (word-left some)
        left-tended (under_way way) = under_way (way-left way)

        pub others-tends : Keeps after
        others-tends = record {
          tended = left-tended tends.tended;
          masks = λ is. w.masked number apart ∙ tends.masks (sym (w.pending number apart) ∙ is);
        }
