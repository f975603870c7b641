-- What an interrupt adds to the work that is left: a pending line, a word, or a thread that runs again.
use Rattle.std.proofs.Common.{ℕ, ◌≡◌, ◌≢◌, ◌∙◌, ◌==◌, ◌+◌, ◌-◌, ◌/◌, ◌%◌, ◌^◌, ◌≤◌, ◌&&◌, inl, inr, Bool, true, false, nat_lt, if◌then◌else◌, Option, Some}
use Rattle.std.proofs.Common.{None}
use Rattle.std.proofs.Common.{List, [], ◌∷◌, refl, sym, ap, subst, arith}
use Rattle.std.specs.Prelude.{Contains, bit_or}
use Rattle.std.specs.Option.{option_map_or}
use Rattle.std.proofs.lemmas.Bool.{eq-eqb, ne_eqb}
use Rattle.std.proofs.lemmas.Bool.Decides.{eqb_tells}
use Rattle.model.specs.declared.capabilities.Cap.{Cap}
use Rattle.model.specs.declared.capabilities.Cap.TheVariants.{Empty, Untyped, Endpoint, Notification, CNode, Frame, PageTable, Tcb, RootTable, InterruptControl}
use Rattle.model.specs.declared.capabilities.Cap.TheVariants.{InterruptHandler}
use Rattle.model.specs.declared.labels.Label.{Label}
use Rattle.model.specs.Acceptance.Accepted.{IsAccepted}
use Rattle.model.specs.Acceptance.ThreadInvariants.{tcb_of}
use Rattle.model.specs.Capabilities.Slots.{capability_at}
use Rattle.model.specs.Images.Described.{Numbered, numbered_threads}
use Rattle.model.specs.Images.Image.{Image}
use Rattle.model.specs.Kernel.Interrupts.{Signal, binding, interrupt, raise, signal_of, with_pending}
use Rattle.model.specs.Kernel.Kinds.{Names}
use Rattle.model.specs.Kernel.Messages.{a0, signals, with_registers}
use Rattle.model.specs.Kernel.Retype.{NewNotification}
use Rattle.model.specs.Kernel.Scheduling.{full_slice, is_runnable, wake}
use Rattle.model.specs.Kernel.Soundness.{waiting_at}
use Rattle.model.specs.Kernel.State.{NotificationObject, NotificationState, Object, Runnable, State, ThreadObject, ThreadState, as_notification, as_thread}
use Rattle.model.specs.Kernel.State.{binding_slot, new_notification, new_thread, notification_at, put, thread_at, with_notification}
use Rattle.model.specs.Kernel.Waits.{open_count}
use Rattle.model.specs.Machine.Effects.{advanced}
use Rattle.model.specs.Machine.ProgramMemory.{RegisterFile, write}
use Rattle.soundness.proofs.Laws.{notification-kind}
use Rattle.headline.proofs.Laws.{Waits, first-waits}
use Rattle.headline.specs.facts.Standing.{AllStand}
use Rattle.headline.specs.moves.Laws.{Laws}
use Rattle.response.specs.Laws.{WaitsToTake}
use Rattle.response.specs.Left.{irq_lines, left, left_of_line, left_of_thread, left_of_word, line_price, point_now, total}
use Rattle.response.specs.Levels.{is_of_level}
use Rattle.response.specs.Weights.{Pays, Price, Weights, price_of}
use Rattle.response.proofs.Sums.{changed-once, range-once, threads-once}
use Rattle.response.proofs.Ticks.{total-same}
use Rattle.response.proofs.Woken.{next-pc, point-of, taker-paid}

-- ---- sums

sum-of : (image : Image) (priority : ℕ) (w : Weights) (s after : State) (labels later : List Label) (a b c : ℕ)
    → total (left_of_thread image priority w after later) (numbered_threads image)
    ≤ total (left_of_thread image priority w s labels) (numbered_threads image) + a
    → total (left_of_word w after) w.prices ≤ total (left_of_word w s) w.prices + b
    → total (left_of_line w after) irq_lines ≤ total (left_of_line w s) irq_lines + c
    → left image priority w after later ≤ left image priority w s labels + (a + b + c)
unfolding left
sum-of image priority w s after labels later a b c threads words lines = omega (arith, threads, words, lines)

pub same-less : {A : Type 0} (f g : A → ℕ) (xs : List A) → ((x : A) → f x ≡ g x) → total f xs ≤ total g xs + 0
same-less f g xs same = let is = total-same f g xs same in omega (arith, is)

-- ---- a thread

pub thread-same : (image : Image) (priority : ℕ) (w : Weights) (s after : State) (labels later : List Label) (t : Numbered)
    → (thread_at after (tcb_of image t)) ≡ (thread_at s (tcb_of image t)) → open_count (tcb_of image t) later ≡ open_count (tcb_of image t) labels
    → left_of_thread image priority w after later t ≡ left_of_thread image priority w s labels t
thread-same image priority w s after labels later t same counts =
    ap (λ (x : ThreadState). if is_of_level priority t && is_runnable x.status then t.thread.header.budget - open_count (tcb_of image t) later
    + w.still t.number ((x.registers.pc - t.thread.header.base) / 4) else 0) same
    ∙ ap (λ (n : ℕ). if is_of_level priority t && is_runnable (thread_at s (tcb_of image t)).status then t.thread.header.budget - n
    + w.still t.number (((thread_at s (tcb_of image t)).registers.pc - t.thread.header.base) / 4) else 0) counts

-- ---- what a binding names

pub names-bound : (c : Cap) (bound : Signal) → signal_of c ≡ Some bound → Names NewNotification bound.notification c
names-bound (Notification offset r badge) bound is =
    let same : record { notification = offset; badge = badge } ≡ bound = cc in ap (λ (b : Signal). Some (NewNotification, b.notification)) same
names-bound Empty bound is = let e : None ≡ Some bound = is in absurd cc
names-bound (Untyped offset bits watermark) bound is = let e : None ≡ Some bound = is in absurd cc
names-bound (Endpoint offset r b) bound is = let e : None ≡ Some bound = is in absurd cc
names-bound (CNode offset radix guard) bound is = let e : None ≡ Some bound = is in absurd cc
names-bound (Frame offset r mapping) bound is = let e : None ≡ Some bound = is in absurd cc
names-bound (PageTable offset mapping) bound is = let e : None ≡ Some bound = is in absurd cc
names-bound (Tcb offset) bound is = let e : None ≡ Some bound = is in absurd cc
names-bound (RootTable offset) bound is = let e : None ≡ Some bound = is in absurd cc
names-bound InterruptControl bound is = let e : None ≡ Some bound = is in absurd cc
names-bound (InterruptHandler irq_line) bound is = let e : None ≡ Some bound = is in absurd cc

-- ---- one place of a map

pub put-at : {A : Type 0} (f : ℕ → A) (place : ℕ) (value : A) → put f place value place ≡ value
put-at f place value = ap (λ (b : Bool). if b then value else f place) (eq-eqb place place refl)

pub put-off : {A : Type 0} (f : ℕ → A) (place other : ℕ) (value : A) → other ≢ place → put f place value other ≡ f other
put-off f place other value apart = ap (λ (b : Bool). if b then value else f other) (ne_eqb other place apart)

one-thread : (o : Option Object) (a b : ThreadState) → o ≡ Some (ThreadObject a) → o ≡ Some (ThreadObject b) → a ≡ b
one-thread o a b first second =
    let both : Some (ThreadObject a) ≡ Some (ThreadObject b) = sym first ∙ second in
    let inside : ThreadObject a ≡ ThreadObject b = cc in cc

abbrev pub thread-of : Option Object → ThreadState
thread-of o = option_map_or (λ (t : ThreadState). t) (as_thread o) new_thread

abbrev pub word-of : Option Object → ℕ
word-of o = (option_map_or (λ (n : NotificationState). n) (as_notification o) new_notification).word

module _ (laws : Laws) (bytes : List ℕ) (image : Image) (accepted : IsAccepted bytes image) (priority : ℕ) (w : Weights) (pays : Pays image priority w)
    (s : State) (labels later : List Label) (all : AllStand image s labels) (counts : (thread : ℕ) → open_count thread later ≡ open_count thread labels)
    (takes : (t : Numbered) (queue : ℕ) (n : NotificationState) (others : List ℕ) → Contains (numbered_threads image) t
    → s.objects queue ≡ Some (NotificationObject n) → n.waiters ≡ tcb_of image t ∷ others → WaitsToTake image t s labels queue) where
  abbrev Paid : State → ℕ → Type 0
  Paid after cost = left image priority w after later ≤ left image priority w s labels + cost

  -- ---- nothing, or a line that is pending

  nothing : Paid s 0
  nothing = sum-of image priority w s s labels later 0 0 0
      (same-less _ _ (numbered_threads image) (λ t. thread-same image priority w s s labels later t refl (counts (tcb_of image t))))
      (same-less _ _ w.prices (λ p. refl)) (same-less _ _ irq_lines (λ n. refl))

  pends : (number : ℕ) → Paid (with_pending s number true) (line_price w s number)
  unfolding irq_lines
  pends number = let sum = sum-of image priority w s (with_pending s number true) labels later 0 0 (line_price w s number)
      (same-less _ _ (numbered_threads image)
      (λ t. thread-same image priority w s (with_pending s number true) labels later t refl (counts (tcb_of image t))))
      (same-less _ _ w.prices (λ p. refl))
      (changed-once (λ (n : ℕ). n) (left_of_line w s) (left_of_line w (with_pending s number true)) number (line_price w s number) irq_lines
      (λ n at apart. let same = ap (λ (b : Bool). if b then line_price w s n else 0) (put-off s.pending number n true apart) in omega (arith, same))
      (λ n at here. let same : left_of_line w (with_pending s number true) n ≡ line_price w s number =
      ap (λ (b : Bool). if b then line_price w s n else 0) (ap (λ (x : ℕ). put s.pending number true x) here ∙ put-at s.pending number true)
      ∙ ap (λ (x : ℕ). line_price w s x) here in omega (arith, same)) (range-once 0 64 number)) in omega (arith, sum)

  -- ---- a signal

  module _ (number : ℕ) (bound : Signal) (is : binding s number ≡ Some bound) (n : NotificationState)
      (at : s.objects bound.notification ≡ Some (NotificationObject n)) where
    abbrev o : ℕ
    o = bound.notification

    cost-is : line_price w s number ≡ price_of w bound.notification
    cost-is = ap (λ (b : Option Signal). option_map_or (λ x. price_of w x.notification) b 0) is

    -- the word of a notification and the price of one
    word-costs : (after : State) (p : Price) → Contains w.prices p → p.object ≡ bound.notification → left_of_word w after p ≤ price_of w bound.notification
    word-costs after p among here =
        let price : p.price ≡ price_of w bound.notification = sym (pays.each p among) ∙ ap (price_of w) here in
        elim ((notification_at after p.object).word == 0) as (λ b. (if b then 0 else p.price) ≤ price_of w bound.notification)
        [ true ↦ omega arith | false ↦ omega (arith, price) ]

    -- ---- nobody waits: the badge joins the word

    abbrev more : NotificationState
    more = record n { word = bit_or n.word bound.badge }

    abbrev joined : State
    joined = record (with_notification s bound.notification more) { masked = put s.masked number true }

    joined-thread : (x : ℕ) → thread_at joined x ≡ thread_at s x
    joined-thread x = elim (eqb_tells x bound.notification) [
      | inl here ↦
          ap thread-of (ap (λ (y : ℕ). put s.objects bound.notification (Some (NotificationObject more)) y) here.1
          ∙ put-at s.objects bound.notification (Some (NotificationObject more)))
          ∙ sym (ap thread-of (ap s.objects here.1 ∙ at))
      | inr apart ↦ ap thread-of (put-off s.objects bound.notification x (Some (NotificationObject more)) apart.1)
    ]

    joins-cost : Paid joined (line_price w s number)
    joins-cost = subst (λ (cost : ℕ). Paid joined cost) (plain (price_of w bound.notification) ∙ sym cost-is)
        (sum-of image priority w s joined labels later 0 (price_of w bound.notification) 0
        (same-less _ _ (numbered_threads image)
        (λ t. thread-same image priority w s joined labels later t (joined-thread (tcb_of image t)) (counts (tcb_of image t))))
        (changed-once (λ (p : Price). p.object) (left_of_word w s) (left_of_word w joined) bound.notification (price_of w bound.notification) w.prices
        (λ p among apart. let same = ap (λ (x : ℕ). if x == 0 then 0 else p.price)
        (ap word-of (put-off s.objects bound.notification p.object (Some (NotificationObject more)) apart)) in omega (arith, same))
        (λ p among here. let less = word-costs joined p among here in omega (arith, less)) (pays.once bound.notification))
        (same-less _ _ irq_lines (λ k. refl)))
      where
        plain : (x : ℕ) → 0 + x + 0 ≡ x
        plain x = omega arith

    -- ---- the first that waits runs again

    module _ (x : ℕ) (others : List ℕ) (first : n.waiters ≡ x ∷ others) where
      abbrev fewer : NotificationState
      fewer = record n { waiters = others }

      abbrev u : State
      u = with_notification s bound.notification fewer

      abbrev written : RegisterFile
      written = write (thread_at u x).registers a0 bound.badge

      abbrev m : State
      m = with_registers u x written

      abbrev v : State
      v = with_registers m x (advanced (thread_at m x).registers)

      abbrev woke : State
      woke = record (wake v x) { masked = put s.masked number true }

      waits-here : Waits s x bound.notification
      waits-here = first-waits s all.sound bound.notification x others (ap waiting_at at ∙ first)

      apart : x ≢ bound.notification
      apart same = let clash : Some (ThreadObject (Waits.own waits-here)) ≡ Some (NotificationObject n) = sym (Waits.is waits-here) ∙ ap s.objects same
          ∙ at in absurd cc

      -- all else
      elsewhere : (y : ℕ) → y ≢ x → y ≢ bound.notification → woke.objects y ≡ s.objects y
      elsewhere y other off =
          put-off v.objects x y (Some (ThreadObject (record (thread_at v x) { status = Runnable; slice = full_slice }))) other
          ∙ put-off m.objects x y (Some (ThreadObject (record (thread_at m x) { registers = advanced (thread_at m x).registers }))) other
          ∙ put-off u.objects x y (Some (ThreadObject (record (thread_at u x) { registers = written }))) other
          ∙ put-off s.objects bound.notification y (Some (NotificationObject fewer)) off

      at-queue : woke.objects bound.notification ≡ Some (NotificationObject fewer)
      at-queue =
          let other : bound.notification ≢ x = λ same. apart (sym same) in
          put-off v.objects x bound.notification (Some (ThreadObject (record (thread_at v x) { status = Runnable; slice = full_slice }))) other
          ∙ put-off m.objects x bound.notification (Some (ThreadObject (record (thread_at m x) { registers = advanced (thread_at m x).registers }))) other
          ∙ put-off u.objects x bound.notification (Some (ThreadObject (record (thread_at u x) { registers = written }))) other
          ∙ put-at s.objects bound.notification (Some (NotificationObject fewer))

      woke-thread : (y : ℕ) → y ≢ x → thread_at woke y ≡ thread_at s y
      woke-thread y other = elim (eqb_tells y bound.notification) [
        | inl here ↦ ap thread-of (ap woke.objects here.1 ∙ at-queue) ∙ sym (ap thread-of (ap s.objects here.1 ∙ at))
        | inr off ↦ ap thread-of (elsewhere y other off.1)
      ]

      woke-word : (y : ℕ) → word-of (woke.objects y) ≡ word-of (s.objects y)
      woke-word y = elim (eqb_tells y bound.notification) [
        | inl here ↦ ap word-of (ap woke.objects here.1 ∙ at-queue) ∙ sym (ap word-of (ap s.objects here.1 ∙ at))
        | inr off ↦ elim (eqb_tells y x) [
          | inl self ↦
              ap word-of (ap woke.objects self.1 ∙ put-at v.objects x (Some (ThreadObject (record (thread_at v x) { status = Runnable; slice = full_slice }))))
              ∙ sym (ap word-of (ap s.objects self.1 ∙ Waits.is waits-here))
          | inr other ↦ ap word-of (elsewhere y other.1 off.1)
        ]
      ]

      -- where it goes on
      woke-pc : (thread_at woke x).registers.pc ≡ ((Waits.own waits-here).registers.pc + 4) % 2 ^ 32
      woke-pc =
          ap (λ (y : Option Object). (thread-of y).registers.pc) (put-at v.objects x (Some (ThreadObject (record
          (thread_at v x) { status = Runnable; slice = full_slice }))))
          ∙ ap (λ (y : Option Object). (thread-of y).registers.pc) (put-at m.objects x (Some (ThreadObject (record (thread_at m x) {
            registers = advanced
                (thread_at m x).registers;
          }))))
          ∙ ap (λ (y : Option Object). ((thread-of y).registers.pc + 4) % 2 ^ 32) (put-at u.objects x (Some (ThreadObject (record
          (thread_at u x) { registers = written }))))
          ∙ ap (λ (y : Option Object). ((thread-of y).registers.pc + 4) % 2 ^ 32)
          (put-off s.objects bound.notification x (Some (NotificationObject fewer)) apart ∙ Waits.is waits-here)

      module _ (t : Numbered) (listed : Contains (numbered_threads image) t) (here : tcb_of image t ≡ x) where
        waits : WaitsToTake image t s labels bound.notification
        waits = takes t bound.notification n others listed at (first ∙ ap (λ (y : ℕ). y ∷ others) (sym here))

        same-own : Waits.own waits-here ≡ waits.own
        same-own = one-thread (s.objects x) (Waits.own waits-here) waits.own (Waits.is waits-here) (ap s.objects (sym here) ∙ waits.there)

        at-next : point_now image woke t ≡ waits.point + 1
        at-next =
            ap (λ (k : ℕ). (k - t.thread.header.base) / 4)
            (ap (λ (y : ℕ). (thread_at woke y).registers.pc) here ∙ woke-pc ∙ ap (λ (z : ThreadState). (z.registers.pc + 4) % 2 ^ 32) same-own
            ∙ next-pc laws bytes image accepted s labels t listed bound.notification waits)
            ∙ point-of t.thread.header.base (waits.point + 1)

        taker-costs : left_of_thread image priority w woke later t ≤ price_of w bound.notification
        taker-costs = elim (is_of_level priority t) as (λ b. is_of_level priority t ≡ b → (if b && is_runnable (thread_at woke (tcb_of image t)).status
            then t.thread.header.budget - open_count (tcb_of image t) later + w.still t.number (point_now image woke t) else 0)
            ≤ price_of w bound.notification) [
              | true ↦ λ level.
                  let paid = taker-paid laws bytes image accepted s labels t listed bound.notification waits priority w pays level in
                  let still = ap (λ (k : ℕ). w.still t.number k) at-next in
                  elim (is_runnable (thread_at woke (tcb_of image t)).status) as (λ b. (if b
                  then t.thread.header.budget - open_count (tcb_of image t) later + w.still t.number (point_now image woke t) else 0)
                  ≤ price_of w bound.notification)
                  [ true ↦ omega (arith, paid, still) | false ↦ omega arith ]
              | false ↦ λ other. omega arith
            ] refl

      wakes-cost : Paid woke (line_price w s number)
      wakes-cost = subst (λ (cost : ℕ). Paid woke cost) (plain (price_of w bound.notification) ∙ sym cost-is)
          (sum-of image priority w s woke labels later (price_of w bound.notification) 0 0
          (changed-once (tcb_of image) (left_of_thread image priority w s labels) (left_of_thread image priority w woke later) x (price_of w bound.notification)
          (numbered_threads image)
          (λ t among other. let same = thread-same image priority w s woke labels later t (woke-thread (tcb_of image t) other) (counts (tcb_of image t))
          in omega (arith, same))
          (λ t among here. let less = taker-costs t among here in omega (arith, less))
          (threads-once image x (λ t k a b same. laws.own_blocks bytes image t k accepted a b same)))
          (same-less _ _ w.prices (λ p. ap (λ (k : ℕ). if k == 0 then 0 else p.price) (woke-word p.object)))
          (same-less _ _ irq_lines (λ k. refl)))
        where
          plain : (k : ℕ) → k + 0 + 0 ≡ k
          plain k = omega arith

    by-waiters : (l : List ℕ) → n.waiters ≡ l
        → Paid (record (signals s bound.notification bound.badge n l) { masked = put s.masked number true }) (line_price w s number)
    by-waiters [] none = joins-cost
    by-waiters (x ∷ others) first = wakes-cost x others first

    signal-costs : Paid (interrupt s number bound) (line_price w s number)
    signal-costs =
        subst (λ (k : NotificationState). Paid (record (signals s bound.notification bound.badge k k.waiters) { masked = put s.masked number true })
        (line_price w s number))
        (sym (ap (λ (y : Option Object). option_map_or (λ (k : NotificationState). k) (as_notification y) new_notification) at)) (by-waiters n.waiters refl)

  -- ---- the whole

  by-binding : (number : ℕ) (b : Option Signal) → binding s number ≡ b
      → Paid (option_map_or (interrupt s number) b (with_pending s number true)) (line_price w s number)
  by-binding number None none = pends number
  by-binding number (Some bound) is =
      let there = notification-kind (s.objects bound.notification) (all.sound.memory.named (binding_slot s number) NewNotification bound.notification
      (names-bound (capability_at s.slots (binding_slot s number)) bound is)) in
      signal-costs number bound is there.0 there.1

  -- a line above 63 is none
  pub beyond-costs : (number : ℕ) → nat_lt 63 number ≡ true → left image priority w (raise s number) later ≤ left image priority w s labels + 0
  beyond-costs number is = subst (λ (b : Bool). Paid (if b then s else if s.masked number then with_pending s number true else
      option_map_or (interrupt s number) (binding s number) (with_pending s number true)) 0) (sym is) nothing

  pub raised-costs : (number : ℕ) → left image priority w (raise s number) later ≤ left image priority w s labels + line_price w s number
  raised-costs number = elim (nat_lt 63 number) as (λ b. Paid (if b then s else if s.masked number then with_pending s number true else
      option_map_or (interrupt s number) (binding s number) (with_pending s number true)) (line_price w s number)) [
        | true ↦ let none = nothing in omega (arith, none)
        | false ↦ elim (s.masked number) as (λ b. Paid (if b then with_pending s number true else
            option_map_or (interrupt s number) (binding s number) (with_pending s number true)) (line_price w s number)) [
              | true ↦ pends number
              | false ↦ by-binding number (binding s number) refl
            ]
      ]
