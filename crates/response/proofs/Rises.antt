-- What a system call adds to the work of others: at most what the notification costs that it signals.
use Rattle.std.proofs.Common.{ℕ, ◌≡◌, ◌≢◌, ◌∙◌, ◌⊎◌, ◌==◌, ◌+◌, ◌-◌, ◌/◌, ◌%◌, ◌^◌, ◌≤◌, ◌&&◌, inl, inr, Bool, true, false, if◌then◌else◌, Option}
use Rattle.std.proofs.Common.{Some, None, List, [], ◌∷◌, refl, sym, ap, subst, arith}
use Rattle.std.specs.Prelude.{Contains}
use Rattle.std.specs.Option.{option_map_or}
use Rattle.std.proofs.lemmas.Bool.Decides.{eqb_tells}
use Rattle.model.specs.declared.labels.Label.{Label}
use Rattle.model.specs.Acceptance.Accepted.{IsAccepted}
use Rattle.model.specs.Acceptance.Authority.{WithinAuthority}
use Rattle.model.specs.Acceptance.ThreadInvariants.{tcb_of}
use Rattle.model.specs.Images.Described.{Numbered, numbered_threads}
use Rattle.model.specs.Images.Image.{Image}
use Rattle.model.specs.Kernel.Scheduling.{is_runnable}
use Rattle.model.specs.Kernel.State.{NotificationObject, NotificationState, Object, State, ThreadState, as_notification, new_notification}
use Rattle.model.specs.Kernel.State.{notification_at, thread_at}
use Rattle.model.specs.Kernel.Waits.{open_count}
use Rattle.soundness.proofs.Laws.{notification-kind}
use Rattle.headline.specs.facts.Standing.{AllStand}
use Rattle.headline.specs.moves.Laws.{Laws}
use Rattle.response.specs.Laws.{WaitsToTake}
use Rattle.response.specs.Left.{left_of_thread, left_of_word, point_now, total}
use Rattle.response.specs.Levels.{is_of_level}
use Rattle.response.specs.Weights.{Pays, Price, Weights, price_of}
use Rattle.response.proofs.AskedNow.{asked_now}
use Rattle.response.proofs.AtBells.{LeftAs, WaitsForNoMessage, as_before, left-as, rung}
use Rattle.response.proofs.Costs.{total-less}
use Rattle.response.proofs.Interrupts.{thread-of, thread-same}
use Rattle.response.proofs.Rung.{WordChange, fell, joined, rung_by, same, signals-rung, word-changes}
use Rattle.response.proofs.Sums.{changed-once, threads-once}
use Rattle.response.proofs.TwoEntries.{falls-by, moves}
use Rattle.response.proofs.Waiting.{same-thread}
use Rattle.response.proofs.Woken.{next-pc, point-of, taker-paid}

pub one-some : {a b : ℕ} → ◌≡◌ {A = Option ℕ} (Some a) (Some b) → a ≡ b
one-some both = cc

pub none-some : {a : ℕ} → ◌≡◌ {A = Option ℕ} None (Some a) → ⊥
none-some clash = absurd cc

abbrev pub waiters-of : Option Object → List ℕ
waiters-of o = (option_map_or (λ (n : NotificationState). n) (as_notification o) new_notification).waiters

-- the price of what is signalled
abbrev pub rung_cost : Weights → Option ℕ → ℕ
rung_cost w o = option_map_or (price_of w) o 0

module _ (laws : Laws) (bytes : List ℕ) (image : Image) (accepted : IsAccepted bytes image) (priority : ℕ) (w : Weights) (pays : Pays image priority w)
    (s after : State) (labels later : List Label) (all : AllStand image s labels) (behind : AllStand image after later)
    (told : (a b : ThreadState) → (a ≡ b) ⊎ (a ≢ b)) (t : Numbered) (listed : Contains (numbered_threads image) t)
    (within : WithinAuthority image t.thread s after)
    (quiet : (u : Numbered) → Contains (numbered_threads image) u → is_of_level priority u ≡ true → WaitsForNoMessage image u)
    (takes : (u : Numbered) (queue : ℕ) (n : NotificationState) (others : List ℕ) → Contains (numbered_threads image) u
    → s.objects queue ≡ Some (NotificationObject n) → n.waiters ≡ tcb_of image u ∷ others → WaitsToTake image u s labels queue)
    (counts : (thread : ℕ) → thread ≢ tcb_of image t → open_count thread later ≡ open_count thread labels) where
  abbrev before_of : Numbered → ℕ
  before_of = left_of_thread image priority w s labels

  abbrev after_of : Numbered → ℕ
  after_of = left_of_thread image priority w after later

  abbrev signalled : Option ℕ
  signalled = rung_by s after (asked_now s (tcb_of image t))

  -- ---- threads

  -- a thread of another level has nothing
  pub below-none : (u : Numbered) → is_of_level priority u ≡ false → after_of u ≡ 0
  below-none u other = ap (λ (b : Bool). if b && is_runnable (thread_at after (tcb_of image u)).status
      then u.thread.header.budget - open_count (tcb_of image u) later + w.still u.number (point_now image after u) else 0) other

  -- the first waiter is worth the price
  taker-worth : (u : Numbered) (among : Contains (numbered_threads image) u) (o : ℕ) (waits : WaitsToTake image u s labels o) → tcb_of image u ≢ tcb_of image t
      → (thread_at after (tcb_of image u)).registers.pc ≡ (waits.own.registers.pc + 4) % 2 ^ 32 → after_of u ≤ price_of w o
  taker-worth u among o waits apart pc = elim (is_of_level priority u) as (λ b. is_of_level priority u ≡ b →
      (if b && is_runnable (thread_at after (tcb_of image u)).status
      then u.thread.header.budget - open_count (tcb_of image u) later + w.still u.number (point_now image after u) else 0) ≤ price_of w o) [
        | true ↦ λ level.
            let paid = taker-paid laws bytes image accepted s labels u among o waits priority w pays level in
            let at_next : point_now image after u ≡ waits.point + 1 =
            ap (λ (k : ℕ). (k - u.thread.header.base) / 4) (pc ∙ next-pc laws bytes image accepted s labels u among o waits)
            ∙ point-of u.thread.header.base (waits.point + 1) in
            let still = ap (λ (k : ℕ). w.still u.number k) at_next in
            elim (is_runnable (thread_at after (tcb_of image u)).status) as (λ b. (if b
            then u.thread.header.budget - open_count (tcb_of image u) later + w.still u.number (point_now image after u) else 0) ≤ price_of w o)
            [ true ↦ omega (arith, paid, still) | false ↦ omega arith ]
        | false ↦ λ other. omega arith
      ] refl

  -- it has as much left as before, or it is the first waiter of what is signalled
  pub data Grown (u : Numbered) : Type 0 where
    kept : after_of u ≤ before_of u → Grown u
    worth : (o : ℕ) (rest : List ℕ) → signalled ≡ Some o → (notification_at s o).waiters ≡ tcb_of image u ∷ rest → after_of u ≤ price_of w o → Grown u

  by-left : (u : Numbered) → Contains (numbered_threads image) u → tcb_of image u ≢ tcb_of image t → LeftAs image t u s after → Grown u
  by-left u among apart (as_before alike) =
      kept (let e = thread-same image priority w s after labels later u (ap thread-of alike) (counts (tcb_of image u) apart) in omega (arith, e))
  by-left u among apart (rung o badge before first names was is) =
      let found = notification-kind (s.objects o) first.was in
      let head : found.0.waiters ≡ tcb_of image u ∷ (notification_at after o).waiters = sym (ap waiters-of found.1) ∙ first.leaves in
      let waits = takes u o found.0 (notification_at after o).waiters among found.1 head in
      let own : before ≡ waits.own = same-thread (s.objects (tcb_of image u)) before waits.own was waits.there in
      worth o (notification_at after o).waiters (signals-rung image t.thread s after all.sound.slots.derivation.valid o badge names) first.leaves
      (taker-worth u among o waits apart
      (ap (λ (x : Option Object). (thread-of x).registers.pc) is ∙ ap (λ (x : ThreadState). (x.registers.pc + 4) % 2 ^ 32) own))

  pub grown : (u : Numbered) → Contains (numbered_threads image) u → tcb_of image u ≢ tcb_of image t → Grown u
  grown u among apart = elim (is_of_level priority u) as (λ b. is_of_level priority u ≡ b → Grown u) [
    | true ↦ λ level.
        by-left u among apart (left-as laws bytes image s after labels later accepted all behind told t listed within u among (quiet u among level) apart)
    | false ↦ λ other. kept (let none = below-none u other in omega (arith, none))
  ] refl

  -- ---- words

  abbrev word_before : Price → ℕ
  word_before = left_of_word w s

  abbrev word_after : Price → ℕ
  word_after = left_of_word w after

  pub data WordGrown (p : Price) : Type 0 where
    no_more : word_after p ≤ word_before p → WordGrown p
    rings : signalled ≡ Some p.object → (notification_at s p.object).waiters ≡ [] → WordGrown p

  by-word : (p : Price) → WordChange image t.thread s after all.sound.slots.derivation.valid within p.object → WordGrown p
  by-word p (fell none) = no_more (let zero_ : word_after p ≡ 0 = ap (λ (n : ℕ). if n == 0 then 0 else p.price) none in omega (arith, zero_))
  by-word p (same alike) = no_more (let e : word_after p ≡ word_before p = ap (λ (n : ℕ). if n == 0 then 0 else p.price) alike in omega (arith, e))
  by-word p (joined j) = rings (signals-rung image t.thread s after all.sound.slots.derivation.valid p.object j.badge j.names) (ap waiters-of j.was ∙ j.nobody)

  pub word-grown : (p : Price) → WordGrown p
  word-grown p = by-word p (word-changes image t.thread s after all.sound.slots.derivation.valid within p.object)

  -- a word is worth its price
  pub word-worth : (p : Price) → Contains w.prices p → (o : ℕ) → p.object ≡ o → word_after p ≤ price_of w o
  word-worth p among o here =
      let price : p.price ≡ price_of w o = sym (pays.each p among) ∙ ap (price_of w) here in
      elim ((notification_at after p.object).word == 0) as (λ b. (if b then 0 else p.price) ≤ price_of w o)
      [ true ↦ omega arith | false ↦ omega (arith, price) ]

  -- ---- sums, where the thread itself has less left

  module _ (n : ℕ) (falls : after_of t + n ≤ before_of t) where
    abbrev Sum : ℕ → Type 0
    Sum cost = total after_of (numbered_threads image) + total word_after w.prices + n
        ≤ total before_of (numbered_threads image) + total word_before w.prices + cost

    own-block : (u : Numbered) → Contains (numbered_threads image) u → tcb_of image u ≡ tcb_of image t → after_of u ≤ before_of u
    own-block u among here =
        subst (λ (x : Numbered). after_of x ≤ before_of x) (sym (laws.own_blocks bytes image u t accepted among listed here)) (omega (arith, falls))

    -- each thread, if no other one is woken
    each-kept : ((u : Numbered) (o : ℕ) (rest : List ℕ) → signalled ≡ Some o → (notification_at s o).waiters ≡ tcb_of image u ∷ rest → ⊥)
        → (u : Numbered) → Contains (numbered_threads image) u → after_of u ≤ before_of u
    each-kept never u among = elim (eqb_tells (tcb_of image u) (tcb_of image t)) [
      | inl here ↦ own-block u among here.1
      | inr apart ↦ (elim (grown u among apart.1) [
        | kept less ↦ less
        | worth o rest is first worth_ ↦ absurd (never u o rest is first)
      ])
    ]

    threads-kept : ((u : Numbered) (o : ℕ) (rest : List ℕ) → signalled ≡ Some o → (notification_at s o).waiters ≡ tcb_of image u ∷ rest → ⊥)
        → total after_of (numbered_threads image) + n ≤ total before_of (numbered_threads image)
    threads-kept never = falls-by before_of after_of (numbered_threads image) t n listed (λ u among. each-kept never u among) falls

    nothing-rung : signalled ≡ None → Sum 0
    nothing-rung none =
        let threads = threads-kept (λ u o rest is first. none-some (sym none ∙ is)) in
        let words = total-less word_after word_before w.prices (λ p among. elim (word-grown p) [
          | no_more less ↦ less
          | rings is nobody ↦ absurd (none-some (sym none ∙ is))
        ]) in
        omega (arith, threads, words)

    module _ (o : ℕ) (is : signalled ≡ Some o) where
      same-bell : (other : ℕ) → signalled ≡ Some other → other ≡ o
      same-bell other so = one-some (sym so ∙ is)

      -- nobody waits: the word may be set
      sets : (notification_at s o).waiters ≡ [] → Sum (price_of w o)
      sets nobody =
          let threads = threads-kept (λ u other rest so first.
          let clash : ◌≡◌ {A = List ℕ} [] (tcb_of image u ∷ rest) =
          sym nobody ∙ ap (λ (x : ℕ). (notification_at s x).waiters) (sym (same-bell other so)) ∙ first in absurd cc) in
          let words = changed-once (λ (p : Price). p.object) word_before word_after o (price_of w o) w.prices
          (λ p among apart. elim (word-grown p) [
            | no_more less ↦ less
            | rings so none ↦ absurd (apart (same-bell p.object so))
          ]) (λ p among here. let worth_ = word-worth p among o here in omega (arith, worth_)) (pays.once o) in
          omega (arith, threads, words)

      -- the first that waits may run
      wakes : (x : ℕ) (rest : List ℕ) → (notification_at s o).waiters ≡ x ∷ rest → Sum (price_of w o)
      wakes x rest first =
          let words = total-less word_after word_before w.prices (λ p among. elim (word-grown p) [
            | no_more less ↦ less
            | rings so none ↦
                let clash : ◌≡◌ {A = List ℕ} [] (x ∷ rest) = sym none ∙ ap (λ (y : ℕ). (notification_at s y).waiters) (same-bell p.object so) ∙ first in
                absurd cc
          ]) in
          let threads = moves (tcb_of image) before_of after_of x (price_of w o) n (numbered_threads image) t listed elsewhere there
          (λ _. falls) (λ _. omega (arith, falls))
          (threads-once image x (λ u v a b alike. laws.own_blocks bytes image u v accepted a b alike)) in
          omega (arith, threads, words)
        where
          elsewhere : (u : Numbered) → Contains (numbered_threads image) u → tcb_of image u ≢ x → after_of u ≤ before_of u
          elsewhere u among off = elim (eqb_tells (tcb_of image u) (tcb_of image t)) [
            | inl here ↦ own-block u among here.1
            | inr apart ↦ (elim (grown u among apart.1) [
              | kept less ↦ less
              | worth other more so head worth_ ↦
                  let both : ◌≡◌ {A = List ℕ} (x ∷ rest) (tcb_of image u ∷ more) =
                  sym first ∙ ap (λ (y : ℕ). (notification_at s y).waiters) (sym (same-bell other so)) ∙ head in
                  let heads : x ≡ tcb_of image u = cc in
                  absurd (off (sym heads))
            ])
          ]

          there : (u : Numbered) → Contains (numbered_threads image) u → tcb_of image u ≡ x → after_of u ≤ before_of u + price_of w o
          there u among on = elim (eqb_tells (tcb_of image u) (tcb_of image t)) [
            | inl here ↦ (let less = own-block u among here.1 in omega (arith, less))
            | inr apart ↦ (elim (grown u among apart.1) [
              | kept less ↦ omega (arith, less)
              | worth other more so head worth_ ↦
                  let e : price_of w other ≡ price_of w o = ap (price_of w) (same-bell other so) in
                  omega (arith, worth_, e)
            ])
          ]

      by-waiters : (l : List ℕ) → (notification_at s o).waiters ≡ l → Sum (price_of w o)
      by-waiters [] nobody = sets nobody
      by-waiters (x ∷ rest) first = wakes x rest first

    by-rung : (o : Option ℕ) → signalled ≡ o → Sum (rung_cost w o)
    by-rung None none = nothing-rung none
    by-rung (Some o) is = by-waiters o is (notification_at s o).waiters refl

    pub rises : total after_of (numbered_threads image) + total word_after w.prices + n
        ≤ total before_of (numbered_threads image) + total word_before w.prices + rung_cost w (rung_by s after (asked_now s (tcb_of image t)))
    rises = by-rung signalled refl
