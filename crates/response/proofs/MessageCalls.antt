-- A system call of a thread of the level is work, whatever it asks: it takes 1 off all work that there is, at least.
use Rattle.std.proofs.Common.{ℕ, ◌≡◌, ◌≢◌, ◌∙◌, ◌⊎◌, ◌==◌, ◌+◌, ◌-◌, ◌/◌, ◌%◌, ◌^◌, ◌<◌, ◌≤◌, ◌&&◌, inl, inr, Bool, true, false, if◌then◌else◌, map, ◌++◌}
use Rattle.std.proofs.Common.{suc, zero, Option, Some, None, List, [], ◌∷◌, refl, sym, ap, subst, arith}
use Rattle.std.specs.Prelude.{Contains}
use Rattle.std.specs.Option.{option_map_or}
use Rattle.std.proofs.lemmas.Bool.{leb-true}
use Rattle.model.specs.declared.labels.Label.{Label}
use Rattle.model.specs.Acceptance.Accepted.{IsAccepted}
use Rattle.model.specs.Acceptance.Authority.{WithinAuthority}
use Rattle.model.specs.Acceptance.CallRules.{AfterCall}
use Rattle.model.specs.Acceptance.NotedStates.{PointState}
use Rattle.model.specs.Acceptance.PointStates.{Noted, noted}
use Rattle.model.specs.Acceptance.ThreadInvariants.{IsWaiting, ThreadInvariant, runs, tcb_of, waits}
use Rattle.model.specs.Images.Described.{Numbered, numbered_threads}
use Rattle.model.specs.Images.Image.{Image}
use Rattle.model.specs.Kernel.Interrupts.{binding}
use Rattle.model.specs.Kernel.Scheduling.{is_runnable}
use Rattle.model.specs.Kernel.Soundness.{waiting_at}
use Rattle.model.specs.Kernel.State.{AwaitsHandler, AwaitsReply, Blocked, CNodeObject, EndpointObject, FrameObject, PageTableObject, RootTableObject}
use Rattle.model.specs.Kernel.State.{EndpointState, Inactive, NotificationObject, NotificationState, Object, Runnable, Sender}
use Rattle.model.specs.Kernel.State.{State, Status, ThreadObject, ThreadState, as_endpoint, endpoint_at, new_endpoint, notification_at, thread_at}
use Rattle.model.specs.Kernel.Waits.{open_count}
use Rattle.model.specs.Shared.Lists.{times_in}
use Rattle.headline.proofs.Laws.{Waits, at-place, first-waits}
use Rattle.headline.specs.facts.Standing.{AllStand, IsControlBlock}
use Rattle.headline.specs.moves.Laws.{Laws}
use Rattle.headline.specs.moves.Moving.{CallsAt}
use Rattle.response.specs.Asking.{Accepts, Acknowledges, Answers, Asked, Asks_nothing, Calls, Looks, Polls, Rings, SendsTo, Takes, Tries, asked_at}
use Rattle.response.specs.Laws.{WaitsToTake}
use Rattle.response.specs.Left.{irq_lines, left, left_of_line, left_of_thread, left_of_word, point_now, total}
use Rattle.response.specs.Levels.{is_of_level}
use Rattle.response.specs.Owed.{PayAnswers, WaitsWhereAsked, asked_noted, asked_there, going_on, owed, owed_as, owed_of_thread, pays_answer, work}
use Rattle.response.specs.Weights.{Leads, Pays, Price, Weights, pays_for, price_of}
use Rattle.response.proofs.AskedNow.{asked_now, may_wait}
use Rattle.response.proofs.CallLeads.{call-leads, next-address, next-inside}
use Rattle.response.proofs.Interrupts.{word-of}
use Rattle.response.proofs.LevelCalls.{found-price, line-pays, lines-kept}
use Rattle.response.proofs.NamedNow.{asks-so}
use Rattle.response.proofs.OthersMoved.{answered, as_it_was, gave, owed-runs, reached_by, rests-left, rung-reached, share, takers_in, worth}
use Rattle.response.proofs.OwnCalls.{pc_at}
use Rattle.response.proofs.OwnMessages.{elsewhere-status, ReceiveEnds, SendEnds, TakeEnds, sent_awaits, sent_passed, sent_queued, status_at, sent_stopped}
use Rattle.response.proofs.OwnMessages.{got_one, got_word, stays-pc, stays_on, stays_there}
use Rattle.response.proofs.ReachedPay.{moves-so, never-none, no_more, other-kept, quietly, reached-pay, rings, total-both, word-grown, words-kept}
use Rattle.response.proofs.Rises.{none-some, one-some, rung_cost}
use Rattle.response.proofs.Rung.{pended, rung_by}
use Rattle.response.proofs.Sums.{threads-once}
use Rattle.response.proofs.TwoEntries.{falls-by, moves}
use Rattle.response.proofs.WaitingThreads.{asks-there}
use Rattle.response.proofs.Woken.{point-of}

-- ---- what pays

-- the price of what a call rings or tries to send to
abbrev free_cost : Weights → Asked → ℕ
free_cost w (Rings o) = price_of w o
free_cost w (Tries o) = price_of w o
free_cost w (Takes o) = 0
free_cost w (Polls o) = 0
free_cost w (Acknowledges number) = 0
free_cost w (Accepts o replies) = 0
free_cost w (Looks o) = 0
free_cost w (SendsTo o) = 0
free_cost w (Calls o) = 0
free_cost w Answers = 0
free_cost w Asks_nothing = 0

free-paid : (w : Weights) (budget here next : ℕ) (asked : Asked) → may_wait asked ≡ false → pays_for w budget here next asked ≡ true
    → next + free_cost w asked ≤ here
free-paid w budget here next (Takes o) free paid = absurd (let clash : true ≡ false = free in cc)
free-paid w budget here next (Polls o) free paid = let less = leb-true next here paid in omega (arith, less)
free-paid w budget here next (Rings o) free paid = let less = leb-true (price_of w o + next) here paid in omega (arith, less)
free-paid w budget here next (Acknowledges number) free paid = let less = leb-true next here paid in omega (arith, less)
free-paid w budget here next (Accepts o replies) free paid = absurd (let clash : true ≡ false = free in cc)
free-paid w budget here next (Looks o) free paid = let less = leb-true next here paid in omega (arith, less)
free-paid w budget here next (SendsTo o) free paid = absurd (let clash : true ≡ false = free in cc)
free-paid w budget here next (Calls o) free paid = absurd (let clash : true ≡ false = free in cc)
free-paid w budget here next (Tries o) free paid = let less = leb-true (price_of w o + next) here paid in omega (arith, less)
free-paid w budget here next Answers free paid = let less = leb-true next here paid in omega (arith, less)
free-paid w budget here next Asks_nothing free paid = let less = leb-true next here paid in omega (arith, less)

one-queue : {a b : ℕ} → Blocked a ≡ Blocked b → a ≡ b
one-queue both = cc

module _ (laws : Laws) (bytes : List ℕ) (image : Image) (accepted : IsAccepted bytes image) (priority : ℕ) (w : Weights) (pays : Pays image priority w)
    (s after : State) (labels later : List Label) (all : AllStand image s labels) (behind : AllStand image after later)
    (told : (a b : ThreadState) → (a ≡ b) ⊎ (a ≢ b)) (t : Numbered) (listed : Contains (numbered_threads image) t)
    (within : WithinAuthority image t.thread s after)
    (takes : (u : Numbered) (queue : ℕ) (n : NotificationState) (others : List ℕ) → Contains (numbered_threads image) u
    → s.objects queue ≡ Some (NotificationObject n) → n.waiters ≡ tcb_of image u ∷ others → WaitsToTake image u s labels queue)
    (where_asked : (u : Numbered) → Contains (numbered_threads image) u → WaitsWhereAsked image u s)
    (counts : (thread : ℕ) → thread ≢ tcb_of image t → open_count thread later ≡ open_count thread labels)
    (bound : (number : ℕ) → number < 64 → binding after number ≡ binding s number)
    (answers : PayAnswers image priority w) (level : is_of_level priority t ≡ true) (own : ThreadState) (point : ℕ) (state : PointState) (answer : AfterCall)
    (at : CallsAt image t s labels own point state answer)
    (count : may_wait (asked_now s (tcb_of image t)) ≡ false → open_count (tcb_of image t) later ≡ open_count (tcb_of image t) labels + 1)
    (goes : may_wait (asked_now s (tcb_of image t)) ≡ false → is_runnable (thread_at after (tcb_of image t)).status ≡ true
    → pc_at after (tcb_of image t) ≡ (pc_at s (tcb_of image t) + 4) % 2 ^ 32)
    (sends : (e : ℕ) → asked_now s (tcb_of image t) ≡ SendsTo e → SendEnds s (tcb_of image t) e false after)
    (calls : (e : ℕ) → asked_now s (tcb_of image t) ≡ Calls e → SendEnds s (tcb_of image t) e true after)
    (accepts : (e : ℕ) (replies : Bool) → asked_now s (tcb_of image t) ≡ Accepts e replies → ReceiveEnds s (tcb_of image t) e after)
    (waits_so : (o : ℕ) → asked_now s (tcb_of image t) ≡ Takes o → TakeEnds s (tcb_of image t) o after)
    (taken : (o : ℕ) → asked_now s (tcb_of image t) ≡ Takes o → is_runnable (thread_at after (tcb_of image t)).status ≡ true
    → ((notification_at s o).word == 0 ≡ false) × (word-of (after.objects o) ≡ 0))
    (spent : open_count (tcb_of image t) labels + 1 ≤ t.thread.header.budget) where
  abbrev tcb : ℕ
  tcb = tcb_of image t

  abbrev here : ℕ
  here = w.still t.number point

  abbrev next : ℕ
  next = w.still t.number (point + 1)

  abbrev asked : Asked
  asked = asked_now s (tcb_of image t)

  abbrev before_of : Numbered → ℕ
  before_of = share image priority w s labels

  abbrev after_of : Numbered → ℕ
  after_of = share image priority w after later

  asked-is : asked_at image t.thread point state ≡ asked
  asked-is = asks-so laws bytes image s labels accepted t listed own point state answer at

  leads : Leads image t point state (point + 1)
  leads = call-leads laws bytes image accepted t listed point state answer at.stands.inside at.stands.known at.ecall at.call

  paid : pays_for w t.thread.header.budget here next asked ≡ true
  paid = subst (λ (a : Asked). pays_for w t.thread.header.budget here next a ≡ true) asked-is
      (pays.points t point state (point + 1) listed level at.stands.inside at.stands.known leads)

  paid-answer : pays_answer w t.thread.header.budget here next asked ≡ true
  paid-answer = subst (λ (a : Asked). pays_answer w t.thread.header.budget here next a ≡ true) asked-is
      (answers t point state (point + 1) listed level at.stands.inside at.stands.known leads)

  -- ---- the thread itself

  same-own : thread_at s tcb ≡ own
  same-own = at-place s tcb own at.there

  spot : (point_now image s t ≡ point) × (asked_there image s t ≡ asked_at image t.thread point state)
  spot = asks-there image t s own point state at.there at.stands

  left-before : left_of_thread image priority w s labels t ≡ t.thread.header.budget - open_count tcb labels + here
  left-before =
      ap (λ (b : Bool). if b && is_runnable (thread_at s tcb).status
      then t.thread.header.budget - open_count tcb labels + w.still t.number (point_now image s t) else 0) level
      ∙ ap (λ (b : Bool). if b then t.thread.header.budget - open_count tcb labels + w.still t.number (point_now image s t) else 0)
      (ap (λ (u : ThreadState). is_runnable u.status) same-own ∙ ap is_runnable at.status)
      ∙ ap (λ (k : ℕ). t.thread.header.budget - open_count tcb labels + w.still t.number k) spot.0

  owed-before : owed_of_thread image priority w s t ≡ 0
  owed-before = owed-runs image priority w s t (ap (λ (u : ThreadState). u.status) same-own ∙ at.status)

  before-is : before_of t ≡ t.thread.header.budget - open_count tcb labels + here
  before-is = let a = left-before in let b = owed-before in omega (arith, a, b)

  -- where it goes on

  next-now : pc_at after (tcb_of image t) ≡ (pc_at s (tcb_of image t) + 4) % 2 ^ 32 → point_now image after t ≡ point + 1
  next-now pc =
      ap (λ (k : ℕ). (k - t.thread.header.base) / 4)
      (pc ∙ ap (λ (u : ThreadState). (u.registers.pc + 4) % 2 ^ 32) same-own ∙ ap (λ (k : ℕ). (k + 4) % 2 ^ 32) at.stands.pc
      ∙ next-address t.thread.header.base t.thread.header.words point (laws.ends bytes image t accepted listed)
      (next-inside laws bytes image accepted t listed point state answer at.stands.inside at.stands.known at.ecall at.call))
      ∙ point-of t.thread.header.base (point + 1)

  runs-now : is_runnable (thread_at after tcb).status ≡ true → pc_at after tcb ≡ (pc_at s tcb + 4) % 2 ^ 32
      → after_of t ≡ t.thread.header.budget - open_count tcb later + next
  runs-now runs_ pc =
      let status = runs-status (thread_at after tcb).status refl runs_ in
      let left_now : left_of_thread image priority w after later t ≡ t.thread.header.budget - open_count tcb later + next =
      ap (λ (b : Bool). if b && is_runnable (thread_at after tcb).status
      then t.thread.header.budget - open_count tcb later + w.still t.number (point_now image after t) else 0) level
      ∙ ap (λ (b : Bool). if b then t.thread.header.budget - open_count tcb later + w.still t.number (point_now image after t) else 0) runs_
      ∙ ap (λ (k : ℕ). t.thread.header.budget - open_count tcb later + w.still t.number k) (next-now pc) in
      let owed_now = owed-runs image priority w after t status in
      omega (arith, left_now, owed_now)
    where
      runs-status : (status : Status) → (thread_at after tcb).status ≡ status → is_runnable status ≡ true → (thread_at after tcb).status ≡ Runnable
      runs-status Runnable is _ = is
      runs-status Inactive is denied = absurd (let clash : false ≡ true = denied in cc)
      runs-status (Blocked queue) is denied = absurd (let clash : false ≡ true = denied in cc)
      runs-status AwaitsReply is denied = absurd (let clash : false ≡ true = denied in cc)
      runs-status AwaitsHandler is denied = absurd (let clash : false ≡ true = denied in cc)

  -- where it waits
  waits-now : (status : Status) → (thread_at after tcb).status ≡ status → is_runnable status ≡ false → pc_at after tcb ≡ pc_at s tcb
      → after_of t ≡ owed_as w (t.thread.header.budget + next) asked status
  waits-now status is rests pc =
      let left_now = rests-left image priority w after later t (ap is_runnable is ∙ rests) in
      let same : point_now image after t ≡ point = ap (λ (k : ℕ). (k - t.thread.header.base) / 4) pc ∙ spot.0 in
      let before_asked : asked_noted image t point (noted image t point) ≡ asked_at image t.thread point state =
      ap (λ (n : Noted). asked_noted image t point n) at.stands.known in
      let owed_now : owed_of_thread image priority w after t ≡ owed_as w (t.thread.header.budget + next) asked status =
      ap (λ (k : ℕ). owed_as w (going_on priority w t k) (asked_noted image t k (noted image t k)) (thread_at after tcb).status) same
      ∙ ap (λ (a : Asked). owed_as w (going_on priority w t point) a (thread_at after tcb).status) (before_asked ∙ asked-is)
      ∙ ap (λ (x : Status). owed_as w (going_on priority w t point) asked x) is
      ∙ ap (λ (b : Bool). owed_as w (if b then t.thread.header.budget + next else 0) asked status) level in
      omega (arith, left_now, owed_now)

  -- it does not stop
  never-stops : (thread_at after tcb).status ≡ Inactive → ⊥
  never-stops stops = by-invariant (behind.stand t listed)
    where
      by-invariant : ThreadInvariant image t after later → ⊥
      by-invariant (runs now p st there status stands budget) =
          let clash : Runnable ≡ Inactive = sym status ∙ sym (ap (λ (u : ThreadState). u.status) (at-place after tcb now there)) ∙ stops in absurd cc
      by-invariant (waits now p st there status stands asks none) =
          subst IsWaiting (sym (ap (λ (u : ThreadState). u.status) (at-place after tcb now there)) ∙ stops) status

  -- a call that is denied wait leaves it running
  runs-on : may_wait (asked_now s (tcb_of image t)) ≡ false → is_runnable (thread_at after tcb).status ≡ true
  runs-on free = by-invariant (behind.stand t listed)
    where
      by-invariant : ThreadInvariant image t after later → is_runnable (thread_at after tcb).status ≡ true
      by-invariant (runs now p st there status stands budget) =
          ap (λ (u : ThreadState). is_runnable u.status) (at-place after tcb now there) ∙ ap is_runnable status
      by-invariant (waits now p st there status stands asks none) =
          absurd (let more = count free in omega (arith, more, none))

  -- ---- sums

  abbrev Falls : Type 0
  Falls = work image priority w after later + 1 ≤ work image priority w s labels

  pends : (number : ℕ) → after.pending number ≡ true → s.pending number ≡ true
  pends = pended image t.thread s after all.sound.slots.derivation.valid within

  lines : total (left_of_line w after) irq_lines ≤ total (left_of_line w s) irq_lines
  lines = lines-kept image w s after bound pends

  by-parts : total after_of (numbered_threads image) + total (left_of_word w after) w.prices + total (left_of_line w after) irq_lines + 1
      ≤ total before_of (numbered_threads image) + total (left_of_word w s) w.prices + total (left_of_line w s) irq_lines → Falls
  unfolding left owed
  by-parts less =
      let a = total-both (left_of_thread image priority w after later) (owed_of_thread image priority w after) (numbered_threads image) in
      let b = total-both (left_of_thread image priority w s labels) (owed_of_thread image priority w s) (numbered_threads image) in
      omega (arith, less, a, b)

  pay : (n : ℕ) → after_of t + n ≤ before_of t
      → total after_of (numbered_threads image) + total (left_of_word w after) w.prices + n
      ≤ total before_of (numbered_threads image) + total (left_of_word w s) w.prices + rung_cost w (reached_by s after asked)
  pay n falls =
      reached-pay laws bytes image accepted priority w pays s after labels later all behind told t listed within takes where_asked counts n falls

  -- ---- where it does not wait

  passes-so : may_wait (asked_now s (tcb_of image t)) ≡ false → Falls
  passes-so free =
      let less = free-paid w t.thread.header.budget here next asked free paid in
      let b = before-is in
      let more = count free in
      let now = runs-now (runs-on free) (goes free (runs-on free)) in
      let sum = pay (free_cost w asked + 1) (omega (arith, less, b, more, now, spent)) in
      let covered = cover asked free in
      by-parts (omega (arith, sum, covered))
    where
      cover : (a : Asked) → may_wait a ≡ false
          → total (left_of_line w after) irq_lines + rung_cost w (reached_by s after a) ≤ total (left_of_line w s) irq_lines + free_cost w a
      cover (Rings o) none = let kept_ = lines in omega (arith, kept_)
      cover (Acknowledges number) none = let line = (line-pays image w s after bound pends (Acknowledges number) (λ o clash. absurd cc)).pays in omega
          (arith, line)
      cover (Takes o) none = let kept_ = lines in omega (arith, kept_)
      cover (Polls o) none = let kept_ = lines in omega (arith, kept_)
      cover (Accepts o replies) none = let kept_ = lines in omega (arith, kept_)
      cover (Looks o) none = let kept_ = lines in omega (arith, kept_)
      cover (SendsTo o) none = absurd (let clash : true ≡ false = none in cc)
      cover (Calls o) none = absurd (let clash : true ≡ false = none in cc)
      cover (Tries o) none = let kept_ = lines in omega (arith, kept_)
      cover Answers none = let kept_ = lines in omega (arith, kept_)
      cover Asks_nothing none = let kept_ = lines in omega (arith, kept_)

  -- ---- where it sends or calls

  module _ (e : ℕ) (enough : price_of w e + t.thread.header.budget + next ≤ w.still t.number point) (reaches : reached_by s after asked ≡ Some e)
      (rings_none : rung_by s after asked ≡ None) where
    cost-is : rung_cost w (reached_by s after asked) ≡ price_of w e
    cost-is = ap (rung_cost w) reaches

    passed-so : after_of t ≤ t.thread.header.budget + next → Falls
    passed-so now =
        let b = before-is in
        let sum = pay (price_of w e + 1) (omega (arith, enough, b, now, spent)) in
        let cost = cost-is in
        let line = lines in
        by-parts (omega (arith, sum, cost, line))

    queued-so : (q : EndpointState) → s.objects e ≡ Some (EndpointObject q) → q.receivers ≡ []
        → after_of t ≤ price_of w e + (t.thread.header.budget + next) → Falls
    queued-so q is nobody now =
        let b = before-is in
        let sum = quietly laws bytes image accepted priority w pays s after labels later all behind told t listed within takes where_asked counts 1
        (omega (arith, enough, b, now, spent))
        (λ u o rest so first.
        let same : o ≡ e = one-some (sym so ∙ reaches) in
        let clash : ◌≡◌ {A = List ℕ} [] (tcb_of image u ∷ rest) =
        sym nobody ∙ sym (ap takers_in is) ∙ ap (λ (k : ℕ). takers_in (s.objects k)) (sym same) ∙ first in
        absurd cc) rings_none in
        let line = lines in
        by-parts (omega (arith, sum, line))

    by-ends : (is_call : Bool) → (is_call ≡ true → asked ≡ Calls e) → ((status : Status) → status ≡ Blocked e
        → owed_as w (t.thread.header.budget + next) asked status ≡ price_of w e + (t.thread.header.budget + next))
        → SendEnds s (tcb_of image t) e is_call after → Falls
    by-ends is_call called queue_owes (sent_passed status pc) =
        let now = runs-now (ap is_runnable status) pc in passed-so (omega (arith, now))
    by-ends is_call called queue_owes (sent_queued status kept q is nobody) =
        let now = waits-now (Blocked e) status refl (stays-pc s after (tcb_of image t) kept) in
        let owes = queue_owes (Blocked e) refl in
        queued-so q is nobody (omega (arith, now, owes))
    by-ends is_call called queue_owes (sent_awaits y rest status kept is_caller first right) =
        let now = waits-now AwaitsReply status refl (stays-pc s after (tcb_of image t) kept) in
        let owes : owed_as w (t.thread.header.budget + next) asked AwaitsReply ≡ t.thread.header.budget + next =
        ap (λ (a : Asked). owed_as w (t.thread.header.budget + next) a AwaitsReply) (called is_caller) in
        passed-so (omega (arith, now, owes))
    by-ends is_call called queue_owes (sent_stopped status) = absurd (never-stops status)

  sends-so : (e : ℕ) → asked_now s (tcb_of image t) ≡ SendsTo e → Falls
  sends-so e is =
      by-ends e
      (leb-true (price_of w e + t.thread.header.budget + next) here
      (subst (λ (a : Asked). pays_for w t.thread.header.budget here next a ≡ true) is paid))
      (ap (reached_by s after) is) (ap (rung_by s after) is) false (λ denied. absurd (let clash : false ≡ true = denied in cc))
      (λ status so. ap (λ (x : Status). owed_as w (t.thread.header.budget + next) asked x) so
      ∙ ap (λ (a : Asked). owed_as w (t.thread.header.budget + next) a (Blocked e)) is) (sends e is)

  calls-so : (e : ℕ) → asked_now s (tcb_of image t) ≡ Calls e → Falls
  calls-so e is =
      by-ends e
      (leb-true (price_of w e + t.thread.header.budget + next) here
      (subst (λ (a : Asked). pays_answer w t.thread.header.budget here next a ≡ true) is paid-answer))
      (ap (reached_by s after) is) (ap (rung_by s after) is) true (λ _. is)
      (λ status so. ap (λ (x : Status). owed_as w (t.thread.header.budget + next) asked x) so
      ∙ ap (λ (a : Asked). owed_as w (t.thread.header.budget + next) a (Blocked e)) is) (calls e is)

  -- ---- where nothing is reached, and it waits

  stays-so : reached_by s after asked ≡ None → after_of t ≡ 0 → Falls
  stays-so none now =
      let b = before-is in
      let sum = pay 1 (omega (arith, now, b, spent)) in
      let cost : rung_cost w (reached_by s after asked) ≡ 0 = ap (rung_cost w) none in
      let line = lines in
      by-parts (omega (arith, sum, cost, line))

  no-rung : reached_by s after asked ≡ None → (o : Option ℕ) → rung_by s after asked ≡ o → rung_by s after asked ≡ None
  no-rung none None is = is
  no-rung none (Some o) is = absurd (none-some (sym none ∙ rung-reached s after asked o is))

  -- one other may lose, and it gains
  abbrev Gains : ℕ → Type 0
  Gains k = after_of t ≤ before_of t + k

  kept-apart : reached_by s after asked ≡ None → (u : Numbered) → Contains (numbered_threads image) u → tcb_of image u ≢ tcb → after_of u ≤ before_of u
  kept-apart none u among apart =
      other-kept laws bytes image accepted priority w pays s after labels later all behind told t listed within takes where_asked counts
      (never-none laws bytes image accepted priority w pays s after labels later all behind told t listed within takes where_asked counts none) u among apart

  own-gains : (k : ℕ) → Gains k → (u : Numbered) → Contains (numbered_threads image) u → tcb_of image u ≡ tcb → after_of u ≤ before_of u + k
  own-gains k gains u among same =
      subst (λ (x : Numbered). after_of x ≤ before_of x + k) (sym (laws.own_blocks bytes image u t accepted among listed same)) gains

  once : times_in (map (tcb_of image) (numbered_threads image)) tcb ≤ 1
  once = threads-once image tcb (λ u v a b alike. laws.own_blocks bytes image u v accepted a b alike)

  -- ---- where it accepts

  module _ (e : ℕ) (replies : Bool) (is : asked_now s (tcb_of image t) ≡ Accepts e replies) where
    worth-own : t.thread.header.budget + next ≤ price_of w e
    worth-own = leb-true (t.thread.header.budget + next) (price_of w e)
        (subst (λ (a : Asked). pays_for w t.thread.header.budget here next a ≡ true) is paid)

    nothing-reached : reached_by s after asked ≡ None
    nothing-reached = ap (reached_by s after) is

    module _ (first : Sender) (others : List Sender) (head : (endpoint_at s e).senders ≡ first ∷ others)
        (gone : status_at after first.thread ≡ Blocked e → ⊥) where
      standing : (o : Option Object) → (option_map_or (λ (x : EndpointState). x) (as_endpoint o) new_endpoint).senders ≡ first ∷ others
          → (rest : List ℕ) × (waiting_at o ≡ first.thread ∷ rest)
      standing (Some (EndpointObject q)) so =
          (map (λ (x : Sender). x.thread) others ++ q.receivers, ap (λ (l : List Sender). map (λ (x : Sender). x.thread) l ++ q.receivers) so)
      standing None so = absurd (let clash : ◌≡◌ {A = List Sender} [] (first ∷ others) = so in cc)
      standing (Some (ThreadObject x)) so = absurd (let clash : ◌≡◌ {A = List Sender} [] (first ∷ others) = so in cc)
      standing (Some (NotificationObject n)) so = absurd (let clash : ◌≡◌ {A = List Sender} [] (first ∷ others) = so in cc)
      standing (Some (CNodeObject radix)) so = absurd (let clash : ◌≡◌ {A = List Sender} [] (first ∷ others) = so in cc)
      standing (Some FrameObject) so = absurd (let clash : ◌≡◌ {A = List Sender} [] (first ∷ others) = so in cc)
      standing (Some PageTableObject) so = absurd (let clash : ◌≡◌ {A = List Sender} [] (first ∷ others) = so in cc)
      standing (Some RootTableObject) so = absurd (let clash : ◌≡◌ {A = List Sender} [] (first ∷ others) = so in cc)

      sender-waits : Waits s first.thread e
      sender-waits = let there = standing (s.objects e) head in first-waits s all.sound e first.thread there.0 there.1

      -- a thread of the image, and another one
      sender-is : IsControlBlock image first.thread
      sender-is = elim (all.others first.thread (Waits.own sender-waits) (Waits.is sender-waits)) [
        | inl stops ↦ absurd (let clash : Inactive ≡ Blocked e = sym stops ∙ Waits.blocked sender-waits in cc)
        | inr block ↦ block
      ]

      abbrev other : Numbered
      other = sender-is.thread

      was-blocked : (thread_at s (tcb_of image other)).status ≡ Blocked e
      was-blocked = ap (λ (k : ℕ). (thread_at s k).status) (sym sender-is.is)
          ∙ ap (λ (u : ThreadState). u.status) (at-place s first.thread (Waits.own sender-waits) (Waits.is sender-waits)) ∙ Waits.blocked sender-waits

      other-apart : tcb_of image other ≢ tcb
      other-apart same =
          let clash : Blocked e ≡ Runnable = sym was-blocked ∙ ap (λ (k : ℕ). (thread_at s k).status) same ∙ ap (λ (u : ThreadState). u.status) same-own
          ∙ at.status in
          absurd cc

      other-falls : after_of other + price_of w e ≤ before_of other
      other-falls =
          elim (moves-so laws bytes image accepted priority w pays s after labels later all behind told t listed within takes where_asked counts other
          sender-is.listed other-apart) [
            | as_it_was so less ↦
                absurd (gone (ap (λ (k : ℕ). (thread_at after k).status) sender-is.is
                ∙ elsewhere-status s after (tcb_of image other) so ∙ was-blocked))
            | worth o rest so first_ worth_ ↦ absurd (none-some (sym nothing-reached ∙ so))
            | gave place blocked less ↦ (
                let same : place ≡ e = one-queue (sym blocked ∙ was-blocked) in
                let price : price_of w place ≡ price_of w e = ap (price_of w) same in
                omega (arith, less, price))
            | answered awaits less ↦ absurd (let clash : AwaitsReply ≡ Blocked e = sym awaits ∙ was-blocked in cc)
          ]

      threads-move : (k : ℕ) → price_of w e ≡ k + 1 → after_of t ≤ t.thread.header.budget + next
          → total after_of (numbered_threads image) + (k + 1) ≤ total before_of (numbered_threads image) + k
      threads-move k price now =
          let b = before-is in
          let worth_ = worth-own in
          let gains : Gains k = omega (arith, now, b, worth_, price, spent) in
          let falls = other-falls in
          moves (tcb_of image) before_of after_of tcb k (k + 1) (numbered_threads image) other sender-is.listed
          (λ u among apart. kept-apart nothing-reached u among apart) (λ u among same. own-gains k gains u among same)
          (λ _. omega (arith, falls, price)) (λ same. absurd (other-apart same)) once

      took-so : after_of t ≤ t.thread.header.budget + next → Falls
      took-so now = by-price (price_of w e) refl
        where
          by-price : (n : ℕ) → price_of w e ≡ n → Falls
          by-price zero none = absurd (let worth_ = worth-own in omega (arith, none, worth_, spent))
          by-price (suc k) some =
              let threads = threads-move k (some ∙ one-more k) now in
              let words = words-kept laws bytes image accepted priority w pays s after labels later all behind told t listed within takes where_asked counts
              (no-rung nothing-reached (rung_by s after asked) refl) in
              let line = lines in
              by-parts (omega (arith, threads, words, line))
            where
              one-more : (n : ℕ) → suc n ≡ n + 1
              one-more n = omega arith

    accepts-so : ReceiveEnds s (tcb_of image t) e after → Falls
    accepts-so (got_one first others status pc head gone right message got) =
        let now = runs-now (ap is_runnable status) pc in took-so first others head gone (omega (arith, now))
    accepts-so (stays_there status pc nobody) =
        stays-so nothing-reached (waits-now (Blocked e) status refl pc ∙ ap (λ (a : Asked). owed_as w (t.thread.header.budget + next) a (Blocked e)) is)

  -- ---- where it takes

  module _ (o : ℕ) (is : asked_now s (tcb_of image t) ≡ Takes o) where
    worth-word : t.thread.header.budget + next ≤ price_of w o
    worth-word = leb-true (t.thread.header.budget + next) (price_of w o)
        (subst (λ (a : Asked). pays_for w t.thread.header.budget here next a ≡ true) is paid)

    takes-nothing : reached_by s after asked ≡ None
    takes-nothing = ap (reached_by s after) is

    no-bell : rung_by s after asked ≡ None
    no-bell = ap (rung_by s after) is

    one-word-kept : (p : Price) → left_of_word w after p ≤ left_of_word w s p
    one-word-kept p =
        elim (word-grown laws bytes image accepted priority w pays s after labels later all behind told t listed within takes where_asked counts p) [
          | no_more less ↦ less
          | rings so nobody ↦ absurd (none-some (sym no-bell ∙ so))
        ]

    word-falls : (p : Price) → Contains w.prices p → p.object ≡ o → is_runnable (thread_at after tcb).status ≡ true
        → total (left_of_word w after) w.prices + p.price ≤ total (left_of_word w s) w.prices
    word-falls p among same runs_ =
        let word = taken o is runs_ in
        let was : left_of_word w s p ≡ p.price =
        ap (λ (k : ℕ). if (notification_at s k).word == 0 then 0 else p.price) same ∙ ap (λ (b : Bool). if b then 0 else p.price) word.0 in
        let gone : left_of_word w after p ≡ 0 =
        ap (λ (k : ℕ). if (notification_at after k).word == 0 then 0 else p.price) same ∙ ap (λ (k : ℕ). if k == 0 then 0 else p.price) word.1 in
        falls-by (left_of_word w s) (left_of_word w after) w.prices p p.price among (λ q _. one-word-kept q) (omega (arith, was, gone))

    threads-gain : (k : ℕ) → after_of t + 1 ≤ before_of t + k
        → total after_of (numbered_threads image) + 1 ≤ total before_of (numbered_threads image) + k
    threads-gain k less =
        moves (tcb_of image) before_of after_of tcb k 1 (numbered_threads image) t listed (λ u among apart. kept-apart takes-nothing u among apart)
        (λ u among same. own-gains k (omega (arith, less)) u among same) (λ apart. absurd (apart refl)) (λ _. less) once

    took-word : is_runnable (thread_at after tcb).status ≡ true → pc_at after tcb ≡ (pc_at s tcb + 4) % 2 ^ 32 → Falls
    took-word runs_ pc =
        let worth_ = worth-word in
        let found = found-price o w.prices (omega (arith, worth_, spent)) in
        let e : found.0.price ≡ price_of w o = sym (pays.each found.0 found.1) ∙ ap (price_of w) found.2 in
        let b = before-is in
        let now = runs-now runs_ pc in
        let threads = threads-gain (price_of w o) (omega (arith, now, worth_, b, spent)) in
        let words = word-falls found.0 found.1 found.2 runs_ in
        let line = lines in
        by-parts (omega (arith, threads, words, line, e))

    takes-so : TakeEnds s (tcb_of image t) o after → Falls
    takes-so (got_word runs_ pc) = took-word runs_ pc
    takes-so (stays_on status pc) =
        stays-so takes-nothing (waits-now (Blocked o) status refl pc ∙ ap (λ (a : Asked). owed_as w (t.thread.header.budget + next) a (Blocked o)) is)

  -- ---- whatever it asks

  by-asked : (a : Asked) → asked_now s (tcb_of image t) ≡ a → Falls
  by-asked (Takes o) is = takes-so o is (waits_so o is)
  by-asked (Accepts o replies) is = accepts-so o replies is (accepts o replies is)
  by-asked (SendsTo o) is = sends-so o is
  by-asked (Calls o) is = calls-so o is
  by-asked (Polls o) is = passes-so (ap may_wait is)
  by-asked (Rings o) is = passes-so (ap may_wait is)
  by-asked (Acknowledges number) is = passes-so (ap may_wait is)
  by-asked (Looks o) is = passes-so (ap may_wait is)
  by-asked (Tries o) is = passes-so (ap may_wait is)
  by-asked Answers is = passes-so (ap may_wait is)
  by-asked Asks_nothing is = passes-so (ap may_wait is)

  pub call-works : work image priority w after later + 1 ≤ work image priority w s labels
  call-works = by-asked (asked_now s (tcb_of image t)) refl
