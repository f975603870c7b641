-- After a system call of a thread below denied more work is there than at rest, and what it brings to where a thread of the level rests that takes it.
use Rattle.std.proofs.Common.{ℕ, zero, suc, ◌≡◌, ◌≢◌, ◌∙◌, ◌⊎◌, ◌==◌, ◌&&◌, ◌-◌, ◌+◌, ◌<◌, ◌≤◌, inl, inr, Bool, true, false, if◌then◌else◌}
use Rattle.std.proofs.Common.{Option, nat_le}
use Rattle.std.proofs.Common.{Some, None, All, List, [], ◌∷◌}
use Rattle.std.proofs.Common.{refl, sym, ap, subst, arith}
use Rattle.std.specs.Prelude.{Contains}
use Rattle.std.proofs.lemmas.Bool.{leb-true}
use Rattle.std.proofs.lemmas.Bool.Decides.{eqb_tells}
use Rattle.model.specs.declared.events.Event.{Event}
use Rattle.model.specs.declared.labels.Label.{Label}
use Rattle.model.specs.Acceptance.Accepted.{IsAccepted}
use Rattle.model.specs.Acceptance.Authority.{WithinAuthority}
use Rattle.model.specs.Acceptance.CallRules.{AfterCall}
use Rattle.model.specs.Acceptance.Devices.{KeepsDevices}
use Rattle.model.specs.Acceptance.NotedStates.{PointState}
use Rattle.model.specs.Acceptance.PointStates.{Known, noted}
use Rattle.model.specs.Acceptance.ThreadInvariants.{IsWaiting, ThreadInvariant, runs, tcb_of, waits}
use Rattle.model.specs.Images.Described.{Numbered, described, numbered_threads}
use Rattle.model.specs.Images.Image.{Image}
use Rattle.model.specs.Kernel.Interrupts.{binding}
use Rattle.model.specs.Kernel.Scheduling.{is_runnable}
use Rattle.model.specs.Kernel.State.{AwaitsHandler, AwaitsReply, Blocked, CNodeObject, EndpointObject, EndpointState, FrameObject, Inactive}
use Rattle.model.specs.Kernel.State.{NotificationObject}
use Rattle.model.specs.Kernel.State.{NotificationState, Object, PageTableObject, RootTableObject, Runnable, State, Status, ThreadObject, ThreadState}
use Rattle.model.specs.Kernel.State.{notification_at}
use Rattle.model.specs.Kernel.State.{thread_at}
use Rattle.model.specs.Kernel.Steps.{state_after, trace}
use Rattle.model.specs.Kernel.Waits.{open_count}
use Rattle.headline.proofs.Laws.{at-place}
use Rattle.headline.specs.facts.Standing.{AllStand}
use Rattle.headline.specs.moves.Laws.{Laws}
use Rattle.headline.specs.moves.Moving.{CallsAt}
use Rattle.response.specs.Asking.{Asked, Takes, Polls, Rings, Acknowledges, Accepts, Looks, SendsTo, Calls, Tries, Answers, Asks_nothing, asked_at}
use Rattle.response.specs.DealtWith.{Rests}
use Rattle.response.specs.Laws.{WaitsToTake}
use Rattle.response.specs.Left.{irq_lines, left, left_of_line, left_of_thread, left_of_word, line_price, point_now, total}
use Rattle.response.specs.Levels.{is_of_level}
use Rattle.response.specs.Owed.{IsLeftAtRest, OweBelow, StepsFitWith, WaitsWhereAsked, asked_there, at_rest_with, comes_to, going_on, owed, owed_as}
use Rattle.response.specs.Owed.{owed_awaiting, owed_of_thread, owed_queued, owes_at_most, waiting_price, work}
use Rattle.response.specs.Weights.{Pays, Price, Weights, price_of}
use Rattle.response.proofs.AskedNow.{asked_now, may_wait}
use Rattle.response.proofs.AskedSteps.{asked-same}
use Rattle.response.proofs.AtBells.{there-is}
use Rattle.response.proofs.Costs.{total-less}
use Rattle.response.proofs.Doors.{sends-elsewhere, sent_to}
use Rattle.response.proofs.Interrupts.{word-of}
use Rattle.response.proofs.LevelCalls.{found-price, line-pays, lines-kept}
use Rattle.response.proofs.NamedNow.{asks-so}
use Rattle.response.proofs.OthersMoved.{answered, as_it_was, gave, owed-runs, reached_by, rests-left, rung-reached, share, takers_in, worth}
use Rattle.response.proofs.OwnCalls.{pc_at}
use Rattle.response.proofs.OwnMessages.{ReceiveEnds, SendEnds, TakeEnds, got_one, got_word, sent_awaits, sent_passed, sent_queued, sent_stopped, stays_on}
use Rattle.response.proofs.OwnMessages.{stays-pc, stays_there}
use Rattle.response.proofs.Passing.{or-then}
use Rattle.response.proofs.ReachedPay.{moves-so, no_more, other-kept, never-none, reached-pay, rings, total-both, word-grown}
use Rattle.response.proofs.Rises.{none-some, one-some, rung_cost}
use Rattle.response.proofs.Rung.{pended, rung_by}
use Rattle.response.proofs.Stage.{a-line, a-word}
use Rattle.response.proofs.Sums.{changed-once, threads-once}
use Rattle.response.proofs.TwoEntries.{falls-by}
use Rattle.response.proofs.WaitingThreads.{asks-there, owed-is, waits-at}

pub runs-is : (status : Status) → is_runnable status ≡ true → status ≡ Runnable
runs-is Runnable is = refl
runs-is Inactive is = absurd (let clash : false ≡ true = is in cc)
runs-is (Blocked queue) is = absurd (let clash : false ≡ true = is in cc)
runs-is AwaitsReply is = absurd (let clash : false ≡ true = is in cc)
runs-is AwaitsHandler is = absurd (let clash : false ≡ true = is in cc)

-- who waits for an answer goes on with nothing, if it is below
none-awaited : (asked : Asked) → owed_awaiting 0 asked ≡ 0
none-awaited (Calls o) = refl
none-awaited (SendsTo o) = refl
none-awaited (Takes o) = refl
none-awaited (Polls o) = refl
none-awaited (Rings o) = refl
none-awaited (Acknowledges number) = refl
none-awaited (Accepts o replies) = refl
none-awaited (Looks o) = refl
none-awaited (Tries o) = refl
none-awaited Answers = refl
none-awaited Asks_nothing = refl

-- ---- what is owed is at most what may be

-- a message that waits is at no endpoint where messages are taken at once
abbrev WaitsElsewhere : (ℕ → Bool) → Asked → Status → Type 0
WaitsElsewhere is_taken asked status = (queue : ℕ) → status ≡ Blocked queue → (o : ℕ) → sent_to asked ≡ Some o → is_taken o ≡ false

owed-less : (w : Weights) (is_taken : ℕ → Bool) (level : Bool) (next most : ℕ) (asked : Asked) (status : Status) → WaitsElsewhere is_taken asked status
    → owes_at_most w is_taken level next most asked ≡ true → owed_as w next asked status ≤ most
owed-less w is_taken level next most (SendsTo o) (Blocked queue) waits_off is =
    leb-true (price_of w o + next) most (or-then (is_taken o) (nat_le (price_of w o + next) most) (waits_off queue refl o refl) is)
owed-less w is_taken level next most (Calls o) (Blocked queue) waits_off is =
    let less = leb-true (waiting_price w is_taken o + next) most is in
    let price : waiting_price w is_taken o ≡ price_of w o = ap (λ (b : Bool). if b then 0 else price_of w o) (waits_off queue refl o refl) in
    omega (arith, less, price)
owed-less w is_taken level next most (Calls o) AwaitsReply waits_off is =
    let less = leb-true (waiting_price w is_taken o + next) most is in omega (arith, less)
owed-less w is_taken level next most (SendsTo o) AwaitsReply waits_off is = omega arith
owed-less w is_taken level next most (Takes o) (Blocked queue) waits_off is = omega arith
owed-less w is_taken level next most (Takes o) AwaitsReply waits_off is = omega arith
owed-less w is_taken level next most (Polls o) (Blocked queue) waits_off is = omega arith
owed-less w is_taken level next most (Polls o) AwaitsReply waits_off is = omega arith
owed-less w is_taken level next most (Rings o) (Blocked queue) waits_off is = omega arith
owed-less w is_taken level next most (Rings o) AwaitsReply waits_off is = omega arith
owed-less w is_taken level next most (Acknowledges number) (Blocked queue) waits_off is = omega arith
owed-less w is_taken level next most (Acknowledges number) AwaitsReply waits_off is = omega arith
owed-less w is_taken level next most (Accepts o replies) (Blocked queue) waits_off is = omega arith
owed-less w is_taken level next most (Accepts o replies) AwaitsReply waits_off is = omega arith
owed-less w is_taken level next most (Looks o) (Blocked queue) waits_off is = omega arith
owed-less w is_taken level next most (Looks o) AwaitsReply waits_off is = omega arith
owed-less w is_taken level next most (Tries o) (Blocked queue) waits_off is = omega arith
owed-less w is_taken level next most (Tries o) AwaitsReply waits_off is = omega arith
owed-less w is_taken level next most Answers (Blocked queue) waits_off is = omega arith
owed-less w is_taken level next most Answers AwaitsReply waits_off is = omega arith
owed-less w is_taken level next most Asks_nothing (Blocked queue) waits_off is = omega arith
owed-less w is_taken level next most Asks_nothing AwaitsReply waits_off is = omega arith
owed-less w is_taken level next most asked Inactive waits_off is = omega arith
owed-less w is_taken level next most asked Runnable waits_off is = omega arith
owed-less w is_taken level next most asked AwaitsHandler waits_off is = omega arith

-- what a thread owes is at most what it may wait with at each of its points, where nobody waits to send where messages are taken at once
module _ (laws : Laws) (bytes : List ℕ) (image : Image) (accepted : IsAccepted bytes image) (priority : ℕ) (w : Weights) (is_taken : ℕ → Bool) (s : State)
    (labels : List Label) (all : AllStand image s labels)
    (nobody : (o : ℕ) (e : EndpointState) → is_taken o ≡ true → s.objects o ≡ Some (EndpointObject e) → e.senders ≡ []) (u : Numbered)
    (among : Contains (numbered_threads image) u) (asked_so : WaitsWhereAsked image u s) (most : ℕ)
    (owe : (point : ℕ) (state : PointState) → point < u.thread.header.words → noted image u point ≡ Known state
    → owes_at_most w is_taken (is_of_level priority u) (going_on priority w u point) most (asked_at image u.thread point state) ≡ true) where
  by-status : (own : ThreadState) → s.objects (tcb_of image u) ≡ Some (ThreadObject own) → (b : Bool) → is_runnable own.status ≡ b
      → owed_of_thread image priority w s u ≤ most
  by-status own is false rests =
      let v = waits-at laws bytes image s labels accepted all u among own is rests in
      let e = owed-is laws bytes image s labels accepted all u among own v priority w in
      let less = owed-less w is_taken (is_of_level priority u) (going_on priority w u v.point) most (asked_at image u.thread v.point v.state) own.status
      (sends-elsewhere laws bytes image s labels accepted all u among asked_so is_taken nobody own v)
      (owe v.point v.state v.stands.inside v.stands.known) in
      omega (arith, e, less)
  by-status own is true runs_ =
      let none = owed-runs image priority w s u (ap (λ (x : ThreadState). x.status) (at-place s (tcb_of image u) own is) ∙ runs-is own.status runs_) in
      omega (arith, none)

  pub owes-less : owed_of_thread image priority w s u ≤ most
  owes-less = let own = there-is image u s labels (all.stand u among) in by-status own.0 own.1 (is_runnable own.0.status) refl

-- so does one below the level
pub below-owes : (laws : Laws) (bytes : List ℕ) (image : Image) (accepted : IsAccepted bytes image) (priority : ℕ) (w : Weights) (is_taken : ℕ → Bool)
    (owed_most : ℕ → ℕ) → OweBelow image priority w is_taken owed_most → (s : State) (labels : List Label) → AllStand image s labels
    → ((o : ℕ) (e : EndpointState) → is_taken o ≡ true → s.objects o ≡ Some (EndpointObject e) → e.senders ≡ []) → (u : Numbered)
    → Contains (numbered_threads image) u → WaitsWhereAsked image u s → is_of_level priority u ≡ false
    → owed_of_thread image priority w s u ≤ owed_most u.number
below-owes laws bytes image accepted priority w is_taken owed_most owe s labels all nobody u among asked_so below =
    owes-less laws bytes image accepted priority w is_taken s labels all nobody u among asked_so (owed_most u.number)
    (λ point state inside known.
    subst (λ (b : Bool). owes_at_most w is_taken b (going_on priority w u point) (owed_most u.number) (asked_at image u.thread point state) ≡ true) (sym below)
    (owe u point state among below inside known))

-- so do all
pub owed-rests : (image : Image) (priority : ℕ) (w : Weights) (owed_most : ℕ → ℕ) (s : State)
    → ((u : Numbered) → Contains (numbered_threads image) u → owed_of_thread image priority w s u ≤ owed_most u.number)
    → owed image priority w s ≤ total (λ (t : Numbered). owed_most t.number) (numbered_threads image)
unfolding owed
owed-rests image priority w owed_most s each =
    total-less (owed_of_thread image priority w s) (λ (t : Numbered). owed_most t.number) (numbered_threads image) each

pub owes-so : (laws : Laws) (bytes : List ℕ) (image : Image) (accepted : IsAccepted bytes image) (priority : ℕ) (w : Weights) (is_taken is_open : ℕ → Bool)
    (owed_most : ℕ → ℕ) → OweBelow image priority w is_taken owed_most → IsLeftAtRest image priority w is_taken is_open owed_most → (events : List Event)
    → All (KeepsDevices image) events → AllStand image (state_after (described image) events) (trace (described image) events)
    → ((u : Numbered) → Contains (numbered_threads image) u → WaitsWhereAsked image u (state_after (described image) events))
    → Rests image priority (state_after (described image) events)
    → owed image priority w (state_after (described image) events) ≤ total (λ (t : Numbered). owed_most t.number) (numbered_threads image)
owes-so laws bytes image accepted priority w is_taken is_open owed_most owe quiet events devices all where_asked rests =
    let s = state_after (described image) events in
    owed-rests image priority w owed_most s (λ u among.
    elim (is_of_level priority u) as (λ b. is_of_level priority u ≡ b → owed_of_thread image priority w s u ≤ owed_most u.number) [
      | true ↦ λ level. quiet.owed events u devices among level rests
      | false ↦ λ other.
          below-owes laws bytes image accepted priority w is_taken owed_most owe s (trace (described image) events) all
          (λ o e here at. quiet.messages events o e devices rests here at) u among (where_asked u among) other
    ] refl)

-- a word stands nowhere where somebody waits for what comes
no-word-at : (s : State) → ((o : ℕ) (n : NotificationState) → s.objects o ≡ Some (NotificationObject n) → (n.waiters ≡ []) ⊎ (n.word ≡ 0)) → (o x : ℕ)
    (rest : List ℕ) (object : Option Object) → s.objects o ≡ object → takers_in object ≡ x ∷ rest → word-of object ≡ 0
no-word-at s idle o x rest (Some (NotificationObject n)) at first = elim (idle o n at) [
  | inl nobody ↦ absurd (let clash : ◌≡◌ {A = List ℕ} [] (x ∷ rest) = sym nobody ∙ first in cc)
  | inr none ↦ none
]
no-word-at s idle o x rest None at first = refl
no-word-at s idle o x rest (Some (ThreadObject t)) at first = refl
no-word-at s idle o x rest (Some (EndpointObject e)) at first = refl
no-word-at s idle o x rest (Some (CNodeObject radix)) at first = refl
no-word-at s idle o x rest (Some FrameObject) at first = refl
no-word-at s idle o x rest (Some PageTableObject) at first = refl
no-word-at s idle o x rest (Some RootTableObject) at first = refl

module _ (laws : Laws) (bytes : List ℕ) (image : Image) (accepted : IsAccepted bytes image) (priority : ℕ) (w : Weights) (pays : Pays image priority w)
    (s after : State) (labels later : List Label) (all : AllStand image s labels) (behind : AllStand image after later)
    (told : (a b : ThreadState) → (a ≡ b) ⊎ (a ≢ b)) (t : Numbered) (listed : Contains (numbered_threads image) t)
    (within : WithinAuthority image t.thread s after)
    (takes : (u : Numbered) (queue : ℕ) (n : NotificationState) (others : List ℕ) → Contains (numbered_threads image) u
    → s.objects queue ≡ Some (NotificationObject n) → n.waiters ≡ tcb_of image u ∷ others → WaitsToTake image u s labels queue)
    (where_asked : (u : Numbered) → Contains (numbered_threads image) u → WaitsWhereAsked image u s)
    (counts : (thread : ℕ) → thread ≢ tcb_of image t → open_count thread later ≡ open_count thread labels)
    (bound : (number : ℕ) → number < 64 → binding after number ≡ binding s number)
    (is_taken : ℕ → Bool) (owed_most : ℕ → ℕ) (owe : OweBelow image priority w is_taken owed_most)
    (owes : (u : Numbered) → Contains (numbered_threads image) u → owed_of_thread image priority w s u ≤ owed_most u.number)
    (described_so : (number : ℕ) → Contains irq_lines number → binding s number ≡ binding (described image) number)
    (below : is_of_level priority t ≡ false)
    (rests : (u : Numbered) → Contains (numbered_threads image) u → is_of_level priority u ≡ true
    → is_runnable (thread_at s (tcb_of image u)).status ≡ true → ⊥)
    (taken : (queue : ℕ) (n : NotificationState) → is_taken queue ≡ true → s.objects queue ≡ Some (NotificationObject n) → n.word ≡ 0)
    (is_open : ℕ → Bool)
    (silent : (number : ℕ) → Contains irq_lines number → is_open number ≡ true → s.pending number ≡ false)
    (own : ThreadState) (point : ℕ) (state : PointState) (answer : AfterCall) (at : CallsAt image t s labels own point state answer)
    (count : may_wait (asked_now s (tcb_of image t)) ≡ false → open_count (tcb_of image t) later ≡ open_count (tcb_of image t) labels + 1)
    (sends : (e : ℕ) → asked_now s (tcb_of image t) ≡ SendsTo e → SendEnds s (tcb_of image t) e false after)
    (calls : (e : ℕ) → asked_now s (tcb_of image t) ≡ Calls e → SendEnds s (tcb_of image t) e true after)
    (receives : (e : ℕ) (replies : Bool) → asked_now s (tcb_of image t) ≡ Accepts e replies → ReceiveEnds s (tcb_of image t) e after)
    (waits_so : (o : ℕ) → asked_now s (tcb_of image t) ≡ Takes o → TakeEnds s (tcb_of image t) o after) where
  abbrev tcb : ℕ
  tcb = tcb_of image t

  abbrev asked : Asked
  asked = asked_now s (tcb_of image t)

  abbrev before_of : Numbered → ℕ
  before_of = share image priority w s labels

  abbrev after_of : Numbered → ℕ
  after_of = share image priority w after later

  abbrev word_after : Price → ℕ
  word_after = left_of_word w after

  -- what may stand at an object, what a thread may owe, and what may be pending on a line
  abbrev fixed : Price → ℕ
  fixed p = if is_taken p.object then 0 else p.price

  abbrev owing : Numbered → ℕ
  owing u = owed_most u.number

  abbrev fixed_line : ℕ → ℕ
  fixed_line number = if is_open number then 0 else line_price w (described image) number

  abbrev reached : Option ℕ
  reached = reached_by s after (asked_now s (tcb_of image t))

  asked-is : asked_at image t.thread point state ≡ asked
  asked-is = asks-so laws bytes image s labels accepted t listed own point state answer at

  -- ---- at rest, before the step

  -- a thread that is not of the level has nothing left, and one that does not run
  below-left : (x : State) (l : List Label) (u : Numbered) → is_of_level priority u ≡ false → left_of_thread image priority w x l u ≡ 0
  below-left x l u other = ap (λ (b : Bool). if b && is_runnable (thread_at x (tcb_of image u)).status
      then u.thread.header.budget - open_count (tcb_of image u) l + w.still u.number (point_now image x u) else 0) other

  left-none : (u : Numbered) → Contains (numbered_threads image) u → left_of_thread image priority w s labels u ≡ 0
  left-none u among = elim (is_of_level priority u) as (λ b. is_of_level priority u ≡ b → left_of_thread image priority w s labels u ≡ 0) [
    | true ↦ λ level. rests-left image priority w s labels u (stops (is_runnable (thread_at s (tcb_of image u)).status) refl level)
    | false ↦ λ other. below-left s labels u other
  ] refl
    where
      stops : (b : Bool) → is_runnable (thread_at s (tcb_of image u)).status ≡ b → is_of_level priority u ≡ true
          → is_runnable (thread_at s (tcb_of image u)).status ≡ false
      stops true may level = absurd (rests u among level may)
      stops false is level = is

  before-less : (u : Numbered) → Contains (numbered_threads image) u → before_of u ≤ owing u
  before-less u among =
      let a = left-none u among in
      let b = owes u among in
      omega (arith, a, b)

  own-before : before_of t ≡ 0
  own-before =
      let a = left-none t listed in
      let b = owed-runs image priority w s t (ap (λ (u : ThreadState). u.status) (at-place s tcb own at.there) ∙ at.status) in
      omega (arith, a, b)

  threads-before : total before_of (numbered_threads image) ≤ total owing (numbered_threads image)
  threads-before = total-less before_of owing (numbered_threads image) before-less

  word-before : (p : Price) → left_of_word w s p ≤ fixed p
  word-before p = a-word image priority w s labels rests described_so is_taken taken is_open silent p

  words-before : total (left_of_word w s) w.prices ≤ total fixed w.prices
  words-before = total-less (left_of_word w s) fixed w.prices (λ p _. word-before p)

  lines-before : total (left_of_line w s) irq_lines ≤ total fixed_line irq_lines
  lines-before = total-less (left_of_line w s) fixed_line irq_lines
      (λ n among. a-line image priority w s labels rests described_so is_taken taken is_open silent n among)

  pends : (number : ℕ) → after.pending number ≡ true → s.pending number ≡ true
  pends = pended image t.thread s after all.sound.slots.derivation.valid within

  lines : total (left_of_line w after) irq_lines ≤ total (left_of_line w s) irq_lines
  lines = lines-kept image w s after bound pends

  -- ---- the thread itself

  own-left : left_of_thread image priority w after later t ≡ 0
  own-left = below-left after later t below

  -- where it is still there it owes by what it asked
  own-there : pc_at after tcb ≡ pc_at s tcb → (status : Status) → (thread_at after tcb).status ≡ status → after_of t ≡ owed_as w 0 asked status
  own-there same status is =
      let a = own-left in
      let next : going_on priority w t (point_now image after t) ≡ 0 =
      ap (λ (b : Bool). if b then t.thread.header.budget + w.still t.number (point_now image after t + 1) else 0) below in
      let asks : asked_there image after t ≡ asked =
      asked-same image t s after same ∙ (asks-there image t s own point state at.there at.stands).1 ∙ asked-is in
      let b : owed_of_thread image priority w after t ≡ owed_as w 0 asked status =
      ap (λ (n : ℕ). owed_as w n (asked_there image after t) (thread_at after tcb).status) next
      ∙ ap (λ (x : Asked). owed_as w 0 x (thread_at after tcb).status) asks ∙ ap (λ (x : Status). owed_as w 0 asked x) is in
      omega (arith, a, b)

  own-runs : (thread_at after tcb).status ≡ Runnable → after_of t ≡ 0
  own-runs is = let a = own-left in let b = owed-runs image priority w after t is in omega (arith, a, b)

  runs-on : may_wait (asked_now s (tcb_of image t)) ≡ false → (thread_at after tcb).status ≡ Runnable
  runs-on free = by-invariant (behind.stand t listed)
    where
      by-invariant : ThreadInvariant image t after later → (thread_at after tcb).status ≡ Runnable
      by-invariant (runs now p st there status stands budget) = ap (λ (u : ThreadState). u.status) (at-place after tcb now there) ∙ status
      by-invariant (waits now p st there status stands asks none) = absurd (let more = count free in omega (arith, more, none))

  never-stops : (thread_at after tcb).status ≡ Inactive → ⊥
  never-stops stops = by-invariant (behind.stand t listed)
    where
      by-invariant : ThreadInvariant image t after later → ⊥
      by-invariant (runs now p st there status stands budget) =
          let clash : Runnable ≡ Inactive = sym status ∙ sym (ap (λ (u : ThreadState). u.status) (at-place after tcb now there)) ∙ stops in absurd cc
      by-invariant (waits now p st there status stands asks none) =
          subst IsWaiting (sym (ap (λ (u : ThreadState). u.status) (at-place after tcb now there)) ∙ stops) status

  -- ---- sums

  by-parts : (more : ℕ) → total after_of (numbered_threads image) + total word_after w.prices + total (left_of_line w after) irq_lines
      ≤ total owing (numbered_threads image) + total fixed w.prices + total fixed_line irq_lines + more
      → work image priority w after later ≤ at_rest_with image w is_taken is_open owed_most + more
  unfolding left owed
  by-parts more less =
      let a = total-both (left_of_thread image priority w after later) (owed_of_thread image priority w after) (numbered_threads image) in
      omega (arith, less, a)

  pay : after_of t ≡ 0 → total after_of (numbered_threads image) + total word_after w.prices + 0
      ≤ total before_of (numbered_threads image) + total (left_of_word w s) w.prices + rung_cost w (reached_by s after asked)
  pay none =
      reached-pay laws bytes image accepted priority w pays s after labels later all behind told t listed within takes where_asked counts 0
      (let b = own-before in omega (arith, none, b))

  -- what the thread may owe pays for a message that it leaves
  threads-spare : (n : ℕ) → n ≤ owing t → total before_of (numbered_threads image) + n ≤ total owing (numbered_threads image)
  threads-spare n less = falls-by owing before_of (numbered_threads image) t n listed (λ u among. before-less u among)
      (let b = own-before in omega (arith, less, b))

  -- ---- where nobody else gets more

  quiet-rests : (more : ℕ) → after_of t ≤ owing t + more
      → ((u : Numbered) (o : ℕ) (rest : List ℕ) → reached ≡ Some o → takers_in (s.objects o) ≡ tcb_of image u ∷ rest → ⊥)
      → rung_by s after asked ≡ None → work image priority w after later ≤ at_rest_with image w is_taken is_open owed_most + more
  quiet-rests more mine never none =
      let threads = changed-once (tcb_of image) owing after_of tcb more (numbered_threads image) elsewhere there
      (threads-once image tcb (λ u v a b alike. laws.own_blocks bytes image u v accepted a b alike)) in
      let words = total-less word_after fixed w.prices (λ p _. elim
      (word-grown laws bytes image accepted priority w pays s after labels later all behind told t listed within takes where_asked counts p) [
        | no_more less ↦ (let b = word-before p in omega (arith, less, b))
        | rings so nobody ↦ absurd (none-some (sym none ∙ so))
      ]) in
      let a = lines in
      let b = lines-before in
      by-parts more (omega (arith, threads, words, a, b))
    where
      elsewhere : (u : Numbered) → Contains (numbered_threads image) u → tcb_of image u ≢ tcb → after_of u ≤ owing u
      elsewhere u among apart =
          let less = other-kept laws bytes image accepted priority w pays s after labels later all behind told t listed within takes where_asked counts never
          u among apart in
          let b = before-less u among in
          omega (arith, less, b)

      there : (u : Numbered) → Contains (numbered_threads image) u → tcb_of image u ≡ tcb → after_of u ≤ owing u + more
      there u among here =
          subst (λ (x : Numbered). after_of x ≤ owing x + more) (sym (laws.own_blocks bytes image u t accepted among listed here)) mine

  no-rung : reached_by s after asked ≡ None → (o : Option ℕ) → rung_by s after asked ≡ o → rung_by s after asked ≡ None
  no-rung none None is = is
  no-rung none (Some o) is = absurd (none-some (sym none ∙ rung-reached s after asked o is))

  none-rests : reached_by s after asked ≡ None → after_of t ≡ 0 → work image priority w after later ≤ at_rest_with image w is_taken is_open owed_most + 0
  none-rests none mine =
      quiet-rests 0 (omega (arith, mine))
      (never-none laws bytes image accepted priority w pays s after labels later all behind told t listed within takes where_asked counts none)
      (no-rung none (rung_by s after asked) refl)

  -- ---- where it rings a line's notification

  line-rests : (number : ℕ) → asked ≡ Acknowledges number → work image priority w after later ≤ at_rest_with image w is_taken is_open owed_most + 0
  line-rests number is =
      let line : total (left_of_line w after) irq_lines + rung_cost w (reached_by s after asked) ≤ total (left_of_line w s) irq_lines =
      subst (λ (a : Asked). total (left_of_line w after) irq_lines + rung_cost w (reached_by s after a) ≤ total (left_of_line w s) irq_lines) (sym is)
      (line-pays image w s after bound pends (Acknowledges number) (λ o clash. absurd cc)).pays in
      let a = threads-before in
      let b = words-before in
      let c = lines-before in
      let d = pay (own-runs (runs-on (ap may_wait is))) in
      by-parts 0 (omega (arith, line, a, b, c, d))

  -- ---- where it waits for what comes

  takes-none : (o : ℕ) → asked ≡ Takes o → TakeEnds s tcb o after → after_of t ≡ 0
  takes-none o is (got_word runs_ pc) = own-runs (runs-is (thread_at after tcb).status runs_)
  takes-none o is (stays_on status pc) = own-there pc (Blocked o) status ∙ ap (owed_queued w 0) is

  accepts-none : (e : ℕ) (replies : Bool) → asked ≡ Accepts e replies → ReceiveEnds s tcb e after → after_of t ≡ 0
  accepts-none e replies is (got_one first others status pc head gone right message got) = own-runs status
  accepts-none e replies is (stays_there status pc nobody) = own-there pc (Blocked e) status ∙ ap (owed_queued w 0) is

  -- ---- where it brings something

  module _ (e : ℕ) (reaches : reached_by s after asked ≡ Some e) where
    cost-is : rung_cost w (reached_by s after asked) ≡ price_of w e
    cost-is = ap (rung_cost w) reaches

    -- what comes is set going
    reach-rests : after_of t ≡ 0 → work image priority w after later ≤ at_rest_with image w is_taken is_open owed_most + price_of w e
    reach-rests none =
        let a = threads-before in
        let b = words-before in
        let c = lines-before in
        let d = pay none in
        let l = lines in
        let cost = cost-is in
        by-parts (price_of w e) (omega (arith, cost, a, b, c, d, l))

    -- and paid by what the thread may owe
    passed-rests : price_of w e ≤ owed_most t.number → after_of t ≡ 0 → work image priority w after later ≤ at_rest_with image w is_taken is_open owed_most + 0
    passed-rests enough none =
        let a = threads-spare (price_of w e) enough in
        let b = words-before in
        let c = lines-before in
        let d = pay none in
        let l = lines in
        let cost = cost-is in
        by-parts 0 (omega (arith, cost, a, b, c, d, l))

    -- or it waits with its message
    module _ (owes_price : owed_queued w 0 asked ≡ price_of w e + 0) (unrung : rung_by s after asked ≡ None) (more : ℕ)
        (enough : price_of w e ≤ owed_most t.number + more)
        (passes : after_of t ≡ 0 → work image priority w after later ≤ at_rest_with image w is_taken is_open owed_most + more) where
      by-ends : (is_caller : Bool) → SendEnds s tcb e is_caller after
          → work image priority w after later ≤ at_rest_with image w is_taken is_open owed_most + more
      by-ends is_caller (sent_passed status pc) = passes (own-runs status)
      by-ends is_caller (sent_queued status kept q is nobody) =
          quiet-rests more
          (let mine : after_of t ≡ owed_queued w 0 asked = own-there (stays-pc s after tcb kept) (Blocked e) status in
          omega (arith, mine, owes_price, enough))
          (λ u o rest so first.
          let same : o ≡ e = one-some (sym so ∙ reaches) in
          let clash : ◌≡◌ {A = List ℕ} [] (tcb_of image u ∷ rest) =
          sym nobody ∙ sym (ap takers_in is) ∙ ap (λ (k : ℕ). takers_in (s.objects k)) (sym same) ∙ first in
          absurd cc) unrung
      by-ends is_caller (sent_awaits y rest status kept so first right) = passes (own-there (stays-pc s after tcb kept) AwaitsReply status ∙ none-awaited asked)
      by-ends is_caller (sent_stopped status) = absurd (never-stops status)

  owes-here : (a : Asked) → asked ≡ a → owes_at_most w is_taken false (going_on priority w t point) (owed_most t.number) a ≡ true
  owes-here a is =
      subst (λ (x : Asked). owes_at_most w is_taken false (going_on priority w t point) (owed_most t.number) x ≡ true) (asked-is ∙ is)
      (owe t point state listed below at.stands.inside at.stands.known)

  -- ---- where it rings

  module _ (o : ℕ) (is : asked ≡ Rings o) where
    reaches-bell : reached_by s after asked ≡ Some o
    reaches-bell = ap (reached_by s after) is

    own-none : after_of t ≡ 0
    own-none = own-runs (runs-on (ap may_wait is))

    same-place : (other : ℕ) → reached ≡ Some other → other ≡ o
    same-place other so = one-some (sym so ∙ reaches-bell)

    same-bell : (other : ℕ) → rung_by s after asked ≡ Some other → other ≡ o
    same-bell other so = same-place other (rung-reached s after asked other so)

    rung : work image priority w after later ≤ at_rest_with image w is_taken is_open owed_most + price_of w o
    rung = reach-rests o reaches-bell own-none

    -- a word at an object that is not taken out is counted already
    module _ (free : is_taken o ≡ false) where
      fixed-here : (p : Price) → p.object ≡ o → fixed p ≡ p.price
      fixed-here p here = ap (λ (b : Bool). if b then 0 else p.price) (ap is_taken here ∙ free)

      word-less : (p : Price) → word_after p ≤ p.price
      word-less p = elim ((notification_at after p.object).word == 0) as (λ b. (if b then 0 else p.price) ≤ p.price)
          [ true ↦ omega arith | false ↦ omega arith ]

      abbrev Fits : Type 0
      Fits = total after_of (numbered_threads image) + total word_after w.prices ≤ total owing (numbered_threads image) + total fixed w.prices

      own-fits : (u : Numbered) → Contains (numbered_threads image) u → tcb_of image u ≡ tcb → after_of u ≤ owing u
      own-fits u among here =
          let none = own-none in
          subst (λ (x : Numbered). after_of x ≤ owing x) (sym (laws.own_blocks bytes image u t accepted among listed here)) (omega (arith, none))

      sets : takers_in (s.objects o) ≡ [] → Fits
      sets nobody =
          let threads = total-less after_of owing (numbered_threads image) each in
          let words = total-less word_after fixed w.prices (λ p _. elim
          (word-grown laws bytes image accepted priority w pays s after labels later all behind told t listed within takes where_asked counts p) [
            | no_more less ↦ (let b = word-before p in omega (arith, less, b))
            | rings so nobody_ ↦ (let e = fixed-here p (same-bell p.object so) in let less = word-less p in omega (arith, e, less))
          ]) in
          omega (arith, threads, words)
        where
          each : (u : Numbered) → Contains (numbered_threads image) u → after_of u ≤ owing u
          each u among = elim (eqb_tells (tcb_of image u) tcb) [
            | inl here ↦ own-fits u among here.1
            | inr apart ↦ (
                let less = other-kept laws bytes image accepted priority w pays s after labels later all behind told t listed within takes where_asked counts
                (λ v other rest so first.
                let clash : ◌≡◌ {A = List ℕ} [] (tcb_of image v ∷ rest) =
                sym nobody ∙ ap (λ (x : ℕ). takers_in (s.objects x)) (sym (same-place other so)) ∙ first in
                absurd cc) u among apart.1 in
                let b = before-less u among in
                omega (arith, less, b))
          ]

      wakes : (x : ℕ) (rest : List ℕ) → takers_in (s.objects o) ≡ x ∷ rest → Fits
      wakes x rest first =
          let threads = changed-once (tcb_of image) owing after_of x (price_of w o) (numbered_threads image) elsewhere there
          (threads-once image x (λ u v a b alike. laws.own_blocks bytes image u v accepted a b alike)) in
          let words = by-price (price_of w o) refl in
          omega (arith, threads, words)
        where
          elsewhere : (u : Numbered) → Contains (numbered_threads image) u → tcb_of image u ≢ x → after_of u ≤ owing u
          elsewhere u among off = elim (eqb_tells (tcb_of image u) tcb) [
            | inl here ↦ own-fits u among here.1
            | inr apart ↦ (elim (moves-so laws bytes image accepted priority w pays s after labels later all behind told t listed within takes where_asked
                counts u
                among apart.1) [
                  | as_it_was so less ↦ (let b = before-less u among in omega (arith, less, b))
                  | worth other more so head worth_ ↦
                      let both : ◌≡◌ {A = List ℕ} (x ∷ rest) (tcb_of image u ∷ more) =
                      sym first ∙ ap (λ (y : ℕ). takers_in (s.objects y)) (sym (same-place other so)) ∙ head in
                      let heads : x ≡ tcb_of image u = cc in
                      absurd (off (sym heads))
                  | gave e blocked less ↦ (let b = before-less u among in omega (arith, less, b))
                  | answered awaits_ less ↦ (let b = before-less u among in omega (arith, less, b))
                ])
          ]

          there : (u : Numbered) → Contains (numbered_threads image) u → tcb_of image u ≡ x → after_of u ≤ owing u + price_of w o
          there u among on = elim (eqb_tells (tcb_of image u) tcb) [
            | inl here ↦ (let less = own-fits u among here.1 in omega (arith, less))
            | inr apart ↦ (elim (moves-so laws bytes image accepted priority w pays s after labels later all behind told t listed within takes where_asked
                counts u
                among apart.1) [
                  | as_it_was so less ↦ (let b = before-less u among in omega (arith, less, b))
                  | worth other more so head worth_ ↦ (let e = ap (price_of w) (same-place other so) in omega (arith, worth_, e))
                  | gave e blocked less ↦ (let b = before-less u among in omega (arith, less, b))
                  | answered awaits_ less ↦ (let b = before-less u among in omega (arith, less, b))
                ])
          ]

          no-word : (notification_at s o).word ≡ 0
          no-word = no-word-at s all.sound.threads.idle o x rest (s.objects o) refl first

          word-kept : (p : Price) → word_after p ≤ left_of_word w s p
          word-kept p = elim
              (word-grown laws bytes image accepted priority w pays s after labels later all behind told t listed within takes where_asked counts p) [
                | no_more less ↦ less
                | rings so nobody ↦
                    let clash : ◌≡◌ {A = List ℕ} [] (x ∷ rest) = sym nobody ∙ ap (λ (y : ℕ). takers_in (s.objects y)) (same-bell p.object so) ∙ first in
                    absurd cc
              ]

          word-fixed : (p : Price) → word_after p ≤ fixed p
          word-fixed p = let a = word-kept p in let b = word-before p in omega (arith, a, b)

          by-price : (n : ℕ) → price_of w o ≡ n → total word_after w.prices + price_of w o ≤ total fixed w.prices
          by-price zero none = let words = total-less word_after fixed w.prices (λ p _. word-fixed p) in omega (arith, words, none)
          by-price (suc n) some =
              let found = found-price o w.prices (omega (arith, some)) in
              let p = found.0 in
              let price : p.price ≡ price_of w o = sym (pays.each p found.1) ∙ ap (price_of w) found.2 in
              let e = fixed-here p found.2 in
              let before : left_of_word w s p ≡ 0 =
              ap (λ (k : ℕ). if (notification_at s k).word == 0 then 0 else p.price) found.2 ∙ ap (λ (k : ℕ). if k == 0 then 0 else p.price) no-word in
              let kept_ = word-kept p in
              let words = falls-by fixed word_after w.prices p (price_of w o) found.1 (λ q _. word-fixed q) (omega (arith, price, e, before, kept_)) in
              omega (arith, words)

      by-takers : (l : List ℕ) → takers_in (s.objects o) ≡ l → Fits
      by-takers [] nobody = sets nobody
      by-takers (x ∷ rest) first = wakes x rest first

      counted : work image priority w after later ≤ at_rest_with image w is_taken is_open owed_most + 0
      counted =
          let fits = by-takers (takers_in (s.objects o)) refl in
          let a = lines in
          let b = lines-before in
          by-parts 0 (omega (arith, fits, a, b))

  -- ---- whatever it asks

  module _ (most : ℕ) (fit : StepsFitWith image priority w is_taken is_open owed_most most) (rest : at_rest_with image w is_taken is_open owed_most ≤ most)
    where
      abbrev AtMost : Type 0
      AtMost = work image priority w after later ≤ most

      fits-so : work image priority w after later ≤ at_rest_with image w is_taken is_open owed_most + 0 → AtMost
      fits-so less = omega (arith, less, rest)

      -- where a thread of the level rests that takes what comes
      comes-so : (o : ℕ) → comes_to asked ≡ Some o → is_taken o ≡ true
          → work image priority w after later ≤ at_rest_with image w is_taken is_open owed_most + price_of w o → AtMost
      comes-so o is here less =
          let fits = fit t point state o listed below at.stands.inside at.stands.known (ap comes_to asked-is ∙ is) here in omega (arith, less, fits)

      either : (o : ℕ) → (is_taken o ≡ true → AtMost) → (is_taken o ≡ false → AtMost) → AtMost
      either o here off = elim (is_taken o) as (λ b. is_taken o ≡ b → AtMost) [ true ↦ here | false ↦ off ] refl

      ring-call : (o : ℕ) → asked ≡ Rings o → AtMost
      ring-call o is = either o (λ here. comes-so o (ap comes_to is) here (rung o is)) (λ free. fits-so (counted o is free))

      try-call : (o : ℕ) → asked ≡ Tries o → AtMost
      try-call o is =
          let reaches = ap (reached_by s after) is in
          let none = own-runs (runs-on (ap may_wait is)) in
          either o (λ here. comes-so o (ap comes_to is) here (reach-rests o reaches none)) (λ free.
          let less = leb-true (price_of w o) (owed_most t.number)
          (or-then (is_taken o) (nat_le (price_of w o) (owed_most t.number)) free (owes-here (Tries o) is)) in
          fits-so (passed-rests o reaches less none))

      send-call : (e : ℕ) → asked ≡ SendsTo e → AtMost
      send-call e is =
          let reaches = ap (reached_by s after) is in
          let next = going_on priority w t point in
          either e (λ here. comes-so e (ap comes_to is) here (by-ends e reaches (ap (owed_queued w 0) is) (ap (rung_by s after) is) (price_of w e) (omega arith)
          (reach-rests e reaches) false (sends e is)))
          (λ free.
          let less = leb-true (price_of w e + next) (owed_most t.number)
          (or-then (is_taken e) (nat_le (price_of w e + next) (owed_most t.number)) free (owes-here (SendsTo e) is)) in
          fits-so (by-ends e reaches (ap (owed_queued w 0) is) (ap (rung_by s after) is) 0 (omega (arith, less))
          (passed-rests e reaches (omega (arith, less))) false (sends e is)))

      answer-call : (e : ℕ) → asked ≡ Calls e → AtMost
      answer-call e is =
          let reaches = ap (reached_by s after) is in
          let next = going_on priority w t point in
          either e (λ here. comes-so e (ap comes_to is) here (by-ends e reaches (ap (owed_queued w 0) is) (ap (rung_by s after) is) (price_of w e) (omega arith)
          (reach-rests e reaches) true (calls e is)))
          (λ free.
          let less = leb-true (waiting_price w is_taken e + next) (owed_most t.number) (owes-here (Calls e) is) in
          let price : waiting_price w is_taken e ≡ price_of w e = ap (λ (b : Bool). if b then 0 else price_of w e) free in
          fits-so (by-ends e reaches (ap (owed_queued w 0) is) (ap (rung_by s after) is) 0 (omega (arith, less, price))
          (passed-rests e reaches (omega (arith, less, price))) true (calls e is)))

      -- where nothing comes to anybody
      free-call : (a : Asked) → asked ≡ a → may_wait a ≡ false → reached_by s after a ≡ None → AtMost
      free-call a is free none = fits-so (none-rests (ap (reached_by s after) is ∙ none) (own-runs (runs-on (ap may_wait is ∙ free))))

      by-asked : (a : Asked) → asked ≡ a → AtMost
      by-asked (Rings o) is = ring-call o is
      by-asked (Acknowledges number) is = fits-so (line-rests number is)
      by-asked (SendsTo e) is = send-call e is
      by-asked (Calls e) is = answer-call e is
      by-asked (Tries o) is = try-call o is
      by-asked (Takes o) is = fits-so (none-rests (ap (reached_by s after) is) (takes-none o is (waits_so o is)))
      by-asked (Accepts o replies) is = fits-so (none-rests (ap (reached_by s after) is) (accepts-none o replies is (receives o replies is)))
      by-asked (Polls o) is = free-call (Polls o) is refl refl
      by-asked (Looks o) is = free-call (Looks o) is refl refl
      by-asked Answers is = free-call Answers is refl refl
      by-asked Asks_nothing is = free-call Asks_nothing is refl refl

      pub message-rests : work image priority w after later ≤ most
      message-rests = by-asked asked refl
