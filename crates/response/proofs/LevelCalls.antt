-- A system call of a thread of the level is work: it takes 1 off what is left, at least. What it sets going is paid by what the thread had
-- still to set going, or by the line or the word that it takes.
use Rattle.std.proofs.Common.{ℕ, ◌≡◌, ◌≢◌, ◌∙◌, ◌⊎◌, ◌==◌, ◌+◌, ◌-◌, ◌/◌, ◌%◌, ◌^◌, ◌<◌, ◌≤◌, ◌&&◌, inl, inr, nat_lt, not, Bool, true, false}
use Rattle.std.proofs.Common.{if◌then◌else◌, find, Option, Some, None, option_map, List, [], ◌∷◌, refl, sym, ap, subst, arith}
use Rattle.std.specs.Prelude.{Contains}
use Rattle.std.specs.Option.{option_map_or}
use Rattle.std.proofs.lemmas.Bool.{and_parts, leb-true, ltb-true}
use Rattle.std.proofs.lemmas.Bool.Decides.{eqb_tells}
use Rattle.model.specs.declared.labels.Label.{Label}
use Rattle.model.specs.Acceptance.Accepted.{IsAccepted}
use Rattle.model.specs.Acceptance.Authority.{WithinAuthority}
use Rattle.model.specs.Acceptance.CallRules.{AfterCall}
use Rattle.model.specs.Acceptance.NotedStates.{PointState}
use Rattle.model.specs.Acceptance.ThreadInvariants.{tcb_of}
use Rattle.model.specs.Images.Described.{Numbered, numbered_threads}
use Rattle.model.specs.Images.Image.{Image}
use Rattle.model.specs.Kernel.Interrupts.{Signal, binding}
use Rattle.model.specs.Kernel.Scheduling.{is_runnable}
use Rattle.model.specs.Kernel.State.{NotificationObject, NotificationState, State, ThreadState, notification_at, thread_at}
use Rattle.model.specs.Kernel.Waits.{open_count}
use Rattle.headline.proofs.Laws.{at-place}
use Rattle.headline.specs.facts.Standing.{AllStand}
use Rattle.headline.specs.moves.Laws.{Laws}
use Rattle.headline.specs.moves.Moving.{CallsAt}
use Rattle.response.specs.Asking.{asked_at, Asked, Takes, Polls, Rings, Acknowledges, Accepts, Looks, SendsTo, Calls, Tries, Answers, Asks_nothing}
use Rattle.response.specs.Laws.{WaitsToTake}
use Rattle.response.specs.Left.{irq_lines, left, left_of_line, left_of_thread, left_of_word, line_price, point_now, total}
use Rattle.response.specs.Levels.{is_of_level}
use Rattle.response.specs.Weights.{Pays, Price, Weights, pays_for, price_of, waits_for_no_message}
use Rattle.response.proofs.AskedNow.{asked_now, may_wait}
use Rattle.response.proofs.AtBells.{WaitsForNoMessage}
use Rattle.response.proofs.CallLeads.{call-leads, next-address, next-inside}
use Rattle.response.proofs.Costs.{total-less}
use Rattle.response.proofs.Interrupts.{word-of}
use Rattle.response.proofs.NamedNow.{asks-so}
use Rattle.response.proofs.OwnCalls.{pc_at}
use Rattle.response.proofs.Rises.{grown, kept, no_more, rings, rises, rung_cost, word-grown, worth}
use Rattle.response.proofs.Rung.{pended, rung_by}
use Rattle.response.proofs.Sums.{further, threads-once}
use Rattle.response.proofs.TwoEntries.{falls-by, line-among, moves}
use Rattle.response.proofs.Whole.{few-lines}
use Rattle.response.proofs.Woken.{point-of}

-- ---- what pays

-- the price of what a call rings
abbrev ring_cost : Weights → Asked → ℕ
ring_cost w (Rings o) = price_of w o
ring_cost w _ = 0

ring-paid : (w : Weights) (budget here next : ℕ) (asked : Asked) → waits_for_no_message asked ≡ true → may_wait asked ≡ false
    → pays_for w budget here next asked ≡ true → next + ring_cost w asked ≤ here
ring-paid w budget here next (Takes o) none free paid = absurd (let clash : true ≡ false = free in cc)
ring-paid w budget here next (Polls o) none free paid = let less = leb-true next here paid in omega (arith, less)
ring-paid w budget here next (Rings o) none free paid = let less = leb-true (price_of w o + next) here paid in omega (arith, less)
ring-paid w budget here next (Acknowledges number) none free paid = let less = leb-true next here paid in omega (arith, less)
ring-paid w budget here next (Accepts o replies) none free paid = absurd (let clash : false ≡ true = none in cc)
ring-paid w budget here next (Looks o) none free paid = let less = leb-true next here paid in omega (arith, less)
ring-paid w budget here next (SendsTo o) none free paid = absurd (let clash : false ≡ true = none in cc)
ring-paid w budget here next (Calls o) none free paid = absurd (let clash : false ≡ true = none in cc)
ring-paid w budget here next (Tries o) none free paid = let less = leb-true (price_of w o + next) here paid in omega (arith, less)
ring-paid w budget here next Answers none free paid = let less = leb-true next here paid in omega (arith, less)
ring-paid w budget here next Asks_nothing none free paid = let less = leb-true next here paid in omega (arith, less)

-- ---- prices

-- a price that is not 0 is of an entry
pub found-price : (o : ℕ) (ps : List Price) → 1 ≤ option_map_or (λ p. p.price) (find (λ p. p.object == o) ps) 0
    → (p : Price) × Contains ps p × (p.object ≡ o)
found-price o [] some = absurd (omega (arith, some))
found-price o (p ∷ ps) some = elim (eqb_tells p.object o) [
  | inl same ↦ (p, (0, omega arith, refl), same.1)
  | inr apart ↦ (
      let later_ = found-price o ps (subst (λ (b : Bool). 1 ≤ option_map_or (λ q. q.price) (if b then Some p else find (λ q. q.object == o) ps) 0)
      apart.0 some) in
      (later_.0, further p later_.0 ps later_.1, later_.2))
]

-- ---- lines

-- what is left of lines where an interrupt that was pending is delivered, or none was
module _ (image : Image) (w : Weights) (s after : State) (bound : (number : ℕ) → number < 64 → binding after number ≡ binding s number)
    (pends : (number : ℕ) → after.pending number ≡ true → s.pending number ≡ true) where
  same-price : (number : ℕ) → number < 64 → line_price w after number ≡ line_price w s number
  same-price number few = ap (λ (b : Option Signal). option_map_or (λ x. price_of w x.notification) b 0) (bound number few)

  line-kept : (number : ℕ) → number < 64 → left_of_line w after number ≤ left_of_line w s number
  line-kept number few = elim (after.pending number)
      as (λ b. after.pending number ≡ b → (if b then line_price w after number else 0) ≤ left_of_line w s number) [
        | true ↦ λ is.
            let was : left_of_line w s number ≡ line_price w s number = ap (λ (b : Bool). if b then line_price w s number else 0) (pends number is) in
            let e = same-price number few in
            omega (arith, was, e)
        | false ↦ λ _. omega arith
      ] refl

  pub lines-kept : total (left_of_line w after) irq_lines ≤ total (left_of_line w s) irq_lines
  lines-kept = total-less (left_of_line w after) (left_of_line w s) irq_lines (λ number among. line-kept number (few-lines number among))

  -- one is pending no more
  pub lines-fall : (number cost : ℕ) → number < 64 → s.pending number ≡ true → after.pending number ≡ false → cost ≤ line_price w s number
      → total (left_of_line w after) irq_lines + cost ≤ total (left_of_line w s) irq_lines
  unfolding irq_lines
  lines-fall number cost few was gone less =
      let before : left_of_line w s number ≡ line_price w s number = ap (λ (b : Bool). if b then line_price w s number else 0) was in
      let behind : left_of_line w after number ≡ 0 = ap (λ (b : Bool). if b then line_price w after number else 0) gone in
      falls-by (left_of_line w s) (left_of_line w after) irq_lines number cost (line-among number few) (λ n among. line-kept n (few-lines n among))
      (omega (arith, before, behind, less))

  -- what a call signals that rings nothing is paid by a line
  pub record LinePays (cost : ℕ) : Type 0 where
    pub pays : total (left_of_line w after) irq_lines + cost ≤ total (left_of_line w s) irq_lines

  nothing-paid : LinePays 0
  nothing-paid = record { pays = let less = lines-kept in omega (arith, less) }

  delivered : (number : ℕ) (b : Option Signal) → binding s number ≡ b → number < 64 → s.pending number ≡ true → after.pending number ≡ false
      → LinePays (rung_cost w (option_map (λ (x : Signal). x.notification) b))
  delivered number None is few was gone = nothing-paid
  delivered number (Some x) is few was gone = record {
    pays = lines-fall number (price_of w x.notification) few was gone
        (let e : line_price w s number ≡ price_of w x.notification =
        ap (λ (b : Option Signal). option_map_or (λ y. price_of w y.notification) b 0) is in omega (arith, e));
  }

  acknowledged : (number : ℕ) (taken : Bool) → nat_lt number 64 && s.pending number && not (after.pending number) ≡ taken
      → LinePays (rung_cost w (if taken then option_map (λ (x : Signal). x.notification) (binding s number) else None))
  acknowledged number false is = nothing-paid
  acknowledged number true is =
      let parts = and_parts (nat_lt number 64 && s.pending number) (not (after.pending number)) is in
      let both = and_parts (nat_lt number 64) (s.pending number) parts.0 in
      delivered number (binding s number) refl (ltb-true number 64 both.0) both.1 (not-true (after.pending number) parts.1)
    where
      not-true : (b : Bool) → not b ≡ true → b ≡ false
      not-true true is = absurd (let clash : false ≡ true = is in cc)
      not-true false is = refl

  pub line-pays : (asked : Asked) → ((o : ℕ) → asked ≡ Rings o → ⊥) → LinePays (rung_cost w (rung_by s after asked))
  line-pays (Rings o) never = absurd (never o refl)
  line-pays (Acknowledges number) never = acknowledged number (nat_lt number 64 && s.pending number && not (after.pending number)) refl
  line-pays (Takes o) never = nothing-paid
  line-pays (Polls o) never = nothing-paid
  line-pays (Accepts o replies) never = nothing-paid
  line-pays (Looks o) never = nothing-paid
  line-pays (SendsTo o) never = nothing-paid
  line-pays (Calls o) never = nothing-paid
  line-pays (Tries o) never = nothing-paid
  line-pays Answers never = nothing-paid
  line-pays Asks_nothing never = nothing-paid

-- ---- the call

module _ (laws : Laws) (bytes : List ℕ) (image : Image) (accepted : IsAccepted bytes image) (priority : ℕ) (w : Weights) (pays : Pays image priority w)
    (s after : State) (labels later : List Label) (all : AllStand image s labels) (behind : AllStand image after later)
    (told : (a b : ThreadState) → (a ≡ b) ⊎ (a ≢ b)) (t : Numbered) (listed : Contains (numbered_threads image) t)
    (within : WithinAuthority image t.thread s after)
    (quiet : (u : Numbered) → Contains (numbered_threads image) u → is_of_level priority u ≡ true → WaitsForNoMessage image u)
    (takes : (u : Numbered) (queue : ℕ) (n : NotificationState) (others : List ℕ) → Contains (numbered_threads image) u
    → s.objects queue ≡ Some (NotificationObject n) → n.waiters ≡ tcb_of image u ∷ others → WaitsToTake image u s labels queue)
    (counts : (thread : ℕ) → thread ≢ tcb_of image t → open_count thread later ≡ open_count thread labels)
    (bound : (number : ℕ) → number < 64 → binding after number ≡ binding s number)
    (level : is_of_level priority t ≡ true) (own : ThreadState) (point : ℕ) (state : PointState) (answer : AfterCall)
    (at : CallsAt image t s labels own point state answer)
    (count : may_wait (asked_now s (tcb_of image t)) ≡ false → open_count (tcb_of image t) later ≡ open_count (tcb_of image t) labels + 1)
    (goes : is_runnable (thread_at after (tcb_of image t)).status ≡ true → pc_at after (tcb_of image t) ≡ (pc_at s (tcb_of image t) + 4) % 2 ^ 32)
    (taken : (o : ℕ) → asked_now s (tcb_of image t) ≡ Takes o → is_runnable (thread_at after (tcb_of image t)).status ≡ true
    → ((notification_at s o).word == 0 ≡ false) × (word-of (after.objects o) ≡ 0))
    (spent : open_count (tcb_of image t) labels + 1 ≤ t.thread.header.budget) where
  abbrev tcb : ℕ
  tcb = tcb_of image t

  abbrev here : ℕ
  here = w.still t.number point

  abbrev next : ℕ
  next = w.still t.number (point + 1)

  abbrev asked : Asked
  asked = asked_now s (tcb_of image t)

  abbrev before_of : Numbered → ℕ
  before_of = left_of_thread image priority w s labels

  abbrev after_of : Numbered → ℕ
  after_of = left_of_thread image priority w after later

  asked-is : asked_at image t.thread point state ≡ asked
  asked-is = asks-so laws bytes image s labels accepted t listed own point state answer at

  none : waits_for_no_message asked ≡ true
  none = sym (ap waits_for_no_message asked-is) ∙ quiet t listed level point state at.stands.inside at.stands.known

  paid : pays_for w t.thread.header.budget here next asked ≡ true
  paid = subst (λ (a : Asked). pays_for w t.thread.header.budget here next a ≡ true) asked-is
      (pays.points t point state (point + 1) listed level at.stands.inside at.stands.known
      (call-leads laws bytes image accepted t listed point state answer at.stands.inside at.stands.known at.ecall at.call))

  -- ---- the thread itself

  same-own : thread_at s tcb ≡ own
  same-own = at-place s tcb own at.there

  before-is : before_of t ≡ t.thread.header.budget - open_count tcb labels + here
  before-is =
      ap (λ (b : Bool). if b && is_runnable (thread_at s tcb).status
      then t.thread.header.budget - open_count tcb labels + w.still t.number (point_now image s t) else 0) level
      ∙ ap (λ (b : Bool). if b then t.thread.header.budget - open_count tcb labels + w.still t.number (point_now image s t) else 0)
      (ap (λ (u : ThreadState). is_runnable u.status) same-own ∙ ap is_runnable at.status)
      ∙ ap (λ (k : ℕ). t.thread.header.budget - open_count tcb labels + w.still t.number k)
      (ap (λ (u : ThreadState). (u.registers.pc - t.thread.header.base) / 4) same-own ∙ ap (λ (k : ℕ). (k - t.thread.header.base) / 4) at.stands.pc
      ∙ point-of t.thread.header.base point)

  next-now : is_runnable (thread_at after tcb).status ≡ true → point_now image after t ≡ point + 1
  next-now runs =
      ap (λ (k : ℕ). (k - t.thread.header.base) / 4)
      (goes runs ∙ ap (λ (u : ThreadState). (u.registers.pc + 4) % 2 ^ 32) same-own ∙ ap (λ (k : ℕ). (k + 4) % 2 ^ 32) at.stands.pc
      ∙ next-address t.thread.header.base t.thread.header.words point (laws.ends bytes image t accepted listed)
      (next-inside laws bytes image accepted t listed point state answer at.stands.inside at.stands.known at.ecall at.call))
      ∙ point-of t.thread.header.base (point + 1)

  -- it runs, at the next point, or has nothing left
  data Own : Type 0 where
    runs_on : is_runnable (thread_at after tcb).status ≡ true → after_of t ≡ t.thread.header.budget - open_count tcb later + next → Own
    rests : after_of t ≡ 0 → Own

  after-level : after_of t ≡ (if is_runnable (thread_at after tcb).status
      then t.thread.header.budget - open_count tcb later + w.still t.number (point_now image after t) else 0)
  after-level = ap (λ (b : Bool). if b && is_runnable (thread_at after tcb).status
      then t.thread.header.budget - open_count tcb later + w.still t.number (point_now image after t) else 0) level

  own_now : Own
  own_now = elim (is_runnable (thread_at after tcb).status) as (λ b. is_runnable (thread_at after tcb).status ≡ b → Own) [
    | true ↦ λ runs. runs_on runs (after-level
        ∙ ap (λ (b : Bool). if b then t.thread.header.budget - open_count tcb later + w.still t.number (point_now image after t) else 0) runs
        ∙ ap (λ (k : ℕ). t.thread.header.budget - open_count tcb later + w.still t.number k) (next-now runs))
    | false ↦ λ stops. rests (after-level
        ∙ ap (λ (b : Bool). if b then t.thread.header.budget - open_count tcb later + w.still t.number (point_now image after t) else 0) stops)
  ] refl

  -- ---- where the call does not wait

  own-falls : (cost : ℕ) → may_wait asked ≡ false → next + cost ≤ here → after_of t + (cost + 1) ≤ before_of t
  own-falls cost free less = elim own_now [
    | runs_on runs is ↦ (let b = before-is in let more = count free in omega (arith, is, b, more, less, spent))
    | rests is ↦ (let b = before-is in omega (arith, is, b, less, spent))
  ]

  abbrev Falls : Type 0
  Falls = left image priority w after later + 1 ≤ left image priority w s labels

  pends : (number : ℕ) → after.pending number ≡ true → s.pending number ≡ true
  pends = pended image t.thread s after all.sound.slots.derivation.valid within

  -- the thread's own part pays for what it rings, and a line for the rest
  passes-so : may_wait asked ≡ false → Falls
  unfolding left
  passes-so free =
      let less = ring-paid w t.thread.header.budget here next asked none free paid in
      let sum = rises laws bytes image accepted priority w pays s after labels later all behind told t listed within quiet takes counts
      (ring_cost w asked + 1) (own-falls (ring_cost w asked) free less) in
      let covered = cover asked in
      omega (arith, sum, covered)
    where
      cover : (a : Asked) → total (left_of_line w after) irq_lines + rung_cost w (rung_by s after a) ≤ total (left_of_line w s) irq_lines + ring_cost w a
      cover (Rings o) = let kept_ = lines-kept image w s after bound pends in omega (arith, kept_)
      cover (Acknowledges number) = let line = (line-pays image w s after bound pends (Acknowledges number) (λ o clash. absurd cc)).pays in omega (arith, line)
      cover (Takes o) = let kept_ = lines-kept image w s after bound pends in omega (arith, kept_)
      cover (Polls o) = let kept_ = lines-kept image w s after bound pends in omega (arith, kept_)
      cover (Accepts o replies) = let kept_ = lines-kept image w s after bound pends in omega (arith, kept_)
      cover (Looks o) = let kept_ = lines-kept image w s after bound pends in omega (arith, kept_)
      cover (SendsTo o) = let kept_ = lines-kept image w s after bound pends in omega (arith, kept_)
      cover (Calls o) = let kept_ = lines-kept image w s after bound pends in omega (arith, kept_)
      cover (Tries o) = let kept_ = lines-kept image w s after bound pends in omega (arith, kept_)
      cover Answers = let kept_ = lines-kept image w s after bound pends in omega (arith, kept_)
      cover Asks_nothing = let kept_ = lines-kept image w s after bound pends in omega (arith, kept_)

  -- ---- where it takes

  module _ (o : ℕ) (is : asked ≡ Takes o) where
    worth-own : t.thread.header.budget + next ≤ price_of w o
    worth-own = leb-true (t.thread.header.budget + next) (price_of w o)
        (subst (λ (a : Asked). pays_for w t.thread.header.budget here next a ≡ true) is paid)

    nothing-rung : rung_by s after asked ≡ None
    nothing-rung = ap (rung_by s after) is

    others-kept : (u : Numbered) → Contains (numbered_threads image) u → tcb_of image u ≢ tcb → after_of u ≤ before_of u
    others-kept u among apart =
        elim (grown laws bytes image accepted priority w pays s after labels later all behind told t listed within quiet takes counts u among apart) [
          | kept less ↦ less
          | worth other rest so first worth_ ↦
              absurd (let clash : ◌≡◌ {A = Option ℕ} None (Some other) = sym nothing-rung ∙ so in cc)
        ]

    words-kept : (p : Price) → left_of_word w after p ≤ left_of_word w s p
    words-kept p =
        elim (word-grown laws bytes image accepted priority w pays s after labels later all behind told t listed within quiet takes counts p) [
          | no_more less ↦ less
          | rings so nobody ↦ absurd (let clash : ◌≡◌ {A = Option ℕ} None (Some p.object) = sym nothing-rung ∙ so in cc)
        ]

    -- it has the price of what it took
    threads-move : (cost : ℕ) → after_of t + 1 ≤ before_of t + cost
        → total after_of (numbered_threads image) + 1 ≤ total before_of (numbered_threads image) + cost
    threads-move cost less =
        moves (tcb_of image) before_of after_of tcb cost 1 (numbered_threads image) t listed (λ u among apart. others-kept u among apart)
        (λ u among same. subst (λ (x : Numbered). after_of x ≤ before_of x + cost) (sym (laws.own_blocks bytes image u t accepted among listed same))
        (omega (arith, less)))
        (λ apart. absurd (apart refl)) (λ _. less)
        (threads-once image tcb (λ u v a b alike. laws.own_blocks bytes image u v accepted a b alike))

    words-fall : (p : Price) → Contains w.prices p → p.object ≡ o → is_runnable (thread_at after tcb).status ≡ true
        → total (left_of_word w after) w.prices + p.price ≤ total (left_of_word w s) w.prices
    words-fall p among same runs =
        let word = taken o is runs in
        let was : left_of_word w s p ≡ p.price =
        ap (λ (k : ℕ). if (notification_at s k).word == 0 then 0 else p.price) same ∙ ap (λ (b : Bool). if b then 0 else p.price) word.0 in
        let gone : left_of_word w after p ≡ 0 =
        ap (λ (k : ℕ). if (notification_at after k).word == 0 then 0 else p.price) same ∙ ap (λ (k : ℕ). if k == 0 then 0 else p.price) word.1 in
        falls-by (left_of_word w s) (left_of_word w after) w.prices p p.price among (λ q _. words-kept q) (omega (arith, was, gone))

    lines : total (left_of_line w after) irq_lines ≤ total (left_of_line w s) irq_lines
    lines = lines-kept image w s after bound pends

    goes-on-so : is_runnable (thread_at after tcb).status ≡ true → after_of t ≡ t.thread.header.budget - open_count tcb later + next → Falls
    unfolding left
    goes-on-so runs now =
        let worth_ = worth-own in
        let found = found-price o w.prices (omega (arith, worth_, spent)) in
        let e : found.0.price ≡ price_of w o = sym (pays.each found.0 found.1) ∙ ap (price_of w) found.2 in
        let b = before-is in
        let threads = threads-move (price_of w o) (omega (arith, now, worth_, b, spent)) in
        let words = words-fall found.0 found.1 found.2 runs in
        let line = lines in
        omega (arith, threads, words, line, e)

    rests-so : after_of t ≡ 0 → Falls
    unfolding left
    rests-so now =
        let b = before-is in
        let threads = threads-move 0 (omega (arith, now, b, spent)) in
        let words = total-less (left_of_word w after) (left_of_word w s) w.prices (λ p _. words-kept p) in
        let line = lines in
        omega (arith, threads, words, line)

    takes-so : Falls
    takes-so = elim own_now [
      | runs_on runs now ↦ goes-on-so runs now
      | rests now ↦ rests-so now
    ]

  by-asked : (a : Asked) → asked ≡ a → waits_for_no_message a ≡ true → Falls
  by-asked (Takes o) is _ = takes-so o is
  by-asked (Polls o) is _ = passes-so (ap may_wait is)
  by-asked (Rings o) is _ = passes-so (ap may_wait is)
  by-asked (Acknowledges number) is _ = passes-so (ap may_wait is)
  by-asked (Accepts o replies) is never = absurd (let clash : false ≡ true = never in cc)
  by-asked (Looks o) is _ = passes-so (ap may_wait is)
  by-asked (SendsTo o) is never = absurd (let clash : false ≡ true = never in cc)
  by-asked (Calls o) is never = absurd (let clash : false ≡ true = never in cc)
  by-asked (Tries o) is _ = passes-so (ap may_wait is)
  by-asked Answers is _ = passes-so (ap may_wait is)
  by-asked Asks_nothing is _ = passes-so (ap may_wait is)

  pub call-falls : left image priority w after later + 1 ≤ left image priority w s labels
  call-falls = by-asked asked refl none
