-- After a system call of a thread below no more is left than at rest, and what it rings at a notification at which a thread of the level rests.
use Rattle.std.proofs.Common.{ℕ, zero, suc, ◌≡◌, ◌≢◌, ◌∙◌, ◌⊎◌, ◌==◌, ◌+◌, ◌<◌, ◌≤◌, inl, inr, Bool, true, false, if◌then◌else◌, Option, Some, None, List, []}
use Rattle.std.proofs.Common.{◌∷◌}
use Rattle.std.proofs.Common.{refl, sym, ap, subst, arith}
use Rattle.std.specs.Prelude.{Contains}
use Rattle.std.proofs.lemmas.Bool.Decides.{eqb_tells}
use Rattle.model.specs.declared.labels.Label.{Label}
use Rattle.model.specs.Acceptance.Accepted.{IsAccepted}
use Rattle.model.specs.Acceptance.Authority.{WithinAuthority}
use Rattle.model.specs.Acceptance.CallRules.{AfterCall}
use Rattle.model.specs.Acceptance.NotedStates.{PointState}
use Rattle.model.specs.Acceptance.ThreadInvariants.{tcb_of}
use Rattle.model.specs.Images.Described.{Numbered, described, numbered_threads}
use Rattle.model.specs.Images.Image.{Image}
use Rattle.model.specs.Kernel.Interrupts.{binding}
use Rattle.model.specs.Kernel.Scheduling.{is_runnable}
use Rattle.model.specs.Kernel.State.{CNodeObject, EndpointObject, FrameObject, NotificationObject, NotificationState, Object, PageTableObject}
use Rattle.model.specs.Kernel.State.{RootTableObject, State, ThreadObject, ThreadState, notification_at, thread_at}
use Rattle.model.specs.Kernel.Waits.{open_count}
use Rattle.headline.specs.facts.Standing.{AllStand}
use Rattle.headline.specs.moves.Laws.{Laws}
use Rattle.headline.specs.moves.Moving.{CallsAt}
use Rattle.response.specs.Asking.{Asked, Takes, Polls, Rings, Acknowledges, Accepts, Looks, SendsTo, Calls, Tries, Answers, Asks_nothing}
use Rattle.response.specs.Laws.{RingsFit, WaitsToTake}
use Rattle.response.specs.Left.{at_rest, irq_lines, left, left_of_line, left_of_thread, left_of_word, line_price, total}
use Rattle.response.specs.Levels.{is_of_level}
use Rattle.response.specs.Weights.{Pays, Price, Weights, price_of}
use Rattle.response.proofs.AskedNow.{asked_now}
use Rattle.response.proofs.AtBells.{WaitsForNoMessage}
use Rattle.response.proofs.Costs.{total-less}
use Rattle.response.proofs.Interrupts.{word-of}
use Rattle.response.proofs.LevelCalls.{found-price, line-pays, lines-kept}
use Rattle.response.proofs.NamedNow.{asks-so}
use Rattle.response.proofs.Rises.{below-none, grown, kept, no_more, one-some, rings, rises, rung_cost, waiters-of, word-grown, worth}
use Rattle.response.proofs.Rung.{pended, rung_by}
use Rattle.response.proofs.Stage.{a-line, a-word, none-total, nothing-left}
use Rattle.response.proofs.Sums.{changed-once, threads-once}
use Rattle.response.proofs.TwoEntries.{falls-by}

-- where somebody waits there is a notification
waiters-there : (o : Option Object) (x : ℕ) (rest : List ℕ) → waiters-of o ≡ x ∷ rest → (n : NotificationState) × (o ≡ Some (NotificationObject n))
waiters-there (Some (NotificationObject n)) x rest is = (n, refl)
waiters-there None x rest is = absurd (let clash : ◌≡◌ {A = List ℕ} [] (x ∷ rest) = is in cc)
waiters-there (Some (ThreadObject t)) x rest is = absurd (let clash : ◌≡◌ {A = List ℕ} [] (x ∷ rest) = is in cc)
waiters-there (Some (EndpointObject e)) x rest is = absurd (let clash : ◌≡◌ {A = List ℕ} [] (x ∷ rest) = is in cc)
waiters-there (Some (CNodeObject radix)) x rest is = absurd (let clash : ◌≡◌ {A = List ℕ} [] (x ∷ rest) = is in cc)
waiters-there (Some FrameObject) x rest is = absurd (let clash : ◌≡◌ {A = List ℕ} [] (x ∷ rest) = is in cc)
waiters-there (Some PageTableObject) x rest is = absurd (let clash : ◌≡◌ {A = List ℕ} [] (x ∷ rest) = is in cc)
waiters-there (Some RootTableObject) x rest is = absurd (let clash : ◌≡◌ {A = List ℕ} [] (x ∷ rest) = is in cc)

module _ (laws : Laws) (bytes : List ℕ) (image : Image) (accepted : IsAccepted bytes image) (priority : ℕ) (w : Weights) (pays : Pays image priority w)
    (s after : State) (labels later : List Label) (all : AllStand image s labels) (behind : AllStand image after later)
    (told : (a b : ThreadState) → (a ≡ b) ⊎ (a ≢ b)) (t : Numbered) (listed : Contains (numbered_threads image) t)
    (within : WithinAuthority image t.thread s after)
    (quiet : (u : Numbered) → Contains (numbered_threads image) u → is_of_level priority u ≡ true → WaitsForNoMessage image u)
    (takes : (u : Numbered) (queue : ℕ) (n : NotificationState) (others : List ℕ) → Contains (numbered_threads image) u
    → s.objects queue ≡ Some (NotificationObject n) → n.waiters ≡ tcb_of image u ∷ others → WaitsToTake image u s labels queue)
    (counts : (thread : ℕ) → thread ≢ tcb_of image t → open_count thread later ≡ open_count thread labels)
    (bound : (number : ℕ) → number < 64 → binding after number ≡ binding s number)
    (described_so : (number : ℕ) → Contains irq_lines number → binding s number ≡ binding (described image) number)
    (below : is_of_level priority t ≡ false)
    (rests : (u : Numbered) → Contains (numbered_threads image) u → is_of_level priority u ≡ true
    → is_runnable (thread_at s (tcb_of image u)).status ≡ true → ⊥) (is_taken : ℕ → Bool)
    (taken : (queue : ℕ) (n : NotificationState) → is_taken queue ≡ true → s.objects queue ≡ Some (NotificationObject n) → n.word ≡ 0)
    (is_open : ℕ → Bool)
    (silent : (number : ℕ) → Contains irq_lines number → is_open number ≡ true → s.pending number ≡ false)
    (own : ThreadState) (point : ℕ) (state : PointState) (answer : AfterCall) (at : CallsAt image t s labels own point state answer) where
  abbrev tcb : ℕ
  tcb = tcb_of image t

  abbrev asked : Asked
  asked = asked_now s (tcb_of image t)

  abbrev before_of : Numbered → ℕ
  before_of = left_of_thread image priority w s labels

  abbrev after_of : Numbered → ℕ
  after_of = left_of_thread image priority w after later

  abbrev word_after : Price → ℕ
  word_after = left_of_word w after

  -- what may stand at an object
  abbrev fixed : Price → ℕ
  fixed p = if is_taken p.object then 0 else p.price

  -- ---- at rest, before the step

  before-none : (u : Numbered) → Contains (numbered_threads image) u → before_of u ≤ 0
  before-none u among = nothing-left image priority w s labels rests described_so is_taken taken is_open silent u among

  threads-before : total before_of (numbered_threads image) ≤ 0
  threads-before =
      let less = total-less before_of (λ _. 0) (numbered_threads image) before-none in
      let none = none-total image priority w s labels rests described_so is_taken taken is_open silent (numbered_threads image) in
      omega (arith, less, none)

  word-before : (p : Price) → left_of_word w s p ≤ fixed p
  word-before p = a-word image priority w s labels rests described_so is_taken taken is_open silent p

  words-before : total (left_of_word w s) w.prices ≤ total fixed w.prices
  words-before = total-less (left_of_word w s) fixed w.prices (λ p _. word-before p)

  -- what may be pending on a line
  abbrev fixed_line : ℕ → ℕ
  fixed_line number = if is_open number then 0 else line_price w (described image) number

  lines-before : total (left_of_line w s) irq_lines ≤ total fixed_line irq_lines
  lines-before = total-less (left_of_line w s) fixed_line irq_lines
      (λ n among. a-line image priority w s labels rests described_so is_taken taken is_open silent n among)

  own-none : after_of t ≡ 0
  own-none = below-none laws bytes image accepted priority w pays s after labels later all behind told t listed within quiet takes counts t below

  sum : total after_of (numbered_threads image) + total word_after w.prices + 0
      ≤ total before_of (numbered_threads image) + total (left_of_word w s) w.prices + rung_cost w (rung_by s after asked)
  sum = rises laws bytes image accepted priority w pays s after labels later all behind told t listed within quiet takes counts 0
      (let none = own-none in omega (arith, none))

  pends : (number : ℕ) → after.pending number ≡ true → s.pending number ≡ true
  pends = pended image t.thread s after all.sound.slots.derivation.valid within

  lines : total (left_of_line w after) irq_lines ≤ total (left_of_line w s) irq_lines
  lines = lines-kept image w s after bound pends

  -- ---- where it rings nothing, or a line pays

  quietly : ((o : ℕ) → asked ≡ Rings o → ⊥) → left image priority w after later ≤ at_rest image w is_taken is_open
  unfolding left
  quietly never =
      let line = (line-pays image w s after bound pends asked never).pays in
      let a = threads-before in
      let b = words-before in
      let c = lines-before in
      let d = sum in
      omega (arith, line, a, b, c, d)

  -- ---- where it rings

  module _ (o : ℕ) (is : asked ≡ Rings o) where
    signalled : rung_by s after asked ≡ Some o
    signalled = ap (rung_by s after) is

    same-bell : (other : ℕ) → rung_by s after asked ≡ Some other → other ≡ o
    same-bell other so = one-some (sym so ∙ signalled)

    rung : left image priority w after later ≤ at_rest image w is_taken is_open + price_of w o
    unfolding left
    rung =
        let cost : rung_cost w (rung_by s after asked) ≡ price_of w o = ap (rung_cost w) signalled in
        let a = threads-before in
        let b = words-before in
        let c = lines-before in
        let d = sum in
        let e = lines in
        omega (arith, cost, a, b, c, d, e)

    -- a word at an object that is not taken out is counted already
    module _ (free : is_taken o ≡ false) where
      fixed-here : (p : Price) → p.object ≡ o → fixed p ≡ p.price
      fixed-here p here = ap (λ (b : Bool). if b then 0 else p.price) (ap is_taken here ∙ free)

      word-less : (p : Price) → word_after p ≤ p.price
      word-less p = elim ((notification_at after p.object).word == 0) as (λ b. (if b then 0 else p.price) ≤ p.price)
          [ true ↦ omega arith | false ↦ omega arith ]

      after-none : ((u : Numbered) (other : ℕ) (rest : List ℕ) → other ≡ o → (notification_at s other).waiters ≡ tcb_of image u ∷ rest → ⊥)
          → (u : Numbered) → Contains (numbered_threads image) u → after_of u ≤ 0
      after-none never u among = elim (eqb_tells (tcb_of image u) tcb) [
        | inl here ↦ (
            let same : u ≡ t = laws.own_blocks bytes image u t accepted among listed here.1 in
            let none = own-none in
            subst (λ (x : Numbered). after_of x ≤ 0) (sym same) (omega (arith, none)))
        | inr apart ↦ (elim (grown laws bytes image accepted priority w pays s after labels later all behind told t listed within quiet takes counts u among
            apart.1) [
              | kept less ↦ (let none = before-none u among in omega (arith, less, none))
              | worth other rest so first worth_ ↦ absurd (never u other rest (same-bell other so) first)
            ])
      ]

      abbrev Fits : Type 0
      Fits = total after_of (numbered_threads image) + total word_after w.prices ≤ total fixed w.prices

      zero-sum : total {A = Numbered} (λ _. 0) (numbered_threads image) ≡ 0
      zero-sum = none-total image priority w s labels rests described_so is_taken taken is_open silent (numbered_threads image)

      sets : (notification_at s o).waiters ≡ [] → Fits
      sets nobody =
          let threads = total-less after_of (λ _. 0) (numbered_threads image)
          (λ u among. after-none (λ v other rest here first.
          let clash : ◌≡◌ {A = List ℕ} [] (tcb_of image v ∷ rest) = sym nobody ∙ ap (λ (x : ℕ). (notification_at s x).waiters) (sym here) ∙ first in
          absurd cc) u among) in
          let none = zero-sum in
          let words = total-less word_after fixed w.prices (λ p _. elim
          (word-grown laws bytes image accepted priority w pays s after labels later all behind told t listed within quiet takes counts p) [
            | no_more less ↦ (let b = word-before p in omega (arith, less, b))
            | rings so nobody_ ↦ (let e = fixed-here p (same-bell p.object so) in let less = word-less p in omega (arith, e, less))
          ]) in
          omega (arith, threads, none, words)

      wakes : (x : ℕ) (rest : List ℕ) → (notification_at s o).waiters ≡ x ∷ rest → Fits
      wakes x rest first =
          let threads = changed-once (tcb_of image) (λ _. 0) after_of x (price_of w o) (numbered_threads image) elsewhere there
          (threads-once image x (λ u v a b alike. laws.own_blocks bytes image u v accepted a b alike)) in
          let none = zero-sum in
          let words = by-price (price_of w o) refl in
          omega (arith, threads, none, words)
        where
          elsewhere : (u : Numbered) → Contains (numbered_threads image) u → tcb_of image u ≢ x → after_of u ≤ 0
          elsewhere u among off = elim (eqb_tells (tcb_of image u) tcb) [
            | inl here ↦ (
                let same : u ≡ t = laws.own_blocks bytes image u t accepted among listed here.1 in
                let none = own-none in
                subst (λ (y : Numbered). after_of y ≤ 0) (sym same) (omega (arith, none)))
            | inr apart ↦ (elim (grown laws bytes image accepted priority w pays s after labels later all behind told t listed within quiet takes counts u
                among apart.1) [
                  | kept less ↦ (let none = before-none u among in omega (arith, less, none))
                  | worth other more so head worth_ ↦
                      let both : ◌≡◌ {A = List ℕ} (x ∷ rest) (tcb_of image u ∷ more) =
                      sym first ∙ ap (λ (y : ℕ). (notification_at s y).waiters) (sym (same-bell other so)) ∙ head in
                      let heads : x ≡ tcb_of image u = cc in
                      absurd (off (sym heads))
                ])
          ]

          there : (u : Numbered) → Contains (numbered_threads image) u → tcb_of image u ≡ x → after_of u ≤ 0 + price_of w o
          there u among on = elim (eqb_tells (tcb_of image u) tcb) [
            | inl here ↦ (
                let same : u ≡ t = laws.own_blocks bytes image u t accepted among listed here.1 in
                let none = own-none in
                subst (λ (y : Numbered). after_of y ≤ 0 + price_of w o) (sym same) (omega (arith, none)))
            | inr apart ↦ (elim (grown laws bytes image accepted priority w pays s after labels later all behind told t listed within quiet takes counts u
                among apart.1) [
                  | kept less ↦ (let none = before-none u among in omega (arith, less, none))
                  | worth other more so head worth_ ↦ (let e = ap (price_of w) (same-bell other so) in omega (arith, worth_, e))
                ])
          ]

          -- where somebody waits no word stands
          no-word : (notification_at s o).word ≡ 0
          no-word =
              let found = waiters-there (s.objects o) x rest first in
              elim (all.sound.threads.idle o found.0 found.1) [
                | inl nobody ↦ absurd (let clash : ◌≡◌ {A = List ℕ} [] (x ∷ rest) = sym nobody ∙ sym (ap waiters-of found.1) ∙ first in cc)
                | inr none ↦ ap word-of found.1 ∙ none
              ]

          word-kept : (p : Price) → word_after p ≤ left_of_word w s p
          word-kept p = elim (word-grown laws bytes image accepted priority w pays s after labels later all behind told t listed within quiet takes counts p) [
            | no_more less ↦ less
            | rings so nobody ↦
                let clash : ◌≡◌ {A = List ℕ} [] (x ∷ rest) = sym nobody ∙ ap (λ (y : ℕ). (notification_at s y).waiters) (same-bell p.object so) ∙ first in
                absurd cc
          ]

          word-fixed : (p : Price) → word_after p ≤ fixed p
          word-fixed p = let a = word-kept p in let b = word-before p in omega (arith, a, b)

          by-price : (n : ℕ) → price_of w o ≡ n → total word_after w.prices + price_of w o ≤ total fixed w.prices
          by-price zero none = let words = total-less word_after fixed w.prices (λ p _. word-fixed p) in omega (arith, words, none)
          by-price (suc n) some =
              let found = found-price o w.prices (omega (arith, some)) in
              let p = found.0 in
              let price : p.price ≡ price_of w o = sym (pays.each p found.1) ∙ ap (price_of w) found.2 in
              let e = fixed-here p found.2 in
              let before : left_of_word w s p ≡ 0 =
              ap (λ (k : ℕ). if (notification_at s k).word == 0 then 0 else p.price) found.2 ∙ ap (λ (k : ℕ). if k == 0 then 0 else p.price) no-word in
              let kept_ = word-kept p in
              let words = falls-by fixed word_after w.prices p (price_of w o) found.1 (λ q _. word-fixed q) (omega (arith, price, e, before, kept_)) in
              omega (arith, words)

      by-waiters : (l : List ℕ) → (notification_at s o).waiters ≡ l → Fits
      by-waiters [] nobody = sets nobody
      by-waiters (x ∷ rest) first = wakes x rest first

      counted : left image priority w after later ≤ at_rest image w is_taken is_open
      unfolding left
      counted =
          let fits = by-waiters (notification_at s o).waiters refl in
          let a = lines in
          let b = lines-before in
          omega (arith, fits, a, b)

  -- ---- whatever it asks

  module _ (most : ℕ) (fit : RingsFit image priority w is_taken is_open most) (rest : at_rest image w is_taken is_open ≤ most) where
    abbrev Rests : Type 0
    Rests = left image priority w after later ≤ most

    other-call : ((o : ℕ) → asked ≡ Rings o → ⊥) → Rests
    other-call never = let less = quietly never in omega (arith, less, rest)

    ring-call : (o : ℕ) → asked ≡ Rings o → Rests
    ring-call o is = elim (is_taken o) as (λ b. is_taken o ≡ b → Rests) [
      | true ↦ λ here.
          let asks = asks-so laws bytes image s labels accepted t listed own point state answer at in
          let fits = fit t point state o listed below at.stands.inside at.stands.known (asks ∙ is) here in
          let less = rung o is in
          omega (arith, less, fits)
      | false ↦ λ free. let less = counted o is free in omega (arith, less, rest)
    ] refl

    by-asked : (a : Asked) → asked ≡ a → Rests
    by-asked (Rings o) is = ring-call o is
    by-asked (Takes o) is = other-call (λ k so. let clash : Takes o ≡ Rings k = sym is ∙ so in absurd cc)
    by-asked (Polls o) is = other-call (λ k so. let clash : Polls o ≡ Rings k = sym is ∙ so in absurd cc)
    by-asked (Acknowledges number) is = other-call (λ k so. let clash : Acknowledges number ≡ Rings k = sym is ∙ so in absurd cc)
    by-asked (Accepts o replies) is = other-call (λ k so. let clash : Accepts o replies ≡ Rings k = sym is ∙ so in absurd cc)
    by-asked (Looks o) is = other-call (λ k so. let clash : Looks o ≡ Rings k = sym is ∙ so in absurd cc)
    by-asked (SendsTo o) is = other-call (λ k so. let clash : SendsTo o ≡ Rings k = sym is ∙ so in absurd cc)
    by-asked (Calls o) is = other-call (λ k so. let clash : Calls o ≡ Rings k = sym is ∙ so in absurd cc)
    by-asked (Tries o) is = other-call (λ k so. let clash : Tries o ≡ Rings k = sym is ∙ so in absurd cc)
    by-asked Answers is = other-call (λ k so. let clash : Answers ≡ Rings k = sym is ∙ so in absurd cc)
    by-asked Asks_nothing is = other-call (λ k so. let clash : Asks_nothing ≡ Rings k = sym is ∙ so in absurd cc)

    pub call-rests : left image priority w after later ≤ most
    call-rests = by-asked asked refl
