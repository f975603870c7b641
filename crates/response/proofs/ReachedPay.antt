-- What a system call adds to the shares of others is at most the price of what it reaches.
use Rattle.std.proofs.Common.{ℕ, ◌≡◌, ◌≢◌, ◌∙◌, ◌⊎◌, ◌==◌, ◌+◌, ◌≤◌, inl, inr, true, false, if◌then◌else◌, Option}
use Rattle.std.proofs.Common.{Some, None, List, [], ◌∷◌, refl, sym, ap, subst, arith}
use Rattle.std.specs.Prelude.{Contains}
use Rattle.std.proofs.lemmas.Bool.Decides.{eqb_tells}
use Rattle.model.specs.declared.labels.Label.{Label}
use Rattle.model.specs.Acceptance.Accepted.{IsAccepted}
use Rattle.model.specs.Acceptance.Authority.{WithinAuthority}
use Rattle.model.specs.Acceptance.ThreadInvariants.{tcb_of}
use Rattle.model.specs.Images.Described.{Numbered, numbered_threads}
use Rattle.model.specs.Images.Image.{Image}
use Rattle.model.specs.Kernel.State.{NotificationObject, NotificationState, State, ThreadState, notification_at}
use Rattle.model.specs.Kernel.Waits.{open_count}
use Rattle.headline.specs.facts.Standing.{AllStand}
use Rattle.headline.specs.moves.Laws.{Laws}
use Rattle.response.specs.Laws.{WaitsToTake}
use Rattle.response.specs.Left.{left_of_word, total}
use Rattle.response.specs.Owed.{WaitsWhereAsked}
use Rattle.response.specs.Weights.{Pays, Price, Weights, price_of}
use Rattle.response.proofs.AskedNow.{asked_now}
use Rattle.response.proofs.Costs.{total-less}
use Rattle.response.proofs.OthersMoved.{Moved, answered, as_it_was, gave, moved, reached_by, rung-reached, share, takers_in, worth}
use Rattle.response.proofs.Rises.{none-some, one-some, rung_cost}
use Rattle.response.proofs.Rung.{WordChange, fell, joined, rung_by, same, signals-rung, word-changes}
use Rattle.response.proofs.Sums.{changed-once, threads-once}
use Rattle.response.proofs.TwoEntries.{falls-by, moves}

-- shares are sums of two
pub total-both : {A : Type 0} (f g : A → ℕ) (xs : List A) → total (λ x. f x + g x) xs ≡ total f xs + total g xs
total-both f g [] = refl
total-both f g (x ∷ xs) = let rest = total-both f g xs in omega (arith, rest)

module _ (laws : Laws) (bytes : List ℕ) (image : Image) (accepted : IsAccepted bytes image) (priority : ℕ) (w : Weights) (pays : Pays image priority w)
    (s after : State) (labels later : List Label) (all : AllStand image s labels) (behind : AllStand image after later)
    (told : (a b : ThreadState) → (a ≡ b) ⊎ (a ≢ b)) (t : Numbered) (listed : Contains (numbered_threads image) t)
    (within : WithinAuthority image t.thread s after)
    (takes : (u : Numbered) (queue : ℕ) (n : NotificationState) (others : List ℕ) → Contains (numbered_threads image) u
    → s.objects queue ≡ Some (NotificationObject n) → n.waiters ≡ tcb_of image u ∷ others → WaitsToTake image u s labels queue)
    (where_asked : (u : Numbered) → Contains (numbered_threads image) u → WaitsWhereAsked image u s)
    (counts : (thread : ℕ) → thread ≢ tcb_of image t → open_count thread later ≡ open_count thread labels) where
  abbrev before_of : Numbered → ℕ
  before_of = share image priority w s labels

  abbrev after_of : Numbered → ℕ
  after_of = share image priority w after later

  abbrev reached : Option ℕ
  reached = reached_by s after (asked_now s (tcb_of image t))

  abbrev rung : Option ℕ
  rung = rung_by s after (asked_now s (tcb_of image t))

  pub moves-so : (u : Numbered) (among : Contains (numbered_threads image) u) (apart : tcb_of image u ≢ tcb_of image t)
      → Moved laws bytes image accepted priority w pays s after labels later all behind told t listed within takes where_asked counts u
  moves-so u among apart =
      moved laws bytes image accepted priority w pays s after labels later all behind told t listed within takes where_asked counts u among apart

  -- ---- words

  abbrev word_before : Price → ℕ
  word_before = left_of_word w s

  abbrev word_after : Price → ℕ
  word_after = left_of_word w after

  pub data WordGrown (p : Price) : Type 0 where
    no_more : word_after p ≤ word_before p → WordGrown p
    rings : rung ≡ Some p.object → takers_in (s.objects p.object) ≡ [] → WordGrown p

  by-word : (p : Price) → WordChange image t.thread s after all.sound.slots.derivation.valid within p.object → WordGrown p
  by-word p (fell none) = no_more (let zero_ : word_after p ≡ 0 = ap (λ (n : ℕ). if n == 0 then 0 else p.price) none in omega (arith, zero_))
  by-word p (same alike) = no_more (let e : word_after p ≡ word_before p = ap (λ (n : ℕ). if n == 0 then 0 else p.price) alike in omega (arith, e))
  by-word p (joined j) = rings (signals-rung image t.thread s after all.sound.slots.derivation.valid p.object j.badge j.names) (ap takers_in j.was ∙ j.nobody)

  pub word-grown : (p : Price) → WordGrown p
  word-grown p = by-word p (word-changes image t.thread s after all.sound.slots.derivation.valid within p.object)

  pub words-kept : rung ≡ None → total (left_of_word w after) w.prices ≤ total (left_of_word w s) w.prices
  words-kept none = total-less word_after word_before w.prices (λ p among. elim (word-grown p) [
    | no_more less ↦ less
    | rings is nobody ↦ absurd (none-some (sym none ∙ is))
  ])

  -- a word is worth its price
  pub word-worth : (p : Price) → Contains w.prices p → (o : ℕ) → p.object ≡ o → left_of_word w after p ≤ price_of w o
  word-worth p among o here =
      let price : p.price ≡ price_of w o = sym (pays.each p among) ∙ ap (price_of w) here in
      elim ((notification_at after p.object).word == 0) as (λ b. (if b then 0 else p.price) ≤ price_of w o)
      [ true ↦ omega arith | false ↦ omega (arith, price) ]

  -- ---- another thread, if it is not the first that waits at what is reached

  abbrev Never : Type 0
  Never = (u : Numbered) (o : ℕ) (rest : List ℕ) → reached ≡ Some o → takers_in (s.objects o) ≡ tcb_of image u ∷ rest → ⊥

  pub other-kept : Never → (u : Numbered) → Contains (numbered_threads image) u → tcb_of image u ≢ tcb_of image t → after_of u ≤ before_of u
  other-kept never u among apart = elim (moves-so u among apart) [
    | as_it_was so less ↦ less
    | worth o rest is first worth_ ↦ absurd (never u o rest is first)
    | gave e blocked less ↦ omega (arith, less)
    | answered awaits less ↦ less
  ]

  pub never-none : reached ≡ None → Never
  never-none none u o rest is first = none-some (sym none ∙ is)

  -- ---- sums, where the thread itself has less

  module _ (n : ℕ) (falls : after_of t + n ≤ before_of t) where
    abbrev Sum : ℕ → Type 0
    Sum cost = total after_of (numbered_threads image) + total word_after w.prices + n
        ≤ total before_of (numbered_threads image) + total word_before w.prices + cost

    own-block : (u : Numbered) → Contains (numbered_threads image) u → tcb_of image u ≡ tcb_of image t → after_of u ≤ before_of u
    own-block u among here =
        subst (λ (x : Numbered). after_of x ≤ before_of x) (sym (laws.own_blocks bytes image u t accepted among listed here)) (omega (arith, falls))

    -- each thread, if denied other one is woken
    each-kept : Never → (u : Numbered) → Contains (numbered_threads image) u → after_of u ≤ before_of u
    each-kept never u among = elim (eqb_tells (tcb_of image u) (tcb_of image t)) [
      | inl here ↦ own-block u among here.1
      | inr apart ↦ other-kept never u among apart.1
    ]

    pub threads-kept : Never → total after_of (numbered_threads image) + n ≤ total before_of (numbered_threads image)
    threads-kept never = falls-by before_of after_of (numbered_threads image) t n listed (λ u among. each-kept never u among) falls

    pub quietly : Never → rung ≡ None → Sum 0
    quietly never none = let threads = threads-kept never in let words = words-kept none in omega (arith, threads, words)

    no-rung : reached ≡ None → (o : Option ℕ) → rung ≡ o → rung ≡ None
    no-rung none None is = is
    no-rung none (Some o) is = absurd (none-some (sym none ∙ rung-reached s after (asked_now s (tcb_of image t)) o is))

    module _ (o : ℕ) (is : reached ≡ Some o) where
      same-place : (other : ℕ) → reached ≡ Some other → other ≡ o
      same-place other so = one-some (sym so ∙ is)

      same-bell : (other : ℕ) → rung ≡ Some other → other ≡ o
      same-bell other so = same-place other (rung-reached s after (asked_now s (tcb_of image t)) other so)

      -- nobody waits: a word may be set
      sets : takers_in (s.objects o) ≡ [] → Sum (price_of w o)
      sets nobody =
          let threads = threads-kept (λ u other rest so first.
          let clash : ◌≡◌ {A = List ℕ} [] (tcb_of image u ∷ rest) =
          sym nobody ∙ ap (λ (x : ℕ). takers_in (s.objects x)) (sym (same-place other so)) ∙ first in absurd cc) in
          let words = changed-once (λ (p : Price). p.object) word_before word_after o (price_of w o) w.prices
          (λ p among apart. elim (word-grown p) [
            | no_more less ↦ less
            | rings so none ↦ absurd (apart (same-bell p.object so))
          ]) (λ p among here. let worth_ = word-worth p among o here in omega (arith, worth_)) (pays.once o) in
          omega (arith, threads, words)

      -- the first that waits may run
      wakes : (x : ℕ) (rest : List ℕ) → takers_in (s.objects o) ≡ x ∷ rest → Sum (price_of w o)
      wakes x rest first =
          let words = total-less word_after word_before w.prices (λ p among. elim (word-grown p) [
            | no_more less ↦ less
            | rings so none ↦
                let clash : ◌≡◌ {A = List ℕ} [] (x ∷ rest) = sym none ∙ ap (λ (y : ℕ). takers_in (s.objects y)) (same-bell p.object so) ∙ first in
                absurd cc
          ]) in
          let threads = moves (tcb_of image) before_of after_of x (price_of w o) n (numbered_threads image) t listed elsewhere there
          (λ _. falls) (λ _. omega (arith, falls))
          (threads-once image x (λ u v a b alike. laws.own_blocks bytes image u v accepted a b alike)) in
          omega (arith, threads, words)
        where
          elsewhere : (u : Numbered) → Contains (numbered_threads image) u → tcb_of image u ≢ x → after_of u ≤ before_of u
          elsewhere u among off = elim (eqb_tells (tcb_of image u) (tcb_of image t)) [
            | inl here ↦ own-block u among here.1
            | inr apart ↦ (elim (moves-so u among apart.1) [
              | as_it_was so less ↦ less
              | worth other more so head worth_ ↦
                  let both : ◌≡◌ {A = List ℕ} (x ∷ rest) (tcb_of image u ∷ more) =
                  sym first ∙ ap (λ (y : ℕ). takers_in (s.objects y)) (sym (same-place other so)) ∙ head in
                  let heads : x ≡ tcb_of image u = cc in
                  absurd (off (sym heads))
              | gave e blocked less ↦ omega (arith, less)
              | answered awaits less ↦ less
            ])
          ]

          there : (u : Numbered) → Contains (numbered_threads image) u → tcb_of image u ≡ x → after_of u ≤ before_of u + price_of w o
          there u among on = elim (eqb_tells (tcb_of image u) (tcb_of image t)) [
            | inl here ↦ (let less = own-block u among here.1 in omega (arith, less))
            | inr apart ↦ (elim (moves-so u among apart.1) [
              | as_it_was so less ↦ omega (arith, less)
              | worth other more so head worth_ ↦
                  let e : price_of w other ≡ price_of w o = ap (price_of w) (same-place other so) in
                  omega (arith, worth_, e)
              | gave e blocked less ↦ omega (arith, less)
              | answered awaits less ↦ omega (arith, less)
            ])
          ]

      by-waiting : (l : List ℕ) → takers_in (s.objects o) ≡ l → Sum (price_of w o)
      by-waiting [] nobody = sets nobody
      by-waiting (x ∷ rest) first = wakes x rest first

    by-reached : (o : Option ℕ) → reached ≡ o → Sum (rung_cost w o)
    by-reached None none = quietly (never-none none) (no-rung none rung refl)
    by-reached (Some o) is = by-waiting o is (takers_in (s.objects o)) refl

    pub reached-pay : total (share image priority w after later) (numbered_threads image) + total (left_of_word w after) w.prices + n
        ≤ total (share image priority w s labels) (numbered_threads image) + total (left_of_word w s) w.prices
        + rung_cost w (reached_by s after (asked_now s (tcb_of image t)))
    reached-pay = by-reached reached refl
