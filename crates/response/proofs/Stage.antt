-- All of stage one together.
use Rattle.std.proofs.Common.{ℕ, ◌≡◌, ◌∙◌, ◌==◌, ◌+◌, ◌-◌, ◌≤◌, ◌&&◌, inl, inr, true, false, if◌then◌else◌, Option, Some, None, Bool}
use Rattle.std.proofs.Common.{List, [], ◌∷◌, refl, sym, ap, arith}
use Rattle.std.specs.Prelude.{Contains}
use Rattle.std.specs.Option.{option_map_or}
use Rattle.std.specs.List.{list_any}
use Rattle.std.proofs.lemmas.Bool.{and_parts, eqb-true, or_cases}
use Rattle.model.specs.declared.events.Event.TheVariants.{Step}
use Rattle.model.specs.declared.labels.Label.{Label}
use Rattle.model.specs.declared.labels.Label.TheVariants.{Idle}
use Rattle.model.specs.Acceptance.ThreadInvariants.{tcb_of}
use Rattle.model.specs.Images.Described.{Numbered, described, numbered_threads}
use Rattle.model.specs.Images.Image.{Image}
use Rattle.model.specs.Kernel.Interrupts.{Signal, binding}
use Rattle.model.specs.Kernel.Scheduling.{current, is_runnable}
use Rattle.model.specs.Kernel.State.{CNodeObject, EndpointObject, FrameObject, NotificationObject, NotificationState, Object, PageTableObject}
use Rattle.model.specs.Kernel.State.{RootTableObject, State, ThreadObject, as_notification, new_notification, notification_at, thread_at}
use Rattle.model.specs.Kernel.Steps.{memory_base, ran, step}
use Rattle.model.specs.Kernel.Waits.{is_of, open_count}
use Rattle.headline.proofs.Laws.{idle-is}
use Rattle.response.specs.Left.{at_rest, irq_lines, left, left_of_line, left_of_thread, left_of_word, line_price, point_now, total}
use Rattle.response.specs.Levels.{is_level_label, is_of_level}
use Rattle.response.specs.Weights.{Price, Weights, price_of}
use Rattle.response.proofs.Costs.{total-less}
use Rattle.response.proofs.Runs.{none-of}
use Rattle.response.proofs.Sums.{further}

-- ---- whose a label is

among-level : (image : Image) (priority thread : ℕ) (ts : List Numbered) (label : Label)
    → ((t : Numbered) → Contains ts t → is_of_level priority t ≡ true → is_of (tcb_of image t) label ≡ true → ⊥)
    → list_any (λ t. is_of_level priority t && is_of (tcb_of image t) label) ts ≡ true → ⊥
among-level image priority thread [] label none any = let clash : false ≡ true = any in absurd cc
among-level image priority thread (t ∷ ts) label none any =
    elim (or_cases (is_of_level priority t && is_of (tcb_of image t) label) _ any) [
      | inl here ↦ let parts = and_parts (is_of_level priority t) (is_of (tcb_of image t) label) here in none t (0, omega arith, refl) parts.0 parts.1
      | inr there ↦ among-level image priority thread ts label (λ u at. none u (further t u ts at)) there
    ]

-- the label of a thread that is not of the level
pub other-seen : (image : Image) (priority : ℕ) (s : State) (t : Numbered) → Contains (numbered_threads image) t
    → ((u : Numbered) → Contains (numbered_threads image) u → tcb_of image u ≡ tcb_of image t → u ≡ t) → is_of_level priority t ≡ false
    → current s ≡ Some (tcb_of image t) → is_level_label image priority (step s Step).1 ≡ true → ⊥
unfolding step
other-seen image priority s t listed own other now any =
    among-level image priority (tcb_of image t) (numbered_threads image) (option_map_or (ran s) (current s) (s, Idle)).1
    (λ u at level is.
    let here : memory_base + tcb_of image t ≡ memory_base + tcb_of image u =
    eqb-true (memory_base + tcb_of image t) (memory_base + tcb_of image u)
    (sym (ap (λ (o : Option ℕ). is_of (tcb_of image u) (option_map_or (ran s) o (s, Idle)).1) now) ∙ is) in
    let same : u ≡ t = own u at (omega (arith, here)) in
    let clash : false ≡ true = sym other ∙ ap (is_of_level priority) (sym same) ∙ level in absurd cc) any

pub idle-seen : (image : Image) (priority : ℕ) (s : State) → current s ≡ None → is_level_label image priority (step s Step).1 ≡ true → ⊥
idle-seen image priority s none any =
    let clash : false ≡ true = sym (none-of image priority (numbered_threads image))
    ∙ sym (ap (λ (x : State × Label). is_level_label image priority x.1) (idle-is s none)) ∙ any in absurd cc

-- ---- where nobody runs

module _ (image : Image) (priority : ℕ) (w : Weights) (s : State) (labels : List Label)
    (rests : (t : Numbered) → Contains (numbered_threads image) t → is_of_level priority t ≡ true
    → is_runnable (thread_at s (tcb_of image t)).status ≡ true → ⊥)
    (bound : (number : ℕ) → Contains irq_lines number → binding s number ≡ binding (described image) number) (is_taken : ℕ → Bool)
    (taken : (queue : ℕ) (n : NotificationState) → is_taken queue ≡ true → s.objects queue ≡ Some (NotificationObject n) → n.word ≡ 0)
    (is_open : ℕ → Bool)
    (silent : (number : ℕ) → Contains irq_lines number → is_open number ≡ true → s.pending number ≡ false) where
  pub nothing-left : (t : Numbered) → Contains (numbered_threads image) t → left_of_thread image priority w s labels t ≤ 0
  nothing-left t listed = elim (is_of_level priority t) as (λ b. is_of_level priority t ≡ b → (if b && is_runnable (thread_at s (tcb_of image t)).status
      then t.thread.header.budget - open_count (tcb_of image t) labels + w.still t.number (point_now image s t) else 0) ≤ 0) [
        | true ↦ λ level. elim (is_runnable (thread_at s (tcb_of image t)).status) as (λ b. is_runnable (thread_at s (tcb_of image t)).status ≡ b → (if b
            then t.thread.header.budget - open_count (tcb_of image t) labels + w.still t.number (point_now image s t) else 0) ≤ 0) [
              | true ↦ λ may. absurd (rests t listed level may)
              | false ↦ λ _. omega arith
            ] refl
        | false ↦ λ _. omega arith
      ] refl

  pub none-total : {A : Type 0} (xs : List A) → total (λ _. 0) xs ≡ 0
  none-total [] = refl
  none-total (x ∷ xs) = let rest = none-total xs in omega (arith, rest)

  -- an object that is no notification has no word
  word-there : (queue : ℕ) → is_taken queue ≡ true → (o : Option Object) → s.objects queue ≡ o
      → (option_map_or (λ (n : NotificationState). n) (as_notification o) new_notification).word ≡ 0
  word-there queue here (Some (NotificationObject n)) is = taken queue n here is
  word-there queue here None is = refl
  word-there queue here (Some (ThreadObject t)) is = refl
  word-there queue here (Some (EndpointObject e)) is = refl
  word-there queue here (Some (CNodeObject radix)) is = refl
  word-there queue here (Some FrameObject) is = refl
  word-there queue here (Some PageTableObject) is = refl
  word-there queue here (Some RootTableObject) is = refl

  pub a-word : (p : Price) → left_of_word w s p ≤ (if is_taken p.object then 0 else p.price)
  a-word p = elim (is_taken p.object) as (λ b. is_taken p.object ≡ b → left_of_word w s p ≤ (if b then 0 else p.price)) [
    | true ↦ λ here.
        let none : left_of_word w s p ≡ 0 = ap (λ (k : ℕ). if k == 0 then 0 else p.price) (word-there p.object here (s.objects p.object) refl) in
        omega (arith, none)
    | false ↦ λ _. elim ((notification_at s p.object).word == 0) as (λ b. (if b then 0 else p.price) ≤ p.price) [ true ↦ omega arith | false ↦ omega arith ]
  ] refl

  pub a-line : (number : ℕ) → Contains irq_lines number → left_of_line w s number ≤ (if is_open number then 0 else line_price w (described image) number)
  a-line number among =
      let same : line_price w s number ≡ line_price w (described image) number =
      ap (λ (b : Option Signal). option_map_or (λ x. price_of w x.notification) b 0) (bound number among) in
      elim (is_open number) as (λ b. is_open number ≡ b → left_of_line w s number ≤ (if b then 0 else line_price w (described image) number)) [
        | true ↦ λ here.
            let none : left_of_line w s number ≡ 0 = ap (λ (b : Bool). if b then line_price w s number else 0) (silent number among here) in
            omega (arith, none)
        | false ↦ λ _. elim (s.pending number) as (λ b. (if b then line_price w s number else 0) ≤ line_price w (described image) number)
            [ true ↦ omega (arith, same) | false ↦ omega arith ]
      ] refl

  pub rest-left : left image priority w s labels ≤ at_rest image w is_taken is_open
  unfolding left
  rest-left =
      let threads = total-less (left_of_thread image priority w s labels) (λ _. 0) (numbered_threads image) nothing-left in
      let none = none-total (numbered_threads image) in
      let words = total-less (left_of_word w s) (λ p. if is_taken p.object then 0 else p.price) w.prices (λ p at. a-word p) in
      let lines = total-less (left_of_line w s) (λ number. if is_open number then 0 else line_price w (described image) number) irq_lines a-line in
      omega (arith, threads, none, words, lines)
