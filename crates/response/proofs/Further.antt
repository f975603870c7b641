-- One interrupt more.
use Rattle.std.proofs.Common.{ℕ, true, nat_lt, ◌≡◌, ◌+◌, ◌≤◌, ◌++◌, List, [], ◌∷◌, Some, refl, sym, subst}
use Rattle.std.specs.Prelude.{Contains}
use Rattle.model.specs.declared.events.Event.{Event}
use Rattle.model.specs.declared.events.Event.TheVariants.{Irq}
use Rattle.model.specs.declared.labels.Label.{Label}
use Rattle.model.specs.declared.labels.Label.TheVariants.{Raised}
use Rattle.model.specs.Acceptance.Accepted.{IsAccepted}
use Rattle.model.specs.Acceptance.ThreadInvariants.{tcb_of}
use Rattle.model.specs.Images.Described.{Numbered, described, numbered_threads}
use Rattle.model.specs.Images.Image.{Image}
use Rattle.model.specs.Kernel.Interrupts.{raise}
use Rattle.model.specs.Kernel.State.{NotificationObject, NotificationState, State}
use Rattle.model.specs.Kernel.Steps.{state_after, step, trace}
use Rattle.headline.proofs.Laws.{other-label, state-next, trace-next}
use Rattle.headline.specs.facts.Standing.{AllStand}
use Rattle.headline.specs.moves.Laws.{Laws}
use Rattle.response.specs.Laws.{WaitsToTake}
use Rattle.response.specs.Left.{left, line_price}
use Rattle.response.specs.Weights.{Pays, Weights}
use Rattle.response.proofs.Interrupts.{beyond-costs, raised-costs}

module _ (laws : Laws) (bytes : List ℕ) (image : Image) (accepted : IsAccepted bytes image) (priority : ℕ) (w : Weights) (pays : Pays image priority w)
    (events : List Event) (number : ℕ) where
  abbrev s : State
  s = state_after (described image) events

  abbrev labels : List Label
  labels = trace (described image) events

  raised : raise s number ≡ (step s (Irq number)).0
  unfolding step
  raised = refl

  label-is : Raised number ≡ (step s (Irq number)).1
  unfolding step
  label-is = refl

  pub further-costs : (cost : ℕ) → left image priority w (raise s number) (labels ++ Raised number ∷ []) ≤ left image priority w s labels + cost
      → left image priority w (state_after (described image) (events ++ Irq number ∷ [])) (trace (described image) (events ++ Irq number ∷ []))
      ≤ left image priority w (state_after (described image) events) (trace (described image) events) + cost
  further-costs cost here =
      let one = subst (λ (x : State). left image priority w x (labels ++ Raised number ∷ []) ≤ left image priority w s labels + cost) raised here in
      let two = subst (λ (l : Label). left image priority w (step s (Irq number)).0 (labels ++ l ∷ []) ≤ left image priority w s labels + cost) label-is one in
      let three = subst (λ (x : State). left image priority w x (labels ++ (step s (Irq number)).1 ∷ []) ≤ left image priority w s labels + cost)
      (sym (state-next (described image) events (Irq number))) two in
      subst (λ (l : List Label). left image priority w (state_after (described image) (events ++ Irq number ∷ [])) l ≤ left image priority w s labels + cost)
      (sym (trace-next (described image) events (Irq number))) three

  module _ (all : AllStand image (state_after (described image) events) (trace (described image) events))
      (takes : (t : Numbered) (queue : ℕ) (n : NotificationState) (others : List ℕ) → Contains (numbered_threads image) t
      → (state_after (described image) events).objects queue ≡ Some (NotificationObject n)
      → n.waiters ≡ tcb_of image t ∷ others → WaitsToTake image t (state_after (described image) events) (trace (described image) events) queue) where
    pub raise-costs : left image priority w (state_after (described image) (events ++ Irq number ∷ [])) (trace (described image) (events ++ Irq number ∷ []))
        ≤ left image priority w (state_after (described image) events) (trace (described image) events)
        + line_price w (state_after (described image) events) number
    raise-costs = further-costs (line_price w s number) (raised-costs laws bytes image accepted priority w pays s labels (labels ++ Raised number ∷ []) all
        (λ thread. other-label thread labels (Raised number) refl) takes number)

    pub beyond : nat_lt 63 number ≡ true
        → left image priority w (state_after (described image) (events ++ Irq number ∷ [])) (trace (described image) (events ++ Irq number ∷ []))
        ≤ left image priority w (state_after (described image) events) (trace (described image) events) + 0
    beyond is = further-costs 0 (beyond-costs laws bytes image accepted priority w pays s labels (labels ++ Raised number ∷ []) all
        (λ thread. other-label thread labels (Raised number) refl) takes number is)
