-- The labels of a thread whose invariant holds throughout are within its budget.
use Rattle.std.proofs.Common.{ℕ, ◌≡◌, ◌∙◌, ◌+◌, ◌-◌, ◌≤◌, ◌++◌, true, false, if◌then◌else◌, Some, List, [], ◌∷◌, refl, sym, ap, subst, append_assoc, arith}
use Rattle.headline.specs.Throughout.{AllStandThroughout}
use Rattle.headline.proofs.RunningLabels.{label-runs}
use Rattle.headline.proofs.Stretches.{AreWithin, left_behind, within-keeps}
use Rattle.headline.specs.facts.Standing.{AllStand}
use Rattle.model.specs.declared.events.Event.{Event}
use Rattle.model.specs.declared.labels.Label.{Label}
use Rattle.model.specs.Images.Described.{described}
use Rattle.model.specs.Images.Image.{Image}
use Rattle.model.specs.Kernel.Scheduling.{current}
use Rattle.model.specs.Kernel.State.{State}
use Rattle.model.specs.Kernel.Steps.{state_after, step, trace}
use Rattle.model.specs.Kernel.Waits.{KeepsBudget, count_open, is_of, is_wait, labels_of, open_count}
use Rattle.headline.proofs.Laws.{other-label, own-label, state-next, trace-next}

-- what is left after a label of the thread's
left-behind : (budget count : ℕ) (label : Label) → budget - count_open count label ≡ left_behind budget (budget - count) label
left-behind budget count label =
    elim (is_wait label) as
    (λ b. budget - (if b then 0 else count + 1) ≡ (if b then budget else budget - count - 1)) [ true ↦ omega arith | false ↦ omega arith ]

-- nothing is counted before the first label
none-open : (thread : ℕ) → open_count thread [] ≡ 0
unfolding open_count
none-open thread = refl

module _ (image : Image) (thread budget : ℕ)
    (runs : (s : State) (labels : List Label) → AllStand image s labels → current s ≡ Some thread → open_count thread labels + 1 ≤ budget)
    (events : List Event) (stand : AllStandThroughout image events) where
  abbrev start : State
  start = described image

  abbrev left : List Label → ℕ
  left labels = budget - open_count thread labels

  -- a label in front of the thread's others
  one-more : (s : State) (labels behind : List Label) (event : Event) → AllStand image s labels
      → AreWithin budget (left (labels ++ (step s event).1 ∷ [])) (labels_of thread behind)
      → AreWithin budget (left labels) (labels_of thread ((step s event).1 ∷ behind))
  one-more s labels behind event all within =
      let label = (step s event).1 in
      elim (is_of thread label) as
      (λ b. is_of thread label ≡ b → AreWithin budget (left labels) (if b then label ∷ labels_of thread behind else labels_of thread behind)) [
        | true ↦ λ own.
            let less = runs s labels all (label-runs s event thread own) in (
              omega (arith, less),
              subst (λ (n : ℕ). AreWithin budget n (labels_of thread behind))
                  (ap (λ (n : ℕ). budget - n) (own-label thread labels label own) ∙ left-behind budget (open_count thread labels) label) within,
            )
        | false ↦ λ other. subst (λ (n : ℕ). AreWithin budget (budget - n) (labels_of thread behind)) (other-label thread labels label other) within
      ] refl

  within-from : (before rest : List Event) → events ≡ before ++ rest
      → AreWithin budget (left (trace start before)) (labels_of thread (trace (state_after start before) rest))
  unfolding trace
  within-from before [] is = tt
  within-from before (event ∷ rest) is =
      let s = state_after start before in
      let labels = trace start before in
      let later = within-from (before ++ event ∷ []) rest (is ∙ sym (append_assoc before (event ∷ []) rest)) in
      let here : AreWithin budget (left (labels ++ (step s event).1 ∷ [])) (labels_of thread (trace (step s event).0 rest)) =
      subst (λ (l : List Label). AreWithin budget (left l) (labels_of thread (trace (step s event).0 rest))) (trace-next start before event)
      (subst (λ (x : State). AreWithin budget (left (trace start (before ++ event ∷ []))) (labels_of thread (trace x rest)))
      (state-next start before event) later) in
      one-more s labels (trace (step s event).0 rest) event (stand before (event ∷ rest) is) here

  pub keeps-budget : KeepsBudget thread budget (trace start events)
  unfolding trace state_after
  keeps-budget =
      let all = within-from [] events refl in
      let whole : left [] ≡ budget = ap (λ (n : ℕ). budget - n) (none-open thread) ∙ omega arith in
      within-keeps thread budget budget (trace start events) (omega arith)
      (subst (λ (n : ℕ). AreWithin budget n (labels_of thread (trace start events))) whole all)
