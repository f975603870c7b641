-- One instruction more since the last wait, and a measure that has fallen by 1 at least.
use Rattle.std.proofs.Common.{ℕ, ◌≡◌, ◌+◌, ◌++◌, true, false, if◌then◌else◌, filter, fold, List, [], ◌∷◌, ℤ, pos, ◌+ℤ◌, ◌≤ℤ◌, ◌<ℤ◌, refl, ap, arith}
use Rattle.std.proofs.lemmas.Bool.{eq-eqb}
use Rattle.std.proofs.lemmas.Int.{ints}
use Rattle.model.specs.declared.events.Event.{Event}
use Rattle.model.specs.declared.labels.Label.{Label}
use Rattle.model.specs.declared.labels.Label.TheVariants.{Ran}
use Rattle.model.specs.declared.labels.Outcome.TheVariants.{Plain}
use Rattle.model.specs.Kernel.State.{State}
use Rattle.model.specs.Kernel.Steps.{memory_base, state_after, step, trace}
use Rattle.model.specs.Kernel.Waits.{count_open, is_of, open_count}

count-more : (thread pc count : ℕ) (labels : List Label) → fold count_open count (filter (is_of thread) (labels ++ Ran (memory_base + thread) pc Plain ∷ []))
    ≡ fold count_open count (filter (is_of thread) labels) + 1
count-more thread pc count [] = ap (λ b. fold count_open count (if b then Ran (memory_base + thread) pc Plain ∷ [] else []))
    (eq-eqb (memory_base + thread) (memory_base + thread) refl)
count-more thread pc count (x ∷ labels) = elim (is_of thread x)
    as (λ b. fold count_open count (if b then x ∷ filter (is_of thread) (labels ++ Ran (memory_base + thread) pc Plain ∷ []) else
    filter (is_of thread) (labels ++ Ran (memory_base + thread) pc Plain ∷ []))
    ≡ fold count_open count (if b then x ∷ filter (is_of thread) labels else filter (is_of thread) labels) + 1) [
      | true ↦ count-more thread pc (count_open count x) labels
      | false ↦ count-more thread pc count labels
    ]

pub open-more : (thread pc : ℕ) (labels : List Label) → open_count thread (labels ++ Ran (memory_base + thread) pc Plain ∷ []) ≡ open_count thread labels + 1
unfolding open_count
open-more thread pc labels = count-more thread pc 0 labels

pub within-still : (n budget : ℕ) (before after : ℤ) → (pos n +ℤ before) ≤ℤ pos budget → after <ℤ before → (pos (n + 1) +ℤ after) ≤ℤ pos budget
within-still n budget before after within less = grind (arith, ints, within, less)

-- ---- events

pub state-next : (s : State) (events : List Event) (event : Event) → state_after s (events ++ event ∷ []) ≡ (step (state_after s events) event).0
unfolding state_after
state-next s [] event = refl
state-next s (e ∷ events) event = state-next (step s e).0 events event

pub trace-next : (s : State) (events : List Event) (event : Event) → trace s (events ++ event ∷ []) ≡ trace s events
    ++ (step (state_after s events) event).1 ∷ []
unfolding state_after trace
trace-next s [] event = refl
trace-next s (e ∷ events) event = ap (λ (l : List Label). (step s e).1 ∷ l) (trace-next (step s e).0 events event)
