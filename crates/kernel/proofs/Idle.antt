-- Steps in which no thread runs.
use Rattle.std.proofs.Common.{ℕ, zero, suc, ◌≡◌, ◌∙◌, ◌+◌, ◌++◌, List, ◌∷◌, Option, None, refl, replicate, sym, ap}
use Rattle.std.specs.List.{flat_map}
use Rattle.std.specs.Option.{option_map_or}
use Rattle.std.proofs.lemmas.List.{flat_map_more, replicate_more}
use Rattle.model.specs.Kernel.Scheduling.{current}
use Rattle.model.specs.Kernel.State.{State}
use Rattle.model.specs.Kernel.Steps.{ran, state_after, step, trace}
use Rattle.model.specs.declared.events.Event.TheVariants.{Step}
use Rattle.model.specs.declared.labels.Label.{Label}
use Rattle.model.specs.declared.labels.Label.TheVariants.{Idle}

module _ (s : State) (none : current s ≡ None) where
  idle-step : step s Step ≡ (s, Idle)
  unfolding step
  idle-step = ap (λ (o : Option ℕ). option_map_or (ran s) o (s, Idle)) none

  pub idle-state : (n : ℕ) → s ≡ state_after s (replicate n Step)
  unfolding state_after
  idle-state zero = refl
  idle-state (suc n) = idle-state n ∙ ap (λ (x : State × Label). state_after x.0 (replicate n Step)) (sym idle-step)

  pub idle-labels : (n : ℕ) → replicate n Idle ≡ trace s (replicate n Step)
  unfolding trace
  idle-labels zero = refl
  idle-labels (suc n) =
      ap (λ (labels : List Label). Idle ∷ labels) (idle-labels n) ∙ ap (λ (x : State × Label). x.1 ∷ trace x.0 (replicate n Step)) (sym idle-step)

-- what is kept of the label of one more
pub idle-more : {A : Type 0} (kept : Label → List A) (n : ℕ) (old seen more : List A) → seen ≡ old ++ flat_map kept (replicate n Idle)
    → more ≡ seen ++ kept Idle → more ≡ old ++ flat_map kept (replicate (n + 1) Idle)
idle-more kept n old seen more so puts =
    puts ∙ ap (λ items. items ++ kept Idle) so ∙ flat_map_more kept old (replicate n Idle) Idle
    ∙ ap (λ (labels : List Label). old ++ flat_map kept labels) (replicate_more n Idle)
