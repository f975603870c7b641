-- One step more.
use Rattle.std.proofs.Common.{ℕ, zero, suc, ◌≡◌, ◌∙◌, ◌+◌, ◌++◌, List, [], ◌∷◌, refl, sym, ap, append_assoc, arith}
use Rattle.std.specs.List.{flat_map}
use Rattle.std.proofs.lemmas.Grind.{flat_map-append}
use Rattle.std.proofs.lemmas.List.{append-nil, flat_map_more}
use Rattle.model.specs.declared.events.Event.TheVariants.{Step}
use Rattle.model.specs.declared.labels.Label.{Label}
use Rattle.model.specs.Kernel.State.{State}
use Rattle.model.specs.Kernel.Steps.{state_after, step, trace}
use Rattle.user_memory.specs.Runs.{steps}

after-more : (s : State) (n : ℕ) → state_after s (steps (suc n)) ≡ (step (state_after s (steps n)) Step).0
unfolding state_after
after-more s zero = refl
after-more s (suc n) = after-more (step s Step).0 n

trace-more : (s : State) (n : ℕ) → trace s (steps (suc n)) ≡ trace s (steps n) ++ (step (state_after s (steps n)) Step).1 ∷ []
unfolding trace state_after
trace-more s zero = refl
trace-more s (suc n) = ap (λ (labels : List Label). (step s Step).1 ∷ labels) (trace-more (step s Step).0 n)

pub no-steps : (s : State) → state_after s (steps 0) ≡ s
unfolding state_after
no-steps s = refl

no-labels : (s : State) → trace s (steps 0) ≡ []
unfolding trace
no-labels s = refl

pub none-seen : {A : Type 0} (kept : Label → List A) (s : State) (old : List A) → old ≡ old ++ flat_map kept (trace s (steps 0))
none-seen kept s old = sym (ap (λ (labels : List Label). old ++ flat_map kept labels) (no-labels s) ∙ append-nil old)

pub one-more : (s now after : State) (n : ℕ) → now ≡ state_after s (steps n) → after ≡ (step now Step).0 → after ≡ state_after s (steps (n + 1))
one-more s now after n is goes =
    let next : n + 1 ≡ suc n = omega arith in
    goes ∙ ap (λ (t : State). (step t Step).0) is ∙ sym (after-more s n) ∙ ap (λ (k : ℕ). state_after s (steps k)) (sym next)

-- what is kept of the label of one step more
pub label-more : {A : Type 0} (kept : Label → List A) (s now : State) (n : ℕ) (label : Label) (old seen more : List A) → now ≡ state_after s (steps n)
    → (step now Step).1 ≡ label
    → seen ≡ old ++ flat_map kept (trace s (steps n)) → more ≡ seen ++ kept label → more ≡ old ++ flat_map kept (trace s (steps (n + 1)))
label-more kept s now n label old seen more is told so puts =
    let next : n + 1 ≡ suc n = omega arith in
    puts ∙ ap (λ items. items ++ kept label) so ∙ flat_map_more kept old (trace s (steps n)) label
    ∙ ap (λ (l : Label). old ++ flat_map kept (trace s (steps n) ++ l ∷ [])) (sym told ∙ ap (λ (t : State). (step t Step).1) is)
    ∙ ap (λ (labels : List Label). old ++ flat_map kept labels) (sym (trace-more s n) ∙ ap (λ (k : ℕ). trace s (steps k)) (sym next))

-- ---- many steps more

after-many : (s : State) (n more : ℕ) → state_after s (steps (n + more)) ≡ state_after (state_after s (steps n)) (steps more)
unfolding state_after
after-many s zero more = let none : 0 + more ≡ more = omega arith in ap (λ (k : ℕ). state_after s (steps k)) none
after-many s (suc n) more =
    let next : suc n + more ≡ suc (n + more) = omega arith in
    ap (λ (k : ℕ). state_after s (steps k)) next ∙ after-many (step s Step).0 n more

trace-many : (s : State) (n more : ℕ) → trace s (steps (n + more)) ≡ trace s (steps n) ++ trace (state_after s (steps n)) (steps more)
unfolding trace state_after
trace-many s zero more = let none : 0 + more ≡ more = omega arith in ap (λ (k : ℕ). trace s (steps k)) none
trace-many s (suc n) more =
    let next : suc n + more ≡ suc (n + more) = omega arith in
    ap (λ (k : ℕ). trace s (steps k)) next ∙ ap (λ (labels : List Label). (step s Step).1 ∷ labels) (trace-many (step s Step).0 n more)

pub steps-more : (s now after : State) (n more : ℕ) → now ≡ state_after s (steps n) → after ≡ state_after now (steps more) →
    after ≡ state_after s (steps (n + more))
steps-more s now after n more is goes = goes ∙ ap (λ (t : State). state_after t (steps more)) is ∙ sym (after-many s n more)

pub labels-more : {A : Type 0} (kept : Label → List A) (s now : State) (n more : ℕ) (old seen after : List A) → now ≡ state_after s (steps n)
    → seen ≡ old ++ flat_map kept (trace s (steps n))
    → after ≡ seen ++ flat_map kept (trace now (steps more)) → after ≡ old ++ flat_map kept (trace s (steps (n + more)))
labels-more kept s now n more old seen after is so puts =
    let first = trace s (steps n) in
    let second = trace (state_after s (steps n)) (steps more) in
    puts ∙ ap (λ items. items ++ flat_map kept (trace now (steps more))) so
    ∙ append_assoc old (flat_map kept first) (flat_map kept (trace now (steps more)))
    ∙ ap (λ (t : State). old ++ (flat_map kept first ++ flat_map kept (trace t (steps more)))) is
    ∙ ap (λ items. old ++ items) (sym (flat_map-append kept first second) ∙ ap (flat_map kept) (sym (trace-many s n more)))
