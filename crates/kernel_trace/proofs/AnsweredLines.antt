-- The lines of events that are asked for.
use Rattle.std.proofs.Common.{◌≡◌, ◌∙◌, ◌⊎◌, inl, inr, drop, ℕ, zero, suc, ◌+◌, ◌<◌, ◌≤◌, List, [], ◌∷◌, ◌++◌, Option, Some, None, refl, sym, ap, subst}
use Rattle.std.proofs.Common.{arith}
use Rattle.std.specs.Prelude.{is_some, replicate, take, if◌then◌else◌}
use Rattle.std.proofs.lemmas.List.{append-nil}
use Rattle.std.specs.Option.{option_map_or}
use Rattle.model.specs.declared.events.Event.{Event}
use Rattle.model.specs.declared.events.Event.TheVariants.{Step}
use Rattle.model.specs.declared.labels.Label.{Label}
use Rattle.model.specs.declared.labels.Label.TheVariants.{Idle, Ticked, Raised, Wrote, Showed, Ran}
use Rattle.model.specs.Kernel.Scheduling.{current}
use Rattle.model.specs.Kernel.State.{State}
use Rattle.model.specs.Kernel.Steps.{ran, state_after, step, trace}
use Rattle.kernel_trace.specs.Asked.{settling}
use Rattle.kernel_trace.specs.Lines.{ended, lines_of}
use Rattle.kernel_trace.proofs.KernelTraces.{event_held}
use Rattle.kernel_trace.proofs.PutLines.{begins_more, lines-both}
use Rattle.sinks.proofs.Laws.{Grows-then}
use Rattle.sinks.specs.Sinks.{Grows, GrowsByBeginning}

-- a list of equal events, taken apart
pub replicate-more : (event : Event) (n m : ℕ) → replicate (n + m) event ≡ replicate n event ++ replicate m event
replicate-more event zero m = let none : 0 + m ≡ m = omega arith in ap (λ (k : ℕ). replicate k event) none
replicate-more event (suc n) m =
    let next : suc n + m ≡ suc (n + m) = omega arith in
    ap (λ (k : ℕ). replicate k event) next ∙ ap (λ (events : List Event). event ∷ events) (replicate-more event n m)

pub trace-both : (s : State) (first rest : List Event) → trace s (first ++ rest) ≡ trace s first ++ trace (state_after s first) rest
unfolding trace state_after
trace-both s [] rest = refl
trace-both s (event ∷ first) rest = ap (λ (labels : List Label). (step s event).1 ∷ labels) (trace-both (step s event).0 first rest)

pub after-both : (s : State) (first rest : List Event) → state_after s (first ++ rest) ≡ state_after (state_after s first) rest
unfolding state_after
after-both s [] rest = refl
after-both s (event ∷ first) rest = after-both (step s event).0 first rest

pub after-none : (s : State) → state_after s [] ≡ s
unfolding state_after
after-none s = refl

pub trace-none : (s : State) → trace s [] ≡ []
unfolding trace
trace-none s = refl

-- ---- steps until no thread runs

-- a step in which no thread runs is the last, and after another as many are left but one
pub settles : (s : State) (n : ℕ) (o : Option ℕ) → current s ≡ o
    → ((step s Step).1 ≡ Idle → settling (suc n) s ≡ Step ∷ []) × (((step s Step).1 ≡ Idle → ⊥) → settling (suc n) s ≡ Step ∷ settling n (step s Step).0)
unfolding step settling
settles s n None is = (
  λ _. ap (λ (o : Option ℕ). Step ∷ (if is_some o then settling n (option_map_or (ran s) (current s) (s, Idle)).0 else [])) is,
  λ differs. absurd (differs (ap (λ (o : Option ℕ). (option_map_or (ran s) o (s, Idle)).1) is)),
)
settles s n (Some thread) is = (
  λ idle. absurd (let clash : (ran s thread).1 ≡ Idle = sym (ap (λ (o : Option ℕ). (option_map_or (ran s) o (s, Idle)).1) is) ∙ idle in cc),
  λ _. ap (λ (o : Option ℕ). Step ∷ (if is_some o then settling n (option_map_or (ran s) (current s) (s, Idle)).0 else [])) is,
)

pub settled-none : (s : State) → settling 0 s ≡ []
unfolding settling
settled-none s = refl

-- whether a label is that of a step in which no thread ran
pub is-idle : (label : Label) → (label ≡ Idle) ⊎ (label ≡ Idle → ⊥)
is-idle Idle = inl refl
is-idle Ticked = inr (λ same. absurd cc)
is-idle (Raised number) = inr (λ same. absurd cc)
is-idle (Wrote address word) = inr (λ same. absurd cc)
is-idle (Showed address word) = inr (λ same. absurd cc)
is-idle (Ran thread pc outcome) = inr (λ same. absurd cc)

-- what is left after a step
pub settle-next : (s : State) (left rest : ℕ) → 0 < left → ((step s Step).1 ≡ Idle → rest ≡ 0) → (((step s Step).1 ≡ Idle → ⊥) → rest + 1 ≡ left)
    → (is_idle : ((step s Step).1 ≡ Idle) ⊎ ((step s Step).1 ≡ Idle → ⊥)) → settling left s ≡ Step ∷ settling rest (step s Step).0
settle-next s zero rest some none fewer is_idle = absurd (omega (arith, some))
settle-next s (suc n) rest some none fewer (inl idle) =
    (settles s n (current s) refl).0 idle
    ∙ ap (λ (events : List Event). Step ∷ events) (sym (ap (λ (k : ℕ). settling k (step s Step).0) (none idle) ∙ settled-none (step s Step).0))
settle-next s (suc n) rest some none fewer (inr runs) =
    let same : n ≡ rest = omega (arith, fewer runs) in
    (settles s n (current s) refl).1 runs ∙ ap (λ (k : ℕ). Step ∷ settling k (step s Step).0) same

-- the line of a step is held, and those of what is left are left
pub settle_held : (s after : State) (label : Label) (left rest : ℕ) (old new : List ℕ) → after ≡ (step s Step).0 → label ≡ (step s Step).1
    → new ≡ old ++ ended label → settling left s ≡ Step ∷ settling rest (step s Step).0
    → old ++ lines_of (trace s (settling left s)) ≡ new ++ lines_of (trace after (settling rest after))
settle_held s after label left rest old new goes gives holds settled =
    let others : drop 1 (settling left s) ≡ settling rest after =
    ap (λ (events : List Event). drop 1 events) settled ∙ ap (λ (t : State). settling rest t) (sym goes) in
    let first : settling left s ≡ Step ∷ drop 1 (settling left s) =
    settled ∙ ap (λ (events : List Event). Step ∷ events) (sym (ap (λ (events : List Event). drop 1 events) settled)) in
    event_held s after label (settling left s) Step old new first goes gives holds
    ∙ ap (λ (events : List Event). new ++ lines_of (trace after events)) others

pub settle_done : (s after : State) (left rest : ℕ) → after ≡ (step s Step).0 → settling left s ≡ Step ∷ settling rest (step s Step).0
    → state_after s (settling left s) ≡ state_after after (settling rest after)
unfolding state_after
settle_done s after left rest goes settled =
    ap (λ (events : List Event). state_after s events) settled ∙ ap (λ (t : State). state_after t (settling rest t)) (sym goes)

-- ---- the same event so many times

-- the lines of some more of them are put
pub times_more : (s : State) (event : Event) (done more : ℕ) (old mid new : Option (List ℕ))
    → Grows old mid (lines_of (trace s (replicate done event)))
    → Grows mid new (lines_of (trace (state_after s (replicate done event)) (replicate more event)))
    → Grows old new (lines_of (trace s (replicate (done + more) event)))
times_more s event done more old mid new before now =
    let after = state_after s (replicate done event) in
    let whole : lines_of (trace s (replicate (done + more) event))
    ≡ lines_of (trace s (replicate done event)) ++ lines_of (trace after (replicate more event)) =
    ap (λ (events : List Event). lines_of (trace s events)) (replicate-more event done more)
    ∙ ap lines_of (trace-both s (replicate done event) (replicate more event))
    ∙ lines-both (trace s (replicate done event)) (trace after (replicate more event)) in
    subst (λ (t : List ℕ). Grows old new t) (sym whole)
    (Grows-then old mid new (lines_of (trace s (replicate done event))) (lines_of (trace after (replicate more event))) before now)

-- of some more of them a beginning is put
pub times_stopped : (s : State) (event : Event) (done more left : ℕ) (old mid new : Option (List ℕ))
    → Grows old mid (lines_of (trace s (replicate done event)))
    → GrowsByBeginning mid new (lines_of (trace (state_after s (replicate done event)) (replicate more event)))
    → GrowsByBeginning old new (lines_of (trace s (replicate (done + (more + left)) event)))
times_stopped s event done more left old mid new before now =
    let after = state_after s (replicate done event) in
    let first = trace s (replicate done event) in
    let piece = trace after (replicate more event) in
    let rest = trace (state_after after (replicate more event)) (replicate left event) in
    let whole : lines_of (trace s (replicate (done + (more + left)) event)) ≡ lines_of first ++ (lines_of piece ++ lines_of rest) =
    ap (λ (events : List Event). lines_of (trace s events)) (replicate-more event done (more + left))
    ∙ ap lines_of (trace-both s (replicate done event) (replicate (more + left) event))
    ∙ lines-both first (trace after (replicate (more + left) event))
    ∙ ap (λ (events : List Event). lines_of first ++ lines_of (trace after events)) (replicate-more event more left)
    ∙ ap (λ (labels : List Label). lines_of first ++ lines_of labels) (trace-both after (replicate more event) (replicate left event))
    ∙ ap (λ (t : List ℕ). lines_of first ++ t) (lines-both piece rest) in
    begins_more old mid new (lines_of (trace s (replicate (done + (more + left)) event))) (lines_of first) (lines_of piece) (lines_of rest) whole before now

pub times_after : (s : State) (event : Event) (done more : ℕ)
    → state_after (state_after s (replicate done event)) (replicate more event) ≡ state_after s (replicate (done + more) event)
times_after s event done more =
    sym (ap (λ (events : List Event). state_after s events) (replicate-more event done more)
    ∙ after-both s (replicate done event) (replicate more event))

-- nothing is put of no event
pub none_put : (s : State) (event : Event) (bytes : Option (List ℕ)) → Grows bytes bytes (lines_of (trace s (replicate 0 event)))
unfolding trace lines_of
none_put s event None = tt
none_put s event (Some bytes) = sym (append-nil bytes)

-- a beginning of equal events
pub take-replicate : (event : Event) (n m : ℕ) → n ≤ m → take n (replicate m event) ≡ replicate n event
take-replicate event zero m within = refl
take-replicate event (suc n) zero within = absurd (omega (arith, within))
take-replicate event (suc n) (suc m) within = ap (λ (events : List Event). event ∷ events) (take-replicate event n m (omega (arith, within)))
