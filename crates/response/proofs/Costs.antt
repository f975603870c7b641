-- What interrupts cost, line by line: a stretch that keeps its rates costs what they allow.
use Rattle.std.proofs.Common.{ℕ, suc, ◌≡◌, ◌==◌, ◌+◌, ◌*◌, ◌≤◌, ◌++◌, true, false, if◌then◌else◌, List, [], ◌∷◌, refl, sym, arith}
use Rattle.std.specs.Prelude.{Contains}
use Rattle.model.specs.declared.events.Event.{Event}
use Rattle.model.specs.declared.events.Event.TheVariants.{Step, Tick, Irq, Write, Read}
use Rattle.response.specs.Left.{total}
use Rattle.response.specs.Rates.{Rate, allowed_in, cost_of, costs_within, raised_in, steps_in}

-- ---- sums

pub total-less : {A : Type 0} (f g : A → ℕ) (xs : List A) → ((x : A) → Contains xs x → f x ≤ g x) → total f xs ≤ total g xs
total-less f g [] less = omega arith
total-less f g (x ∷ xs) less =
    let first = less x (0, omega arith, refl) in
    let rest = total-less f g xs (λ y at. less y (let inside = at.1 in (suc at.0, omega (arith, inside), at.2))) in
    omega (arith, first, rest)

pub total-sum : {A : Type 0} (f g h : A → ℕ) (xs : List A) → ((x : A) → h x ≡ f x + g x) → total h xs ≡ total f xs + total g xs
total-sum f g h [] is = refl
total-sum f g h (x ∷ xs) is =
    let first = is x in
    let rest = total-sum f g h xs is in
    omega (arith, first, rest)

-- ---- what the interrupts of a stretch cost

abbrev pub paid_in : List Rate → (ℕ → ℕ) → List Event → ℕ
paid_in rates price [] = 0
paid_in rates price (Step ∷ events) = paid_in rates price events
paid_in rates price (Tick ∷ events) = paid_in rates price events
paid_in rates price (Irq number ∷ events) = cost_of rates price number + paid_in rates price events
paid_in rates price (Write address word ∷ events) = paid_in rates price events
paid_in rates price (Read address ∷ events) = paid_in rates price events

abbrev pub raised_cost : (ℕ → ℕ) → List Event → Rate → ℕ
raised_cost price events r = raised_in r.line events * price r.line

one-raised : (price : ℕ → ℕ) (number : ℕ) (events : List Event) (r : Rate)
    → raised_cost price (Irq number ∷ events) r ≡ (if number == r.line then price r.line else 0) + raised_cost price events r
one-raised price number events r = elim (number == r.line)
    as (λ b. (if b then raised_in r.line events + 1 else raised_in r.line events) * price r.line ≡
    (if b then price r.line else 0) + raised_in r.line events * price r.line) [
      | true ↦ grind arith
      | false ↦ omega arith
    ]

none-raised : (price : ℕ → ℕ) (rates : List Rate) → total (raised_cost price []) rates ≡ 0
none-raised price [] = refl
none-raised price (r ∷ rates) = let rest = none-raised price rates in omega (arith, rest)

pub paid-raised : (rates : List Rate) (price : ℕ → ℕ) (events : List Event) → paid_in rates price events ≡ total (raised_cost price events) rates
paid-raised rates price [] = sym (none-raised price rates)
paid-raised rates price (Step ∷ events) = paid-raised rates price events
paid-raised rates price (Tick ∷ events) = paid-raised rates price events
paid-raised rates price (Write address word ∷ events) = paid-raised rates price events
paid-raised rates price (Read address ∷ events) = paid-raised rates price events
paid-raised rates price (Irq number ∷ events) =
    let rest = paid-raised rates price events in
    let sum = total-sum (λ (r : Rate). if number == r.line then price r.line else 0) (raised_cost price events) (raised_cost price (Irq number ∷ events)) rates
    (one-raised price number events) in
    omega (arith, rest, sum)

-- where each rate is kept
pub paid-within : (rates : List Rate) (price : ℕ → ℕ) (events : List Event)
    → ((r : Rate) → Contains rates r → raised_in r.line events ≤ allowed_in r (steps_in events))
    → paid_in rates price events ≤ costs_within rates price (steps_in events)
paid-within rates price events kept =
    let is = paid-raised rates price events in
    let less = total-less (raised_cost price events) (λ (r : Rate). allowed_in r (steps_in events) * price r.line) rates
    (λ r at. times-less (raised_in r.line events) (allowed_in r (steps_in events)) (price r.line) (kept r at)) in
    omega (arith, is, less)
  where
    times-less : (a b p : ℕ) → a ≤ b → a * p ≤ b * p
    times-less a b p less = grind (arith, less)

-- ---- one event more

pub paid-more : (rates : List Rate) (price : ℕ → ℕ) (events : List Event) (event : Event)
    → paid_in rates price (events ++ event ∷ []) ≡ paid_in rates price events + paid_in rates price (event ∷ [])
paid-more rates price [] event = omega arith
paid-more rates price (Step ∷ events) event = paid-more rates price events event
paid-more rates price (Tick ∷ events) event = paid-more rates price events event
paid-more rates price (Write address word ∷ events) event = paid-more rates price events event
paid-more rates price (Read address ∷ events) event = paid-more rates price events event
paid-more rates price (Irq number ∷ events) event = let rest = paid-more rates price events event in omega (arith, rest)

pub steps-more : (events : List Event) (event : Event) → steps_in (events ++ event ∷ []) ≡ steps_in events + steps_in (event ∷ [])
steps-more [] event = omega arith
steps-more (Step ∷ events) event = let rest = steps-more events event in omega (arith, rest)
steps-more (Tick ∷ events) event = steps-more events event
steps-more (Write address word ∷ events) event = steps-more events event
steps-more (Read address ∷ events) event = steps-more events event
steps-more (Irq number ∷ events) event = steps-more events event
