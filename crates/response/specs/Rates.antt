-- How often interrupts come: the one premise on the world but that it keeps to its device pages.
use Rattle.std.specs.Prelude.{ℕ, ◌≡◌, ◌==◌, ◌+◌, ◌*◌, ◌/◌, ◌≤◌, ◌++◌, List, [], ◌∷◌, Contains, if◌then◌else◌}
use Rattle.model.specs.declared.events.Event.{Event}
use Rattle.model.specs.declared.events.Event.TheVariants.{Step, Tick, Irq, Write, Read}
use Rattle.response.specs.Left.{total}

-- at most so many interrupts of a line in any stretch of events, and one more for each period of steps
pub record Rate : Type 0 where
  pub line : ℕ
  pub burst : ℕ
  -- in steps; at least 1
  pub period : ℕ

abbrev pub steps_in : List Event → ℕ
steps_in [] = 0
steps_in (Step ∷ events) = steps_in events + 1
steps_in (Tick ∷ events) = steps_in events
steps_in (Irq irq_line ∷ events) = steps_in events
steps_in (Write address word ∷ events) = steps_in events
steps_in (Read address ∷ events) = steps_in events

abbrev pub raised_in : ℕ → List Event → ℕ
raised_in number [] = 0
raised_in number (Step ∷ events) = raised_in number events
raised_in number (Tick ∷ events) = raised_in number events
raised_in number (Irq irq_line ∷ events) = if irq_line == number then raised_in number events + 1 else raised_in number events
raised_in number (Write address word ∷ events) = raised_in number events
raised_in number (Read address ∷ events) = raised_in number events

abbrev pub allowed_in : Rate → ℕ → ℕ
allowed_in rate steps = rate.burst + steps / rate.period

abbrev pub Keeps : List Rate → List Event → Type 0
Keeps rates events =
    (rate : Rate) → Contains rates rate → (before window later : List Event) → events ≡ before ++ window ++ later
    → raised_in rate.line window ≤ allowed_in rate (steps_in window)

-- what an interrupt of a line costs by its rates, and what all rates allow in so many steps
abbrev pub cost_of : List Rate → (ℕ → ℕ) → ℕ → ℕ
cost_of rates price number = total (λ r. if number == r.line then price r.line else 0) rates

abbrev pub costs_within : List Rate → (ℕ → ℕ) → ℕ → ℕ
costs_within rates price steps = total (λ r. allowed_in r steps * price r.line) rates
