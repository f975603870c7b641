-- The labels of ticks, interrupts and what the world does are no faults and no errors.
use Rattle.std.proofs.Common.{ℕ, ◌≡◌, false, refl}
use Rattle.model.specs.declared.events.Event.TheVariants.{Tick, Irq, Write, Read}
use Rattle.model.specs.Kernel.State.{State}
use Rattle.model.specs.Kernel.Steps.{step}
use Rattle.model.specs.Kernel.Waits.{is_error, is_fault}

pub tick-fine : (s : State) → (is_fault (step s Tick).1 ≡ false) × (is_error (step s Tick).1 ≡ false)
unfolding step
tick-fine s = (refl, refl)

pub irq-fine : (s : State) (number : ℕ) → (is_fault (step s (Irq number)).1 ≡ false) × (is_error (step s (Irq number)).1 ≡ false)
unfolding step
irq-fine s number = (refl, refl)

pub write-fine : (s : State) (address word : ℕ) → (is_fault (step s (Write address word)).1 ≡ false) × (is_error (step s (Write address word)).1 ≡ false)
unfolding step
write-fine s address word = (refl, refl)

pub read-fine : (s : State) (address : ℕ) → (is_fault (step s (Read address)).1 ≡ false) × (is_error (step s (Read address)).1 ≡ false)
unfolding step
read-fine s address = (refl, refl)
