-- Steps one after another.
use Rattle.std.specs.Prelude.{ℕ, ◌≡◌, ◌+◌, ◌<◌, ◌^◌, List, Some, replicate}
use Rattle.model.specs.declared.events.Event.{Event}
use Rattle.model.specs.declared.events.Event.TheVariants.{Step}
use Rattle.model.specs.declared.instructions.Exec.{Exec}
use Rattle.model.specs.declared.labels.Label.{Label}
use Rattle.model.specs.declared.labels.Label.TheVariants.{Ran}
use Rattle.model.specs.declared.labels.Outcome.TheVariants.{Plain}
use Rattle.model.specs.Kernel.Scheduling.{current}
use Rattle.model.specs.Kernel.State.{State}
use Rattle.model.specs.Kernel.Steps.{Done, after_effect, memory_base, registers_of, runs}
use Rattle.soundness.specs.Running.{IsRunning}

-- so many steps, and no other event
abbrev pub steps : ℕ → List Event
steps n = replicate n Step

-- the label of a plain instruction
abbrev pub plain_label : ℕ → ℕ → Label
plain_label thread pc = Ran (memory_base + thread) pc Plain

-- what is left of an instruction that is no plain one
abbrev pub comes_of : State → ℕ → Exec → Done
comes_of s thread effect = after_effect s thread (registers_of s thread).pc (registers_of s thread) effect (s, Plain)

-- what a thread runs next: it is the current one, with this program counter, and what comes of its instruction is known
pub record IsNext (s : State) (thread at : ℕ) (effect : Exec) : Type 0 where
  pub near : thread < 2 ^ 24
  pub running : IsRunning s thread
  pub is_current : current s ≡ Some thread
  pub place : at ≡ (registers_of s thread).pc
  pub comes : runs s thread ≡ comes_of s thread effect
