-- Runs whose every moment can be had again: the state after so many events, from what an image boots into.
use Rattle.std.specs.Prelude.{ℕ, zero, suc, ◌≡◌, ◌++◌, List, [], ◌∷◌, drop, slice_get, unwrap_or, Result, Ok, Err}
use Rattle.kernel_machine.specs.Setups.{Parts, state_in}
use Rattle.model.specs.Images.Boot.{booted}
use Rattle.model.specs.Images.Image.{Image}
use Rattle.model.specs.Kernel.State.{State}
use Rattle.model.specs.Kernel.Steps.{state_after}
use Rattle.model.specs.declared.boot_faults.BootFault.{BootFault}
use Rattle.model.specs.declared.events.Event.{Event}
use Rattle.model.specs.declared.events.Event.TheVariants.{Step}

-- so many events of a run: those that are given, and steps after them
unfoldable pub timeline : List Event → ℕ → List Event
timeline events zero = []
timeline [] (suc count) = Step ∷ timeline [] count
timeline (event ∷ events) (suc count) = event ∷ timeline events count

-- the state after events, if a boot gives one
abbrev pub going_on : Result State BootFault → List Event → Result State BootFault
going_on (Ok start) events = Ok (state_after start events)
going_on (Err fault) events = Err fault

-- the state after so many events of a run, from what the image boots into
abbrev pub shown : Image → List Event → ℕ → Result State BootFault
shown image events count = going_on (booted image) (timeline events count)

-- A run of an image: the events that are given, how many events are done, and what the kernel keeps.
pub record Moment : Type 0 where
  pub image : Image
  pub events : List Event
  pub done : ℕ
  pub parts : Parts

-- what is shown of a run is the state after the events that are done
abbrev pub IsShown : Moment → Type 0
IsShown run = shown run.image run.events run.done ≡ Ok (state_in run.parts)

-- the event that is next
abbrev pub next_of : List Event → ℕ → Event
next_of events done = unwrap_or (slice_get events done) Step

-- another moment of the same run: so many events are done
abbrev pub IsMoment : Moment → Moment → ℕ → Type 0
IsMoment run other count = (other.image ≡ run.image) × (other.events ≡ run.events) × (other.done ≡ count)

-- the events of a run to which one is added that comes next
abbrev pub with_next : List Event → ℕ → Event → List Event
with_next events done event = timeline events done ++ event ∷ drop done events
