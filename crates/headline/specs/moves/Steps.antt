-- A step that goes well, and the steps that make a system call.
use Rattle.std.specs.Prelude.{ℕ, ◌≡◌, ◌++◌, false, Some, Ok, List, [], ◌∷◌, All}
use Rattle.headline.specs.calls.Messages.{IsInvoked}
use Rattle.headline.specs.facts.Standing.{AllStand}
pub use Rattle.model.specs.Acceptance.Authority.{MakesCall}
use Rattle.model.specs.declared.events.Event.{Event}
use Rattle.model.specs.declared.labels.Label.{Label}
use Rattle.model.specs.Capabilities.Slots.{capability_at}
use Rattle.model.specs.Images.Described.{described}
use Rattle.model.specs.Images.Image.{Image}
use Rattle.model.specs.Kernel.Messages.{a7}
use Rattle.model.specs.Kernel.State.{State}
use Rattle.model.specs.Kernel.Steps.{call_of, named_slot, registers_of, state_after, step, trace}
use Rattle.model.specs.declared.system_calls.SendCall.{SendCall}
use Rattle.model.specs.declared.system_calls.SystemCall.TheVariants.{Sends}
use Rattle.model.specs.Kernel.Waits.{is_error, is_fault}
use Rattle.model.specs.Machine.ProgramMemory.{read}

-- no fault, no error, and the threads' invariant holds after it
pub record GoesWell (image : Image) (s : State) (labels : List Label) (event : Event) : Type 0 where
  pub faults : is_fault (step s event).1 ≡ false
  pub errors : is_error (step s event).1 ≡ false
  pub stands : AllStand image (step s event).0 (labels ++ (step s event).1 ∷ [])

-- that call is no invocation: it names no capability, or an endpoint or a notification
abbrev pub InvokesNothing : State → ℕ → Type 0
InvokesNothing s thread =
    (kind : SendCall) (slot : ℕ) → call_of (read (registers_of s thread) a7) ≡ Some (Sends kind) → named_slot s thread ≡ Ok slot
    → IsInvoked (capability_at s.slots slot) → ⊥

-- after events the threads' invariant holds, and no label is a fault or an error
pub record HasGoneWell (image : Image) (events : List Event) : Type 0 where
  pub stand : AllStand image (state_after (described image) events) (trace (described image) events)
  pub faults : All (λ label. is_fault label ≡ false) (trace (described image) events)
  pub errors : All (λ label. is_error label ≡ false) (trace (described image) events)
