-- The system calls that invoke a capability.
use Rattle.std.specs.Prelude.{ℕ, ◌≡◌, Some, Ok}
use Rattle.headline.specs.calls.Messages.{IsInvoked}
use Rattle.model.specs.Capabilities.Slots.{capability_at}
use Rattle.model.specs.Kernel.Messages.{a7}
use Rattle.model.specs.Kernel.State.{State}
use Rattle.model.specs.Kernel.Steps.{call_of, named_slot, registers_of}
use Rattle.model.specs.declared.system_calls.SendCall.{SendCall}
use Rattle.model.specs.declared.system_calls.SystemCall.TheVariants.{Sends}
use Rattle.model.specs.Machine.ProgramMemory.{read}

-- the number is that of Call, Send or NBSend, and the capability that is named is neither an endpoint nor a notification
pub record Invokes (s : State) (thread : ℕ) : Type 0 where
  pub kind : SendCall
  pub slot : ℕ
  pub number : call_of (read (registers_of s thread) a7) ≡ Some (Sends kind)
  pub named : named_slot s thread ≡ Ok slot
  pub invoked : IsInvoked (capability_at s.slots slot)
