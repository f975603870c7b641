-- The calls that are waits: a receive that may block, and a send or a call on an endpoint.
use Rattle.std.specs.Prelude.{ℕ, ◌≡◌, Some, Ok}
use Rattle.model.specs.declared.capabilities.Cap.TheVariants.{Endpoint}
use Rattle.model.specs.declared.instructions.Access.TheVariants.{Fetch}
use Rattle.model.specs.declared.instructions.AccessSize.TheVariants.{Word}
use Rattle.model.specs.declared.instructions.Instr.TheVariants.{Ecall}
use Rattle.model.specs.declared.rights.Rights.{Rights}
use Rattle.model.specs.Kernel.AddressSpaces.{content_of}
use Rattle.model.specs.Machine.Decoding.{decoded}
use Rattle.model.specs.Machine.ProgramMemory.{loaded, read}
use Rattle.model.specs.Kernel.Messages.{a7}
use Rattle.model.specs.Kernel.Scheduling.{current}
use Rattle.model.specs.Capabilities.Slots.{capability_at}
use Rattle.model.specs.Kernel.State.{State}
use Rattle.model.specs.Kernel.Steps.{call_of, named_slot, registers_of}
use Rattle.model.specs.declared.system_calls.SendCall.TheVariants.{Calling, Sending}
use Rattle.model.specs.declared.system_calls.ReceiveCall.TheVariants.{Receiving}
use Rattle.model.specs.declared.system_calls.SystemCall.{SystemCall}
use Rattle.model.specs.declared.system_calls.SystemCall.TheVariants.{Sends, Receives, RepliesAndReceives}

-- a0 names a capability to an endpoint
pub record NamesEndpoint (s : State) (thread : ℕ) : Type 0 where
  pub slot : ℕ
  pub offset : ℕ
  pub badge : ℕ
  pub allowed : Rights
  pub found : named_slot s thread ≡ Ok slot
  pub holds : capability_at s.slots slot ≡ Endpoint offset allowed badge

pub data IsWaitingCall (s : State) (thread : ℕ) : SystemCall → Type 0 where
  receives : IsWaitingCall s thread (Receives Receiving)
  replies_and_receives : IsWaitingCall s thread RepliesAndReceives
  calls_endpoint : NamesEndpoint s thread → IsWaitingCall s thread (Sends Calling)
  sends_to_endpoint : NamesEndpoint s thread → IsWaitingCall s thread (Sends Sending)

-- the current thread is at an ECALL of such a call
pub record StandsAtWait (s : State) : Type 0 where
  pub thread : ℕ
  pub word : ℕ
  pub call : SystemCall
  pub runs : current s ≡ Some thread
  pub fetched : loaded (content_of s thread) Fetch Word (registers_of s thread).pc ≡ Ok word
  pub is_ecall : decoded word ≡ Some Ecall
  pub named : call_of (read (registers_of s thread) a7) ≡ Some call
  pub waits : IsWaitingCall s thread call
