-- What is known of a step of a thread of the part, in the whole and alone, before its instruction is looked at.
use Rattle.std.specs.Prelude.{ℕ, ◌≡◌, ◌+◌, ◌⊎◌, true, false, Some, Ok}
use Rattle.model.specs.declared.capabilities.Cap.TheVariants.{Endpoint, Notification}
use Rattle.model.specs.declared.labels.Label.TheVariants.{Ran}
use Rattle.model.specs.declared.rights.Rights.{Rights}
use Rattle.model.specs.declared.system_calls.SendCall.{SendCall}
use Rattle.model.specs.declared.system_calls.SystemCall.TheVariants.{Sends}
use Rattle.model.specs.Acceptance.Authority.{MakesCall}
use Rattle.model.specs.Capabilities.Lookup.{called_slot}
use Rattle.model.specs.Capabilities.Rights.{may_read, may_write}
use Rattle.model.specs.Capabilities.Slots.{capability_at}
use Rattle.model.specs.Images.Image.{Image}
use Rattle.model.specs.Kernel.AddressSpaces.{content_of}
use Rattle.model.specs.Kernel.Messages.{a7, signal}
use Rattle.model.specs.Kernel.State.{State, endpoint_at, thread_at}
use Rattle.model.specs.Kernel.Steps.{Done, call_of, cspace_of, invokes, memory_base, named_slot, registers_of, runs}
use Rattle.model.specs.Kernel.Waits.{is_error, is_fault}
use Rattle.model.specs.Machine.ProgramMemory.{read}
use Rattle.headline.specs.calls.Messages.{IsInvoked}
use Rattle.headline.specs.parts.Agreeing.{WaitInside}
use Rattle.headline.specs.parts.Parts.{Part, is_thread_in}
use Rattle.headline.specs.parts.Views.{SameView}
use Rattle.part_laws.specs.Agreeing.{AgreeFor, HasBuffers, IsByteOfPart, IsOfPart}

-- what an instruction leaves on both sides agrees, and the same came of it
pub record SameDone (image : Image) (part : Part) (a b : Done) : Type 0 where
  pub state : AgreeFor image part a.0 b.0
  pub outcome : a.1 ≡ b.1

-- a slot that an address leads to, from the root of a thread
abbrev pub LeadsTo : State → ℕ → ℕ → ℕ → Type 0
LeadsTo s x address slot = called_slot s.slots (cspace_of s x) address ≡ Ok slot

-- what the thread `x` of the part calls, on both sides
pub record CallsOnBoth (image : Image) (part : Part) (s t : State) (x : ℕ) : Type 0 where
  -- what its lookups find
  pub finds : (address : ℕ) → called_slot s.slots (cspace_of s x) address ≡ called_slot t.slots (cspace_of t x) address
  pub held : (address slot : ℕ) → LeadsTo s x address slot → capability_at s.slots slot ≡ capability_at t.slots slot
  -- the endpoints that it names, and the notifications for which it waits, are the part's
  pub endpoint : (address slot offset badge : ℕ) (r : Rights) → LeadsTo s x address slot → capability_at s.slots slot ≡ Endpoint offset r badge
      → (may_write r ≡ true) ⊎ (may_read r ≡ true) → IsOfPart image part offset
  pub notification : (address slot offset badge : ℕ) (r : Rights) → LeadsTo s x address slot → capability_at s.slots slot ≡ Notification offset r badge
      → may_read r ≡ true → IsOfPart image part offset
  -- who waits there is of the part, and so is whom it may answer
  pub waiters : (offset : ℕ) → IsOfPart image part offset → WaitInside image part (endpoint_at s offset)
  pub caller : (other : ℕ) → (thread_at s x).caller ≡ Some other → is_thread_in image part other ≡ true
  -- what it rings, and what it invokes
  pub rings : (address slot offset badge : ℕ) (r : Rights) → LeadsTo s x address slot → capability_at s.slots slot ≡ Notification offset r badge
      → may_write r ≡ true → AgreeFor image part (signal s offset badge) (signal t offset badge)
  pub invocation : (kind : SendCall) (slot : ℕ) → call_of (read (registers_of s x) a7) ≡ Some (Sends kind) → named_slot s x ≡ Ok slot
      → IsInvoked (capability_at s.slots slot)
      → SameDone image part (invokes s x kind slot (capability_at s.slots slot)) (invokes t x kind slot (capability_at s.slots slot))

-- The thread `x` of the part runs on both sides, which agree.
pub record RunsOnBoth (image : Image) (part : Part) (s t : State) (x : ℕ) : Type 0 where
  pub agree : AgreeFor image part s t
  pub inside : is_thread_in image part x ≡ true
  pub buffers : HasBuffers image part s
  -- memory as it sees it
  pub view : SameView (IsByteOfPart image part) (content_of s x) (content_of t x)
  pub calls : MakesCall s x → CallsOnBoth image part s t x

-- An instruction of a thread of the part does the same on both sides, if it neither faults nor is refused.
abbrev pub OwnInstructionsAgree : Type 0
OwnInstructionsAgree =
    (image : Image) (part : Part) (s t : State) (x : ℕ) → RunsOnBoth image part s t x
    → is_fault (Ran (memory_base + x) (registers_of s x).pc (runs s x).1) ≡ false
    → is_error (Ran (memory_base + x) (registers_of s x).pc (runs s x).1) ≡ false → SameDone image part (runs s x) (runs t x)
