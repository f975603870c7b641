-- What the calls on the parts rely on.
use Rattle.std.specs.Prelude.{ℕ, ◌≡◌, false, Some, List}
use Rattle.model.specs.Capabilities.Slots.{Slots}
use Rattle.model.specs.Kernel.Kinds.{kind_at}
use Rattle.model.specs.Kernel.Retype.{NewObject, NewThread}
use Rattle.model.specs.Kernel.State.{State}
use Rattle.model.specs.Machine.Instructions.{IsRegister}
use Rattle.model.specs.Shared.Lists.{times_in}
use Rattle.model.specs.declared.instructions.Register.{Register}
use Rattle.objects.specs.Rights.{has_right}
use Rattle.objects.specs.Standing.{Standing}
use Rattle.objects.specs.Tables.{Tables, ready_at, state_of, thread_in, waiting_of}
use Rattle.objects.specs.Waiting.{StandsNowhere}

-- an object of this kind is at an offset
pub record IsThere (o : Tables) (slots : Slots) (memory : List ℕ) (kind : NewObject) (offset : ℕ) : Type 0 where
  pub there : kind_at (state_of o slots memory) offset ≡ Some kind
  pub stands : Standing o slots memory

-- a register of a thread that is there
pub record HasRegister (s : State) (thread : ℕ) (x : Register) : Type 0 where
  pub there : kind_at s thread ≡ Some NewThread
  pub named : IsRegister x

-- a thread that is in no queue
pub record MayWait (o : Tables) (slots : Slots) (memory : List ℕ) (thread : ℕ) : Type 0 where
  pub apart : StandsNowhere (state_of o slots memory).objects thread
  pub there : kind_at (state_of o slots memory) thread ≡ Some NewThread
  pub stands : Standing o slots memory

-- a thread that waits nowhere, is not ready, and that nobody may reply to
pub record HasLeft (o : Tables) (memory : List ℕ) (thread : ℕ) : Type 0 where
  pub waits_not : (queue : ℕ) → times_in (waiting_of o memory queue) thread ≡ 0
  pub ready_not : (priority : ℕ) → times_in (ready_at o memory priority) thread ≡ 0
  pub rights_not : (holder : ℕ) → has_right (thread_in o memory holder) thread ≡ false
