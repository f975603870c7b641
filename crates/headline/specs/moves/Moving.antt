-- How a thread of an accepted image moves on: it is left alone, or its system call waits, or passes.
use Rattle.std.specs.Prelude.{ℕ, ◌≡◌, Contains, Some, Ok, List}
use Rattle.headline.specs.measure_facts.Terms.{WritesOnly}
use Rattle.headline.specs.facts.Untouched.{IsUntouched}
use Rattle.model.specs.declared.instructions.Instr.TheVariants.{Ecall}
use Rattle.model.specs.declared.labels.Label.{Label}
use Rattle.model.specs.Acceptance.Accepted.{IsAccepted}
use Rattle.model.specs.Acceptance.CallRules.{AfterCall}
use Rattle.model.specs.Acceptance.NotedStates.{PointState}
use Rattle.model.specs.Acceptance.PointStates.{call_at, instruction_at}
use Rattle.model.specs.Acceptance.ThreadInvariants.{IsWithinBudget, LieWithin, StandsAt, tcb_of}
use Rattle.model.specs.Images.Described.{Numbered, numbered_threads}
use Rattle.model.specs.Images.Image.{Image}
use Rattle.model.specs.Kernel.Soundness.{IsSound}
use Rattle.model.specs.Kernel.State.{State, Runnable, Sender, EndpointObject, EndpointState, NotificationObject, NotificationState, ThreadObject, ThreadState}
use Rattle.model.specs.Machine.Effects.{advanced}
use Rattle.model.specs.Machine.ProgramMemory.{RegisterFile}

-- ---- a thread that a change leaves alone

-- a thread of an accepted image, over a change that touches none of its slots, mappings and code
pub record IsLeftAlone (image : Image) (t : Numbered) (s after : State) : Type 0 where
  pub bytes : List ℕ
  pub accepted : IsAccepted bytes image
  pub listed : Contains (numbered_threads image) t
  pub before : IsSound s
  pub behind : IsSound after
  pub untouched : IsUntouched image t s after

-- its registers and its status stay
pub record GoesOnAs (after : State) (thread : ℕ) (old : ThreadState) : Type 0 where
  pub new : ThreadState
  pub is : after.objects thread ≡ Some (ThreadObject new)
  pub registers : new.registers ≡ old.registers
  pub status : new.status ≡ old.status

-- so do its places in queues
pub record WaitsOn (s after : State) (thread : ℕ) : Type 0 where
  pub sends : (queue : ℕ) (e : EndpointState) (x : Sender) → after.objects queue ≡ Some (EndpointObject e) → Contains e.senders x → x.thread ≡ thread
      → (old : EndpointState) × (s.objects queue ≡ Some (EndpointObject old)) × Contains old.senders x
  pub receives : (queue : ℕ) (e : EndpointState) → after.objects queue ≡ Some (EndpointObject e) → Contains e.receivers thread
      → (old : EndpointState) × (s.objects queue ≡ Some (EndpointObject old)) × Contains old.receivers thread
  pub waits : (queue : ℕ) (n : NotificationState) → after.objects queue ≡ Some (NotificationObject n) → Contains n.waiters thread
      → (old : NotificationState) × (s.objects queue ≡ Some (NotificationObject old)) × Contains old.waiters thread

-- ---- a thread that makes a system call

-- the thread runs, and is at a system call that the rules allow; `left` is what is known after it
pub record CallsAt (image : Image) (t : Numbered) (s : State) (labels : List Label) (own : ThreadState) (point : ℕ)
    (state : PointState) (left : AfterCall) : Type 0 where
  pub there : s.objects (tcb_of image t) ≡ Some (ThreadObject own)
  pub status : own.status ≡ Runnable
  pub stands : StandsAt image t s own point state
  pub budget : IsWithinBudget image t labels own state
  pub ecall : instruction_at t.thread point ≡ Some Ecall
  pub call : call_at image t point state ≡ Some (Ok left)

-- ---- a thread whose system call passes

-- After its call the thread runs, with registers in the ranges that are known there: only those that the call may write are other ones.
pub record PassesWith (after : State) (thread : ℕ) (own : ThreadState) (state : PointState) (left : AfterCall) : Type 0 where
  pub next : ThreadState
  pub is : after.objects thread ≡ Some (ThreadObject next)
  pub runs : next.status ≡ Runnable
  pub written : RegisterFile
  pub registers : next.registers ≡ advanced written
  pub pc : written.pc ≡ own.registers.pc
  pub only : WritesOnly own.registers written left.written
  pub within : LieWithin written left.ranges
