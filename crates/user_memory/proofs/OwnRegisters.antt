-- The registers of a thread are set, one after another.
use Rattle.std.proofs.Common.{ℕ, inl, inr, ◌≡◌, ◌∙◌, if◌then◌else◌, Option, Some, List, refl, sym, ap}
use Rattle.std.proofs.lemmas.Bool.Decides.{eqb_tells}
use Rattle.std.specs.Option.{option_map_or}
use Rattle.cnode_ops.proofs.Laws.{kept}
use Rattle.cnode_ops.specs.object_lifetimes.Kernels.{IsConsistent}
use Rattle.model.specs.Capabilities.Slots.{Slots}
use Rattle.model.specs.Kernel.Kinds.{kind_at}
use Rattle.model.specs.Kernel.Messages.{with_registers}
use Rattle.model.specs.Kernel.Retype.{NewThread}
use Rattle.model.specs.Kernel.Soundness.{IsSound}
use Rattle.model.specs.Kernel.State.{State, Object, ThreadObject, ThreadState, as_thread, new_thread, put, thread_at, with_thread}
use Rattle.model.specs.Kernel.Steps.{registers_of}
use Rattle.model.specs.Machine.ProgramMemory.{RegisterFile}
use Rattle.objects.specs.Lives.{Parts, SameBeside, state_in}
use Rattle.soundness.proofs.Laws.{fine-of, registers-of, registers-whole}
use Rattle.soundness.specs.Running.{RegistersAreSound}
use Rattle.user_memory.proofs.Unchanged.{same-registers}
use Rattle.user_memory.specs.BesideRegisters.{BesideRegisters, beside_registers, blank}

put-at : (objects : ℕ → Option Object) (thread : ℕ) (value : Option Object) → put objects thread value thread ≡ value
put-at objects thread value = elim (eqb_tells thread thread) [
  | inl here ↦ ap (λ b. if b then value else objects thread) here.0
  | inr apart ↦ absurd (apart.1 refl)
]

put-twice : (objects : ℕ → Option Object) (thread : ℕ) (first second : Option Object) (other : ℕ)
    → put (put objects thread first) thread second other ≡ put objects thread second other
put-twice objects thread first second other = elim (eqb_tells other thread) [
  | inl here ↦ ap (λ b. if b then second else put objects thread first other) here.0 ∙ sym (ap (λ b. if b then second else objects other) here.0)
  | inr apart ↦ ap (λ b. if b then second else put objects thread first other) apart.0 ∙ ap (λ b. if b then first else objects other) apart.0
      ∙ sym (ap (λ b. if b then second else objects other) apart.0)
]

abbrev own_of : Option Object → ThreadState
own_of o = option_map_or (λ t. t) (as_thread o) new_thread

-- the thread that was put there
thread-put : (s : State) (thread : ℕ) (t : ThreadState) → thread_at (with_thread s thread t) thread ≡ t
thread-put s thread t = ap own_of (put-at s.objects thread (Some (ThreadObject t)))

-- registers that are set twice are the last
pub set-twice : (s : State) (thread : ℕ) (first second : RegisterFile)
    → with_registers (with_registers s thread first) thread second ≡ with_registers s thread second
set-twice s thread first second =
    ap (λ (t : ThreadState). with_thread (with_registers s thread first) thread (record t { registers = second }))
    (thread-put s thread (record (thread_at s thread) { registers = first }))
    ∙ (λ i. record s {
      objects = λ other. put-twice s.objects thread (Some (ThreadObject (record (thread_at s thread) { registers = first })))
          (Some (ThreadObject (record (thread_at s thread) { registers = second }))) other i;
    })

-- a thread whose kernel is whole has registers in words of 32 bits
pub own-sound : (s : State) (thread : ℕ) → IsSound s → kind_at s thread ≡ Some NewThread → RegistersAreSound (registers_of s thread)
own-sound s thread sound there = registers-of (thread_at s thread) (fine-of s sound thread there)

-- and stays so with other such registers
pub still-consistent : {S : Type 0} {held : S → Slots} {memory full : S → List ℕ} {old new : Parts S} (thread : ℕ) (r : RegisterFile)
    → IsConsistent (state_in held memory old) (memory old.store) → kind_at (state_in held memory old) thread ≡ Some NewThread → RegistersAreSound r
    → SameBeside held memory full old new → state_in held memory new ≡ with_registers (state_in held memory old) thread r
    → IsConsistent (state_in held memory new) (memory new.store)
still-consistent {held = held} {memory = memory} {old = old} thread r before there fits beside set =
    kept _ before beside set (registers-whole (state_in held memory old) before.sound thread there r fits)
    (record { memory_bits = refl; boot_radix = refl; slots = refl })

-- a state in which only the registers of a thread are others
pub state-set : (s t : State) (thread at kernel left : ℕ) (r : RegisterFile) → kind_at t at ≡ Some NewThread
    → beside_registers t at left ≡ beside_registers s thread kernel → registers_of t at ≡ r → t ≡ with_registers s thread r
state-set s t thread at kernel left r there same own =
    let number : at ≡ thread = ap (λ (b : BesideRegisters). b.thread) same in
    sym (same-registers t at there)
    ∙ sym (set-twice t at blank (registers_of t at))
    ∙ ap (λ (x : State). with_registers x at (registers_of t at)) (ap (λ (b : BesideRegisters). b.state) same)
    ∙ ap (λ (n : ℕ). with_registers (with_registers s thread blank) n (registers_of t at)) number
    ∙ set-twice s thread blank (registers_of t at)
    ∙ ap (with_registers s thread) own
