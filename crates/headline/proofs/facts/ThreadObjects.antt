-- The thread of an object, and that its registers hold words.
use Rattle.std.proofs.Common.{ℕ, ◌≡◌, Option, Some, ap, ◌==◌, ◌^◌, ◌<◌, Bool, true, false, if◌then◌else◌, get_or, All, arith}
use Rattle.std.specs.Option.{option_map_or}
use Rattle.model.specs.Kernel.State.{State, Object, ThreadObject, ThreadState, as_thread, new_thread, thread_at}
use Rattle.model.specs.Machine.ProgramMemory.{RegisterFile, read}
use Rattle.model.specs.declared.instructions.Register.{Register}
use Rattle.soundness.proofs.Laws.{read-less as word-read}

-- the thread of an object
pub at-place : (s : State) (x : ℕ) (t : ThreadState) → s.objects x ≡ Some (ThreadObject t) → thread_at s x ≡ t
at-place s x t is = ap (λ (o : Option Object). option_map_or (λ (u : ThreadState). u) (as_thread o) new_thread) is

pub read-less : (r : RegisterFile) (x : Register) → All (λ word. word < 2 ^ 32) r.words → read r x < 2 ^ 32
read-less r x are = elim (x.0 == 0) as (λ (b : Bool). (if b then 0 else get_or r.words x.0 0) < 2 ^ 32) [
  | true ↦ omega arith
  | false ↦ word-read r.words x.0 are
]
