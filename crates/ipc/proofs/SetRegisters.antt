-- The registers of a thread, changed one after another.
use Rattle.std.proofs.Common.{ℕ, ◌≡◌, ◌∙◌, Bool, true, false, Option, Some, if◌then◌else◌, refl, sym, ap, eq-eqb}
use Rattle.std.specs.Prelude.{◌==◌}
use Rattle.std.specs.Option.{option_map_or}
use Rattle.model.specs.Kernel.Messages.{passes, passes_with, with_registers}
use Rattle.model.specs.Kernel.State.{Object, State, ThreadObject, ThreadState, as_thread, new_thread, put, thread_at}
use Rattle.model.specs.Machine.Effects.{advanced}
use Rattle.model.specs.Machine.ProgramMemory.{RegisterFile}

last-counts : (b : Bool) (x y z : Option Object) → (if b then x else if b then y else z) ≡ (if b then x else z)
last-counts true x y z = refl
last-counts false x y z = refl

module _ (s : State) (thread : ℕ) where
  abbrev with : RegisterFile → ThreadState
  with r = record (thread_at s thread) { registers = r }

  -- what is set is read
  pub set-there : (r : RegisterFile) → thread_at (with_registers s thread r) thread ≡ with r
  set-there r = ap (λ (b : Bool). option_map_or (λ t. t) (as_thread (if b then Some (ThreadObject (with r)) else s.objects thread)) new_thread)
      (eq-eqb thread thread refl)

  -- what is set last counts
  pub set-again : (a b : RegisterFile) → with_registers (with_registers s thread a) thread b ≡ with_registers s thread b
  set-again a b =
      let same : (other : ℕ) → put (with_registers s thread a).objects thread
      (Some (ThreadObject (record (thread_at (with_registers s thread a) thread) { registers = b }))) other
      ≡ put s.objects thread (Some (ThreadObject (with b))) other =
      λ other.
      ap (λ (t : ThreadState). if other == thread then Some (ThreadObject (record t { registers = b })) else (with_registers s thread a).objects other)
      (set-there a)
      ∙ last-counts (other == thread) (Some (ThreadObject (with b))) (Some (ThreadObject (with a))) (s.objects other) in
      λ i. record s { objects = λ other. same other i }

  -- a thread goes on with registers of which one part was set before
  pub passes-after : (t : State) (a : RegisterFile) (f : RegisterFile → RegisterFile) → t ≡ with_registers s thread a
      → passes_with t thread (f (thread_at t thread).registers) ≡ passes_with s thread (f a)
  passes-after t a f is =
      ap (λ (x : State). passes_with x thread (f (thread_at x thread).registers)) is
      ∙ ap (λ (x : ThreadState). passes_with (with_registers s thread a) thread (f x.registers)) (set-there a)
      ∙ ap (λ (x : State). passes x thread) (set-again a (f a))

  -- or with those that it has
  pub passes-own : passes s thread ≡ passes_with s thread (thread_at s thread).registers
  passes-own =
      let r = (thread_at s thread).registers in
      sym (set-again r (advanced (thread_at (with_registers s thread r) thread).registers)
      ∙ ap (λ (x : ThreadState). with_registers s thread (advanced x.registers)) (set-there r))
