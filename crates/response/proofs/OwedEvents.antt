-- What is owed stays over all events but system calls.
use Rattle.std.proofs.Common.{ℕ, ◌≡◌, ◌∙◌, ◌≤◌, inl, inr, Option, Some, List, [], ◌∷◌}
use Rattle.std.proofs.Common.{refl, sym, ap, arith}
use Rattle.std.specs.Prelude.{Contains}
use Rattle.std.proofs.lemmas.Bool.Decides.{eqb_tells, leb_tells}
use Rattle.model.specs.declared.instructions.Instr.{Instr}
use Rattle.model.specs.declared.labels.Label.{Label}
use Rattle.model.specs.Acceptance.Authority.{computed}
use Rattle.model.specs.Acceptance.ThreadInvariants.{tcb_of}
use Rattle.model.specs.Images.Described.{Numbered, numbered_threads}
use Rattle.model.specs.Images.Image.{Image}
use Rattle.model.specs.Kernel.AddressSpaces.{content_of}
use Rattle.model.specs.Kernel.State.{Object, Runnable, State, ThreadObject, ThreadState, thread_at}
use Rattle.model.specs.Kernel.Steps.{registers_of}
use Rattle.model.specs.Machine.Effects.{effect}
use Rattle.headline.specs.authority.Events.{WithinInterrupt}
use Rattle.headline.specs.facts.Standing.{AllStand}
use Rattle.response.specs.Left.{total}
use Rattle.response.specs.Owed.{owed, owed_of_thread}
use Rattle.response.specs.Weights.{Weights}
use Rattle.response.proofs.Costs.{total-less}
use Rattle.response.proofs.InterruptedThreads.{thread-left}
use Rattle.response.proofs.Interrupts.{put-at, put-off, thread-of}
use Rattle.response.proofs.OthersMoved.{owed-runs, owed-same}
use Rattle.response.proofs.Ticks.{SameWork, total-same}

-- a tick, and the world
pub owed-stays : (image : Image) (priority : ℕ) (w : Weights) (s after : State) (labels later : List Label) → SameWork image s after labels later
    → owed image priority w after ≡ owed image priority w s
unfolding owed
owed-stays image priority w s after labels later same =
    total-same (owed_of_thread image priority w after) (owed_of_thread image priority w s) (numbered_threads image)
    (λ u. owed-same image priority w s after u (same.status (tcb_of image u)) (same.pc (tcb_of image u)))

-- an interrupt
pub owed-raised : (image : Image) (priority : ℕ) (w : Weights) (s after : State) (labels : List Label) → AllStand image s labels → (number : ℕ)
    → WithinInterrupt number s after → owed image priority w after ≤ owed image priority w s
unfolding owed
owed-raised image priority w s after labels all number within =
    total-less (owed_of_thread image priority w after) (owed_of_thread image priority w s) (numbered_threads image) each
  where
    each : (u : Numbered) → Contains (numbered_threads image) u → owed_of_thread image priority w after u ≤ owed_of_thread image priority w s u
    each u among = elim (leb_tells (owed_of_thread image priority w after u) (owed_of_thread image priority w s u)) [
      | inl less ↦ less.1
      | inr more ↦ absurd (thread-left image s after labels all number within u among
          (λ runs. let none = owed-runs image priority w after u runs in let m = more.1 in omega (arith, none, m))
          (λ same. let e = owed-same image priority w s after u (ap (λ (o : Option Object). (thread-of o).status) (sym same))
          (ap (λ (o : Option Object). (thread-of o).registers.pc) (sym same)) in let m = more.1 in omega (arith, e, m)))
    ]

-- an instruction of a thread that runs
module _ (image : Image) (priority : ℕ) (w : Weights) (s : State) (t : Numbered) (runs : (thread_at s (tcb_of image t)).status ≡ Runnable)
    (instruction : Instr) where
  abbrev moved : State
  moved = computed s (tcb_of image t) instruction

  abbrev new : ThreadState
  new = record (thread_at s (tcb_of image t)) {
    registers = (effect (registers_of s (tcb_of image t)) (content_of s (tcb_of image t)) instruction).registers;
  }

  each : (u : Numbered) → owed_of_thread image priority w moved u ≤ owed_of_thread image priority w s u
  each u = elim (eqb_tells (tcb_of image u) (tcb_of image t)) [
    | inl here ↦ (
        let none = owed-runs image priority w moved u (ap (λ (k : ℕ). (thread_at moved k).status) here.1
        ∙ ap (λ (o : Option Object). (thread-of o).status) (put-at s.objects (tcb_of image t) (Some (ThreadObject new))) ∙ runs) in
        omega (arith, none))
    | inr apart ↦ (
        let off = put-off s.objects (tcb_of image t) (tcb_of image u) (Some (ThreadObject new)) apart.1 in
        let e = owed-same image priority w s moved u (ap (λ (o : Option Object). (thread-of o).status) off)
        (ap (λ (o : Option Object). (thread-of o).registers.pc) off) in
        omega (arith, e))
  ]

  pub owed-computes : owed image priority w (computed s (tcb_of image t) instruction) ≤ owed image priority w s
  unfolding owed
  owed-computes = total-less (owed_of_thread image priority w moved) (owed_of_thread image priority w s) (numbered_threads image) (λ u _. each u)

-- at the start nobody waits
pub owed-at-start : (image : Image) (priority : ℕ) (w : Weights) (s : State)
    → ((u : Numbered) → Contains (numbered_threads image) u → (thread_at s (tcb_of image u)).status ≡ Runnable) → owed image priority w s ≤ 0
unfolding owed
owed-at-start image priority w s runs =
    let less = total-less (owed_of_thread image priority w s) (λ _. 0) (numbered_threads image)
    (λ u among. let none = owed-runs image priority w s u (runs u among) in omega (arith, none)) in
    let none = zeros (numbered_threads image) in
    omega (arith, less, none)
  where
    zeros : (xs : List Numbered) → total {A = Numbered} (λ _. 0) xs ≡ 0
    zeros [] = refl
    zeros (x ∷ xs) = let rest = zeros xs in omega (arith, rest)
