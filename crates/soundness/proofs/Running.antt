-- The current thread is there and runs.
use Rattle.std.proofs.Common.{ℕ, zero, suc, ◌≡◌, ◌∙◌, ◌==◌, ◌&&◌, ◌+◌, ◌≤◌, Bool, true, false, if◌then◌else◌, List, [], ◌∷◌, Option, Some, None, option_map}
use Rattle.std.proofs.Common.{refl, ap, arith}
use Rattle.std.specs.Option.{option_map_or}
use Rattle.std.proofs.lemmas.Bool.{eq-eqb}
use Rattle.model.specs.Kernel.Kinds.{kind_of}
use Rattle.model.specs.Kernel.Retype.{NewThread}
use Rattle.model.specs.Kernel.Scheduling.{current, first_below, head_of, is_runnable}
use Rattle.model.specs.Kernel.Soundness.{ThreadsAreSound}
use Rattle.model.specs.Kernel.State.{State, Object, ThreadObject, EndpointObject, NotificationObject, CNodeObject, FrameObject, PageTableObject}
use Rattle.model.specs.Kernel.State.{RootTableObject}
use Rattle.model.specs.Shared.Lists.{times_in}
use Rattle.soundness.specs.Running.{IsRunning}
use Rattle.soundness.proofs.Moving.{own_of, runs_of}

first-step : (n : ℕ) (ready : ℕ → List ℕ) (thread : ℕ) (o rest : Option ℕ) → head_of (ready n) ≡ o
    → (rest ≡ Some thread → (priority : ℕ) × (head_of (ready priority) ≡ Some thread)) → option_map_or Some o rest ≡ Some thread
    → (priority : ℕ) × (head_of (ready priority) ≡ Some thread)
first-step n ready thread (Some x) rest head later is = (n, head ∙ is)
first-step n ready thread None rest head later is = later is

first-of : (n : ℕ) (ready : ℕ → List ℕ) (thread : ℕ) → first_below n ready ≡ Some thread → (priority : ℕ) × (head_of (ready priority) ≡ Some thread)
unfolding first_below
first-of zero ready thread is = let e : None ≡ Some thread = is in absurd cc
first-of (suc n) ready thread is = first-step n ready thread (head_of (ready n)) (first_below n ready) refl (first-of n ready thread) is

pub head-counts : (threads : List ℕ) (thread : ℕ) → head_of threads ≡ Some thread → 1 ≤ times_in threads thread
head-counts [] thread is = let e : None ≡ Some thread = is in absurd cc
head-counts (t ∷ rest) thread is =
    let same : t ≡ thread = cc in
    let more : times_in (t ∷ rest) thread ≡ times_in rest thread + 1 =
    ap (λ (b : Bool). if b then times_in rest thread + 1 else times_in rest thread) (eq-eqb t thread same) in
    omega (arith, more)

record RunsAt (o : Option Object) : Type 0 where
  kind : option_map kind_of o ≡ Some NewThread
  runs : is_runnable (own_of o).status ≡ true

not-one : 1 ≤ 0 → ⊥
not-one less = omega (arith, less)

runs-at : (o : Option Object) (priority : ℕ) → 1 ≤ runs_of o priority → RunsAt o
runs-at (Some (ThreadObject t)) priority less = record {
  kind = refl;
  runs = elim (is_runnable t.status) as (λ b. 1 ≤ (if b && t.priority == priority then 1 else 0) → b ≡ true)
      [ true ↦ λ _. refl | false ↦ λ none. absurd (not-one none) ] less;
}
runs-at None priority less = absurd (not-one less)
runs-at (Some (EndpointObject e)) priority less = absurd (not-one less)
runs-at (Some (NotificationObject n)) priority less = absurd (not-one less)
runs-at (Some (CNodeObject radix)) priority less = absurd (not-one less)
runs-at (Some FrameObject) priority less = absurd (not-one less)
runs-at (Some PageTableObject) priority less = absurd (not-one less)
runs-at (Some RootTableObject) priority less = absurd (not-one less)

pub current-runs : (s : State) → ThreadsAreSound s → (thread : ℕ) → current s ≡ Some thread → IsRunning s thread
current-runs s threads thread is =
    let first = first-of 256 s.ready thread is in
    let count = head-counts (s.ready first.0) thread first.1 in
    let law = threads.ready thread first.0 in
    let at = runs-at (s.objects thread) first.0 (omega (arith, count, law)) in
    record { kind = RunsAt.kind at; runs = RunsAt.runs at }
