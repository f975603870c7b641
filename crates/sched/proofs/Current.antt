-- The current thread of a sound state is there.
use Rattle.std.proofs.Common.{ℕ, zero, suc, ◌≡◌, ◌∙◌, ◌==◌, ◌&&◌, ◌+◌, ◌≤◌, if◌then◌else◌, false, List, [], ◌∷◌, Option, Some, None, option_map, refl, ap}
use Rattle.std.proofs.Common.{arith}
use Rattle.std.specs.Option.{option_map_or}
use Rattle.std.proofs.lemmas.Bool.{eq-eqb}
use Rattle.model.specs.Kernel.Kinds.{kind_at, kind_of}
use Rattle.model.specs.Kernel.Retype.{NewThread}
use Rattle.model.specs.Kernel.Scheduling.{current, first_below, head_of, is_runnable}
use Rattle.model.specs.Kernel.Soundness.{IsSound}
use Rattle.model.specs.Kernel.State.{CNodeObject, EndpointObject, FrameObject, NotificationObject, Object, PageTableObject, RootTableObject, State}
use Rattle.model.specs.Kernel.State.{ThreadObject, as_thread}
use Rattle.model.specs.Shared.Lists.{times_in}

-- ---- the current thread is the first of some priority

first-step : (n : ℕ) (ready : ℕ → List ℕ) (thread : ℕ) (first rest : Option ℕ) → head_of (ready n) ≡ first
    → (rest ≡ Some thread → (priority : ℕ) × (head_of (ready priority) ≡ Some thread)) → option_map_or Some first rest ≡ Some thread
    → (priority : ℕ) × (head_of (ready priority) ≡ Some thread)
first-step n ready thread (Some x) rest head later is = (n, head ∙ is)
first-step n ready thread None rest head later is = later is

first-of : (n : ℕ) (ready : ℕ → List ℕ) (thread : ℕ) → first_below n ready ≡ Some thread → (priority : ℕ) × (head_of (ready priority) ≡ Some thread)
unfolding first_below
first-of zero ready thread is = absurd (let clash : None ≡ Some thread = is in cc)
first-of (suc n) ready thread is = first-step n ready thread (head_of (ready n)) (first_below n ready) refl (first-of n ready thread) is

-- so it is there

head-counts : (threads : List ℕ) (thread : ℕ) → head_of threads ≡ Some thread → 1 ≤ times_in threads thread
head-counts [] thread is = absurd (let clash : None ≡ Some thread = is in cc)
head-counts (t ∷ rest) thread is =
    let same : t ≡ thread = cc in
    let more : times_in (t ∷ rest) thread ≡ times_in rest thread + 1 =
    ap (λ b. if b then times_in rest thread + 1 else times_in rest thread) (eq-eqb t thread same) in
    omega (arith, more)

-- and who is there is a thread

abbrev times-ready : Option Object → ℕ → ℕ
times-ready o priority = if option_map_or (λ t. is_runnable t.status && t.priority == priority) (as_thread o) false then 1 else 0

ready-there : (o : Option Object) (priority : ℕ) → 1 ≤ times-ready o priority → option_map kind_of o ≡ Some NewThread
ready-there (Some (ThreadObject t)) priority less = refl
ready-there None priority less = absurd (omega (arith, less))
ready-there (Some (EndpointObject e)) priority less = absurd (omega (arith, less))
ready-there (Some (NotificationObject n)) priority less = absurd (omega (arith, less))
ready-there (Some (CNodeObject radix)) priority less = absurd (omega (arith, less))
ready-there (Some FrameObject) priority less = absurd (omega (arith, less))
ready-there (Some PageTableObject) priority less = absurd (omega (arith, less))
ready-there (Some RootTableObject) priority less = absurd (omega (arith, less))

pub current-there : (s : State) (thread : ℕ) → IsSound s → current s ≡ Some thread → kind_at s thread ≡ Some NewThread
current-there s thread sound is =
    let first = first-of 256 s.ready thread is in
    let stands = head-counts (s.ready first.0) thread first.1 in
    let law = sound.threads.ready thread first.0 in
    ready-there (s.objects thread) first.0 (omega (arith, stands, law))
