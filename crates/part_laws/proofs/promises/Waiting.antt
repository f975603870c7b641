-- Whoever is in a queue waits there.
use Rattle.std.proofs.Common.{ℕ, zero, suc, ◌≡◌, ◌∙◌, ◌==◌, ◌+◌, ◌≤◌, Bool, true, false, if◌then◌else◌, List, [], ◌∷◌, Option, Some, None, refl, sym, ap}
use Rattle.std.proofs.Common.{arith}
use Rattle.std.specs.Prelude.{Contains}
use Rattle.std.specs.Option.{option_map_or}
use Rattle.std.proofs.lemmas.Bool.{eq-eqb, eqb-true, false≢true}
use Rattle.model.specs.Kernel.Soundness.{IsSound, is_blocked_on, waiting_at, waits_at}
use Rattle.model.specs.Kernel.State.{State, Status, Inactive, Runnable, Blocked, AwaitsReply, AwaitsHandler, Object, ThreadObject, EndpointObject}
use Rattle.model.specs.Kernel.State.{NotificationObject, CNodeObject, FrameObject, PageTableObject, RootTableObject, ThreadState, as_thread}
use Rattle.model.specs.Shared.Lists.{times_in}

pub record WaitsAt (s : State) (thread queue : ℕ) : Type 0 where
  pub own : ThreadState
  pub is : s.objects thread ≡ Some (ThreadObject own)
  pub blocked : own.status ≡ Blocked queue

pub some-times : (xs : List ℕ) (x : ℕ) → Contains xs x → 1 ≤ times_in xs x
some-times [] x (n, less, at) = absurd (omega (arith, less))
some-times (y ∷ ys) x (zero, less, at) =
    let here : times_in (y ∷ ys) x ≡ times_in ys x + 1 = ap (λ (b : Bool). if b then times_in ys x + 1 else times_in ys x) (eq-eqb y x at) in
    omega (arith, here)
some-times (y ∷ ys) x (suc n, less, at) =
    let later = some-times ys x (n, omega (arith, less), at) in
    elim (y == x) as (λ b. 1 ≤ (if b then times_in ys x + 1 else times_in ys x)) [
      | true ↦ omega arith
      | false ↦ later
    ]

blocked-is : (queue : ℕ) (status : Status) → is_blocked_on queue status ≡ true → status ≡ Blocked queue
blocked-is queue Inactive is = absurd (false≢true is)
blocked-is queue Runnable is = absurd (false≢true is)
blocked-is queue (Blocked other) is = ap Blocked (eqb-true other queue is)
blocked-is queue AwaitsReply is = absurd (false≢true is)
blocked-is queue AwaitsHandler is = absurd (false≢true is)

pub in-queue : (s : State) → IsSound s → (queue thread : ℕ) → Contains (waiting_at (s.objects queue)) thread → WaitsAt s thread queue
in-queue s sound queue thread there = by (s.objects thread) refl (one (waits_at s thread queue) (sound.threads.queued thread queue))
  where
    least : 1 ≤ times_in (waiting_at (s.objects queue)) thread
    least = some-times (waiting_at (s.objects queue)) thread there

    one : (b : Bool) → times_in (waiting_at (s.objects queue)) thread ≡ (if b then 1 else 0) → b ≡ true
    one true is = refl
    one false is = absurd (let more = least in omega (arith, more, is))

    by : (o : Option Object) → s.objects thread ≡ o → waits_at s thread queue ≡ true → WaitsAt s thread queue
    by o is waits =
        from o is (ap (λ (x : Option Object). option_map_or (λ (u : ThreadState). is_blocked_on queue u.status) (as_thread x) false) (sym is) ∙ waits)
      where
        from : (o : Option Object) → s.objects thread ≡ o
            → option_map_or (λ (u : ThreadState). is_blocked_on queue u.status) (as_thread o) false ≡ true → WaitsAt s thread queue
        from (Some (ThreadObject own)) is waits = record { own = own; is = is; blocked = blocked-is queue own.status waits }
        from None is none = absurd (false≢true none)
        from (Some (EndpointObject x)) is none = absurd (false≢true none)
        from (Some (NotificationObject x)) is none = absurd (false≢true none)
        from (Some (CNodeObject x)) is none = absurd (false≢true none)
        from (Some FrameObject) is none = absurd (false≢true none)
        from (Some PageTableObject) is none = absurd (false≢true none)
        from (Some RootTableObject) is none = absurd (false≢true none)
