-- A tick of a sound state stays within authority.
use Rattle.std.proofs.Common.{ℕ, zero, suc, ◌≡◌, ◌≢◌, ◌==◌, ◌+◌, ◌-◌, ◌≤◌, ◌++◌, ◌&&◌, Bool, true, false, not, nat_le, if◌then◌else◌, Option, Some, None, List}
use Rattle.std.proofs.Common.{[], ◌∷◌, refl, sym, ◌∙◌, ap, subst, inl, inr, arith}
use Rattle.std.specs.Option.{option_map_or}
use Rattle.std.proofs.lemmas.Bool.{and_parts, eq-eqb, eqb-true, ne_eqb}
use Rattle.std.proofs.lemmas.Bool.Decides.{eqb_tells}
use Rattle.headline.specs.authority.Events.{WithinTick}
use Rattle.model.specs.Kernel.Scheduling.{current, first_below, full_slice, head_of, is_runnable, tick, ticked, yielded}
use Rattle.model.specs.Shared.Lists.{times_in, without}
use Rattle.model.specs.Kernel.Soundness.{IsSound, ThreadsAreSound}
use Rattle.model.specs.Kernel.State.{State, Object, ThreadObject, EndpointObject, NotificationObject, CNodeObject, FrameObject, PageTableObject}
use Rattle.model.specs.Kernel.State.{RootTableObject, ThreadState, as_thread, new_thread, put, thread_at, with_thread}
use Rattle.headline.proofs.authority.ReadyLists.{moved, times-moved_elsewhere, times-moved_here}

-- ---- the current thread

-- where a thread is current, and what it is
record Runs (s : State) (thread : ℕ) : Type 0 where
  priority : ℕ
  own : ThreadState
  first : head_of (s.ready priority) ≡ Some thread
  is : s.objects thread ≡ Some (ThreadObject own)
  at : own.priority ≡ priority

record IsFirst (ready : ℕ → List ℕ) (thread : ℕ) : Type 0 where
  priority : ℕ
  first : head_of (ready priority) ≡ Some thread

first-step : (n : ℕ) (ready : ℕ → List ℕ) (thread : ℕ) (o : Option ℕ) (rest : Option ℕ) → head_of (ready n) ≡ o
    → (rest ≡ Some thread → IsFirst ready thread) → option_map_or Some o rest ≡ Some thread → IsFirst ready thread
first-step n ready thread (Some x) rest head later is = record { priority = n; first = head ∙ is }
first-step n ready thread None rest head later is = later is

first-of : (n : ℕ) (ready : ℕ → List ℕ) (thread : ℕ) → first_below n ready ≡ Some thread → IsFirst ready thread
unfolding first_below
first-of zero ready thread is = let e : None ≡ Some thread = is in absurd cc
first-of (suc n) ready thread is = first-step n ready thread (head_of (ready n)) (first_below n ready) refl (first-of n ready thread) is

head-counts : (threads : List ℕ) (thread : ℕ) → head_of threads ≡ Some thread → 1 ≤ times_in threads thread
head-counts [] thread is = let e : None ≡ Some thread = is in absurd cc
head-counts (t ∷ rest) thread is =
    let same : t ≡ thread = cc in
    let more : times_in (t ∷ rest) thread ≡ times_in rest thread + 1 =
    ap (λ (b : Bool). if b then times_in rest thread + 1 else times_in rest thread) (eq-eqb t thread same) in
    omega (arith, more)

pub thread-object : (o : Option Object) (t : ThreadState) → as_thread o ≡ Some t → o ≡ Some (ThreadObject t)
thread-object None t is = let e : None ≡ Some t = is in absurd cc
thread-object (Some (ThreadObject own)) t is = let e : own ≡ t = cc in ap (λ (u : ThreadState). Some (ThreadObject u)) e
thread-object (Some (EndpointObject x)) t is = let e : None ≡ Some t = is in absurd cc
thread-object (Some (NotificationObject x)) t is = let e : None ≡ Some t = is in absurd cc
thread-object (Some (CNodeObject x)) t is = let e : None ≡ Some t = is in absurd cc
thread-object (Some FrameObject) t is = let e : None ≡ Some t = is in absurd cc
thread-object (Some PageTableObject) t is = let e : None ≡ Some t = is in absurd cc
thread-object (Some RootTableObject) t is = let e : None ≡ Some t = is in absurd cc

runs-own : (o : Option ThreadState) (priority : ℕ) → 1 ≤ (if option_map_or (λ t. is_runnable t.status && t.priority == priority) o false then 1 else 0)
    → (t : ThreadState) × (o ≡ Some t) × (t.priority ≡ priority)
runs-own None priority some = absurd (omega (arith, some))
runs-own (Some t) priority some =
    elim (is_runnable t.status && t.priority == priority) as (λ b. (is_runnable t.status && t.priority == priority) ≡ b → 1 ≤ (if b then 1 else 0) →
    (u : ThreadState) × (Some t ≡ Some u) × (u.priority ≡ priority)) [
      | true ↦ λ is more. (t, refl, eqb-true t.priority priority (and_parts (is_runnable t.status) (t.priority == priority) is).1)
      | false ↦ λ is more. absurd (omega (arith, more))
    ] refl some

runs-of : (s : State) → ThreadsAreSound s → (thread : ℕ) → current s ≡ Some thread → Runs s thread
runs-of s sound thread is =
    let first = first-of 256 s.ready thread is in
    let count = head-counts (s.ready first.priority) thread first.first in
    let law = sound.ready thread first.priority in
    let own = runs-own (as_thread (s.objects thread)) first.priority (omega (arith, count, law)) in
    record { priority = first.priority; own = own.0; first = first.first; is = thread-object (s.objects thread) own.0 own.1; at = own.2 }

-- the current thread is in a list of the ready
pub current-counts : (s : State) (thread : ℕ) → current s ≡ Some thread → (priority : ℕ) × (1 ≤ times_in (s.ready priority) thread)
current-counts s thread is =
    let first = first-of 256 s.ready thread is in
    (first.priority, head-counts (s.ready first.priority) thread first.first)

-- ---- lists without a thread

without-again : (thread : ℕ) (threads : List ℕ) → without thread (without thread threads) ≡ without thread threads
without-again thread [] = refl
without-again thread (t ∷ threads) = elim (eqb_tells t thread) [
  | inl here ↦
      let gone : without thread (t ∷ threads) ≡ without thread threads =
      ap (λ (b : Bool). if not b then t ∷ without thread threads else without thread threads) here.0 in
      ap (without thread) gone ∙ without-again thread threads ∙ sym gone
  | inr apart ↦
      let stays : without thread (t ∷ threads) ≡ t ∷ without thread threads =
      ap (λ (b : Bool). if not b then t ∷ without thread threads else without thread threads) apart.0 in
      ap (without thread) stays
      ∙ ap (λ (b : Bool). if not b then t ∷ without thread (without thread threads) else without thread (without thread threads)) apart.0
      ∙ ap (λ (l : List ℕ). t ∷ l) (without-again thread threads) ∙ sym stays
]

without-end : (thread : ℕ) (threads : List ℕ) → without thread (threads ++ thread ∷ []) ≡ without thread threads
without-end thread [] = ap (λ (b : Bool). if not b then thread ∷ [] else []) (eq-eqb thread thread refl)
without-end thread (t ∷ threads) =
    ap (λ (l : List ℕ). if not (t == thread) then t ∷ l else l) (without-end thread threads)

-- a list that a thread was moved in, without that thread, is the old one without it
moved-without : (ready : ℕ → List ℕ) (thread tail priority : ℕ) → without thread (moved ready thread tail priority) ≡ without thread (ready priority)
moved-without ready thread tail priority = elim (eqb_tells priority tail) [
  | inl here ↦
      ap (λ (b : Bool). without thread (if b then without thread (ready tail) ++ thread ∷ [] else without thread (ready priority))) here.0
      ∙ without-end thread (without thread (ready tail)) ∙ without-again thread (ready tail) ∙ ap (λ (n : ℕ). without thread (ready n)) (sym here.1)
  | inr apart ↦
      ap (λ (b : Bool). without thread (if b then without thread (ready tail) ++ thread ∷ [] else without thread (ready priority))) apart.0
      ∙ without-again thread (ready priority)
]

moved-as_often : (ready : ℕ → List ℕ) (thread tail priority : ℕ) → times_in (ready tail) thread ≡ 1
    → (priority ≢ tail → times_in (ready priority) thread ≡ 0) → times_in (moved ready thread tail priority) thread ≡ times_in (ready priority) thread
moved-as_often ready thread tail priority stands nowhere = elim (eqb_tells priority tail) [
  | inl here ↦
      let one : times_in (moved ready thread tail priority) thread ≡ 1 = ap (λ (n : ℕ). times_in (moved ready thread tail n) thread) here.1
      ∙ times-moved_here ready thread tail in
      let same : times_in (ready priority) thread ≡ times_in (ready tail) thread = ap (λ (n : ℕ). times_in (ready n) thread) here.1 in
      omega (arith, one, same, stands)
  | inr apart ↦ times-moved_elsewhere ready thread tail priority apart.0 ∙ sym (nowhere apart.1)
]

one-there : (b : Bool) (n : ℕ) → n ≡ (if b then 1 else 0) → 1 ≤ n → n ≡ 1
one-there true n is some = is
one-there false n is some = absurd (omega (arith, is, some))

and-false : (b : Bool) → (b && false) ≡ false
and-false true = refl
and-false false = refl

-- ---- the tick

-- what a tick leaves of a state: another slice, and the ready list as it was or with the thread at the tail
module _ (s : State) (sound : ThreadsAreSound s) (thread : ℕ) (is : current s ≡ Some thread) where
  runs : Runs s thread
  runs = runs-of s sound thread is

  own-is : thread_at s thread ≡ Runs.own runs
  own-is = ap (λ (o : Option Object). option_map_or (λ (t : ThreadState). t) (as_thread o) new_thread) (Runs.is runs)

  within : (slice : ℕ) (ready : ℕ → List ℕ)
      → ((priority : ℕ) → without thread (ready priority) ≡ without thread (s.ready priority))
      → ((priority : ℕ) → times_in (ready priority) thread ≡ times_in (s.ready priority) thread)
      → WithinTick s (record (with_thread s thread (record (thread_at s thread) { slice = slice })) { ready = ready })
  within slice ready same often = record {
    store = record { memory_bits = refl; boot_radix = refl; slots = λ slot. refl; bytes = λ place. refl };
    masked = λ number. refl;
    pending = λ number. refl;
    others = λ offset differs.
        ap (λ (b : Bool). if b then Some (ThreadObject (record (thread_at s thread) { slice = slice })) else s.objects offset)
        (ne_eqb offset thread (λ e. differs (is ∙ ap (λ (n : ℕ). Some n) (sym e))));
    runs = λ other old now there.
        let e : Some thread ≡ Some other = sym is ∙ now in
        let here : thread ≡ other = cc in
        let own : thread_at s other ≡ old = ap (λ (o : Option Object). option_map_or (λ (t : ThreadState). t) (as_thread o) new_thread) there in (
          slice,
          ap (λ (b : Bool). if b then Some (ThreadObject (record (thread_at s thread) { slice = slice })) else s.objects other) (eq-eqb other thread (sym here))
              ∙ ap (λ (n : ℕ). Some (ThreadObject (record (thread_at s n) { slice = slice }))) here
              ∙ ap (λ (t : ThreadState). Some (ThreadObject (record t { slice = slice }))) own,
        );
    idle = λ none. let e : None ≡ Some thread = sym none ∙ is in absurd cc;
    ready = λ other priority now.
        let e : Some thread ≡ Some other = sym is ∙ now in
        let here : thread ≡ other = cc in
        subst (λ (n : ℕ). without n (ready priority) ≡ without n (s.ready priority)) here (same priority);
    as_often = λ other priority now.
        let e : Some thread ≡ Some other = sym is ∙ now in
        let here : thread ≡ other = cc in
        subst (λ (n : ℕ). times_in (ready priority) n ≡ times_in (s.ready priority) n) here (often priority);
  }

  at : (thread_at s thread).priority ≡ Runs.priority runs
  at = ap (λ (t : ThreadState). t.priority) own-is ∙ Runs.at runs

  -- the thread is once in the list of its priority, and in no other
  counted : (priority : ℕ) → times_in (s.ready priority) thread ≡ (if is_runnable (Runs.own runs).status && (Runs.own runs).priority == priority then 1 else 0)
  counted priority =
      sound.ready thread priority
      ∙ ap (λ (o : Option Object). if option_map_or (λ t. is_runnable t.status && t.priority == priority) (as_thread o) false then 1 else 0) (Runs.is runs)

  stands : times_in (s.ready (thread_at s thread).priority) thread ≡ 1
  stands =
      let some = head-counts (s.ready (Runs.priority runs)) thread (Runs.first runs) in
      subst (λ (n : ℕ). times_in (s.ready n) thread ≡ 1) (sym at)
      (one-there (is_runnable (Runs.own runs).status && (Runs.own runs).priority == Runs.priority runs) (times_in (s.ready (Runs.priority runs)) thread)
      (counted (Runs.priority runs)) some)

  nowhere : (priority : ℕ) → priority ≢ (thread_at s thread).priority → times_in (s.ready priority) thread ≡ 0
  nowhere priority differs =
      let apart : ((Runs.own runs).priority == priority) ≡ false =
      ne_eqb (Runs.own runs).priority priority (λ same. differs (sym same ∙ sym (ap (λ (t : ThreadState). t.priority) own-is))) in
      counted priority ∙ ap (λ (b : Bool). if is_runnable (Runs.own runs).status && b then 1 else 0) apart
      ∙ ap (λ (b : Bool). if b then 1 else 0) (and-false (is_runnable (Runs.own runs).status))

  tail-is : (t : ThreadState) → (option_map_or (λ (u : ThreadState). u) (as_thread (put s.objects thread (Some (ThreadObject t)) thread)) new_thread).priority
      ≡ t.priority
  tail-is t = ap (λ (b : Bool).
      (option_map_or (λ (u : ThreadState). u) (as_thread (if b then Some (ThreadObject t) else s.objects thread)) new_thread).priority)
      (eq-eqb thread thread refl)

  yielded-within : WithinTick s (yielded s thread)
  yielded-within =
      let t : ThreadState = record (thread_at s thread) { slice = full_slice } in
      let tail : ℕ = (option_map_or (λ (u : ThreadState). u) (as_thread (put s.objects thread (Some (ThreadObject t)) thread)) new_thread).priority in
      let there : times_in (s.ready tail) thread ≡ 1 = subst (λ (n : ℕ). times_in (s.ready n) thread ≡ 1) (sym (tail-is t)) stands in
      within full_slice (moved s.ready thread tail) (moved-without s.ready thread tail)
      (λ priority. moved-as_often s.ready thread tail priority there (λ differs. nowhere priority (λ same. differs (same ∙ sym (tail-is t)))))

  ticked-within : WithinTick s (ticked s thread)
  ticked-within =
      let slice = (thread_at s thread).slice in
      elim (nat_le slice 1) as (λ b. WithinTick s (if b then yielded s thread else with_thread s thread (record (thread_at s thread) { slice = slice - 1 }))) [
        | true ↦ yielded-within
        | false ↦ within (slice - 1) s.ready (λ priority. refl) (λ priority. refl)
      ]

nothing-within : (s : State) → current s ≡ None → WithinTick s s
nothing-within s none = record {
  store = record { memory_bits = refl; boot_radix = refl; slots = λ slot. refl; bytes = λ place. refl };
  masked = λ number. refl;
  pending = λ number. refl;
  others = λ offset differs. refl;
  runs = λ other old now there. (old.slice, there);
  idle = λ _ priority. refl;
  ready = λ other priority now. refl;
  as_often = λ other priority now. refl;
}

tick-by : (s : State) → ThreadsAreSound s → (o : Option ℕ) → current s ≡ o → WithinTick s (option_map_or (ticked s) o s)
tick-by s sound None is = nothing-within s is
tick-by s sound (Some thread) is = ticked-within s sound thread is

pub tick-within : (s : State) → IsSound s → WithinTick s (tick s)
tick-within s sound = tick-by s sound.threads (current s) refl
