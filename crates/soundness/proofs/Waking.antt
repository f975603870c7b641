-- Threads that wake one after another: what is sound once they all are inactive is sound once they all run.
use Rattle.std.proofs.Common.{ℕ, zero, suc, ◌≡◌, ◌∙◌, ◌==◌, ◌+◌, ◌*◌, ◌<◌, ◌≤◌, ◌++◌, ◌||◌, inl, inr, Bool, true, false, if◌then◌else◌, cond, filter, map, List}
use Rattle.std.proofs.Common.{[], ◌∷◌, Option, Some, None, option_map, refl, sym, ap, subst, arith}
use Rattle.std.specs.Prelude.{fold}
use Rattle.std.specs.List.{range_with_len}
use Rattle.std.proofs.Math.Bool.{or-true}
use Rattle.std.proofs.lemmas.Bool.{eq-eqb}
use Rattle.std.proofs.lemmas.Bool.Decides.{eqb_tells}
use Rattle.model.specs.Kernel.Kinds.{kind_at, kind_of}
use Rattle.model.specs.Kernel.Retype.{NewThread}
use Rattle.model.specs.Kernel.Scheduling.{full_slice, wake}
use Rattle.model.specs.Kernel.Soundness.{IsSound}
use Rattle.model.specs.Kernel.State.{State, Inactive, Runnable, Object, ThreadObject, EndpointObject, NotificationObject, CNodeObject, FrameObject}
use Rattle.model.specs.Kernel.State.{PageTableObject, RootTableObject, ThreadState, put, thread_at}
use Rattle.model.specs.Shared.Lists.{without}
use Rattle.soundness.proofs.LeftThreads.{stilled}
use Rattle.soundness.proofs.Moving.{own_of, put-here, put-other, runs_of}
use Rattle.soundness.proofs.QueueSteps.{standing}
use Rattle.soundness.proofs.Rest.{thread-kind}
use Rattle.soundness.proofs.Steps.{woken-whole}

-- ---- lists

abbrev pub is_in : List ℕ → ℕ → Bool
is_in [] n = false
is_in (x ∷ l) n = n == x || is_in l n

-- no number occurs twice
abbrev pub AreApart : List ℕ → Type 0
AreApart [] = Unit {0}
AreApart (x ∷ l) = (is_in l x ≡ false) × AreApart l

in-tail : (x n : ℕ) (l : List ℕ) → is_in l n ≡ true → is_in (x ∷ l) n ≡ true
in-tail x n l is = ap (λ b. n == x || b) is ∙ or-true (n == x)

-- what is in a part of a list passes the test, and is in the list
pub in-filter : (test : ℕ → Bool) (l : List ℕ) (n : ℕ) → is_in (filter test l) n ≡ true → (test n ≡ true) × (is_in l n ≡ true)
in-filter test [] n is = let clash : false ≡ true = is in absurd cc
in-filter test (x ∷ l) n is = elim (test x) as (λ b. test x ≡ b → is_in (cond b (x ∷ filter test l) (filter test l)) n ≡ true → (test n ≡ true)
    × (is_in (x ∷ l) n ≡ true)) [
      | true ↦ λ passes so. elim (eqb_tells n x) [
        | inl here ↦ (ap test here.1 ∙ passes, ap (λ b. b || is_in l n) here.0)
        | inr other ↦ let rest = in-filter test l n (ap (λ b. b || is_in (filter test l) n) (sym other.0) ∙ so) in (rest.0, in-tail x n l rest.1)
      ]
      | false ↦ λ _ so. let rest = in-filter test l n so in (rest.0, in-tail x n l rest.1)
    ] refl is

pub filter-in : (test : ℕ → Bool) (l : List ℕ) (n : ℕ) → test n ≡ true → is_in l n ≡ true → is_in (filter test l) n ≡ true
filter-in test [] n passes is = is
filter-in test (x ∷ l) n passes is = elim (eqb_tells n x) [
  | inl here ↦
      ap (λ b. is_in (cond b (x ∷ filter test l) (filter test l)) n) (ap test (sym here.1) ∙ passes)
      ∙ ap (λ b. b || is_in (filter test l) n) here.0
  | inr other ↦
      let rest = filter-in test l n passes (ap (λ b. b || is_in l n) (sym other.0) ∙ is) in
      elim (test x) as (λ b. is_in (cond b (x ∷ filter test l) (filter test l)) n ≡ true) [
        | true ↦ in-tail x n (filter test l) rest
        | false ↦ rest
      ]
]

not-in-filter : (test : ℕ → Bool) (l : List ℕ) (n : ℕ) → is_in l n ≡ false → is_in (filter test l) n ≡ false
not-in-filter test l n none = elim (is_in (filter test l) n) as (λ b. is_in (filter test l) n ≡ b → b ≡ false) [
  | true ↦ λ is. let clash : false ≡ true = sym none ∙ (in-filter test l n is).1 in absurd cc
  | false ↦ λ _. refl
] refl

pub apart-filter : (test : ℕ → Bool) (l : List ℕ) → AreApart l → AreApart (filter test l)
apart-filter test [] apart = apart
apart-filter test (x ∷ l) apart = elim (test x) as (λ b. AreApart (cond b (x ∷ filter test l) (filter test l))) [
  | true ↦ (not-in-filter test l x apart.0, apart-filter test l apart.1)
  | false ↦ apart-filter test l apart.1
]

-- the multiples of 16 from one on
abbrev places_from : ℕ → ℕ → List ℕ
places_from first count = map (λ slot. 16 * slot) (range_with_len first count)

places-low : (first count n : ℕ) → is_in (places_from first count) n ≡ true → 16 * first ≤ n
places-low first zero n is = let clash : false ≡ true = is in absurd cc
places-low first (suc count) n is = elim (eqb_tells n (16 * first)) [
  | inl here ↦ omega (arith, here.1)
  | inr other ↦ let low = places-low (first + 1) count n (ap (λ b. b || is_in (places_from (first + 1) count) n) (sym other.0) ∙ is) in omega (arith, low)
]

pub places-apart : (first count : ℕ) → AreApart (places_from first count)
places-apart first zero = tt
places-apart first (suc count) = (
  elim (is_in (places_from (first + 1) count) (16 * first)) as (λ b. is_in (places_from (first + 1) count) (16 * first) ≡ b → b ≡ false) [
    | true ↦ λ is. let low = places-low (first + 1) count (16 * first) is in absurd (omega (arith, low))
    | false ↦ λ _. refl
  ] refl,
  places-apart (first + 1) count,
)

pub in-places : (first count n : ℕ) → first ≤ n → n < first + count → is_in (places_from first count) (16 * n) ≡ true
in-places first zero n low high = absurd (omega (arith, low, high))
in-places first (suc count) n low high = elim (eqb_tells n first) [
  | inl here ↦ ap (λ b. b || is_in (places_from (first + 1) count) (16 * n)) (eq-eqb (16 * n) (16 * first) (ap (λ (m : ℕ). 16 * m) here.1))
  | inr other ↦ in-tail (16 * first) (16 * n) (places_from (first + 1) count)
      (in-places (first + 1) count n (omega (arith, low, other.1)) (omega (arith, high)))
]

-- ---- one thread

-- the threads of a list are at rest
abbrev stilled_if : Bool → Option Object → Option Object
stilled_if still o = if still then stilled o else o

abbrev pub resting : List ℕ → State → State
resting l s = record s { objects = λ o. if is_in l o then stilled (s.objects o) else s.objects o }

abbrev running_thread : ThreadState → ThreadState
running_thread t = record t { status = Runnable; slice = full_slice }

runs-same : (still : Bool) (o : Option Object) → running_thread (own_of (stilled_if still o)) ≡ running_thread (own_of o)
runs-same false o = refl
runs-same true None = refl
runs-same true (Some (ThreadObject t)) = refl
runs-same true (Some (EndpointObject e)) = refl
runs-same true (Some (NotificationObject n)) = refl
runs-same true (Some (CNodeObject radix)) = refl
runs-same true (Some FrameObject) = refl
runs-same true (Some PageTableObject) = refl
runs-same true (Some RootTableObject) = refl

-- a state with other objects, in which a thread is at the tail of a priority
abbrev tailed_with : State → ℕ → (ℕ → Option Object) → ℕ → State
tailed_with s x objects priority =
    record s { objects = objects; ready = put (λ p. without x (s.ready p)) priority (without x (s.ready priority) ++ x ∷ []) }

module _ (s : State) (x : ℕ) (l : List ℕ) (apart : is_in l x ≡ false) where
  woken : ℕ → Option Object
  woken = put s.objects x (Some (ThreadObject (running_thread (thread_at s x))))

  others : ℕ → Option Object
  others o = if is_in (x ∷ l) o then stilled (s.objects o) else s.objects o

  still-woken : ℕ → Option Object
  still-woken = put others x (Some (ThreadObject (running_thread (own_of (others x)))))

  same-object : (o : ℕ) → (if is_in l o then stilled (woken o) else woken o) ≡ still-woken o
  unfolding woken others still-woken
  same-object o = elim (eqb_tells o x) [
    | inl here ↦
        let now : Option Object = Some (ThreadObject (running_thread (thread_at s x))) in
        let not_in : is_in l o ≡ false = ap (is_in l) here.1 ∙ apart in
        ap (λ b. if b then stilled (put s.objects x now o) else put s.objects x now o) not_in
        ∙ ap (λ b. if b then now else s.objects o) here.0
        ∙ ap (λ (t : ThreadState). Some (ThreadObject t)) (sym (runs-same (is_in (x ∷ l) x) (s.objects x)))
        ∙ sym (ap (λ b. if b then Some (ThreadObject (running_thread (own_of (stilled_if (is_in (x ∷ l) x) (s.objects x))))) else
        (if is_in (x ∷ l) o then stilled
        (s.objects o) else s.objects o)) here.0)
    | inr other ↦
        let now : Option Object = Some (ThreadObject (running_thread (thread_at s x))) in
        ap (λ b. let k = if b then now else s.objects o in if is_in l o then stilled k else k) other.0
        ∙ sym (ap (λ b. if b || is_in l o then stilled (s.objects o) else s.objects o) other.0)
        ∙ sym (ap (λ b. if b then Some (ThreadObject (running_thread (own_of (stilled_if (is_in (x ∷ l) x) (s.objects x))))) else
        (if is_in (x ∷ l) o then stilled
        (s.objects o) else s.objects o)) other.0)
  ]

  same-priority : (own_of (woken x)).priority ≡ (own_of (still-woken x)).priority
  unfolding woken others still-woken
  same-priority =
      ap (λ (o : Option Object). (own_of o).priority) (put-here s.objects x (Some (ThreadObject (running_thread (thread_at s x)))))
      ∙ ap (λ (t : ThreadState). t.priority) (sym (runs-same (is_in (x ∷ l) x) (s.objects x)))
      ∙ sym (ap (λ (o : Option Object). (own_of o).priority) (put-here others x (Some (ThreadObject (running_thread (own_of (others x)))))))

  -- it makes no difference whether a thread wakes before or after the others of a list are at rest
  pub wakes-first : wake (resting (x ∷ l) s) x ≡ resting l (wake s x)
  unfolding woken others still-woken
  wakes-first = sym (λ i. tailed_with s x (λ o. same-object o i) (same-priority i))

  kind-other : (o : ℕ) → is_in l o ≡ true → kind_at (wake s x) o ≡ kind_at s o
  kind-other o is =
      ap (option_map kind_of) (put-other s.objects x (Some (ThreadObject (running_thread (thread_at s x)))) o
      (λ same. let clash : true ≡ false = sym is ∙ ap (is_in l) same ∙ apart in cc))

-- a thread that is at rest wakes
wakes-still : (s : State) (x : ℕ) → IsSound s → (t : ThreadState) → s.objects x ≡ Some (ThreadObject t) → t.status ≡ Inactive → IsSound (wake s x)
wakes-still s x sound t is still =
    woken-whole (kind_at s) s x (runs_of (s.objects x)) (standing s x Inactive sound (ap (λ (o : Option Object). (own_of o).status) is ∙ still))
    (ap (option_map kind_of) is)

-- ---- all of them

pub all-wake : (l : List ℕ) (s : State) → AreApart l → ((o : ℕ) → is_in l o ≡ true → kind_at s o ≡ Some NewThread) → IsSound (resting l s) →
    IsSound (fold wake s l)
all-wake [] s apart threads sound = sound
all-wake (x ∷ l) s apart threads sound =
    let here : is_in (x ∷ l) x ≡ true = ap (λ b. b || is_in l x) (eq-eqb x x refl) in
    let own = thread-kind (s.objects x) (threads x here) in
    let still : (resting (x ∷ l) s).objects x ≡ Some (ThreadObject (record own.0 { status = Inactive })) =
    ap (λ b. if b then stilled (s.objects x) else s.objects x) here ∙ ap stilled own.1
    in
    all-wake l (wake s x) apart.1
    (λ o is. kind-other s x l apart.0 o is ∙ threads o (in-tail x o l is))
    (subst IsSound (wakes-first s x l apart.0) (wakes-still (resting (x ∷ l) s) x sound (record own.0 { status = Inactive }) still refl))
