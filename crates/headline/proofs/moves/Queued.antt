-- Who is in a queue is blocked there.
use Rattle.std.proofs.Common.{ℕ, zero, suc, ◌≡◌, ◌∙◌, ◌==◌, ◌+◌, ◌++◌, ◌<◌, ◌≤◌, ◌≢◌, ◌⊎◌, inl, inr, Bool, true, false, if◌then◌else◌, Option, Some, None, List}
use Rattle.std.proofs.Common.{[], ◌∷◌, length, get_or, refl, sym, ap, arith}
use Rattle.std.specs.Prelude.{Contains}
use Rattle.std.specs.Option.{option_map_or}
use Rattle.std.proofs.lemmas.Bool.{eq-eqb}
use Rattle.std.proofs.lemmas.Bool.Decides.{eqb_tells}
use Rattle.model.specs.Kernel.Soundness.{ThreadsAreSound, is_blocked_on, waiting_at, waits_at}
use Rattle.model.specs.Kernel.State.{State, Status, Inactive, Runnable, Blocked, AwaitsReply, AwaitsHandler, Object, ThreadObject, EndpointObject}
use Rattle.model.specs.Kernel.State.{NotificationObject, CNodeObject, FrameObject, PageTableObject, RootTableObject, ThreadState, as_thread}
use Rattle.model.specs.Shared.Lists.{times_in}

pub record IsBlockedAt (s : State) (thread queue : ℕ) : Type 0 where
  pub own : ThreadState
  pub is : s.objects thread ≡ Some (ThreadObject own)
  pub status : own.status ≡ Blocked queue

blocked-status : (queue : ℕ) (status : Status) → is_blocked_on queue status ≡ true → status ≡ Blocked queue
blocked-status queue Inactive is = absurd (let clash : false ≡ true = is in cc)
blocked-status queue Runnable is = absurd (let clash : false ≡ true = is in cc)
blocked-status queue AwaitsReply is = absurd (let clash : false ≡ true = is in cc)
blocked-status queue AwaitsHandler is = absurd (let clash : false ≡ true = is in cc)
blocked-status queue (Blocked other) is = elim (eqb_tells other queue) [
  | inl same ↦ ap Blocked same.1
  | inr apart ↦ absurd (let clash : false ≡ true = sym apart.0 ∙ is in cc)
]

module _ (s : State) (thread queue : ℕ) where
  from-object : (o : Option Object) → s.objects thread ≡ o → option_map_or (λ (t : ThreadState). is_blocked_on queue t.status) (as_thread o) false ≡ true →
      IsBlockedAt s thread queue
  from-object (Some (ThreadObject t)) is waits = record { own = t; is = is; status = blocked-status queue t.status waits }
  from-object None is waits = absurd (let clash : false ≡ true = waits in cc)
  from-object (Some (EndpointObject e)) is waits = absurd (let clash : false ≡ true = waits in cc)
  from-object (Some (NotificationObject n)) is waits = absurd (let clash : false ≡ true = waits in cc)
  from-object (Some (CNodeObject radix)) is waits = absurd (let clash : false ≡ true = waits in cc)
  from-object (Some FrameObject) is waits = absurd (let clash : false ≡ true = waits in cc)
  from-object (Some PageTableObject) is waits = absurd (let clash : false ≡ true = waits in cc)
  from-object (Some RootTableObject) is waits = absurd (let clash : false ≡ true = waits in cc)

  pub queued-there : ThreadsAreSound s → 1 ≤ times_in (waiting_at (s.objects queue)) thread → IsBlockedAt s thread queue
  queued-there sound some =
      let count = sound.queued thread queue in
      elim (waits_at s thread queue) as (λ b. waits_at s thread queue ≡ b → IsBlockedAt s thread queue) [
        | true ↦ λ waits. from-object (s.objects thread) refl waits
        | false ↦ λ rests.
            let none : times_in (waiting_at (s.objects queue)) thread ≡ 0 = count ∙ ap (λ (b : Bool). if b then 1 else 0) rests in
            absurd (omega (arith, none, some))
      ] refl

-- ---- lists

pub more-times : (xs : List ℕ) (x y : ℕ) → times_in xs x ≤ times_in (y ∷ xs) x
more-times xs x y = elim (y == x) as (λ b. times_in xs x ≤ (if b then times_in xs x + 1 else times_in xs x)) [ true ↦ omega arith | false ↦ omega arith ]

pub first-times : (xs : List ℕ) (x y : ℕ) → y ≡ x → 1 ≤ times_in (y ∷ xs) x
first-times xs x y is =
    let more : times_in (y ∷ xs) x ≡ times_in xs x + 1 = ap (λ (b : Bool). if b then times_in xs x + 1 else times_in xs x) (eq-eqb y x is) in
    omega (arith, more)

pub among-times : (xs : List ℕ) (x k : ℕ) → k < length xs → get_or xs k x ≡ x → 1 ≤ times_in xs x
among-times [] x k inside is = absurd (omega (arith, inside))
among-times (y ∷ xs) x zero inside is = first-times xs x y is
among-times (y ∷ xs) x (suc k) inside is =
    let rest = among-times xs x k (omega (arith, inside)) is in
    let more = more-times xs x y in
    omega (arith, rest, more)

-- what follows the first is in the list
pub contains-more : {A : Type 0} (x y : A) (xs : List A) → Contains xs y → Contains (x ∷ xs) y
contains-more x y xs among = (suc among.0, omega (arith, among.1), among.2)

-- what is before the last of a list, if it is not the last
pub contains-last : {A : Type 0} (xs : List A) (x y : A) → Contains (xs ++ y ∷ []) x → Contains xs x ⊎ (y ≡ x)
contains-last {A} xs x y among = within xs among.0 among.1 among.2
  where
    within : (xs : List A) (k : ℕ) → k < length (xs ++ y ∷ []) → get_or (xs ++ y ∷ []) k x ≡ x → Contains xs x ⊎ (y ≡ x)
    within [] zero inside is = inr is
    within [] (suc k) inside is = absurd (omega (arith, inside))
    within (z ∷ zs) zero inside is = inl (0, omega arith, is)
    within (z ∷ zs) (suc k) inside is = elim (within zs k (omega (arith, inside)) is) [
      | inl before ↦ inl (contains-more z x zs before)
      | inr last ↦ inr last
    ]

pub contains-before : {A : Type 0} (xs : List A) (x y : A) → Contains (xs ++ y ∷ []) x → x ≢ y → Contains xs x
contains-before xs x y among other = elim (contains-last xs x y among) [ inl before ↦ before | inr last ↦ absurd (other (sym last)) ]

-- what is in the second of two lists is in both together
pub times-behind : (xs ys : List ℕ) (x : ℕ) → times_in ys x ≤ times_in (xs ++ ys) x
times-behind [] ys x = omega arith
times-behind (y ∷ xs) ys x =
    let rest = times-behind xs ys x in
    let more = more-times (xs ++ ys) x y in
    omega (arith, rest, more)

pub times-before : (xs ys : List ℕ) (x : ℕ) → times_in xs x ≤ times_in (xs ++ ys) x
times-before [] ys x = omega arith
times-before (y ∷ xs) ys x =
    elim (y == x) as (λ b. (if b then times_in xs x + 1 else times_in xs x) ≤ (if b then times_in (xs ++ ys) x + 1 else times_in (xs ++ ys) x)) [
      | true ↦ let rest = times-before xs ys x in omega (arith, rest)
      | false ↦ times-before xs ys x
    ]
