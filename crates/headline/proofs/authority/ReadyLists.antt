-- What a change of the ready list keeps: no thread occurs there twice.
use Rattle.std.proofs.Common.{ℕ, ◌≡◌, ◌∙◌, ◌==◌, ◌+◌, ◌<◌, ◌≤◌, ◌++◌, inl, inr, Bool, true, false, not, if◌then◌else◌, List, [], ◌∷◌, filter, refl, sym, subst}
use Rattle.std.proofs.Common.{ap, arith}
use Rattle.std.proofs.lemmas.Bool.{eq-eqb}
use Rattle.std.proofs.lemmas.Bool.Decides.{eqb_tells}
use Rattle.model.specs.Shared.Lists.{times_in, without}
use Rattle.model.proofs.Orders.{times-filter}
use Rattle.model.specs.Kernel.State.{put}
use Rattle.headline.specs.authority.Ready.{HoldsNoneTwice}

-- the thread is gone, and others are there as often as before
times-gone : (thread : ℕ) (threads : List ℕ) → times_in (without thread threads) thread ≡ 0
times-gone thread threads =
    times-filter (λ other. not (other == thread)) threads thread
    ∙ ap (λ b. if not b then times_in threads thread else 0) (eq-eqb thread thread refl)

pub times-kept : (thread : ℕ) (threads : List ℕ) (other : ℕ) → (other == thread) ≡ false → times_in (without thread threads) other ≡ times_in threads other
times-kept thread threads other differs =
    times-filter (λ o. not (o == thread)) threads other
    ∙ ap (λ b. if not b then times_in threads other else 0) differs

times-less : (thread : ℕ) (threads : List ℕ) (other : ℕ) → times_in (without thread threads) other ≤ times_in threads other
times-less thread threads other =
    elim (eqb_tells other thread) [
      | inl here ↦ let gone : times_in (without thread threads) other ≡ 0 = ap (times_in (without thread threads)) here.1 ∙ times-gone thread threads in
          omega (arith, gone)
      | inr apart ↦ let kept = times-kept thread threads other apart.0 in omega (arith, kept)
    ]

-- the list without a thread
pub unready-none_twice : (ready : ℕ → List ℕ) (thread : ℕ) → HoldsNoneTwice ready → HoldsNoneTwice (λ priority. without thread (ready priority))
unready-none_twice ready thread before = record {
  once = λ other priority. let less = times-less thread (ready priority) other in let most = before.once other priority in omega (arith, less, most);
  one_priority = λ other first second here there.
      let less = times-less thread (ready first) other in
      let fewer = times-less thread (ready second) other in
      before.one_priority other first second (omega (arith, less, here)) (omega (arith, fewer, there));
}

-- the list without some threads
filtered-less : (keeps : ℕ → Bool) (threads : List ℕ) (other : ℕ) → times_in (filter keeps threads) other ≤ times_in threads other
filtered-less keeps threads other =
    let count = times-filter keeps threads other in
    elim (keeps other) as (λ b. times_in (filter keeps threads) other ≡ (if b then times_in threads other else 0) →
    times_in (filter keeps threads) other ≤ times_in threads other) [
      | true ↦ λ is. omega (arith, is)
      | false ↦ λ is. omega (arith, is)
    ] count

pub filtered-none_twice : (ready : ℕ → List ℕ) (keeps : ℕ → Bool) → HoldsNoneTwice ready → HoldsNoneTwice (λ priority. filter keeps (ready priority))
filtered-none_twice ready keeps before = record {
  once = λ other priority. let less = filtered-less keeps (ready priority) other in let most = before.once other priority in omega (arith, less, most);
  one_priority = λ other first second here there.
      let less = filtered-less keeps (ready first) other in
      let fewer = filtered-less keeps (ready second) other in
      before.one_priority other first second (omega (arith, less, here)) (omega (arith, fewer, there));
}

-- one more at the end of a list
pub times-end : (threads : List ℕ) (last other : ℕ) → times_in (threads ++ last ∷ []) other ≡ times_in threads other + (if last == other then 1 else 0)
times-end [] last other = elim (eqb_tells last other) [
  | inl here ↦ ap (λ b. if b then 1 else 0) here.0 ∙ sym (ap (λ b. 0 + (if b then 1 else 0)) here.0)
  | inr apart ↦ ap (λ b. if b then 1 else 0) apart.0 ∙ sym (ap (λ b. 0 + (if b then 1 else 0)) apart.0)
]
times-end (t ∷ threads) last other =
    let more = times-end threads last other in
    elim (eqb_tells t other) [
      | inl here ↦
          let one : times_in (t ∷ threads ++ last ∷ []) other ≡ times_in (threads ++ last ∷ []) other + 1 =
          ap (λ b. if b then times_in (threads ++ last ∷ []) other + 1 else times_in (threads ++ last ∷ []) other) here.0 in
          let two : times_in (t ∷ threads) other ≡ times_in threads other + 1 =
          ap (λ b. if b then times_in threads other + 1 else times_in threads other) here.0 in
          omega (arith, one, two, more)
      | inr apart ↦
          let one : times_in (t ∷ threads ++ last ∷ []) other ≡ times_in (threads ++ last ∷ []) other =
          ap (λ b. if b then times_in (threads ++ last ∷ []) other + 1 else times_in (threads ++ last ∷ []) other) apart.0 in
          let two : times_in (t ∷ threads) other ≡ times_in threads other =
          ap (λ b. if b then times_in threads other + 1 else times_in threads other) apart.0 in
          omega (arith, one, two, more)
    ]

-- the list with a thread moved to the tail of a priority
abbrev pub moved : (ℕ → List ℕ) → ℕ → ℕ → ℕ → List ℕ
moved ready thread tail = put (λ priority. without thread (ready priority)) tail (without thread (ready tail) ++ thread ∷ [])

-- how often another thread is in it, and the thread itself
pub times-moved_here : (ready : ℕ → List ℕ) (thread tail : ℕ) → times_in (moved ready thread tail tail) thread ≡ 1
times-moved_here ready thread tail =
    let place : moved ready thread tail tail ≡ without thread (ready tail) ++ thread ∷ [] =
    ap (λ b. if b then without thread (ready tail) ++ thread ∷ [] else without thread (ready tail)) (eq-eqb tail tail refl) in
    let same : (thread == thread) ≡ true = eq-eqb thread thread refl in
    let one : ◌≡◌ {A = ℕ} (if thread == thread then 1 else 0) 1 = ap (λ b. if b then 1 else 0) same in
    ap (λ l. times_in l thread) place ∙ times-end (without thread (ready tail)) thread thread
    ∙ (let gone = times-gone thread (ready tail) in omega (arith, gone, one))

pub times-moved_elsewhere : (ready : ℕ → List ℕ) (thread tail priority : ℕ) → (priority == tail) ≡ false →
    times_in (moved ready thread tail priority) thread ≡ 0
times-moved_elsewhere ready thread tail priority apart =
    ap (λ b. times_in (if b then without thread (ready tail) ++ thread ∷ [] else without thread (ready priority)) thread) apart
    ∙ times-gone thread (ready priority)

times-moved_other : (ready : ℕ → List ℕ) (thread tail priority other : ℕ) → (thread == other) ≡ false → (other == thread) ≡ false →
    times_in (moved ready thread tail priority) other ≡ times_in (ready priority) other
times-moved_other ready thread tail priority other differs apart =
    elim (eqb_tells priority tail) [
      | inl here ↦
          let zero_more : ◌≡◌ {A = ℕ} (if thread == other then 1 else 0) 0 = ap (λ b. if b then 1 else 0) differs in
          let same : times_in (ready tail) other ≡ times_in (ready priority) other = ap (λ p. times_in (ready p) other) (sym here.1) in
          ap (λ b. times_in (if b then without thread (ready tail) ++ thread ∷ [] else without thread (ready priority)) other) here.0
          ∙ times-end (without thread (ready tail)) thread other
          ∙ (let kept = times-kept thread (ready tail) other apart in omega (arith, kept, zero_more, same))
      | inr elsewhere ↦
          ap (λ b. times_in (if b then without thread (ready tail) ++ thread ∷ [] else without thread (ready priority)) other) elsewhere.0
          ∙ times-kept thread (ready priority) other apart
    ]

-- where the thread is, it is at the tail
moved-here : (ready : ℕ → List ℕ) (thread tail priority : ℕ) → 0 < times_in (moved ready thread tail priority) thread → priority ≡ tail
moved-here ready thread tail priority stands =
    elim (eqb_tells priority tail) [
      | inl here ↦ here.1
      | inr apart ↦ absurd (let none = times-moved_elsewhere ready thread tail priority apart.0 in omega (arith, none, stands))
    ]

differs : (a b : ℕ) → (a == b) ≡ false → (b == a) ≡ false
differs a b apart = elim (eqb_tells b a) [
  | inl here ↦ absurd (let clash : true ≡ false = sym (eq-eqb a b (sym here.1)) ∙ apart in cc)
  | inr other ↦ other.0
]

pub moved-none_twice : (ready : ℕ → List ℕ) (thread tail : ℕ) → HoldsNoneTwice ready → HoldsNoneTwice (moved ready thread tail)
moved-none_twice ready thread tail before = record {
  once = λ other priority. elim (eqb_tells other thread) [
    | inl here ↦ elim (eqb_tells priority tail) [
      | inl there ↦
          let one : times_in (moved ready thread tail priority) other ≡ 1 = ap (λ o. times_in (moved ready thread tail priority) o) here.1
          ∙ ap (λ p. times_in (moved ready thread tail p) thread) there.1 ∙ times-moved_here ready thread tail in
          omega (arith, one)
      | inr apart ↦
          let none : times_in (moved ready thread tail priority) other ≡ 0 = ap (λ o. times_in (moved ready thread tail priority) o) here.1
          ∙ times-moved_elsewhere ready thread tail priority apart.0 in
          omega (arith, none)
    ]
    | inr apart ↦
        let same = times-moved_other ready thread tail priority other (differs other thread apart.0) apart.0 in
        let most = before.once other priority in
        omega (arith, same, most)
  ];
  one_priority = λ other first second here there. elim (eqb_tells other thread) [
    | inl same ↦
        let one : 0 < times_in (moved ready thread tail first) thread = subst (λ o. 0 < times_in (moved ready thread tail first) o) same.1 here in
        let two : 0 < times_in (moved ready thread tail second) thread = subst (λ o. 0 < times_in (moved ready thread tail second) o) same.1 there in
        moved-here ready thread tail first one ∙ sym (moved-here ready thread tail second two)
    | inr apart ↦
        let one = times-moved_other ready thread tail first other (differs other thread apart.0) apart.0 in
        let two = times-moved_other ready thread tail second other (differs other thread apart.0) apart.0 in
        before.one_priority other first second (omega (arith, one, here)) (omega (arith, two, there))
  ];
}
