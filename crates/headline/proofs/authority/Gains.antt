-- What a step makes of a list of the ready threads: without the thread itself it gains some at the tail, and the thread is there no more
-- often than before.
use Rattle.std.proofs.Common.{ℕ, zero, suc, ◌≡◌, ◌≢◌, ◌==◌, ◌+◌, ◌<◌, ◌≤◌, ◌++◌, Bool, true, false, not, if◌then◌else◌, Some, List, [], ◌∷◌, length, refl, sym}
use Rattle.std.proofs.Common.{◌∙◌, ap, subst, inl, inr, arith}
use Rattle.std.specs.Prelude.{slice_index_or}
use Rattle.std.specs.Option.{option_map_or}
use Rattle.std.proofs.lemmas.Bool.{eq-eqb, ne_eqb}
use Rattle.std.proofs.lemmas.Bool.Decides.{eqb_tells}
use Rattle.std.proofs.lemmas.List.Elements.{filter-append}
use Rattle.model.specs.Acceptance.Authority.{IsWoken, ReadyChange}
use Rattle.model.specs.Kernel.Scheduling.{block, full_slice, wake}
use Rattle.model.specs.Kernel.State.{State, Status, Runnable, ThreadObject, ThreadState, as_thread, new_thread, thread_at, with_thread}
use Rattle.model.specs.Shared.Lists.{times_in, without}
use Rattle.model.proofs.Orders.{times-filter, without-absent}
use Rattle.headline.proofs.facts.Laws.{at-place}
use Rattle.headline.proofs.authority.PlainSteps.{append-none}
use Rattle.headline.proofs.authority.ReadyLists.{times-end}

pub record Gains (self : ℕ) (before after added : List ℕ) : Type 0 where
  pub list : without self after ≡ without self before ++ added
  pub own : times_in after self ≤ times_in before self

-- ---- one change

pub gains-none : (self : ℕ) (l : List ℕ) → Gains self l l []
gains-none self l = record { list = append-none (without self l); own = omega arith }

-- the thread itself leaves
times-left : (self : ℕ) (l : List ℕ) → times_in (without self l) self ≡ 0
times-left self l = times-filter (λ n. not (n == self)) l self ∙ ap (λ (b : Bool). if not b then times_in l self else 0) (eq-eqb self self refl)

without-twice : (self : ℕ) (l : List ℕ) → without self (without self l) ≡ without self l
without-twice self l = without-absent self (without self l) (times-left self l)

pub gains-left : (self : ℕ) (l : List ℕ) → Gains self l (without self l) []
gains-left self l = record {
  list = without-twice self l ∙ append-none (without self l);
  own = let none = times-left self l in omega (arith, none);
}

-- another joins at the tail
without-end : (gone last : ℕ) (threads : List ℕ) → last ≢ gone → without gone (threads ++ last ∷ []) ≡ without gone threads ++ last ∷ []
without-end gone last threads differs =
    filter-append (λ n. not (n == gone)) threads (last ∷ [])
    ∙ ap (λ (b : Bool). without gone threads ++ (if not b then last ∷ [] else [])) (ne_eqb last gone differs)

pub gains-end : (self other : ℕ) (l : List ℕ) → other ≢ self → Gains self l (l ++ other ∷ []) (other ∷ [])
gains-end self other l differs = record {
  list = without-end self other l differs;
  own =
      let more = times-end l other self in
      let no_more : ◌≡◌ {A = ℕ} (if other == self then 1 else 0) 0 = ap (λ (b : Bool). if b then 1 else 0) (ne_eqb other self differs) in
      omega (arith, more, no_more);
}

-- the thread itself goes to the tail
pub gains-tail : (self : ℕ) (l : List ℕ) → 1 ≤ times_in l self → Gains self l (without self l ++ self ∷ []) []
gains-tail self l there = record {
  list =
      filter-append (λ n. not (n == self)) (without self l) (self ∷ [])
      ∙ ap (λ (b : Bool). without self (without self l) ++ (if not b then self ∷ [] else [])) (eq-eqb self self refl)
      ∙ ap (λ (l : List ℕ). l ++ []) (without-twice self l);
  own =
      let more = times-end (without self l) self self in
      let one : ◌≡◌ {A = ℕ} (if self == self then 1 else 0) 1 = ap (λ (b : Bool). if b then 1 else 0) (eq-eqb self self refl) in
      let none = times-left self l in
      omega (arith, more, one, none, there);
}

-- ---- two changes

append-twice : (a b c : List ℕ) → (a ++ b) ++ c ≡ a ++ (b ++ c)
append-twice [] b c = refl
append-twice (x ∷ a) b c = ap (λ (rest : List ℕ). x ∷ rest) (append-twice a b c)

pub gains-both : (self : ℕ) (a b c x y : List ℕ) → Gains self a b x → Gains self b c y → Gains self a c (x ++ y)
gains-both self a b c x y one two = record {
  list = two.list ∙ ap (λ (l : List ℕ). l ++ y) one.list ∙ append-twice (without self a) x y;
  own = let first = one.own in let second = two.own in omega (arith, first, second);
}

-- ---- the list of a state

-- a thread at its priority alone
abbrev pub woken_at : ℕ → ℕ → ℕ → List ℕ
woken_at thread own priority = if priority == own then thread ∷ [] else []

pub nothing-ready : (s after : State) (self priority : ℕ) → Gains self (s.ready priority) (after.ready priority) [] → ReadyChange s after self priority
nothing-ready s after self priority gains = record {
  added = [];
  list = gains.list;
  woken = λ thread among. absurd (omega (arith, among.1));
  once = λ thread. omega arith;
  own = gains.own;
}

pub only-one : (x thread k : ℕ) → k < length (x ∷ []) → slice_index_or (x ∷ []) k thread ≡ thread → x ≡ thread
only-one x thread zero less is = is
only-one x thread (suc k) less is = absurd (omega (arith, less))

one-most : (x thread : ℕ) → times_in (x ∷ []) thread ≤ 1
one-most x thread = elim (x == thread) as (λ (b : Bool). (if b then 0 + 1 else 0) ≤ 1) [ true ↦ omega arith | false ↦ omega arith ]

pub one-ready : (s after : State) (self priority thread own : ℕ)
    → Gains self (s.ready priority) (after.ready priority) (woken_at thread own priority) → (priority ≡ own → IsWoken s after priority thread)
    → ReadyChange s after self priority
one-ready s after self priority thread own gains woken = elim (eqb_tells priority own) [
  | inl here ↦
      let now : Gains self (s.ready priority) (after.ready priority) (thread ∷ []) =
      subst (λ (b : Bool). Gains self (s.ready priority) (after.ready priority) (if b then thread ∷ [] else [])) here.0 gains in
      record {
        added = thread ∷ [];
        list = now.list;
        woken = λ other among. subst (λ (x : ℕ). IsWoken s after priority x) (only-one thread other among.0 among.1 among.2) (woken here.1);
        once = one-most thread;
        own = now.own;
      }
  | inr apart ↦
      nothing-ready s after self priority
      (subst (λ (b : Bool). Gains self (s.ready priority) (after.ready priority) (if b then thread ∷ [] else [])) apart.0 gains)
]

-- who wakes keeps its priority
priority-is : (s : State) (x : ℕ) (u : ThreadState) → s.objects x ≡ Some (ThreadObject u)
    → (thread_at (with_thread s x (record (thread_at s x) { status = Runnable; slice = full_slice })) x).priority ≡ u.priority
priority-is s x u is =
    let w : ThreadState = record (thread_at s x) { status = Runnable; slice = full_slice } in
    ap (λ (b : Bool). (option_map_or (λ (v : ThreadState). v) (as_thread (if b then Some (ThreadObject w) else s.objects x)) new_thread).priority)
    (eq-eqb x x refl)
    ∙ ap (λ (v : ThreadState). v.priority) (at-place s x u is)

pub wake-gains : (s : State) (self other : ℕ) (u : ThreadState) → s.objects other ≡ Some (ThreadObject u) → other ≢ self
    → ((priority : ℕ) → times_in (s.ready priority) other ≡ 0) → (priority : ℕ)
    → Gains self (s.ready priority) ((wake s other).ready priority) (woken_at other u.priority priority)
wake-gains s self other u is differs absent priority =
    subst (λ (at : ℕ). Gains self (s.ready priority) (if priority == at then without other (s.ready at) ++ other ∷ [] else without other (s.ready priority))
    (woken_at other u.priority priority)) (sym (priority-is s other u is))
    (by-priority s self other differs absent u.priority priority)
  where
    by-priority : (s : State) (self other : ℕ) → other ≢ self → ((priority : ℕ) → times_in (s.ready priority) other ≡ 0) → (own priority : ℕ)
        → Gains self (s.ready priority) (if priority == own then without other (s.ready own) ++ other ∷ [] else without other (s.ready priority))
        (woken_at other own priority)
    by-priority s self other differs absent own priority = elim (eqb_tells priority own) [
      | inl here ↦
          subst (λ (b : Bool). Gains self (s.ready priority) (if b then without other (s.ready own) ++ other ∷ [] else without other (s.ready priority))
          (if b then other ∷ [] else [])) (sym here.0)
          (subst (λ (l : List ℕ). Gains self (s.ready priority) (l ++ other ∷ []) (other ∷ []))
          (sym (without-absent other (s.ready own) (absent own)))
          (subst (λ (p : ℕ). Gains self (s.ready priority) (s.ready p ++ other ∷ []) (other ∷ [])) here.1
          (gains-end self other (s.ready priority) differs)))
      | inr apart ↦
          subst (λ (b : Bool). Gains self (s.ready priority) (if b then without other (s.ready own) ++ other ∷ [] else without other (s.ready priority))
          (if b then other ∷ [] else [])) (sym apart.0)
          (subst (λ (l : List ℕ). Gains self (s.ready priority) l []) (sym (without-absent other (s.ready priority) (absent priority)))
          (gains-none self (s.ready priority)))
    ]

pub block-gains : (s : State) (self : ℕ) (status : Status) (priority : ℕ) → Gains self (s.ready priority) ((block s self status).ready priority) []
block-gains s self status priority = gains-left self (s.ready priority)

-- who rests may stop for another reason
pub rest-gains : (s : State) (self other : ℕ) (status : Status) → ((priority : ℕ) → times_in (s.ready priority) other ≡ 0) → (priority : ℕ)
    → Gains self (s.ready priority) ((block s other status).ready priority) []
rest-gains s self other status absent priority =
    subst (λ (l : List ℕ). Gains self (s.ready priority) l []) (sym (without-absent other (s.ready priority) (absent priority)))
    (gains-none self (s.ready priority))
