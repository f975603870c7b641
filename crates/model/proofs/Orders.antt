-- What follows a slot in a list.
use Rattle.std.proofs.Common.{ℕ, ◌≡◌, ◌≢◌, ◌∙◌, ◌==◌, ◌+◌, ◌≤◌, inl, inr, Bool, true, false, not, if◌then◌else◌, Option, Some, None, List, [], ◌∷◌, filter}
use Rattle.std.proofs.Common.{cond, refl, sym, ap, arith}
use Rattle.std.proofs.lemmas.Bool.{eq-eqb, ne_eqb}
use Rattle.std.proofs.lemmas.Bool.Decides.{eqb_tells}
use Rattle.model.specs.Capabilities.Orders.{IsOrderOf, next_in, first_of, next_after}
use Rattle.model.specs.Shared.Lists.{times_in, without}
use Rattle.model.specs.Capabilities.Slots.{Slots, is_full, spliced}
use Rattle.model.proofs.SlotChanges.{empty-spliced, full-spliced}

abbrev pub behind_slot : List ℕ → ℕ → List ℕ
behind_slot [] previous = []
behind_slot (slot ∷ rest) previous = if slot == previous then rest else behind_slot rest previous

abbrev pub behind : List ℕ → Option ℕ → List ℕ
behind order None = order
behind order (Some previous) = behind_slot order previous

-- the next slot is the first one after
next_after-behind : (order : List ℕ) (previous : ℕ) → next_after order previous ≡ first_of (behind_slot order previous)
next_after-behind [] previous = refl
next_after-behind (slot ∷ rest) previous =
    elim (slot == previous) as (λ b. (if b then first_of rest else next_after rest previous) ≡ first_of (if b then rest else behind_slot rest previous)) [
      | true ↦ refl
      | false ↦ next_after-behind rest previous
    ]

pub after-behind : (order : List ℕ) (previous : Option ℕ) → next_in order previous ≡ first_of (behind order previous)
after-behind order None = refl
after-behind order (Some previous) = next_after-behind order previous

-- no slot occurs more often after another than in the list
times-behind_slot : (order : List ℕ) (previous slot : ℕ) → times_in (behind_slot order previous) slot ≤ times_in order slot
times-behind_slot [] previous slot = omega arith
times-behind_slot (s ∷ rest) previous slot =
    let more : times_in rest slot ≤ times_in (s ∷ rest) slot =
    elim (s == slot) as (λ b. times_in rest slot ≤ (if b then times_in rest slot + 1 else times_in rest slot))
    [ true ↦ omega arith | false ↦ omega arith ] in
    elim (s == previous) as (λ b. times_in (if b then rest else behind_slot rest previous) slot ≤ times_in (s ∷ rest) slot) [
      | true ↦ more
      | false ↦ omega (arith, times-behind_slot rest previous slot, more)
    ]

-- the first slot of a list is in it
pub times-first : (slot : ℕ) (rest : List ℕ) → times_in (slot ∷ rest) slot ≡ times_in rest slot + 1
times-first slot rest = ap (λ b. if b then times_in rest slot + 1 else times_in rest slot) (eq-eqb slot slot refl)

times-tail : (s : ℕ) (tail : List ℕ) (slot : ℕ) → times_in tail slot ≤ times_in (s ∷ tail) slot
times-tail s tail slot = elim (s == slot) as (λ b. times_in tail slot ≤ (if b then times_in tail slot + 1 else times_in tail slot))
    [ true ↦ omega arith | false ↦ omega arith ]

-- a slot that is after the first is not the first
not-first : (s slot : ℕ) (tail : List ℕ) → ((t : ℕ) → times_in (s ∷ tail) t ≤ 1) → 1 ≤ times_in tail slot → s ≢ slot
not-first s slot tail once found = λ same.
    absurd (omega (arith, once slot, found, ap (λ b. if b then times_in tail slot + 1 else times_in tail slot) (eq-eqb s slot same)))

-- after the first slot of what is after another comes the rest of that
behind-next : (order : List ℕ) (previous slot : ℕ) (rest : List ℕ) → ((s : ℕ) → times_in order s ≤ 1) → behind_slot order previous ≡ slot ∷ rest →
    behind_slot order slot ≡ rest
behind-next [] previous slot rest once is = absurd (let clash : [] ≡ slot ∷ rest = is in cc)
behind-next (s ∷ tail) previous slot rest once is =
    let later : (t : ℕ) → times_in tail t ≤ 1 = λ t. omega (arith, once t, times-tail s tail t) in
    elim (eqb_tells s previous) [
      | inl here ↦
          let is' : tail ≡ slot ∷ rest = sym (ap (λ b. if b then tail else behind_slot tail previous) here.0) ∙ is in
          let other = not-first s slot tail once (omega (arith, ap (λ l. times_in l slot) is', times-first slot rest)) in
          ap (λ b. if b then tail else behind_slot tail slot) (ne_eqb s slot other) ∙ ap (λ l. behind_slot l slot) is'
          ∙ ap (λ b. if b then rest else behind_slot rest slot) (eq-eqb slot slot refl)
      | inr apart ↦
          let is' : behind_slot tail previous ≡ slot ∷ rest = sym (ap (λ b. if b then tail else behind_slot tail previous) apart.0) ∙ is in
          let other = not-first s slot tail once (omega (arith, ap (λ l. times_in l slot) is', times-first slot rest, times-behind_slot tail previous slot)) in
          ap (λ b. if b then tail else behind_slot tail slot) (ne_eqb s slot other) ∙ behind-next tail previous slot rest later is'
    ]

pub behind-step : (order : List ℕ) (previous : Option ℕ) (slot : ℕ) (rest : List ℕ) → ((s : ℕ) → times_in order s ≤ 1) → behind order previous ≡ slot ∷ rest →
    behind order (Some slot) ≡ rest
behind-step order None slot rest once is = ap (λ l. behind_slot l slot) is ∙ ap (λ b. if b then rest else behind_slot rest slot) (eq-eqb slot slot refl)
behind-step order (Some previous) slot rest once is = behind-next order previous slot rest once is

-- the next one of a part of a list
next_after-filter : (test : ℕ → Bool) (order : List ℕ) (previous : ℕ) → test previous ≡ true →
    next_after (filter test order) previous ≡ first_of (filter test (behind_slot order previous))
next_after-filter test [] previous passes = refl
next_after-filter test (s ∷ rest) previous passes =
    let part = filter test rest in
    let end = behind_slot rest previous in
    elim (eqb_tells s previous) [
      | inl here ↦
          ap (λ b. next_after (cond b (s ∷ part) part) previous) (ap test here.1 ∙ passes)
          ∙ ap (λ b. if b then first_of part else next_after part previous) here.0
          ∙ sym (ap (λ b. first_of (filter test (if b then rest else end))) here.0)
      | inr other ↦
          let more = next_after-filter test rest previous passes ∙ sym (ap (λ b. first_of (filter test (if b then rest else end))) other.0) in
          elim (test s) as (λ b. next_after (cond b (s ∷ part) part) previous ≡ first_of (filter test (if s == previous then rest else end))) [
            | true ↦ ap (λ b. if b then first_of part else next_after part previous) other.0 ∙ more
            | false ↦ more
          ]
    ]

pub after-filter : (test : ℕ → Bool) (order : List ℕ) (previous : Option ℕ) → ((p : ℕ) → previous ≡ Some p → test p ≡ true) →
    next_in (filter test order) previous ≡ first_of (filter test (behind order previous))
after-filter test order None passes = refl
after-filter test order (Some previous) passes = next_after-filter test order previous (passes previous refl)

none-either : (b : Bool) → let none : ℕ = 0 in none ≡ (if b then none else none)
none-either true = refl
none-either false = refl

-- how often a slot occurs in a part of a list
pub times-filter : (test : ℕ → Bool) (order : List ℕ) (slot : ℕ) → times_in (filter test order) slot ≡ (if test slot then times_in order slot else 0)
times-filter test [] slot = none-either (test slot)
times-filter test (s ∷ rest) slot =
    let part = filter test rest in
    let more = times-filter test rest slot in
    elim (eqb_tells s slot) [
      | inl here ↦ elim (test slot) as (λ b. test slot ≡ b →
          times_in (cond (test s) (s ∷ part) part) slot ≡ (if test slot then (if s == slot then times_in rest slot + 1 else times_in rest slot) else 0)) [
            | true ↦ λ is.
                ap (λ b. times_in (cond b (s ∷ part) part) slot) (ap test here.1 ∙ is)
                ∙ ap (λ b. if b then times_in part slot + 1 else times_in part slot) here.0
                ∙ ap (λ t. t + 1) (more ∙ ap (λ b. if b then times_in rest slot else 0) is)
                ∙ sym (ap (λ b. if b then times_in rest slot + 1 else times_in rest slot) here.0)
                ∙ sym (ap (λ b. if b then (if s == slot then times_in rest slot + 1 else times_in rest slot) else 0) is)
            | false ↦ λ is.
                ap (λ b. times_in (cond b (s ∷ part) part) slot) (ap test here.1 ∙ is)
                ∙ more ∙ ap (λ b. if b then times_in rest slot else 0) is
                ∙ sym (ap (λ b. if b then (if s == slot then times_in rest slot + 1 else times_in rest slot) else 0) is)
          ] refl
      | inr other ↦
          let whole = more ∙ sym (ap (λ b. if test slot then (if b then times_in rest slot + 1 else times_in rest slot) else 0) other.0) in
          elim (test s) as (λ b. times_in (cond b (s ∷ part) part) slot
          ≡ (if test slot then (if s == slot then times_in rest slot + 1 else times_in rest slot) else 0)) [
            | true ↦ ap (λ b. if b then times_in part slot + 1 else times_in part slot) other.0 ∙ whole
            | false ↦ whole
          ]
    ]

-- the first of a list
pub first-none : (l : List ℕ) → first_of l ≡ None → l ≡ []
first-none [] is = refl
first-none (slot ∷ rest) is = absurd (let clash : Some slot ≡ None = is in cc)

pub first-some : (l : List ℕ) (slot : ℕ) → first_of l ≡ Some slot → (rest : List ℕ) × (l ≡ slot ∷ rest)
first-some [] slot is = absurd (let clash : None ≡ Some slot = is in cc)
first-some (s ∷ rest) slot is = let same : s ≡ slot = cc in (rest, ap (λ t. t ∷ rest) same)

-- what is first after another is in the list
pub times-behind : (order : List ℕ) (previous : Option ℕ) (slot : ℕ) (rest : List ℕ) → behind order previous ≡ slot ∷ rest → 1 ≤ times_in order slot
times-behind order None slot rest is = omega (arith, ap (λ l. times_in l slot) is, times-first slot rest)
times-behind order (Some previous) slot rest is = omega (arith, ap (λ l. times_in l slot) is, times-first slot rest, times-behind_slot order previous slot)

-- after the first of a list comes the rest
pub next-first : (slot : ℕ) (rest : List ℕ) → next_after (slot ∷ rest) slot ≡ first_of rest
next-first slot rest = ap (λ b. if b then first_of rest else next_after rest slot) (eq-eqb slot slot refl)

-- the first of a part passes its test
pub filter-first : (test : ℕ → Bool) (order : List ℕ) (slot : ℕ) (rest : List ℕ) → filter test order ≡ slot ∷ rest → test slot ≡ true
filter-first test [] slot rest is = absurd (let clash : [] ≡ slot ∷ rest = is in cc)
filter-first test (s ∷ tail) slot rest is =
    elim (test s) as (λ b. test s ≡ b → test slot ≡ true) [
      | true ↦ λ yes.
          let head : s ∷ filter test tail ≡ slot ∷ rest = sym (ap (λ b. cond b (s ∷ filter test tail) (filter test tail)) yes) ∙ is in
          let same : s ≡ slot = cc in
          ap test (sym same) ∙ yes
      | false ↦ λ no. filter-first test tail slot rest (sym (ap (λ b. cond b (s ∷ filter test tail) (filter test tail)) no) ∙ is)
    ] refl

-- a list without its first slot
pub without-first : (slot : ℕ) (rest : List ℕ) → without slot (slot ∷ rest) ≡ without slot rest
without-first slot rest = ap (λ b. cond (not b) (slot ∷ without slot rest) (without slot rest)) (eq-eqb slot slot refl)

-- a slot that is not in a list is not taken out
pub without-absent : (slot : ℕ) (l : List ℕ) → times_in l slot ≡ 0 → without slot l ≡ l
without-absent slot [] none = refl
without-absent slot (s ∷ rest) none =
    elim (eqb_tells s slot) [
      | inl here ↦ absurd (omega (arith, none, ap (λ b. if b then times_in rest slot + 1 else times_in rest slot) here.0))
      | inr other ↦
          ap (λ b. cond (not b) (s ∷ without slot rest) (without slot rest)) other.0
          ∙ ap (λ l. s ∷ l) (without-absent slot rest (sym (ap (λ b. if b then times_in rest slot + 1 else times_in rest slot) other.0) ∙ none))
    ]

-- a part of a list without a slot is the part without it, if the test of the others stays
pub filter-without : (old new : ℕ → Bool) (order : List ℕ) (slot : ℕ) → ((s : ℕ) → s ≢ slot → new s ≡ old s) →
    filter new (without slot order) ≡ without slot (filter old order)
filter-without old new [] slot same = refl
filter-without old new (s ∷ rest) slot same =
    let more = filter-without old new rest slot same in
    let part = filter old rest in
    let few = without slot rest in
    elim (eqb_tells s slot) [
      | inl here ↦
          ap (λ b. filter new (cond (not b) (s ∷ few) few)) here.0 ∙ more
          ∙ elim (old s) as (λ b. without slot part ≡ without slot (cond b (s ∷ part) part)) [
            | true ↦ sym (ap (λ b. cond (not b) (s ∷ without slot part) (without slot part)) here.0)
            | false ↦ refl
          ]
      | inr other ↦
          ap (λ b. filter new (cond (not b) (s ∷ few) few)) other.0
          ∙ ap (λ b. cond b (s ∷ filter new few) (filter new few)) (same s other.1)
          ∙ elim (old s) as (λ b. cond b (s ∷ filter new few) (filter new few) ≡ without slot (cond b (s ∷ part) part)) [
            | true ↦ ap (λ l. s ∷ l) more ∙ sym (ap (λ b. cond (not b) (s ∷ without slot part) (without slot part)) other.0)
            | false ↦ more
          ]
    ]

-- the order of slots of which one is taken out
pub order-spliced : (slots : Slots) (order : List ℕ) (gone : ℕ) → IsOrderOf order slots → IsOrderOf (without gone order) (spliced slots gone)
order-spliced slots order gone lists = λ s.
    times-filter (λ t. not (t == gone)) order s
    ∙ elim (eqb_tells s gone) [
      | inl here ↦
          ap (λ b. if not b then times_in order s else 0) here.0
          ∙ sym (ap (λ b. if b then 1 else 0) (ap (is_full (spliced slots gone)) here.1 ∙ empty-spliced slots gone))
      | inr other ↦
          ap (λ b. if not b then times_in order s else 0) other.0 ∙ lists s
          ∙ sym (ap (λ b. if b then 1 else 0) (full-spliced slots gone s other.1))
    ]
