-- Chains of threads, and the ends of lists.
use Rattle.std.proofs.Common.{ℕ, ◌≡◌, ◌≢◌, ◌∙◌, ◌+◌, ◌<◌, ◌≤◌, ◌⊎◌, inl, inr, if◌then◌else◌, not, cond, Option, Some, None, List, [], ◌∷◌, ◌++◌, refl, sym, ap}
use Rattle.std.proofs.Common.{arith}
use Rattle.std.proofs.lemmas.Bool.Decides.{eqb_tells, nat_tests}
use Rattle.std.proofs.lemmas.Bool.{eq-eqb, ne_eqb}
use Rattle.model.specs.Capabilities.Orders.{first_of}
use Rattle.model.specs.Kernel.State.{put}
use Rattle.model.specs.Shared.Lists.{times_in, without}
use Rattle.model.proofs.Orders.{times-first, without-absent}
use Rattle.slots.specs.preorder.Chains.{IsChain, Links, put_at}
use Rattle.slots.proofs.Laws.{previous-in}
use Rattle.queues.specs.links.Threaded.{end_without, first_joined, last_or}

-- ---- functions with another value at a place

pub put-here : {A : Type 0} (f : ℕ → A) (place : ℕ) (value : A) → put f place value place ≡ value
put-here f place value = ap (λ b. if b then value else f place) (eq-eqb place place refl)

pub put-off : {A : Type 0} (f : ℕ → A) (place : ℕ) (value : A) (other : ℕ) → other ≢ place → put f place value other ≡ f other
put-off f place value other off = ap (λ b. if b then value else f other) (ne_eqb other place off)

pub put_at-here : (f : Links) (place : ℕ) (at value : Option ℕ) → at ≡ Some place → put_at f at value place ≡ value
put_at-here f place at value is = ap (λ o. put_at f o value place) is ∙ put-here f place value

pub put_at-off : (f : Links) (at value : Option ℕ) (other : ℕ) → at ≢ Some other → put_at f at value other ≡ f other
put_at-off f None value other off = refl
put_at-off f (Some place) value other off = put-off f place value other (λ same. off (ap Some (sym same)))

-- ---- how often a thread is in a list

pub times-tail : (x : ℕ) (rest : List ℕ) (y : ℕ) → times_in rest y ≤ times_in (x ∷ rest) y
times-tail x rest y = grind (arith, nat_tests)

pub times-rest : (x : ℕ) (rest : List ℕ) (y : ℕ) → x ≢ y → times_in (x ∷ rest) y ≡ times_in rest y
times-rest x rest y other = ap (λ b. if b then times_in rest y + 1 else times_in rest y) (ne_eqb x y other)

pub apart-in : (xs : List ℕ) (y z : ℕ) → times_in xs y ≡ 0 → 0 < times_in xs z → y ≢ z
apart-in xs y z none some same = absurd (let clash : times_in xs z ≡ 0 = ap (times_in xs) (sym same) ∙ none in omega (arith, clash, some))

pub rest-once : (x : ℕ) (rest : List ℕ) → ((y : ℕ) → times_in (x ∷ rest) y ≤ 1) → (y : ℕ) → times_in rest y ≤ 1
rest-once x rest once y = omega (arith, once y, times-tail x rest y)

pub head-once : (x : ℕ) (rest : List ℕ) → ((y : ℕ) → times_in (x ∷ rest) y ≤ 1) → times_in rest x ≡ 0
head-once x rest once = omega (arith, once x, times-first x rest)

pub times-joined : (xs : List ℕ) (t y : ℕ) → times_in (xs ++ t ∷ []) y ≡ times_in (t ∷ xs) y
times-joined [] t y = refl
times-joined (x ∷ rest) t y = grind (arith, nat_tests, times-joined rest t y)

-- ---- a thread after a list

last-off : (xs : List ℕ) (before : Option ℕ) (x : ℕ) → before ≢ Some x → times_in xs x ≡ 0 → last_or before xs ≢ Some x
last-off [] before x off none = off
last-off (y ∷ rest) before x off none =
    last-off rest (Some y) x
    (λ same. absurd (let e : y ≡ x = cc in omega (arith, none, ap (times_in (y ∷ rest)) e, times-first y rest)))
    (omega (arith, none, times-tail y rest x))

pub last-joined : (xs : List ℕ) (before : Option ℕ) (t : ℕ) → last_or before (xs ++ t ∷ []) ≡ Some t
last-joined [] before t = refl
last-joined (x ∷ rest) before t = last-joined rest (Some x) t

pub first-joined : (xs : List ℕ) (t : ℕ) → first_of (xs ++ t ∷ []) ≡ first_joined (first_of xs) t
first-joined [] t = refl
first-joined (x ∷ rest) t = refl

-- the last of a list is in it
last-stands : (xs : List ℕ) (before : Option ℕ) (z : ℕ) → last_or before xs ≡ Some z → (before ≡ Some z) ⊎ (0 < times_in xs z)
last-stands [] before z is = inl is
last-stands (x ∷ rest) before z is = elim (last-stands rest (Some x) z is) [
  | inl own ↦ inr (let e : x ≡ z = cc in omega (arith, ap (times_in (x ∷ rest)) e, times-first x rest))
  | inr some ↦ inr (omega (arith, some, times-tail x rest z))
]

pub last-in : (xs : List ℕ) (z : ℕ) → last_or None xs ≡ Some z → 0 < times_in xs z
last-in xs z is = elim (last-stands xs None z is) [
  | inl none ↦ absurd (let clash : None ≡ Some z = none in cc)
  | inr some ↦ some
]

joined-link : (rest : List ℕ) (next : Links) (x t : ℕ) → next x ≡ first_of rest → x ≢ t → times_in rest x ≡ 0
    → put_at (put next t None) (last_or (Some x) rest) (Some t) x ≡ first_of (rest ++ t ∷ [])
joined-link [] next x t link new none = put_at-here (put next t None) x (Some x) (Some t) refl
joined-link (y ∷ rest) next x t link new none =
    let apart : Some y ≢ Some x = λ same. absurd (let e : y ≡ x = cc in omega (arith, none, ap (times_in (y ∷ rest)) e, times-first y rest)) in
    put_at-off (put next t None) (last_or (Some y) rest) (Some t) x (last-off rest (Some y) x apart (omega (arith, none, times-tail y rest x)))
    ∙ put-off next t None x new ∙ link

pub chain-joined : (xs : List ℕ) (next previous : Links) (before : Option ℕ) (t : ℕ) → IsChain next previous before xs → ((y : ℕ) → times_in xs y ≤ 1)
    → before ≢ Some t → times_in xs t ≡ 0
    → IsChain (put_at (put next t None) (last_or before xs) (Some t)) (put previous t (last_or before xs)) before (xs ++ t ∷ [])
chain-joined [] next previous before t chain once off none = (
  put-here previous t before,
  put_at-off (put next t None) before (Some t) t off ∙ put-here next t None,
  tt,
)
chain-joined (x ∷ rest) next previous before t chain once off none =
    let new : x ≢ t = λ same. absurd (omega (arith, none, ap (times_in (x ∷ rest)) same, times-first x rest)) in (
      put-off previous t (last_or (Some x) rest) x new ∙ chain.0,
      joined-link rest next x t chain.1 new (head-once x rest once),
      chain-joined rest next previous (Some x) t chain.2 (rest-once x rest once) (λ same. new (let e : x ≡ t = cc in e))
          (omega (arith, none, times-tail x rest t)),
    )

-- ---- a list without one of its threads

pub first-without : (xs : List ℕ) (next previous : Links) (gone : ℕ) → IsChain next previous None xs → ((y : ℕ) → times_in xs y ≤ 1)
    → 0 < times_in xs gone → first_of (without gone xs) ≡ end_without (previous gone) (next gone) (first_of xs)
first-without [] next previous gone chain once is = absurd (omega (arith, is))
first-without (x ∷ rest) next previous gone chain once is =
    let few = without gone rest in
    elim (eqb_tells x gone) [
      | inl here ↦
          let none : times_in rest gone ≡ 0 = ap (times_in rest) (sym here.1) ∙ head-once x rest once in
          ap first_of (ap (λ b. cond (not b) (x ∷ few) few) here.0 ∙ without-absent gone rest none)
          ∙ sym chain.1 ∙ ap next here.1 ∙ sym (ap (λ p. end_without p (next gone) (Some x)) (ap previous (sym here.1) ∙ chain.0))
      | inr other ↦
          ap (λ b. first_of (cond (not b) (x ∷ few) few)) other.0
          ∙ elim (previous-in rest next previous (Some x) gone chain.2 (omega (arith, is, times-rest x rest gone other.1))) [
            | inl front ↦ sym (ap (λ p. end_without p (next gone) (Some x)) front)
            | inr some ↦ sym (ap (λ p. end_without p (next gone) (Some x)) some.is)
          ]
    ]

last-rest : (rest : List ℕ) (x : ℕ) (before : Option ℕ) → last_or before rest ≡ end_without (first_of rest) before (last_or (Some x) rest)
last-rest [] x before = refl
last-rest (y ∷ rest) x before = refl

pub last-without : (xs : List ℕ) (next previous : Links) (before : Option ℕ) (gone : ℕ) → IsChain next previous before xs → ((y : ℕ) → times_in xs y ≤ 1)
    → 0 < times_in xs gone → last_or before (without gone xs) ≡ end_without (next gone) (previous gone) (last_or before xs)
last-without [] next previous before gone chain once is = absurd (omega (arith, is))
last-without (x ∷ rest) next previous before gone chain once is =
    let few = without gone rest in
    elim (eqb_tells x gone) [
      | inl here ↦
          let none : times_in rest gone ≡ 0 = ap (times_in rest) (sym here.1) ∙ head-once x rest once in
          let all = last_or (Some x) rest in
          ap (last_or before) (ap (λ b. cond (not b) (x ∷ few) few) here.0 ∙ without-absent gone rest none)
          ∙ last-rest rest x before
          ∙ ap (λ n. end_without n before all) (sym chain.1 ∙ ap next here.1)
          ∙ ap (λ p. end_without (next gone) p all) (sym chain.0 ∙ ap previous here.1)
      | inr other ↦
          ap (λ b. last_or before (cond (not b) (x ∷ few) few)) other.0
          ∙ last-without rest next previous (Some x) gone chain.2 (rest-once x rest once) (omega (arith, is, times-rest x rest gone other.1))
    ]
