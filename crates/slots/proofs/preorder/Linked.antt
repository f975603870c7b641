-- What changes of links leave of a chain of slots.
use Rattle.std.proofs.Common.{ℕ, ◌≡◌, ◌≢◌, ◌∙◌, ◌==◌, ◌+◌, ◌<◌, ◌≤◌, ◌⊎◌, inl, inr, if◌then◌else◌, not, cond, Option, Some, None, List, [], ◌∷◌, true, false}
use Rattle.std.proofs.Common.{refl, sym, ap, subst, arith}
use Rattle.std.proofs.lemmas.Bool.Decides.{eqb_tells, nat_tests}
use Rattle.std.proofs.lemmas.Bool.{eq-eqb, ne_eqb}
use Rattle.model.specs.Capabilities.Orders.{first_of}
use Rattle.model.specs.Kernel.State.{put}
use Rattle.model.specs.Shared.Lists.{times_in, without}
use Rattle.model.proofs.Orders.{times-first, without-absent}
use Rattle.slots.specs.preorder.Chains.{IsChain, Links, put_after, put_at}

put-own : (f : Links) (place : ℕ) (value : Option ℕ) → put f place value place ≡ value
put-own f place value = ap (λ b. if b then value else f place) (eq-eqb place place refl)

put-beside : (f : Links) (place : ℕ) (value : Option ℕ) (other : ℕ) → other ≢ place → put f place value other ≡ f other
put-beside f place value other apart = ap (λ b. if b then value else f other) (ne_eqb other place apart)

put_at-own : (f : Links) (place : ℕ) (at value : Option ℕ) → at ≡ Some place → put_at f at value place ≡ value
put_at-own f place at value is = ap (λ o. put_at f o value place) is ∙ put-own f place value

put_at-beside : (f : Links) (at value : Option ℕ) (other : ℕ) → at ≢ Some other → put_at f at value other ≡ f other
put_at-beside f None value other apart = refl
put_at-beside f (Some place) value other apart = put-beside f place value other (λ same. apart (ap Some (sym same)))

times-tail : (x : ℕ) (rest : List ℕ) (y : ℕ) → times_in rest y ≤ times_in (x ∷ rest) y
times-tail x rest y = grind (arith, nat_tests)

times-rest : (x : ℕ) (rest : List ℕ) (y : ℕ) → x ≢ y → times_in (x ∷ rest) y ≡ times_in rest y
times-rest x rest y other = ap (λ b. if b then times_in rest y + 1 else times_in rest y) (ne_eqb x y other)

apart-in : (xs : List ℕ) (y z : ℕ) → times_in xs y ≡ 0 → 0 < times_in xs z → y ≢ z
apart-in xs y z none some same = absurd (let clash : times_in xs z ≡ 0 = ap (times_in xs) (sym same) ∙ none in omega (arith, clash, some))

rest-once : (x : ℕ) (rest : List ℕ) → ((y : ℕ) → times_in (x ∷ rest) y ≤ 1) → (y : ℕ) → times_in rest y ≤ 1
rest-once x rest once y = omega (arith, once y, times-tail x rest y)

head-once : (x : ℕ) (rest : List ℕ) → ((y : ℕ) → times_in (x ∷ rest) y ≤ 1) → times_in rest x ≡ 0
head-once x rest once = omega (arith, once x, times-first x rest)

-- links that are the same at the elements serve too
pub chain-same : (xs : List ℕ) (next previous next' previous' : Links) (before : Option ℕ) → IsChain next previous before xs
    → ((z : ℕ) → 0 < times_in xs z → next' z ≡ next z) → ((z : ℕ) → 0 < times_in xs z → previous' z ≡ previous z) → IsChain next' previous' before xs
chain-same [] next previous next' previous' before chain same same' = tt
chain-same (x ∷ rest) next previous next' previous' before chain same same' = (
  same' x (omega (arith, times-first x rest)) ∙ chain.0,
  same x (omega (arith, times-first x rest)) ∙ chain.1,
  chain-same rest next previous next' previous' (Some x) chain.2 (λ z is. same z (omega (arith, is, times-tail x rest z)))
      (λ z is. same' z (omega (arith, is, times-tail x rest z))),
)

-- the neighbours of an element are elements, or the ends
pub record IsIn (xs : List ℕ) (o : Option ℕ) : Type 0 where
  pub slot : ℕ
  pub is : o ≡ Some slot
  pub there : 0 < times_in xs slot

first-in : (xs : List ℕ) → (first_of xs ≡ None) ⊎ IsIn xs (first_of xs)
first-in [] = inl refl
first-in (x ∷ rest) = inr (record { slot = x; is = refl; there = omega (arith, times-first x rest) })

in-more : (x : ℕ) (rest : List ℕ) (o : Option ℕ) → IsIn rest o → IsIn (x ∷ rest) o
in-more x rest o known = record { slot = known.slot; is = known.is; there = omega (arith, known.there, times-tail x rest known.slot) }

pub next-in : (xs : List ℕ) (next previous : Links) (before : Option ℕ) (x : ℕ) → IsChain next previous before xs → 0 < times_in xs x
    → (next x ≡ None) ⊎ IsIn xs (next x)
next-in [] next previous before x chain is = absurd (omega (arith, is))
next-in (y ∷ rest) next previous before x chain is = elim (eqb_tells y x) [
  | inl here ↦
      let link : next x ≡ first_of rest = ap next (sym here.1) ∙ chain.1 in
      elim (first-in rest) [
        | inl none ↦ inl (link ∙ none)
        | inr some ↦ inr (in-more y rest (next x) (record { slot = some.slot; is = link ∙ some.is; there = some.there }))
      ]
  | inr other ↦ elim (next-in rest next previous (Some y) x chain.2 (omega (arith, is, times-rest y rest x other.1))) [
    | inl none ↦ inl none
    | inr some ↦ inr (in-more y rest (next x) some)
  ]
]

pub previous-in : (xs : List ℕ) (next previous : Links) (before : Option ℕ) (x : ℕ) → IsChain next previous before xs → 0 < times_in xs x
    → (previous x ≡ before) ⊎ IsIn xs (previous x)
previous-in [] next previous before x chain is = absurd (omega (arith, is))
previous-in (y ∷ rest) next previous before x chain is = elim (eqb_tells y x) [
  | inl here ↦ inl (ap previous (sym here.1) ∙ chain.0)
  | inr other ↦ elim (previous-in rest next previous (Some y) x chain.2 (omega (arith, is, times-rest y rest x other.1))) [
    | inl front ↦ inr (record { slot = y; is = front; there = omega (arith, times-first y rest) })
    | inr some ↦ inr (in-more y rest (previous x) some)
  ]
]

-- a slot that is no element and no end is no neighbour of one
not-next : (xs : List ℕ) (next previous : Links) (before : Option ℕ) (x y : ℕ) → IsChain next previous before xs → 0 < times_in xs x → times_in xs y ≡ 0
    → next x ≢ Some y
not-next xs next previous before x y chain is none same = elim (next-in xs next previous before x chain is) [
  | inl end ↦ absurd (let clash : None ≡ Some y = sym end ∙ same in cc)
  | inr some ↦ absurd (let here : some.slot ≡ y = (let e : Some some.slot ≡ Some y = sym some.is ∙ same in cc) in
      apart-in xs y some.slot none some.there (sym here))
]

not-previous : (xs : List ℕ) (next previous : Links) (before : Option ℕ) (x y : ℕ) → IsChain next previous before xs → 0 < times_in xs x → times_in xs y ≡ 0
    → before ≢ Some y → previous x ≢ Some y
not-previous xs next previous before x y chain is none off same = elim (previous-in xs next previous before x chain is) [
  | inl front ↦ off (sym front ∙ same)
  | inr some ↦ absurd (let here : some.slot ≡ y = (let e : Some some.slot ≡ Some y = sym some.is ∙ same in cc) in
      apart-in xs y some.slot none some.there (sym here))
]

-- ---- an element is taken out

some-apart : (xs : List ℕ) (before : Option ℕ) (z : ℕ) → ((b : ℕ) → before ≡ Some b → times_in xs b ≡ 0) → 0 < times_in xs z → before ≢ Some z
some-apart xs before z out is same = absurd (omega (arith, out z same, is))

-- the element that goes is the first
gone-first : (rest : List ℕ) (next previous : Links) (before : Option ℕ) (gone : ℕ) → IsChain next previous before (gone ∷ rest)
    → ((y : ℕ) → times_in (gone ∷ rest) y ≤ 1) → ((b : ℕ) → before ≡ Some b → times_in (gone ∷ rest) b ≡ 0)
    → IsChain (put_at next (previous gone) (next gone)) (put_at previous (next gone) (previous gone)) before rest
gone-first [] next previous before gone chain once out = tt
gone-first (c ∷ rest) next previous before gone chain once out =
    let next' = put_at next (previous gone) (next gone) in
    let previous' = put_at previous (next gone) (previous gone) in
    let tail = rest-once gone (c ∷ rest) once in
    let others : (z : ℕ) → 0 < times_in (c ∷ rest) z → next' z ≡ next z =
    λ z is. put_at-beside next (previous gone) (next gone) z (λ same. absurd (omega (arith, out z (sym chain.0 ∙ same), is, times-tail gone (c ∷ rest) z))) in (
      put_at-own previous c (next gone) (previous gone) chain.1 ∙ chain.0,
      others c (omega (arith, times-first c rest)) ∙ chain.2.1,
      chain-same rest next previous next' previous' (Some c) chain.2.2 (λ z is. others z (omega (arith, is, times-tail c rest z)))
          (λ z is. put_at-beside previous (next gone) (previous gone) z (λ same.
          absurd (apart-in rest c z (head-once c rest tail) is (let e : Some c ≡ Some z = sym chain.1 ∙ same in let f : c ≡ z = cc in f)))),
    )

-- what follows a kept element
kept-next : (rest : List ℕ) (next previous : Links) (y gone : ℕ) → next y ≡ first_of rest → IsChain next previous (Some y) rest
    → ((x : ℕ) → times_in (y ∷ rest) x ≤ 1) → 0 < times_in rest gone
    → put_at next (previous gone) (next gone) y ≡ first_of (without gone rest)
kept-next [] next previous y gone link chain once is = absurd (omega (arith, is))
kept-next (z ∷ rest) next previous y gone link chain once is =
    let few = without gone rest in
    elim (eqb_tells z gone) [
      | inl here ↦
          let tail = rest-once y (z ∷ rest) once in
          let back : previous gone ≡ Some y = ap previous (sym here.1) ∙ chain.0 in
          let none : times_in rest gone ≡ 0 = ap (times_in rest) (sym here.1) ∙ head-once z rest tail in
          put_at-own next y (previous gone) (next gone) back ∙ ap next (sym here.1) ∙ chain.1
          ∙ sym (ap first_of (ap (λ b. cond (not b) (z ∷ few) few) here.0 ∙ without-absent gone rest none))
      | inr other ↦
          put_at-beside next (previous gone) (next gone) y
          (λ same. elim (previous-in rest next previous (Some z) gone chain.2 (omega (arith, is, times-rest z rest gone other.1))) [
            | inl front ↦ absurd (apart-in (z ∷ rest) y z (head-once y (z ∷ rest) once) (omega (arith, times-first z rest))
                (let e : Some y ≡ Some z = sym same ∙ front in let f : y ≡ z = cc in f))
            | inr some ↦ absurd (apart-in (z ∷ rest) y some.slot (head-once y (z ∷ rest) once) (omega (arith, some.there, times-tail z rest some.slot))
                (let e : Some y ≡ Some some.slot = sym same ∙ some.is in let f : y ≡ some.slot = cc in f))
          ])
          ∙ link ∙ sym (ap first_of (ap (λ b. cond (not b) (z ∷ few) few) other.0))
    ]

pub chain-without : (xs : List ℕ) (next previous : Links) (before : Option ℕ) (gone : ℕ) → IsChain next previous before xs
    → ((y : ℕ) → times_in xs y ≤ 1) → ((b : ℕ) → before ≡ Some b → times_in xs b ≡ 0) → 0 < times_in xs gone
    → IsChain (put_at next (previous gone) (next gone)) (put_at previous (next gone) (previous gone)) before (without gone xs)
chain-without [] next previous before gone chain once out is = absurd (omega (arith, is))
chain-without (y ∷ rest) next previous before gone chain once out is =
    let next' = put_at next (previous gone) (next gone) in
    let previous' = put_at previous (next gone) (previous gone) in
    let few = without gone rest in
    elim (eqb_tells y gone) [
      | inl here ↦
          let move : gone ∷ rest ≡ y ∷ rest = ap (λ h. h ∷ rest) (sym here.1) in
          let none : times_in rest gone ≡ 0 = ap (times_in rest) (sym here.1) ∙ head-once y rest once in
          subst (IsChain next' previous' before) (sym (ap (λ b. cond (not b) (y ∷ few) few) here.0 ∙ without-absent gone rest none))
          (gone-first rest next previous before gone (subst (IsChain next previous before) (sym move) chain)
          (λ z. subst (λ (l : List ℕ). times_in l z ≤ 1) (sym move) (once z)) (λ b same. ap (λ l. times_in l b) move ∙ out b same))
      | inr other ↦
          let there : 0 < times_in rest gone = omega (arith, is, times-rest y rest gone other.1) in
          let tail = rest-once y rest once in
          subst (IsChain next' previous' before) (sym (ap (λ b. cond (not b) (y ∷ few) few) other.0)) (
            put_at-beside previous (next gone) (previous gone) y (not-next rest next previous (Some y) gone y chain.2 there (head-once y rest once)) ∙ chain.0,
            kept-next rest next previous y gone chain.1 chain.2 once there,
            chain-without rest next previous (Some y) gone chain.2 tail (λ b same. ap (times_in rest) (let e : b ≡ y = cc in e) ∙ head-once y rest once) there,
          )
    ]

-- ---- a slot is put right after another

pub chain-put_after : (xs : List ℕ) (next previous : Links) (before : Option ℕ) (at slot : ℕ) → IsChain next previous before xs
    → ((y : ℕ) → times_in xs y ≤ 1) → before ≢ Some slot → ((b : ℕ) → before ≡ Some b → times_in xs b ≡ 0) → times_in xs slot ≡ 0 → 0 < times_in xs at
    → IsChain (put (put next at (Some slot)) slot (next at)) (put (put_at previous (next at) (Some slot)) slot (Some at)) before (put_after at slot xs)
chain-put_after [] next previous before at slot chain once off out none there = absurd (omega (arith, there))
chain-put_after (x ∷ rest) next previous before at slot chain once off out none there =
    let next' = put (put next at (Some slot)) slot (next at) in
    let previous' = put (put_at previous (next at) (Some slot)) slot (Some at) in
    let tail = rest-once x rest once in
    let absent : times_in rest slot ≡ 0 = omega (arith, none, times-tail x rest slot) in
    let new : x ≢ slot = λ same. absurd (omega (arith, none, ap (times_in (x ∷ rest)) (sym same), times-first x rest)) in
    elim (eqb_tells x at) [
      | inl here ↦
          let own : times_in rest at ≡ 0 = ap (times_in rest) (sym here.1) ∙ head-once x rest once in
          let link : next at ≡ first_of rest = ap next (sym here.1) ∙ chain.1 in
          let apart : at ≢ slot = λ same. new (here.1 ∙ same) in
          subst (IsChain next' previous' before) (sym (ap (λ b. if b then x ∷ slot ∷ rest else x ∷ put_after at slot rest) here.0)) (
            put-beside (put_at previous (next at) (Some slot)) slot (Some at) x new
                ∙ put_at-beside previous (next at) (Some slot) x (λ same. elim (first-in rest) [
                  | inl end ↦ absurd (let clash : None ≡ Some x = sym end ∙ sym link ∙ same in cc)
                  | inr some ↦ absurd (apart-in rest x some.slot (head-once x rest once) some.there
                      (let e : Some x ≡ Some some.slot = sym same ∙ link ∙ some.is in let f : x ≡ some.slot = cc in f))
                ]) ∙ chain.0,
            ap next' here.1 ∙ put-beside (put next at (Some slot)) slot (next at) at apart ∙ put-own next at (Some slot),
            (
              put-own (put_at previous (next at) (Some slot)) slot (Some at) ∙ ap Some (sym here.1),
              put-own (put next at (Some slot)) slot (next at) ∙ link,
              behind-new rest next previous at slot x chain.2 tail absent own link,
            ),
          )
      | inr other ↦
          let inside : 0 < times_in rest at = omega (arith, there, times-rest x rest at other.1) in
          subst (IsChain next' previous' before) (sym (ap (λ b. if b then x ∷ slot ∷ rest else x ∷ put_after at slot rest) other.0)) (
            put-beside (put_at previous (next at) (Some slot)) slot (Some at) x new
                ∙ put_at-beside previous (next at) (Some slot) x (not-next rest next previous (Some x) at x chain.2 inside (head-once x rest once)) ∙ chain.0,
            put-beside (put next at (Some slot)) slot (next at) x new ∙ put-beside next at (Some slot) x other.1 ∙ chain.1
                ∙ sym (first-put rest at slot inside),
            chain-put_after rest next previous (Some x) at slot chain.2 tail (λ same. new (let e : x ≡ slot = cc in e))
                (λ b same. ap (times_in rest) (let e : b ≡ x = cc in e) ∙ head-once x rest once) absent inside,
          )
    ]
  where
    first-put : (xs : List ℕ) (at slot : ℕ) → 0 < times_in xs at → first_of (put_after at slot xs) ≡ first_of xs
    first-put [] at slot there = refl
    first-put (x ∷ rest) at slot there =
        elim (x == at) as (λ b. first_of (if b then x ∷ slot ∷ rest else x ∷ put_after at slot rest) ≡ Some x) [ true ↦ refl | false ↦ refl ]

    behind-new : (rest : List ℕ) (next previous : Links) (at slot x : ℕ) → IsChain next previous (Some x) rest → ((y : ℕ) → times_in rest y ≤ 1)
        → times_in rest slot ≡ 0 → times_in rest at ≡ 0 → next at ≡ first_of rest
        → IsChain (put (put next at (Some slot)) slot (next at)) (put (put_at previous (next at) (Some slot)) slot (Some at)) (Some slot) rest
    behind-new [] next previous at slot x chain once absent own link = tt
    behind-new (c ∷ rest) next previous at slot x chain once absent own link =
        let next' = put (put next at (Some slot)) slot (next at) in
        let previous' = put (put_at previous (next at) (Some slot)) slot (Some at) in
        let others : (z : ℕ) → 0 < times_in (c ∷ rest) z → next' z ≡ next z = λ z is.
        put-beside (put next at (Some slot)) slot (next at) z (λ same. apart-in (c ∷ rest) slot z absent is (sym same))
        ∙ put-beside next at (Some slot) z (λ same. apart-in (c ∷ rest) at z own is (sym same)) in
        let fresh : (z : ℕ) → 0 < times_in (c ∷ rest) z → z ≢ slot = λ z is same. apart-in (c ∷ rest) slot z absent is (sym same) in (
          put-beside (put_at previous (next at) (Some slot)) slot (Some at) c (fresh c (omega (arith, times-first c rest)))
              ∙ put_at-own previous c (next at) (Some slot) link,
          others c (omega (arith, times-first c rest)) ∙ chain.1,
          chain-same rest next previous next' previous' (Some c) chain.2 (λ z is. others z (omega (arith, is, times-tail c rest z)))
              (λ z is. put-beside (put_at previous (next at) (Some slot)) slot (Some at) z (fresh z (omega (arith, is, times-tail c rest z)))
              ∙ put_at-beside previous (next at) (Some slot) z (λ same.
              absurd (apart-in rest c z (head-once c rest once) is (let e : Some c ≡ Some z = sym link ∙ same in let f : c ≡ z = cc in f)))),
        )

-- ---- a slot is put in front

pub chain-first : (xs : List ℕ) (next previous : Links) (slot : ℕ) → IsChain next previous None xs → ((y : ℕ) → times_in xs y ≤ 1) → times_in xs slot ≡ 0
    → IsChain (put next slot (first_of xs)) (put (put_at previous (first_of xs) (Some slot)) slot None) None (slot ∷ xs)
chain-first [] next previous slot chain once none = (put-own (put_at previous None (Some slot)) slot None, put-own next slot None, tt)
chain-first (c ∷ rest) next previous slot chain once none =
    let next' = put next slot (Some c) in
    let previous' = put (put previous c (Some slot)) slot None in
    let fresh : (z : ℕ) → 0 < times_in (c ∷ rest) z → z ≢ slot = λ z is same. apart-in (c ∷ rest) slot z none is (sym same) in
    let others : (z : ℕ) → 0 < times_in (c ∷ rest) z → next' z ≡ next z = λ z is. put-beside next slot (Some c) z (fresh z is) in
    let here : 0 < times_in (c ∷ rest) c = omega (arith, times-first c rest) in (
      put-own (put previous c (Some slot)) slot None,
      put-own next slot (Some c),
      (
        put-beside (put previous c (Some slot)) slot None c (fresh c here) ∙ put-own previous c (Some slot),
        others c here ∙ chain.1,
        chain-same rest next previous next' previous' (Some c) chain.2 (λ z is. others z (omega (arith, is, times-tail c rest z)))
            (λ z is. put-beside (put previous c (Some slot)) slot None z (fresh z (omega (arith, is, times-tail c rest z)))
            ∙ put-beside previous c (Some slot) z (λ same. apart-in rest c z (head-once c rest once) is (sym same))),
      ),
    )
