-- What changes of a list leave of its runs, and what the neighbours of a slot show.
use Rattle.std.proofs.Common.{ℕ, ◌≡◌, ◌≢◌, ◌∙◌, ◌==◌, ◌+◌, ◌<◌, ◌≤◌, ◌⊎◌, inl, inr, if◌then◌else◌, not, cond, Option, Some, None, List, [], ◌∷◌, true, false}
use Rattle.std.proofs.Common.{refl, sym, ap, subst, arith}
use Rattle.std.proofs.lemmas.Bool.Decides.{eqb_tells, nat_tests}
use Rattle.std.proofs.lemmas.Bool.{cases_lt, eq-eqb, le-ltb, lt-ltb, ne_eqb}
use Rattle.model.specs.Capabilities.Orders.{first_of, next_after}
use Rattle.model.specs.Shared.Lists.{times_in, without}
use Rattle.model.proofs.Orders.{times-first}
use Rattle.slots.specs.preorder.Chains.{IsChain, Links, put_after}
use Rattle.slots.specs.preorder.Preorder.{Row, put_behind, renamed, rows_of, run, run_behind, slots_of, taken_out}
use Rattle.slots.specs.preorder.Runs.{AreRuns, HasKey, IsAtOnce, Keys, MayFollow, NoneHas, behind_run, past}
use Rattle.slots.proofs.preorder.Changes.{slots-put_behind, slots-renamed, slots-taken_out}

times-tail : (x : ℕ) (rest : List ℕ) (y : ℕ) → times_in rest y ≤ times_in (x ∷ rest) y
times-tail x rest y = grind (arith, nat_tests)

times-rest : (x : ℕ) (rest : List ℕ) (y : ℕ) → x ≢ y → times_in (x ∷ rest) y ≡ times_in rest y
times-rest x rest y other = ap (λ b. if b then times_in rest y + 1 else times_in rest y) (ne_eqb x y other)

none-rest : {K : Type 0} (keys : Keys K) (key : K) (x : ℕ) (rest : List ℕ) → NoneHas keys key (x ∷ rest) → NoneHas keys key rest
none-rest keys key x rest none s there = none s (omega (arith, there, times-tail x rest s))

none-empty : {K : Type 0} (keys : Keys K) (key : K) → NoneHas keys key []
none-empty keys key s there same = absurd (omega (arith, there))

-- keys that are the same at the slots serve too
at-once-same : {K : Type 0} (keys keys' : Keys K) (key : K) (xs : List ℕ) → ((s : ℕ) → 0 < times_in xs s → keys' s ≡ keys s) → IsAtOnce keys key xs →
    IsAtOnce keys' key xs
at-once-same keys keys' key [] same once = inr (none-empty keys' key)
at-once-same keys keys' key (x ∷ rest) same once = elim once [
  | inl first ↦ inl (same x (omega (arith, times-first x rest)) ∙ first)
  | inr none ↦ inr (λ s there is. none s there (sym (same s there) ∙ is))
]

pub runs-same : {K : Type 0} (keys keys' : Keys K) (xs : List ℕ) → ((s : ℕ) → 0 < times_in xs s → keys' s ≡ keys s) → AreRuns keys xs → AreRuns keys' xs
runs-same keys keys' [] same runs = tt
runs-same keys keys' (x ∷ rest) same runs =
    let later : (s : ℕ) → 0 < times_in rest s → keys' s ≡ keys s = λ s there. same s (omega (arith, there, times-tail x rest s)) in (
      λ key is. at-once-same keys keys' key rest later (runs.0 key (sym (same x (omega (arith, times-first x rest))) ∙ is)),
      runs-same keys keys' rest later runs.1,
    )

-- ---- a slot is put right after another, or in front

first-put : (xs : List ℕ) (at slot : ℕ) → first_of (put_after at slot xs) ≡ first_of xs
first-put [] at slot = refl
first-put (x ∷ rest) at slot =
    elim (x == at) as (λ b. first_of (if b then x ∷ slot ∷ rest else x ∷ put_after at slot rest) ≡ Some x) [ true ↦ refl | false ↦ refl ]

put-here : (x at slot : ℕ) (rest : List ℕ) → x ≡ at → put_after at slot (x ∷ rest) ≡ x ∷ slot ∷ rest
put-here x at slot rest here = ap (λ b. if b then x ∷ slot ∷ rest else x ∷ put_after at slot rest) (eq-eqb x at here)

put-later : (x at slot : ℕ) (rest : List ℕ) → x ≢ at → put_after at slot (x ∷ rest) ≡ x ∷ put_after at slot rest
put-later x at slot rest other = ap (λ b. if b then x ∷ slot ∷ rest else x ∷ put_after at slot rest) (ne_eqb x at other)

-- what is in the list then was there, or it is the new slot and the other is there
in-put : (xs : List ℕ) (at slot s : ℕ) → 0 < times_in (put_after at slot xs) s → (0 < times_in xs s) ⊎ ((s ≡ slot) × (0 < times_in xs at))
in-put [] at slot s there = inl there
in-put (x ∷ rest) at slot s there = elim (eqb_tells x s) [
  | inl own ↦ inl (subst (λ y. 0 < times_in (x ∷ rest) y) own.1 (omega (arith, times-first x rest)))
  | inr other ↦ elim (eqb_tells x at) [
    | inl here ↦
        let inside : 0 < times_in (slot ∷ rest) s =
        omega (arith, ap (λ l. times_in l s) (put-here x at slot rest here.1), times-rest x (slot ∷ rest) s other.1, there) in
        elim (eqb_tells slot s) [
          | inl new ↦ inr (sym new.1, subst (λ y. 0 < times_in (x ∷ rest) y) here.1 (omega (arith, times-first x rest)))
          | inr old ↦ inl (omega (arith, inside, times-rest slot rest s old.1, times-tail x rest s))
        ]
    | inr off ↦
        let inside : 0 < times_in (put_after at slot rest) s =
        omega (arith, ap (λ l. times_in l s) (put-later x at slot rest off.1), times-rest x (put_after at slot rest) s other.1, there) in
        elim (in-put rest at slot s inside) [
          | inl old ↦ inl (omega (arith, old, times-tail x rest s))
          | inr new ↦ inr (new.0, omega (arith, new.1, times-tail x rest at))
        ]
  ]
]

-- the key of a slot before that goes on as it did
at-once-put : {K : Type 0} (keys : Keys K) (key : K) (at slot : ℕ) (xs : List ℕ) →
    (keys slot ≡ Some key → 0 < times_in xs at → (s : ℕ) × (0 < times_in xs s) × (keys s ≡ Some key))
    → IsAtOnce keys key xs → IsAtOnce keys key (put_after at slot xs)
at-once-put keys key at slot xs known once = elim once [
  | inl first ↦ inl (subst (HasKey keys key) (sym (first-put xs at slot)) first)
  | inr none ↦ inr (λ s there is. elim (in-put xs at slot s there) [
    | inl old ↦ none s old is
    | inr new ↦ let found = known (ap keys (sym new.0) ∙ is) new.1 in none found.0 found.1 found.2
  ])
]

-- the new slot has the key of the other
pub runs-put-same : {K : Type 0} (keys : Keys K) (at slot : ℕ) (xs : List ℕ) → keys slot ≡ keys at → AreRuns keys xs → AreRuns keys (put_after at slot xs)
runs-put-same keys at slot [] same runs = tt
runs-put-same keys at slot (x ∷ rest) same runs = elim (eqb_tells x at) [
  | inl here ↦
      let own : keys slot ≡ keys x = same ∙ ap keys (sym here.1) in
      subst (AreRuns keys) (sym (put-here x at slot rest here.1)) ((λ key is. inl (own ∙ is)), ((λ key is. runs.0 key (sym own ∙ is)), runs.1))
  | inr off ↦
      subst (AreRuns keys) (sym (put-later x at slot rest off.1)) (
        λ key is. at-once-put keys key at slot rest (λ new there. (at, there, sym same ∙ new)) (runs.0 key is),
        runs-put-same keys at slot rest same runs.1,
      )
]

-- the new slot has a key that no slot has, and the other has none
pub runs-put-new : {K : Type 0} (keys : Keys K) (at slot : ℕ) (xs : List ℕ) → keys at ≡ None → ((key : K) → keys slot ≡ Some key → NoneHas keys key xs)
    → AreRuns keys xs → AreRuns keys (put_after at slot xs)
runs-put-new keys at slot [] free new runs = tt
runs-put-new keys at slot (x ∷ rest) free new runs = elim (eqb_tells x at) [
  | inl here ↦
      subst (AreRuns keys) (sym (put-here x at slot rest here.1)) (
        λ key is. absurd (let clash : None ≡ Some key = sym free ∙ ap keys (sym here.1) ∙ is in cc),
        (λ key is. inr (none-rest keys key x rest (new key is)), runs.1),
      )
  | inr off ↦
      subst (AreRuns keys) (sym (put-later x at slot rest off.1)) (
        λ key is. at-once-put keys key at slot rest (λ own there. absurd (new key own x (omega (arith, times-first x rest)) is)) (runs.0 key is),
        runs-put-new keys at slot rest free (λ key is. none-rest keys key x rest (new key is)) runs.1,
      )
]

pub runs-put : {K : Type 0} (keys : Keys K) (at slot : ℕ) (xs : List ℕ) → MayFollow keys at slot xs → AreRuns keys xs → AreRuns keys (put_after at slot xs)
runs-put keys at slot xs may runs = elim may [
  | inl same ↦ runs-put-same keys at slot xs same runs
  | inr new ↦ runs-put-new keys at slot xs new.0 new.1 runs
]

pub runs-first : {K : Type 0} (keys : Keys K) (slot : ℕ) (xs : List ℕ) → ((key : K) → keys slot ≡ Some key → NoneHas keys key xs) → AreRuns keys xs →
    AreRuns keys (slot ∷ xs)
runs-first keys slot xs new runs = (λ key is. inr (new key is), runs)

-- ---- a slot is taken out

without-here : (x gone : ℕ) (rest : List ℕ) → x ≡ gone → without gone (x ∷ rest) ≡ without gone rest
without-here x gone rest here = ap (λ b. cond (not b) (x ∷ without gone rest) (without gone rest)) (eq-eqb x gone here)

without-other : (x gone : ℕ) (rest : List ℕ) → x ≢ gone → without gone (x ∷ rest) ≡ x ∷ without gone rest
without-other x gone rest other = ap (λ b. cond (not b) (x ∷ without gone rest) (without gone rest)) (ne_eqb x gone other)

in-without : (xs : List ℕ) (gone s : ℕ) → 0 < times_in (without gone xs) s → 0 < times_in xs s
in-without [] gone s there = there
in-without (x ∷ rest) gone s there = elim (eqb_tells x gone) [
  | inl here ↦
      let more = in-without rest gone s (subst (λ l. 0 < times_in l s) (without-here x gone rest here.1) there) in
      omega (arith, more, times-tail x rest s)
  | inr off ↦ elim (eqb_tells x s) [
    | inl own ↦ subst (λ y. 0 < times_in (x ∷ rest) y) own.1 (omega (arith, times-first x rest))
    | inr other ↦
        let inside : 0 < times_in (without gone rest) s =
        omega (arith, ap (λ l. times_in l s) (without-other x gone rest off.1), times-rest x (without gone rest) s other.1, there) in
        omega (arith, in-without rest gone s inside, times-tail x rest s)
  ]
]

none-without-slot : {K : Type 0} (keys : Keys K) (key : K) (gone : ℕ) (xs : List ℕ) → NoneHas keys key xs → NoneHas keys key (without gone xs)
none-without-slot keys key gone xs none s there = none s (in-without xs gone s there)

at-once-without : {K : Type 0} (keys : Keys K) (key : K) (gone : ℕ) (xs : List ℕ) → AreRuns keys xs → IsAtOnce keys key xs → IsAtOnce keys key (without gone xs)
at-once-without keys key gone [] runs once = inr (none-empty keys key)
at-once-without keys key gone (x ∷ rest) runs once = elim (eqb_tells x gone) [
  | inl here ↦
      subst (IsAtOnce keys key) (sym (without-here x gone rest here.1)) (elim once [
        | inl first ↦ at-once-without keys key gone rest runs.1 (runs.0 key first)
        | inr none ↦ inr (none-without-slot keys key gone rest (none-rest keys key x rest none))
      ])
  | inr off ↦ elim once [
    | inl first ↦ subst (IsAtOnce keys key) (sym (without-other x gone rest off.1)) (inl first)
    | inr none ↦ inr (none-without-slot keys key gone (x ∷ rest) none)
  ]
]

pub runs-without : {K : Type 0} (keys : Keys K) (gone : ℕ) (xs : List ℕ) → AreRuns keys xs → AreRuns keys (without gone xs)
runs-without keys gone [] runs = tt
runs-without keys gone (x ∷ rest) runs = elim (eqb_tells x gone) [
  | inl here ↦ subst (AreRuns keys) (sym (without-here x gone rest here.1)) (runs-without keys gone rest runs.1)
  | inr off ↦
      subst (AreRuns keys) (sym (without-other x gone rest off.1)) (
        λ key is. at-once-without keys key gone rest runs.1 (runs.0 key is),
        runs-without keys gone rest runs.1,
      )
]

-- ---- what neighbours show

-- the one before a slot has its key, if the one before the list has it
before-has : {K : Type 0} (keys : Keys K) (key : K) (xs : List ℕ) (next previous : Links) (before : Option ℕ) (s : ℕ) → IsChain next previous before xs
    → AreRuns keys xs → HasKey keys key before → IsAtOnce keys key xs → 0 < times_in xs s → keys s ≡ Some key → HasKey keys key (previous s)
before-has keys key [] next previous before s chain runs has once there is = absurd (omega (arith, there))
before-has keys key (x ∷ rest) next previous before s chain runs has once there is = elim (eqb_tells x s) [
  | inl here ↦ subst (HasKey keys key) (sym chain.0 ∙ ap previous here.1) has
  | inr off ↦
      let own : keys x ≡ Some key = elim once [ inl first ↦ first | inr none ↦ absurd (none s there is) ] in
      before-has keys key rest next previous (Some x) s chain.2 runs.1 own (runs.0 key own) (omega (arith, there, times-rest x rest s off.1)) is
]

-- another slot with the key of a slot: then one of its neighbours has it
pub another-beside : {K : Type 0} (keys : Keys K) (key : K) (xs : List ℕ) (next previous : Links) (before : Option ℕ) (s other : ℕ) →
    IsChain next previous before xs
    → AreRuns keys xs → 0 < times_in xs s → keys s ≡ Some key → 0 < times_in xs other → other ≢ s → keys other ≡ Some key
    → HasKey keys key (previous s) ⊎ HasKey keys key (next s)
another-beside keys key [] next previous before s other chain runs there is found apart has = absurd (omega (arith, there))
another-beside keys key (x ∷ rest) next previous before s other chain runs there is found apart has = elim (eqb_tells x s) [
  | inl here ↦
      let inside : 0 < times_in rest other = omega (arith, found, times-rest x rest other (λ same. apart (sym same ∙ here.1))) in
      elim (runs.0 key (ap keys here.1 ∙ is)) [
        | inl first ↦ inr (subst (HasKey keys key) (sym chain.1 ∙ ap next here.1) first)
        | inr none ↦ absurd (none other inside has)
      ]
  | inr off ↦
      let later : 0 < times_in rest s = omega (arith, there, times-rest x rest s off.1) in
      elim (eqb_tells x other) [
        | inl at ↦
            let own : keys x ≡ Some key = ap keys at.1 ∙ has in
            inl (before-has keys key rest next previous (Some x) s chain.2 runs.1 own (runs.0 key own) later is)
        | inr beside ↦
            another-beside keys key rest next previous (Some x) s other chain.2 runs.1 later is (omega (arith, found, times-rest x rest other beside.1)) apart
            has
      ]
]

-- a neighbour is another slot of the list
pub next-another : (xs : List ℕ) (next previous : Links) (before : Option ℕ) (s o : ℕ) → IsChain next previous before xs → ((y : ℕ) → times_in xs y ≤ 1)
    → 0 < times_in xs s → next s ≡ Some o → (0 < times_in xs o) × (o ≢ s)
next-another [] next previous before s o chain once there is = absurd (omega (arith, there))
next-another (x ∷ rest) next previous before s o chain once there is = elim (eqb_tells x s) [
  | inl here ↦
      let link : first_of rest ≡ Some o = sym chain.1 ∙ ap next here.1 ∙ is in
      let found : 0 < times_in rest o = first-in rest o link in
      let none : times_in rest s ≡ 0 = omega (arith, once s, subst (λ y. times_in (x ∷ rest) y ≡ times_in rest y + 1) here.1 (times-first x rest)) in
      (omega (arith, found, times-tail x rest o), λ same. absurd (omega (arith, none, subst (λ y. 0 < times_in rest y) same found)))
  | inr off ↦
      let later = next-another rest next previous (Some x) s o chain.2 (λ y. omega (arith, once y, times-tail x rest y))
      (omega (arith, there, times-rest x rest s off.1)) is in
      (omega (arith, later.0, times-tail x rest o), later.1)
]
  where
    first-in : (xs : List ℕ) (o : ℕ) → first_of xs ≡ Some o → 0 < times_in xs o
    first-in [] o is = absurd (let clash : None ≡ Some o = is in cc)
    first-in (c ∷ r) o is =
        let same : c ≡ o = (let e : Some c ≡ Some o = is in cc) in
        subst (λ y. 0 < times_in (c ∷ r) y) same (omega (arith, times-first c r))

previous-in-or : (xs : List ℕ) (next previous : Links) (before : Option ℕ) (s o : ℕ) → IsChain next previous before xs → ((y : ℕ) → times_in xs y ≤ 1)
    → ((b : ℕ) → before ≡ Some b → times_in xs b ≡ 0) → 0 < times_in xs s → previous s ≡ Some o → ((before ≡ Some o) ⊎ (0 < times_in xs o)) × (o ≢ s)
previous-in-or [] next previous before s o chain once out there is = absurd (omega (arith, there))
previous-in-or (x ∷ rest) next previous before s o chain once out there is = elim (eqb_tells x s) [
  | inl here ↦
      let link : before ≡ Some o = sym chain.0 ∙ ap previous here.1 ∙ is in
      (inl link, λ same. absurd (omega (arith, there, subst (λ y. times_in (x ∷ rest) y ≡ 0) same (out o link))))
  | inr off ↦
      let head : times_in rest x ≡ 0 = omega (arith, once x, times-first x rest) in
      let later = previous-in-or rest next previous (Some x) s o chain.2 (λ y. omega (arith, once y, times-tail x rest y))
      (λ b same. ap (times_in rest) (let e : b ≡ x = cc in e) ∙ head) (omega (arith, there, times-rest x rest s off.1)) is in (
        inr (elim later.0 [
          | inl at ↦ subst (λ y. 0 < times_in (x ∷ rest) y) (let e : x ≡ o = cc in e) (omega (arith, times-first x rest))
          | inr found ↦ omega (arith, found, times-tail x rest o)
        ]),
        later.1,
      )
]

pub previous-another : (xs : List ℕ) (next previous : Links) (s o : ℕ) → IsChain next previous None xs → ((y : ℕ) → times_in xs y ≤ 1)
    → 0 < times_in xs s → previous s ≡ Some o → (0 < times_in xs o) × (o ≢ s)
previous-another xs next previous s o chain once there is =
    let found = previous-in-or xs next previous None s o chain once (λ b same. absurd (let clash : None ≡ Some b = same in cc)) there is in
    (elim found.0 [ inl none ↦ absurd (let clash : None ≡ Some o = none in cc) | inr inside ↦ inside ], found.1)

-- ---- a run that reaches beyond the descendants of a root

-- what is in a run is in the rows
in-run : (rows : List Row) (d s : ℕ) → 0 < times_in (slots_of (run d rows)) s → 0 < times_in (slots_of rows) s
in-run [] d s there = there
in-run (r ∷ rest) d s there = elim (cases_lt d r.depth) [
  | inl deep ↦
      let inside : 0 < times_in (r.slot ∷ slots_of (run d rest)) s =
      subst (λ l. 0 < times_in (slots_of l) s) (ap (λ b. if b then r ∷ run d rest else []) (lt-ltb d r.depth deep)) there in
      elim (eqb_tells r.slot s) [
        | inl own ↦ subst (λ y. 0 < times_in (slots_of (r ∷ rest)) y) own.1 (omega (arith, times-first r.slot (slots_of rest)))
        | inr other ↦ omega (
          arith,
          in-run rest d s (omega (arith, inside, times-rest r.slot (slots_of (run d rest)) s other.1)),
          times-tail r.slot (slots_of rest) s,
        )
      ]
  | inr end ↦
      let none : 0 < times_in [] s = subst (λ l. 0 < times_in (slots_of l) s) (ap (λ b. if b then r ∷ run d rest else []) (le-ltb d r.depth end)) there in
      absurd (omega (arith, none))
]

pub in-behind : (rows : List Row) (root s : ℕ) → 0 < times_in (slots_of (run_behind root rows)) s → 0 < times_in (slots_of rows) s
in-behind [] root s there = there
in-behind (r ∷ rest) root s there = elim (eqb_tells r.slot root) [
  | inl here ↦
      omega (
        arith,
        in-run rest r.depth s (subst (λ l. 0 < times_in (slots_of l) s) (ap (λ b. if b then run r.depth rest else run_behind root rest) here.0)
            there),
        times-tail r.slot (slots_of rest) s,
      )
  | inr off ↦
      omega (
        arith,
        in-behind rest root s (subst (λ l. 0 < times_in (slots_of l) s) (ap (λ b. if b then run r.depth rest else run_behind root rest) off.0)
            there),
        times-tail r.slot (slots_of rest) s,
      )
]

-- from a slot before the root on, the root has the key
root-has : {K : Type 0} (keys : Keys K) (key : K) (rows : List Row) (root s : ℕ) → AreRuns keys (slots_of rows) → IsAtOnce keys key (slots_of rows)
    → 0 < times_in (slots_of (run_behind root rows)) s → keys s ≡ Some key → keys root ≡ Some key
root-has keys key [] root s runs once there is = absurd (omega (arith, there))
root-has keys key (r ∷ rest) root s runs once there is =
    let within : 0 < times_in (slots_of (r ∷ rest)) s = in-behind (r ∷ rest) root s there in
    let own : keys r.slot ≡ Some key = elim once [ inl first ↦ first | inr none ↦ absurd (none s within is) ] in
    elim (eqb_tells r.slot root) [
      | inl here ↦ sym (ap keys here.1) ∙ own
      | inr off ↦
          root-has keys key rest root s runs.1 (runs.0 key own)
          (subst (λ l. 0 < times_in (slots_of l) s) (ap (λ b. if b then run r.depth rest else run_behind root rest) off.0) there) is
    ]

-- the first slot after a run has the key that is in the run and after it; the slot before the rows may have it too
past-has : {K : Type 0} (keys : Keys K) (key : K) (rows : List Row) (d other : ℕ) → AreRuns keys (slots_of rows) → IsAtOnce keys key (slots_of rows)
    → 0 < times_in (slots_of rows) other → times_in (slots_of (run d rows)) other ≡ 0 → keys other ≡ Some key
    → HasKey keys key (first_of (slots_of (past d rows)))
past-has keys key [] d other runs once there out has = absurd (omega (arith, there))
past-has keys key (r ∷ rest) d other runs once there out has =
    let own : keys r.slot ≡ Some key = elim once [ inl first ↦ first | inr none ↦ absurd (none other there has) ] in
    elim (cases_lt d r.depth) [
      | inl deep ↦
          let is : times_in (r.slot ∷ slots_of (run d rest)) other ≡ 0 =
          sym (ap (λ b. times_in (slots_of (if b then r ∷ run d rest else [])) other) (lt-ltb d r.depth deep)) ∙ out in
          let apart : r.slot ≢ other = λ same.
          absurd (omega (
            arith,
            subst (λ y. times_in (r.slot ∷ slots_of (run d rest)) y ≡ 0) (sym same) is,
            times-first r.slot (slots_of (run d rest)),
          )) in
          subst (λ l. HasKey keys key (first_of (slots_of l))) (sym (ap (λ b. if b then past d rest else r ∷ rest) (lt-ltb d r.depth deep)))
          (past-has keys key rest d other runs.1 (runs.0 key own) (omega (arith, there, times-rest r.slot (slots_of rest) other apart))
          (omega (arith, is, times-rest r.slot (slots_of (run d rest)) other apart)) has)
      | inr end ↦ subst (λ l. HasKey keys key (first_of (slots_of l))) (sym (ap (λ b. if b then past d rest else r ∷ rest) (le-ltb d r.depth end))) own
    ]

-- in a run, and after it
run-past : {K : Type 0} (keys : Keys K) (key : K) (rows : List Row) (d s other : ℕ) → AreRuns keys (slots_of rows) → 0 < times_in (slots_of (run d rows)) s →
    keys s ≡ Some key
    → 0 < times_in (slots_of rows) other → times_in (slots_of (run d rows)) other ≡ 0 → keys other ≡ Some key
    → HasKey keys key (first_of (slots_of (past d rows)))
run-past keys key [] d s other runs inside is there out has = absurd (omega (arith, there))
run-past keys key (r ∷ rest) d s other runs inside is there out has = elim (cases_lt d r.depth) [
  | inl deep ↦
      let more = slots_of (run d rest) in
      let within : 0 < times_in (r.slot ∷ more) s = subst (λ l. 0 < times_in (slots_of l) s)
      (ap (λ b. if b then r ∷ run d rest else []) (lt-ltb d r.depth deep)) inside in
      let off : times_in (r.slot ∷ more) other ≡ 0 = sym (ap (λ b. times_in (slots_of (if b then r ∷ run d rest else [])) other) (lt-ltb d r.depth deep))
      ∙ out in
      let apart : r.slot ≢ other = λ same. absurd (omega (arith, subst (λ y. times_in (r.slot ∷ more) y ≡ 0) (sym same) off, times-first r.slot more)) in
      let later : 0 < times_in (slots_of rest) other = omega (arith, there, times-rest r.slot (slots_of rest) other apart) in
      let beside : times_in more other ≡ 0 = omega (arith, off, times-rest r.slot more other apart) in
      subst (λ l. HasKey keys key (first_of (slots_of l))) (sym (ap (λ b. if b then past d rest else r ∷ rest) (lt-ltb d r.depth deep)))
      (elim (eqb_tells r.slot s) [
        | inl own ↦ past-has keys key rest d other runs.1 (runs.0 key (ap keys own.1 ∙ is)) later beside has
        | inr beyond ↦ run-past keys key rest d s other runs.1 (omega (arith, within, times-rest r.slot more s beyond.1)) is later beside has
      ])
  | inr end ↦
      let none : 0 < times_in [] s = subst (λ l. 0 < times_in (slots_of l) s) (ap (λ b. if b then r ∷ run d rest else []) (le-ltb d r.depth end)) inside in
      absurd (omega (arith, none))
]

pub runs-end : {K : Type 0} (rows : List Row) (keys : Keys K) (key : K) (root s other : ℕ) → AreRuns keys (slots_of rows)
    → 0 < times_in (slots_of (run_behind root rows)) s → keys s ≡ Some key
    → 0 < times_in (slots_of rows) other → times_in (slots_of (run_behind root rows)) other ≡ 0 → keys other ≡ Some key
    → (keys root ≡ Some key) ⊎ HasKey keys key (first_of (slots_of (behind_run root rows)))
runs-end [] keys key root s other runs inside is there out has = absurd (omega (arith, there))
runs-end (r ∷ rest) keys key root s other runs inside is there out has = elim (eqb_tells r.slot root) [
  | inl here ↦
      let within : 0 < times_in (slots_of (run r.depth rest)) s =
      subst (λ l. 0 < times_in (slots_of l) s) (ap (λ b. if b then run r.depth rest else run_behind root rest) here.0) inside in
      let beside : times_in (slots_of (run r.depth rest)) other ≡ 0 =
      sym (ap (λ b. times_in (slots_of (if b then run r.depth rest else run_behind root rest)) other) here.0) ∙ out in
      elim (eqb_tells r.slot other) [
        | inl own ↦ inl (sym (ap keys here.1) ∙ ap keys own.1 ∙ has)
        | inr apart ↦
            inr (subst (λ l. HasKey keys key (first_of (slots_of l))) (sym (ap (λ b. if b then past r.depth rest else behind_run root rest) here.0))
            (run-past keys key rest r.depth s other runs.1 within is (omega (arith, there, times-rest r.slot (slots_of rest) other apart.1)) beside has))
      ]
  | inr off ↦
      let within : 0 < times_in (slots_of (run_behind root rest)) s =
      subst (λ l. 0 < times_in (slots_of l) s) (ap (λ b. if b then run r.depth rest else run_behind root rest) off.0) inside in
      let beside : times_in (slots_of (run_behind root rest)) other ≡ 0 =
      sym (ap (λ b. times_in (slots_of (if b then run r.depth rest else run_behind root rest)) other) off.0) ∙ out in
      elim (eqb_tells r.slot other) [
        | inl own ↦ inl (root-has keys key rest root s runs.1 (runs.0 key (ap keys own.1 ∙ has)) within is)
        | inr apart ↦
            subst (λ l. (keys root ≡ Some key) ⊎ HasKey keys key (first_of (slots_of l)))
            (sym (ap (λ b. if b then past r.depth rest else behind_run root rest) off.0))
            (runs-end rest keys key root s other runs.1 within is (omega (arith, there, times-rest r.slot (slots_of rest) other apart.1)) beside has)
      ]
]

-- ---- the end of a run

-- nothing is in a run: then what follows it is all
none-runs : (rows : List Row) (d : ℕ) → first_of (slots_of (run d rows)) ≡ None → first_of (slots_of rows) ≡ first_of (slots_of (past d rows))
none-runs [] d none = refl
none-runs (r ∷ rest) d none = elim (cases_lt d r.depth) [
  | inl deep ↦
      let clash : Some r.slot ≡ None = sym (ap (λ b. first_of (slots_of (if b then r ∷ run d rest else []))) (lt-ltb d r.depth deep)) ∙ none in
      absurd cc
  | inr end ↦ sym (ap (λ b. first_of (slots_of (if b then past d rest else r ∷ rest))) (le-ltb d r.depth end))
]

after-here : (x : ℕ) (rest : List ℕ) (s : ℕ) → x ≡ s → next_after (x ∷ rest) s ≡ first_of rest
after-here x rest s here = ap (λ b. if b then first_of rest else next_after rest s) (eq-eqb x s here)

after-off : (x : ℕ) (rest : List ℕ) (s : ℕ) → x ≢ s → next_after (x ∷ rest) s ≡ next_after rest s
after-off x rest s off = ap (λ b. if b then first_of rest else next_after rest s) (ne_eqb x s off)

run-last : (rows : List Row) (d s : ℕ) → 0 < times_in (slots_of (run d rows)) s → next_after (slots_of (run d rows)) s ≡ None
    → next_after (slots_of rows) s ≡ first_of (slots_of (past d rows))
run-last [] d s there none = absurd (omega (arith, there))
run-last (r ∷ rest) d s there none = elim (cases_lt d r.depth) [
  | inl deep ↦
      let more = slots_of (run d rest) in
      let whole : slots_of (run d (r ∷ rest)) ≡ r.slot ∷ more = ap (λ b. slots_of (if b then r ∷ run d rest else [])) (lt-ltb d r.depth deep) in
      let end : first_of (slots_of (past d (r ∷ rest))) ≡ first_of (slots_of (past d rest)) =
      ap (λ b. first_of (slots_of (if b then past d rest else r ∷ rest))) (lt-ltb d r.depth deep) in
      elim (eqb_tells r.slot s) [
        | inl here ↦
            after-here r.slot (slots_of rest) s here.1
            ∙ none-runs rest d (sym (after-here r.slot more s here.1) ∙ sym (ap (λ l. next_after l s) whole) ∙ none) ∙ sym end
        | inr off ↦
            after-off r.slot (slots_of rest) s off.1
            ∙ run-last rest d s (omega (arith, there, ap (λ l. times_in l s) whole, times-rest r.slot more s off.1))
            (sym (after-off r.slot more s off.1) ∙ sym (ap (λ l. next_after l s) whole) ∙ none)
            ∙ sym end
      ]
  | inr end ↦ absurd (omega (arith, there, ap (λ b. times_in (slots_of (if b then r ∷ run d rest else [])) s) (le-ltb d r.depth end)))
]

-- after the last descendant of a root comes the first row after the root's run
pub run-ends : (rows : List Row) (root s : ℕ) → ((y : ℕ) → rows_of rows y ≤ 1) → 0 < times_in (slots_of (run_behind root rows)) s
    → next_after (slots_of (run_behind root rows)) s ≡ None → next_after (slots_of rows) s ≡ first_of (slots_of (behind_run root rows))
run-ends [] root s once there none = absurd (omega (arith, there))
run-ends (r ∷ rest) root s once there none = elim (eqb_tells r.slot root) [
  | inl here ↦
      let run_is = ap (λ b. if b then run r.depth rest else run_behind root rest) here.0 in
      let inside : 0 < times_in (slots_of (run r.depth rest)) s = subst (λ l. 0 < times_in (slots_of l) s) run_is there in
      after-off r.slot (slots_of rest) s (apart (in-run rest r.depth s inside))
      ∙ run-last rest r.depth s inside (sym (ap (λ l. next_after (slots_of l) s) run_is) ∙ none)
      ∙ sym (ap (λ b. first_of (slots_of (if b then past r.depth rest else behind_run root rest))) here.0)
  | inr off ↦
      let run_is = ap (λ b. if b then run r.depth rest else run_behind root rest) off.0 in
      let inside : 0 < times_in (slots_of (run_behind root rest)) s = subst (λ l. 0 < times_in (slots_of l) s) run_is there in
      after-off r.slot (slots_of rest) s (apart (in-behind rest root s inside))
      ∙ run-ends rest root s (λ y. omega (arith, once y, times-tail r.slot (slots_of rest) y)) inside (sym (ap (λ l. next_after (slots_of l) s) run_is) ∙ none)
      ∙ sym (ap (λ b. first_of (slots_of (if b then past r.depth rest else behind_run root rest))) off.0)
]
  where
    apart : 0 < times_in (slots_of rest) s → r.slot ≢ s
    apart later same = absurd
        (omega (
          arith,
          later,
          once s,
          ap (λ y. times_in (r.slot ∷ slots_of rest) y) (sym same),
          times-first r.slot (slots_of rest),
          ap (times_in (slots_of rest)) same,
        ))

-- ---- the same of rows

pub runs-put_behind : {K : Type 0} (rows : List Row) (keys : Keys K) (parent slot : ℕ) → MayFollow keys parent slot (slots_of rows) →
    AreRuns keys (slots_of rows)
    → AreRuns keys (slots_of (put_behind parent slot rows))
runs-put_behind rows keys parent slot may runs = subst (AreRuns keys) (sym (slots-put_behind rows parent slot))
    (runs-put keys parent slot (slots_of rows) may runs)

pub runs-taken_out : {K : Type 0} (rows : List Row) (keys : Keys K) (gone : ℕ) → rows_of rows gone ≤ 1 → AreRuns keys (slots_of rows)
    → AreRuns keys (slots_of (taken_out gone rows))
runs-taken_out rows keys gone once runs = subst (AreRuns keys) (sym (slots-taken_out rows gone once)) (runs-without keys gone (slots_of rows) runs)

pub runs-renamed : {K : Type 0} (rows : List Row) (keys : Keys K) (from to : ℕ) → rows_of rows from ≤ 1 → from ≢ to → keys to ≡ keys from →
    AreRuns keys (slots_of rows)
    → AreRuns keys (slots_of (renamed from to rows))
runs-renamed rows keys from to once apart same runs =
    subst (AreRuns keys) (sym (slots-renamed rows from to once apart))
    (runs-without keys from (put_after from to (slots_of rows)) (runs-put-same keys from to (slots_of rows) same runs))
