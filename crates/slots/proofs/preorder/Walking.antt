-- What walks along the links of a chain find.
use Rattle.std.proofs.Common.{ℕ, zero, suc, ◌≡◌, ◌∙◌, ◌+◌, ◌<◌, ◌≤◌, nat_lt, inl, inr, if◌then◌else◌, Option, Some, None, List, [], ◌∷◌, length, refl, sym, ap}
use Rattle.std.proofs.Common.{arith}
use Rattle.std.proofs.lemmas.Bool.Decides.{eqb_tells}
use Rattle.std.proofs.lemmas.Bool.{cases_lt, lt-ltb, le-ltb}
use Rattle.model.specs.Capabilities.Orders.{first_of, next_after}
use Rattle.model.specs.Kernel.State.{put}
use Rattle.model.specs.Shared.Lists.{times_in}
use Rattle.slots.specs.preorder.Chains.{IsChain, Links, back_above, if_deeper, rows_linked}
use Rattle.slots.specs.preorder.Preorder.{AreDeep, Path, Rises, Row, above, no_path, parent_from, parents_of, rows_of, run, run_behind, slots_of}
use Rattle.slots.proofs.preorder.Paths.{above-same, from-here, from-rest, put-here, put-other, rows-rest}

-- ---- all rows

pub linked-rows : (rows : List Row) (next previous : Links) (depths : ℕ → ℕ) (before : Option ℕ) (n : ℕ) → IsChain next previous before (slots_of rows)
    → AreDeep depths rows → length rows ≤ n → rows_linked next depths n (first_of (slots_of rows)) ≡ rows
linked-rows [] next previous depths before zero chain deep few = refl
linked-rows [] next previous depths before (suc n) chain deep few = refl
linked-rows (r ∷ rest) next previous depths before zero chain deep few = absurd (omega (arith, few))
linked-rows (r ∷ rest) next previous depths before (suc n) chain deep few =
    let row : ℕ → Row = λ d. record { slot = r.slot; depth = d } in
    ap (λ d. row d ∷ rows_linked next depths n (next r.slot)) deep.0
    ∙ ap (λ l. r ∷ l) (ap (rows_linked next depths n) chain.1 ∙ linked-rows rest next previous depths (Some r.slot) n chain.2 deep.1 (omega (arith, few)))

-- ---- the next one

pub linked-next : (xs : List ℕ) (next previous : Links) (before : Option ℕ) (s : ℕ) → IsChain next previous before xs → 0 < times_in xs s →
    next_after xs s ≡ next s
linked-next [] next previous before s chain there = absurd (omega (arith, there))
linked-next (x ∷ rest) next previous before s chain there = elim (eqb_tells x s) [
  | inl here ↦ ap (λ b. if b then first_of rest else next_after rest s) here.0 ∙ sym chain.1 ∙ ap next here.1
  | inr other ↦
      ap (λ b. if b then first_of rest else next_after rest s) other.0
      ∙ linked-next rest next previous (Some x) s chain.2 (omega (arith, there, ap (λ b. if b then times_in rest s + 1 else times_in rest s) other.0))
]

-- the first of a run, and the next one in it
run-first : (rows : List Row) (depths : ℕ → ℕ) (d : ℕ) → AreDeep depths rows → first_of (slots_of (run d rows)) ≡ if_deeper depths d (first_of (slots_of rows))
run-first [] depths d deep = refl
run-first (r ∷ rest) depths d deep = elim (cases_lt d r.depth) [
  | inl less ↦
      ap (λ b. first_of (slots_of (if b then r ∷ run d rest else []))) (lt-ltb d r.depth less)
      ∙ sym (ap (λ b. if b then Some r.slot else None) (ap (nat_lt d) deep.0 ∙ lt-ltb d r.depth less))
  | inr least ↦
      ap (λ b. first_of (slots_of (if b then r ∷ run d rest else []))) (le-ltb d r.depth least)
      ∙ sym (ap (λ b. if b then Some r.slot else None) (ap (nat_lt d) deep.0 ∙ le-ltb d r.depth least))
]

run-next : (rows : List Row) (next previous : Links) (depths : ℕ → ℕ) (before : Option ℕ) (d s : ℕ) → IsChain next previous before (slots_of rows)
    → AreDeep depths rows → 0 < times_in (slots_of (run d rows)) s → next_after (slots_of (run d rows)) s ≡ if_deeper depths d (next s)
run-next [] next previous depths before d s chain deep there = absurd (omega (arith, there))
run-next (r ∷ rest) next previous depths before d s chain deep there = elim (cases_lt d r.depth) [
  | inl less ↦
      let is : run d (r ∷ rest) ≡ r ∷ run d rest = ap (λ b. if b then r ∷ run d rest else []) (lt-ltb d r.depth less) in
      let more = slots_of (run d rest) in
      ap (λ l. next_after (slots_of l) s) is
      ∙ elim (eqb_tells r.slot s) [
        | inl here ↦
            ap (λ b. if b then first_of more else next_after more s) here.0 ∙ run-first rest depths d deep.1
            ∙ ap (if_deeper depths d) (sym chain.1 ∙ ap next here.1)
        | inr other ↦
            ap (λ b. if b then first_of more else next_after more s) other.0
            ∙ run-next rest next previous depths (Some r.slot) d s chain.2 deep.1
            (omega (arith, there, ap (λ l. times_in (slots_of l) s) is, ap (λ b. if b then times_in more s + 1 else times_in more s) other.0))
      ]
  | inr least ↦
      let is : run d (r ∷ rest) ≡ [] = ap (λ b. if b then r ∷ run d rest else []) (le-ltb d r.depth least) in
      absurd (omega (arith, there, ap (λ l. times_in (slots_of l) s) is))
]

-- the first descendant of a slot, and the next one
pub behind-first : (rows : List Row) (next previous : Links) (depths : ℕ → ℕ) (before : Option ℕ) (root : ℕ) → IsChain next previous before (slots_of rows)
    → AreDeep depths rows → 0 < rows_of rows root → first_of (slots_of (run_behind root rows)) ≡ if_deeper depths (depths root) (next root)
behind-first [] next previous depths before root chain deep there = absurd (omega (arith, there))
behind-first (r ∷ rest) next previous depths before root chain deep there = elim (eqb_tells r.slot root) [
  | inl here ↦
      ap (λ b. first_of (slots_of (if b then run r.depth rest else run_behind root rest))) here.0
      ∙ run-first rest depths r.depth deep.1 ∙ ap (λ d. if_deeper depths d (first_of (slots_of rest))) (sym deep.0 ∙ ap depths here.1)
      ∙ ap (if_deeper depths (depths root)) (sym chain.1 ∙ ap next here.1)
  | inr other ↦
      ap (λ b. first_of (slots_of (if b then run r.depth rest else run_behind root rest))) other.0
      ∙ behind-first rest next previous depths (Some r.slot) root chain.2 deep.1 (omega (arith, there, rows-rest r rest root other.1))
]

pub behind-next : (rows : List Row) (next previous : Links) (depths : ℕ → ℕ) (before : Option ℕ) (root s : ℕ) → IsChain next previous before (slots_of rows)
    → AreDeep depths rows → 0 < times_in (slots_of (run_behind root rows)) s
    → next_after (slots_of (run_behind root rows)) s ≡ if_deeper depths (depths root) (next s)
behind-next [] next previous depths before root s chain deep there = absurd (omega (arith, there))
behind-next (r ∷ rest) next previous depths before root s chain deep there = elim (eqb_tells r.slot root) [
  | inl here ↦
      let is : run_behind root (r ∷ rest) ≡ run r.depth rest = ap (λ b. if b then run r.depth rest else run_behind root rest) here.0 in
      ap (λ l. next_after (slots_of l) s) is
      ∙ run-next rest next previous depths (Some r.slot) r.depth s chain.2 deep.1 (omega (arith, there, ap (λ l. times_in (slots_of l) s) is))
      ∙ ap (λ d. if_deeper depths d (next s)) (sym deep.0 ∙ ap depths here.1)
  | inr other ↦
      let is : run_behind root (r ∷ rest) ≡ run_behind root rest = ap (λ b. if b then run r.depth rest else run_behind root rest) other.0 in
      ap (λ l. next_after (slots_of l) s) is
      ∙ behind-next rest next previous depths (Some r.slot) root s chain.2 deep.1 (omega (arith, there, ap (λ l. times_in (slots_of l) s) is))
]

-- where a slot has no row, nothing descends from it
pub behind-none : (rows : List Row) (root : ℕ) → rows_of rows root ≡ 0 → run_behind root rows ≡ []
behind-none [] root none = refl
behind-none (r ∷ rest) root none = elim (eqb_tells r.slot root) [
  | inl here ↦ absurd (omega (arith, none, ap (λ b. if b then rows_of rest root + 1 else rows_of rest root) here.0))
  | inr other ↦
      ap (λ b. if b then run r.depth rest else run_behind root rest) other.0
      ∙ behind-none rest root (let less : rows_of rest root ≡ 0 = omega (arith, none, rows-rest r rest root other.1) in less)
]

-- ---- back to the parent

-- a path says what a walk back finds
abbrev pub TellsBack : Links → (ℕ → ℕ) → Path → ℕ → ℕ → Option ℕ → Type 0
TellsBack previous depths p bound seen before = (n e : ℕ) → seen ≤ n → e ≤ bound → above p e ≡ back_above previous depths n e before

pub back-none : (previous : Links) (depths : ℕ → ℕ) (n e : ℕ) → back_above previous depths n e None ≡ None
back-none previous depths zero e = refl
back-none previous depths (suc n) e = refl

pub tells-more : (previous : Links) (depths : ℕ → ℕ) (p : Path) (bound seen : ℕ) (before : Option ℕ) (r : Row) → TellsBack previous depths p bound seen before
    → r.depth ≤ bound → depths r.slot ≡ r.depth → previous r.slot ≡ before
    → (n e : ℕ) → seen + 1 ≤ n → e ≤ r.depth + 1 → above (put p r.depth (Some r.slot)) e ≡ back_above previous depths n e (Some r.slot)
tells-more previous depths p bound seen before r tells low deep link zero e size under = absurd (omega (arith, size))
tells-more previous depths p bound seen before r tells low deep link (suc n) e size under =
    let next = put p r.depth (Some r.slot) in
    let on = back_above previous depths n e (previous r.slot) in
    elim (cases_lt (depths r.slot) e) [
      | inl less ↦
          ap (above next) (let is : e ≡ suc r.depth = omega (arith, less, deep, under) in is) ∙ put-here p r.depth r.depth (Some r.slot) refl
          ∙ sym (ap (λ b. if b then Some r.slot else on) (lt-ltb (depths r.slot) e less))
      | inr least ↦
          above-same next p e r.depth (omega (arith, least, deep))
          (λ i below. put-other p r.depth i (Some r.slot) (λ same. absurd (omega (arith, same, below))))
          ∙ tells n e (omega (arith, size)) (omega (arith, least, deep, low)) ∙ ap (back_above previous depths n e) (sym link)
          ∙ sym (ap (λ b. if b then Some r.slot else on) (le-ltb (depths r.slot) e least))
    ]

back-from : (rows : List Row) (next previous : Links) (depths : ℕ → ℕ) (p : Path) (bound seen : ℕ) (before : Option ℕ) (s n : ℕ) → Rises bound rows
    → AreDeep depths rows → IsChain next previous before (slots_of rows) → TellsBack previous depths p bound seen before → 0 < rows_of rows s
    → seen + length rows ≤ n → parent_from p rows s ≡ back_above previous depths n (depths s) (previous s)
back-from [] next previous depths p bound seen before s n rises deep chain tells there few = absurd (omega (arith, there))
back-from (r ∷ rest) next previous depths p bound seen before s n rises deep chain tells there few = elim (eqb_tells r.slot s) [
  | inl here ↦
      from-here p r rest s here.1 ∙ tells n r.depth (omega (arith, few)) rises.0
      ∙ ap (λ e. back_above previous depths n e before) (sym deep.0 ∙ ap depths here.1)
      ∙ ap (back_above previous depths n (depths s)) (sym chain.0 ∙ ap previous here.1)
  | inr other ↦
      from-rest p r rest s other.1
      ∙ back-from rest next previous depths (put p r.depth (Some r.slot)) (r.depth + 1) (seen + 1) (Some r.slot) s n rises.1 deep.1 chain.2
      (tells-more previous depths p bound seen before r tells rises.0 deep.0 chain.0) (omega (arith, there, rows-rest r rest s other.1)) (omega (arith, few))
]

pub parents-back : (rows : List Row) (next previous : Links) (depths : ℕ → ℕ) (s n : ℕ) → Rises 0 rows → AreDeep depths rows
    → IsChain next previous None (slots_of rows) → 0 < rows_of rows s → length rows ≤ n
    → parents_of rows s ≡ back_above previous depths n (depths s) (previous s)
parents-back rows next previous depths s n rises deep chain there few =
    back-from rows next previous depths no_path 0 0 None s n rises deep chain
    (λ m e size under. ap (above no_path) (let is : e ≡ 0 = omega (arith, under) in is) ∙ sym (back-none previous depths m e)) there (omega (arith, few))
