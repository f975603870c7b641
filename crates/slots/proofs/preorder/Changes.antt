-- What changes of the rows leave of their slots, of how they rise, and of parents.
use Rattle.std.proofs.Common.{ℕ, zero, suc, ◌≡◌, ◌≢◌, ◌∙◌, ◌==◌, ◌+◌, ◌-◌, ◌<◌, ◌≤◌, nat_lt, not, inl, inr, true, false, if◌then◌else◌, cond, Some, None, List}
use Rattle.std.proofs.Common.{[], ◌∷◌, refl, sym, ap, subst, arith}
use Rattle.std.proofs.lemmas.Bool.Decides.{eqb_tells}
use Rattle.std.proofs.lemmas.Bool.{cases_lt, eq-eqb, ne_eqb}
use Rattle.model.specs.Kernel.State.{put}
use Rattle.model.specs.Shared.Lists.{times_in, without}
use Rattle.model.proofs.Depths.{adopted_parent}
use Rattle.model.proofs.Orders.{without-absent}
use Rattle.slots.specs.preorder.Chains.{put_after}
use Rattle.slots.specs.preorder.Preorder.{Path, Rises, Row, above, lowered, no_path, parent_from, parents_of, put_behind, renamed, renamed_slot, rows_of}
use Rattle.slots.specs.preorder.Preorder.{slots_of, taken_out}
use Rattle.slots.proofs.preorder.Paths.{from-here, from-rest, put-here, put-other, rows-here, rows-rest, same-paths}
use Rattle.slots.proofs.preorder.Splices.{lowered-end, lowered-run, taken-here, taken-rest}

-- ---- the slots, in their order

pub slots-put_behind : (rows : List Row) (parent slot : ℕ) → slots_of (put_behind parent slot rows) ≡ put_after parent slot (slots_of rows)
slots-put_behind [] parent slot = refl
slots-put_behind (r ∷ rest) parent slot =
    let more = slots-put_behind rest parent slot in
    elim (r.slot == parent) as (λ b. slots_of (if b then r ∷ (record { slot = slot; depth = r.depth + 1 }) ∷ rest else r ∷ put_behind parent slot rest)
    ≡ (if b then r.slot ∷ slot ∷ slots_of rest else r.slot ∷ put_after parent slot (slots_of rest))) [
      | true ↦ refl
      | false ↦ ap (λ l. r.slot ∷ l) more
    ]

pub slots-lowered : (rows : List Row) (d : ℕ) → slots_of (lowered d rows) ≡ slots_of rows
slots-lowered [] d = refl
slots-lowered (r ∷ rest) d =
    elim (nat_lt d r.depth) as (λ b. slots_of (if b then (record { slot = r.slot; depth = r.depth - 1 }) ∷ lowered d rest else r ∷ rest) ≡ r.slot ∷ slots_of
    rest) [
      | true ↦ ap (λ l. r.slot ∷ l) (slots-lowered rest d)
      | false ↦ refl
    ]

pub slots-taken_out : (rows : List Row) (gone : ℕ) → rows_of rows gone ≤ 1 → slots_of (taken_out gone rows) ≡ without gone (slots_of rows)
slots-taken_out [] gone once = refl
slots-taken_out (r ∷ rest) gone once =
    let few = without gone (slots_of rest) in
    elim (eqb_tells r.slot gone) [
      | inl here ↦
          ap slots_of (taken-here gone r rest here.1) ∙ slots-lowered rest r.depth
          ∙ sym (without-absent gone (slots_of rest) (let none : rows_of rest gone ≡ 0 = omega (arith, once, rows-here r rest gone here.1) in none))
          ∙ sym (ap (λ b. cond (not b) (r.slot ∷ few) few) here.0)
      | inr other ↦
          ap slots_of (taken-rest gone r rest other.1)
          ∙ ap (λ l. r.slot ∷ l) (slots-taken_out rest gone (omega (arith, once, rows-rest r rest gone other.1)))
          ∙ sym (ap (λ b. cond (not b) (r.slot ∷ few) few) other.0)
    ]

-- a slot right after another occurs once more, if the other occurs there
pub times-put_after : (xs : List ℕ) (before slot s : ℕ) → s ≢ slot → times_in (put_after before slot xs) s ≡ times_in xs s
times-put_after [] before slot s apart = refl
times-put_after (x ∷ rest) before slot s apart =
    let beside : times_in (slot ∷ rest) s ≡ times_in rest s =
    ap (λ b. if b then times_in rest s + 1 else times_in rest s) (ne_eqb slot s (λ same. apart (sym same))) in
    elim (x == before) as (λ b. times_in (if b then x ∷ slot ∷ rest else x ∷ put_after before slot rest) s ≡ times_in (x ∷ rest) s) [
      | true ↦ ap (λ n. if x == s then n + 1 else n) beside
      | false ↦ ap (λ n. if x == s then n + 1 else n) (times-put_after rest before slot s apart)
    ]

pub times-put_after_own : (xs : List ℕ) (before slot : ℕ) → 0 < times_in xs before → times_in (put_after before slot xs) slot ≡ times_in xs slot + 1
times-put_after_own [] before slot there = absurd (omega (arith, there))
times-put_after_own (x ∷ rest) before slot there =
    let own : times_in (slot ∷ rest) slot ≡ times_in rest slot + 1 =
    ap (λ b. if b then times_in rest slot + 1 else times_in rest slot) (eq-eqb slot slot refl) in
    let more : (n : ℕ) → n ≡ times_in rest slot + 1 → (if x == slot then n + 1 else n) ≡ (if x == slot then times_in rest slot + 1 else times_in rest slot)
    + 1 =
    λ n is. elim (x == slot) as (λ b. (if b then n + 1 else n) ≡ (if b then times_in rest slot + 1 else times_in rest slot) + 1)
    [ true ↦ ap (λ m. m + 1) is | false ↦ is ] in
    elim (eqb_tells x before) [
      | inl here ↦
          ap (λ b. times_in (if b then x ∷ slot ∷ rest else x ∷ put_after before slot rest) slot) here.0 ∙ more (times_in (slot ∷ rest) slot) own
      | inr other ↦
          ap (λ b. times_in (if b then x ∷ slot ∷ rest else x ∷ put_after before slot rest) slot) other.0
          ∙ more (times_in (put_after before slot rest) slot)
          (times-put_after_own rest before slot (omega (arith, there, ap (λ b. if b then times_in rest before + 1 else times_in rest before) other.0)))
    ]

-- ---- how they rise

pub rises-more : (rows : List Row) (low high : ℕ) → low ≤ high → Rises low rows → Rises high rows
rises-more [] low high le rises = rises
rises-more (r ∷ rest) low high le rises = (omega (arith, rises.0, le), rises.1)

pub rises-put_behind : (rows : List Row) (bound parent slot : ℕ) → Rises bound rows → Rises bound (put_behind parent slot rows)
rises-put_behind [] bound parent slot rises = rises
rises-put_behind (r ∷ rest) bound parent slot rises =
    elim (r.slot == parent) as (λ b. Rises bound (if b then r ∷ (record { slot = slot; depth = r.depth + 1 }) ∷ rest else r ∷ put_behind parent slot rest)) [
      | true ↦ (rises.0, (omega arith, rises-more rest (r.depth + 1) (r.depth + 1 + 1) (omega arith) rises.1))
      | false ↦ (rises.0, rises-put_behind rest (r.depth + 1) parent slot rises.1)
    ]

pub rises-first : (rows : List Row) (slot : ℕ) → Rises 0 rows → Rises 0 ((record { slot = slot; depth = 0 }) ∷ rows)
rises-first rows slot rises = (omega arith, rises-more rows 0 (0 + 1) (omega arith) rises)

pub rises-lowered : (rows : List Row) (d bound most : ℕ) → d ≤ bound → most ≤ bound + 1 → Rises most rows → Rises bound (lowered d rows)
rises-lowered [] d bound most le near rises = rises
rises-lowered (r ∷ rest) d bound most le near rises =
    elim (cases_lt d r.depth) [
      | inl deep ↦
          subst (Rises bound) (sym (lowered-run d r rest deep))
          (omega (arith, rises.0, near, deep), rises-lowered rest d (r.depth - 1 + 1) (r.depth + 1) (omega (arith, deep)) (omega (arith, deep)) rises.1)
      | inr end ↦ subst (Rises bound) (sym (lowered-end d r rest end)) (omega (arith, end, le), rises.1)
    ]

pub rises-taken_out : (rows : List Row) (bound gone : ℕ) → Rises bound rows → Rises bound (taken_out gone rows)
rises-taken_out [] bound gone rises = rises
rises-taken_out (r ∷ rest) bound gone rises =
    elim (r.slot == gone) as (λ b. Rises bound (if b then lowered r.depth rest else r ∷ taken_out gone rest)) [
      | true ↦ rises-lowered rest r.depth bound (r.depth + 1) rises.0 (omega (arith, rises.0)) rises.1
      | false ↦ (rises.0, rises-taken_out rest (r.depth + 1) gone rises.1)
    ]

pub rises-renamed : (rows : List Row) (bound from to : ℕ) → Rises bound rows → Rises bound (renamed from to rows)
rises-renamed [] bound from to rises = rises
rises-renamed (r ∷ rest) bound from to rises = (rises.0, rises-renamed rest (r.depth + 1) from to rises.1)

-- ---- parents

-- a slot without a row has none
pub none-without : (rows : List Row) (p : Path) (s : ℕ) → rows_of rows s ≡ 0 → parent_from p rows s ≡ None
none-without [] p s none = refl
none-without (r ∷ rest) p s none =
    let apart : r.slot ≢ s = λ same. absurd (omega (arith, none, rows-here r rest s same)) in
    from-rest p r rest s apart ∙ none-without rest (put p r.depth (Some r.slot)) s
    (let less : rows_of rest s ≡ 0 = omega (arith, none, rows-rest r rest s apart) in less)

-- a new row in front, at depth 0
pub first-own : (rows : List Row) (slot : ℕ) → parents_of ((record { slot = slot; depth = 0 }) ∷ rows) slot ≡ None
first-own rows slot = from-here no_path (record { slot = slot; depth = 0 }) rows slot refl

pub first-others : (rows : List Row) (slot s : ℕ) → Rises 0 rows → s ≢ slot
    → parents_of ((record { slot = slot; depth = 0 }) ∷ rows) s ≡ parents_of rows s
first-others rows slot s rises apart =
    from-rest no_path (record { slot = slot; depth = 0 }) rows s (λ same. apart (sym same))
    ∙ same-paths rows 0 0 (put no_path 0 (Some slot)) no_path s (omega arith) (λ i under. absurd (omega (arith, under))) rises

-- renamed rows
pub renamed-here : (from to s : ℕ) → s ≡ from → renamed_slot from to s ≡ to
renamed-here from to s here = ap (λ b. if b then to else s) (eq-eqb s from here)

pub renamed-other : (from to s : ℕ) → s ≢ from → renamed_slot from to s ≡ s
renamed-other from to s other = ap (λ b. if b then to else s) (ne_eqb s from other)

pub adopted-renamed : (from to s : ℕ) → adopted_parent from (Some to) (Some s) ≡ Some (renamed_slot from to s)
adopted-renamed from to s = elim (s == from) as (λ b. (if b then Some to else Some s) ≡ Some (if b then to else s)) [ true ↦ refl | false ↦ refl ]

renamed-same : (from to r s : ℕ) → r ≢ to → s ≢ to → renamed_slot from to r ≡ renamed_slot from to s → r ≡ s
renamed-same from to r s beside apart same = elim (eqb_tells r from) [
  | inl here ↦ elim (eqb_tells s from) [
    | inl there ↦ here.1 ∙ sym there.1
    | inr other ↦ absurd (apart (sym (renamed-other from to s other.1) ∙ sym same ∙ renamed-here from to r here.1))
  ]
  | inr off ↦ elim (eqb_tells s from) [
    | inl there ↦ absurd (beside (sym (renamed-other from to r off.1) ∙ same ∙ renamed-here from to s there.1))
    | inr other ↦ sym (renamed-other from to r off.1) ∙ same ∙ renamed-other from to s other.1
  ]
]

pub renamed-parents : (rows : List Row) (p q : Path) (from to s : ℕ) → rows_of rows to ≡ 0 → s ≢ to
    → ((i : ℕ) → q i ≡ adopted_parent from (Some to) (p i))
    → parent_from q (renamed from to rows) (renamed_slot from to s) ≡ adopted_parent from (Some to) (parent_from p rows s)
renamed-parents [] p q from to s none apart paths = refl
renamed-parents (r ∷ rest) p q from to s none apart paths =
    let beside : r.slot ≢ to = λ same. absurd (omega (arith, none, rows-here r rest to same)) in
    let row : Row = record { slot = renamed_slot from to r.slot; depth = r.depth } in
    elim (eqb_tells r.slot s) [
      | inl here ↦
          from-here q row (renamed from to rest) (renamed_slot from to s) (ap (renamed_slot from to) here.1)
          ∙ above-renamed p q r.depth paths
          ∙ ap (adopted_parent from (Some to)) (sym (from-here p r rest s here.1))
      | inr other ↦
          from-rest q row (renamed from to rest) (renamed_slot from to s) (λ same. other.1 (renamed-same from to r.slot s beside apart same))
          ∙ renamed-parents rest (put p r.depth (Some r.slot)) (put q r.depth (Some row.slot)) from to s
          (let less : rows_of rest to ≡ 0 = omega (arith, none, rows-rest r rest to beside) in less) apart
          (λ i. elim (eqb_tells i r.depth) [
            | inl at ↦ put-here q r.depth i (Some row.slot) at.1 ∙ sym (adopted-renamed from to r.slot)
                ∙ ap (adopted_parent from (Some to)) (sym (put-here p r.depth i (Some r.slot) at.1))
            | inr off ↦ put-other q r.depth i (Some row.slot) off.1 ∙ paths i
                ∙ ap (adopted_parent from (Some to)) (sym (put-other p r.depth i (Some r.slot) off.1))
          ])
          ∙ ap (adopted_parent from (Some to)) (sym (from-rest p r rest s other.1))
    ]
  where
    above-renamed : (p q : Path) (d : ℕ) → ((i : ℕ) → q i ≡ adopted_parent from (Some to) (p i)) → above q d ≡ adopted_parent from (Some to) (above p d)
    above-renamed p q zero paths = refl
    above-renamed p q (suc d) paths = paths d

-- renaming is putting the new slot after the old one, and taking that out
renamed-absent : (rows : List Row) (from to : ℕ) → rows_of rows from ≡ 0 → slots_of (renamed from to rows) ≡ slots_of rows
renamed-absent [] from to none = refl
renamed-absent (r ∷ rest) from to none =
    let apart : r.slot ≢ from = λ same. absurd (omega (arith, none, rows-here r rest from same)) in
    ap (λ s. s ∷ slots_of (renamed from to rest)) (renamed-other from to r.slot apart)
    ∙ ap (λ l. r.slot ∷ l) (renamed-absent rest from to (let less : rows_of rest from ≡ 0 = omega (arith, none, rows-rest r rest from apart) in less))

pub slots-renamed : (rows : List Row) (from to : ℕ) → rows_of rows from ≤ 1 → from ≢ to →
    slots_of (renamed from to rows) ≡ without from (put_after from to (slots_of rows))
slots-renamed [] from to once apart = refl
slots-renamed (r ∷ rest) from to once apart = elim (eqb_tells r.slot from) [
  | inl here ↦
      let none : rows_of rest from ≡ 0 = omega (arith, once, rows-here r rest from here.1) in
      let few = without from (slots_of rest) in
      ap (λ s. s ∷ slots_of (renamed from to rest)) (renamed-here from to r.slot here.1)
      ∙ ap (λ l. to ∷ l) (renamed-absent rest from to none ∙ sym (without-absent from (slots_of rest) none))
      ∙ sym (ap (λ b. cond (not b) (to ∷ few) few) (ne_eqb to from (λ same. apart (sym same))))
      ∙ sym (ap (λ b. cond (not b) (r.slot ∷ without from (to ∷ slots_of rest)) (without from (to ∷ slots_of rest))) here.0)
      ∙ sym (ap (λ b. without from (if b then r.slot ∷ to ∷ slots_of rest else r.slot ∷ put_after from to (slots_of rest))) here.0)
  | inr other ↦
      let few = without from (put_after from to (slots_of rest)) in
      ap (λ s. s ∷ slots_of (renamed from to rest)) (renamed-other from to r.slot other.1)
      ∙ ap (λ l. r.slot ∷ l) (slots-renamed rest from to (omega (arith, once, rows-rest r rest from other.1)) apart)
      ∙ sym (ap (λ b. cond (not b) (r.slot ∷ few) few) other.0)
      ∙ sym (ap (λ b. without from (if b then r.slot ∷ to ∷ slots_of rest else r.slot ∷ put_after from to (slots_of rest))) other.0)
]
