-- The descendants of a slot are the run of rows after its own.
use Rattle.std.proofs.Common.{ℕ, zero, suc, ◌≡◌, ◌≢◌, ◌∙◌, ◌==◌, ◌||◌, ◌+◌, ◌<◌, ◌≤◌, inl, inr, Bool, true, false, if◌then◌else◌, cond, filter, Option, Some}
use Rattle.std.proofs.Common.{None, List, [], ◌∷◌, refl, sym, ap, arith}
use Rattle.std.proofs.lemmas.Bool.Decides.{eqb_tells}
use Rattle.std.proofs.lemmas.Bool.{cases_lt, eq-eqb, ne_eqb, lt-ltb, le-ltb}
use Rattle.std.proofs.Math.Bool.{or-true}
use Rattle.model.specs.Kernel.State.{put}
use Rattle.model.specs.Capabilities.Slots.{descends_within}
use Rattle.model.proofs.Ancestors.{descends-some, descends-zero}
use Rattle.slots.specs.preorder.Preorder.{AreDeep, Path, Rises, Row, above, descends_by, no_path, parent_from, parents_of, rows_of, run, run_behind, slots_of}
use Rattle.slots.proofs.preorder.Paths.{above-same, from-here, from-rest, put-here, put-other, rows-here, rows-rest}
use Rattle.slots.proofs.preorder.RowDepths.{depth-rows}

-- ---- the slots on a path are the ancestors of the row after it

-- the slot on a path at a depth has its own parent there
pub record Stands (parents : ℕ → Option ℕ) (p : Path) (i : ℕ) : Type 0 where
  pub slot : ℕ
  pub is : p i ≡ Some slot
  pub up : parents slot ≡ above p i

-- whether a slot is on a path below a depth
abbrev pub on_path : Path → ℕ → ℕ → Bool
on_path p root zero = false
on_path p root (suc d) = elim (p d) [ Some s ↦ s == root || on_path p root d | None ↦ false ]

pub on-some : (p : Path) (root d s : ℕ) → p d ≡ Some s → on_path p root (suc d) ≡ (s == root || on_path p root d)
on-some p root d s is = ap (λ (o : Option ℕ). elim o [ Some s ↦ s == root || on_path p root d | None ↦ false ]) is

path-ancestors : (parents : ℕ → Option ℕ) (p : Path) (root d s : ℕ) → ((i : ℕ) → i < d → Stands parents p i) → parents s ≡ above p d
    → descends_within d parents root s ≡ on_path p root d
path-ancestors parents p root zero s live up = descends-zero parents root s
path-ancestors parents p root (suc d) s live up =
    let at = live d (omega arith) in
    descends-some d parents root s at.slot (up ∙ at.is)
    ∙ ap (λ b. at.slot == root || b) (path-ancestors parents p root d at.slot (λ i under. live i (omega (arith, under))) at.up)
    ∙ sym (on-some p root d at.slot at.is)

-- a slot that is nowhere on a path below a depth
off-path : (p : Path) (root d : ℕ) → ((i : ℕ) → i < d → p i ≢ Some root) → on_path p root d ≡ false
off-path p root zero apart = refl
off-path p root (suc d) apart =
    elim (p d) as (λ o. p d ≡ o → on_path p root (suc d) ≡ false) [
      | None ↦ λ is. ap (λ (o : Option ℕ). elim o [ Some s ↦ s == root || on_path p root d | None ↦ false ]) is
      | Some s ↦ λ is.
          on-some p root d s is
          ∙ ap (λ b. b || on_path p root d) (ne_eqb s root (λ same. apart d (omega arith) (is ∙ ap Some same)))
          ∙ off-path p root d (λ i under. apart i (omega (arith, under)))
    ] refl

-- and one that is there
at-path : (p : Path) (root k d : ℕ) (parents : ℕ → Option ℕ) → k < d → p k ≡ Some root → ((i : ℕ) → i < d → Stands parents p i) → on_path p root d ≡ true
at-path p root k zero parents less is live = absurd (omega (arith, less))
at-path p root k (suc d) parents less is live = elim (eqb_tells k d) [
  | inl here ↦ on-some p root d root (ap p (sym here.1) ∙ is) ∙ ap (λ b. b || on_path p root d) (eq-eqb root root refl)
  | inr other ↦
      let at = live d (omega arith) in
      on-some p root d at.slot at.is
      ∙ ap (λ b. at.slot == root || b) (at-path p root k d parents (omega (arith, less, other.1)) is (λ i under. live i (omega (arith, under))))
      ∙ or-true (at.slot == root)
]

-- ---- what is known of the rows that are left

pub record IsLeft (all : List Row) (depths : ℕ → ℕ) (bound : ℕ) (p : Path) (rows : List Row) : Type 0 where
  pub rises : Rises bound rows
  pub deep : AreDeep depths rows
  pub once : (s : ℕ) → rows_of rows s ≤ 1
  pub among : (s : ℕ) → 0 < rows_of rows s → 0 < rows_of all s
  pub parents : (s : ℕ) → 0 < rows_of rows s → parents_of all s ≡ parent_from p rows s
  pub live : (i : ℕ) → i < bound → Stands (parents_of all) p i

rest-once : (r : Row) (rest : List Row) (s : ℕ) → rows_of (r ∷ rest) s ≤ 1 → 0 < rows_of rest s → r.slot ≢ s
rest-once r rest s once there same = absurd (omega (arith, once, there, rows-here r rest s same))

rest-more : (r : Row) (rest : List Row) (s : ℕ) → rows_of rest s ≤ rows_of (r ∷ rest) s
rest-more r rest s = elim (eqb_tells r.slot s) [ inl here ↦ omega (arith, rows-here r rest s here.1) | inr other ↦ omega (arith, rows-rest r rest s other.1) ]

own-up : (all : List Row) (depths : ℕ → ℕ) (bound : ℕ) (p : Path) (r : Row) (rest : List Row) → IsLeft all depths bound p (r ∷ rest)
    → parents_of all r.slot ≡ above p r.depth
own-up all depths bound p r rest left =
    left.parents r.slot (omega (arith, rows-here r rest r.slot refl)) ∙ from-here p r rest r.slot refl

pub rest-left : (all : List Row) (depths : ℕ → ℕ) (bound : ℕ) (p : Path) (r : Row) (rest : List Row) → IsLeft all depths bound p (r ∷ rest)
    → IsLeft all depths (r.depth + 1) (put p r.depth (Some r.slot)) rest
rest-left all depths bound p r rest left =
    let next = put p r.depth (Some r.slot) in
    let same : (d : ℕ) → d ≤ r.depth → above p d ≡ above next d =
    λ d less. above-same p next d r.depth less (λ i under. sym (put-other p r.depth i (Some r.slot) (λ here. absurd (omega (arith, here, under))))) in
    record {
      rises = left.rises.1;
      deep = left.deep.1;
      once = λ s. omega (arith, left.once s, rest-more r rest s);
      among = λ s there. left.among s (omega (arith, there, rest-more r rest s));
      parents = λ s there.
          left.parents s (omega (arith, there, rest-more r rest s)) ∙ from-rest p r rest s (rest-once r rest s (left.once s) there);
      live = λ i under. elim (eqb_tells i r.depth) [
        | inl here ↦ record {
          slot = r.slot;
          is = put-here p r.depth i (Some r.slot) here.1;
          up = own-up all depths bound p r rest left ∙ same r.depth (omega arith) ∙ ap (above next) (sym here.1);
        }
        | inr other ↦
            let up = left.live i (omega (arith, under, other.1, left.rises.0)) in
            record {
              slot = up.slot;
              is = put-other p r.depth i (Some r.slot) other.1 ∙ up.is;
              up = up.up ∙ same i (omega (arith, under, other.1));
            }
      ];
    }

-- what the test says of the first of them
pub own-test : (all : List Row) (depths : ℕ → ℕ) (bound : ℕ) (p : Path) (r : Row) (rest : List Row) (root : ℕ) → Rises 0 all → AreDeep depths all
    → ((s : ℕ) → 0 < rows_of all s → depths s ≤ 256) → IsLeft all depths bound p (r ∷ rest)
    → descends_by (parents_of all) root r.slot ≡ on_path p root r.depth
own-test all depths bound p r rest root rises deep shallow left =
    let there : 0 < rows_of all r.slot = left.among r.slot (omega (arith, rows-here r rest r.slot refl)) in
    ap (λ n. descends_within n (parents_of all) root r.slot) (depth-rows 256 all depths r.slot rises deep there (shallow r.slot there) ∙ left.deep.0)
    ∙ path-ancestors (parents_of all) p root r.depth r.slot (λ i under. left.live i (omega (arith, under, left.rises.0)))
    (own-up all depths bound p r rest left)

off-put : (p : Path) (r : Row) (root i : ℕ) → r.slot ≢ root → (i ≢ r.depth → p i ≢ Some root) → put p r.depth (Some r.slot) i ≢ Some root
off-put p r root i off others same = elim (eqb_tells i r.depth) [
  | inl here ↦ off (let clash : Some r.slot ≡ Some root = sym (put-here p r.depth i (Some r.slot) here.1) ∙ same in let e : r.slot ≡ root = cc in e)
  | inr other ↦ others other.1 (sym (put-other p r.depth i (Some r.slot) other.1) ∙ same)
]

run-more : (d : ℕ) (r : Row) (rest : List Row) → d < r.depth → run d (r ∷ rest) ≡ r ∷ run d rest
run-more d r rest deep = ap (λ b. if b then r ∷ run d rest else []) (lt-ltb d r.depth deep)

run-end : (d : ℕ) (r : Row) (rest : List Row) → r.depth ≤ d → run d (r ∷ rest) ≡ []
run-end d r rest end = ap (λ b. if b then r ∷ run d rest else []) (le-ltb d r.depth end)

-- ---- the descendants

module _ (all : List Row) (depths : ℕ → ℕ) (root : ℕ) (rises : Rises 0 all) (deep : AreDeep depths all)
    (shallow : (s : ℕ) → 0 < rows_of all s → depths s ≤ 256) where
  abbrev found : List Row → List ℕ
  found rows = filter (descends_by (parents_of all) root) (slots_of rows)

  skip : (r : Row) (rest : List Row) → descends_by (parents_of all) root r.slot ≡ false → found (r ∷ rest) ≡ found rest
  skip r rest is = ap (λ b. cond b (r.slot ∷ found rest) (found rest)) is

  take : (r : Row) (rest : List Row) → descends_by (parents_of all) root r.slot ≡ true → found (r ∷ rest) ≡ r.slot ∷ found rest
  take r rest is = ap (λ b. cond b (r.slot ∷ found rest) (found rest)) is

  -- a row that the root is not above
  passed : (r : Row) (rest : List Row) (bound : ℕ) (p : Path) → IsLeft all depths bound p (r ∷ rest) → ((i : ℕ) → i < r.depth → p i ≢ Some root)
      → found (r ∷ rest) ≡ found rest
  passed r rest bound p left apart = skip r rest (own-test all depths bound p r rest root rises deep shallow left ∙ off-path p root r.depth apart)

  -- after the run there are none
  none-left : (rows : List Row) (bound : ℕ) (p : Path) → IsLeft all depths bound p rows → rows_of rows root ≡ 0
      → ((i : ℕ) → i < bound → p i ≢ Some root) → found rows ≡ []
  none-left [] bound p left none apart = refl
  none-left (r ∷ rest) bound p left none apart =
      let off : r.slot ≢ root = λ same. absurd (omega (arith, none, rows-here r rest root same)) in
      passed r rest bound p left (λ i under. apart i (omega (arith, under, left.rises.0)))
      ∙ none-left rest (r.depth + 1) (put p r.depth (Some r.slot)) (rest-left all depths bound p r rest left) (omega (arith, none, rest-more r rest root))
      (λ i under. off-put p r root i off (λ other. apart i (omega (arith, under, other, left.rises.0))))

  -- in it they are all
  run-left : (rows : List Row) (bound k : ℕ) (p : Path) → IsLeft all depths bound p rows → rows_of rows root ≡ 0 → p k ≡ Some root
      → ((i : ℕ) → i ≢ k → i < bound → p i ≢ Some root) → found rows ≡ slots_of (run k rows)
  run-left [] bound k p left none at apart = refl
  run-left (r ∷ rest) bound k p left none at apart =
      let off : r.slot ≢ root = λ same. absurd (omega (arith, none, rows-here r rest root same)) in
      let next = put p r.depth (Some r.slot) in
      let more = rest-left all depths bound p r rest left in
      let none' : rows_of rest root ≡ 0 = omega (arith, none, rest-more r rest root) in
      elim (cases_lt k r.depth) [
        | inl run ↦
            take r rest (own-test all depths bound p r rest root rises deep shallow left
            ∙ at-path p root k r.depth (parents_of all) run at (λ i under. left.live i (omega (arith, under, left.rises.0))))
            ∙ ap (λ l. r.slot ∷ l) (run-left rest (r.depth + 1) k next more none'
            (put-other p r.depth k (Some r.slot) (λ same. absurd (omega (arith, same, run))) ∙ at)
            (λ i other under. off-put p r root i off (λ beside. apart i other (omega (arith, under, beside, left.rises.0)))))
            ∙ sym (ap slots_of (run-more k r rest run))
        | inr end ↦
            passed r rest bound p left (λ i under. apart i (λ same. absurd (omega (arith, same, under, end))) (omega (arith, under, left.rises.0)))
            ∙ none-left rest (r.depth + 1) next more none'
            (λ i under. off-put p r root i off
            (λ other. apart i (λ same. absurd (omega (arith, same, under, other, end))) (omega (arith, under, other, left.rises.0))))
            ∙ sym (ap slots_of (run-end k r rest end))
      ]

  -- and before it there are none
  before-left : (rows : List Row) (bound : ℕ) (p : Path) → IsLeft all depths bound p rows → ((i : ℕ) → i < bound → p i ≢ Some root)
      → found rows ≡ slots_of (run_behind root rows)
  before-left [] bound p left apart = refl
  before-left (r ∷ rest) bound p left apart =
      let next = put p r.depth (Some r.slot) in
      let more = rest-left all depths bound p r rest left in
      passed r rest bound p left (λ i under. apart i (omega (arith, under, left.rises.0)))
      ∙ elim (eqb_tells r.slot root) [
        | inl here ↦
            run-left rest (r.depth + 1) r.depth next more (let none : rows_of rest root ≡ 0 = omega (arith, left.once root, rows-here r rest root here.1) in
            none)
            (put-here p r.depth r.depth (Some r.slot) refl ∙ ap Some here.1)
            (λ i other under same. apart i (omega (arith, under, other, left.rises.0)) (sym (put-other p r.depth i (Some r.slot) other) ∙ same))
            ∙ sym (ap slots_of (ap (λ b. if b then run r.depth rest else run_behind root rest) here.0))
        | inr other ↦
            before-left rest (r.depth + 1) next more (λ i under. off-put p r root i other.1 (λ beside. apart i (omega (arith, under, beside, left.rises.0))))
            ∙ sym (ap slots_of (ap (λ b. if b then run r.depth rest else run_behind root rest) other.0))
      ]

pub descendants-run : (rows : List Row) (depths : ℕ → ℕ) (root : ℕ) → Rises 0 rows → AreDeep depths rows → ((s : ℕ) → rows_of rows s ≤ 1)
    → ((s : ℕ) → 0 < rows_of rows s → depths s ≤ 256) → filter (descends_by (parents_of rows) root) (slots_of rows) ≡ slots_of (run_behind root rows)
descendants-run rows depths root rises deep once shallow =
    before-left rows depths root rises deep shallow rows 0 no_path
    (record { rises = rises; deep = deep; once = once; among = λ s there. there; parents = λ s there. refl; live = λ i under. absurd (omega (arith, under)) })
    (λ i under. absurd (omega (arith, under)))
