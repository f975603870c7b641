-- Whether a slot descends from another, by a walk back to the other's depth.
use Rattle.std.proofs.Common.{ℕ, zero, suc, ◌≡◌, ◌≢◌, ◌∙◌, ◌==◌, ◌&&◌, ◌||◌, ◌+◌, ◌<◌, ◌≤◌, nat_lt, inl, inr, Bool, false, Option, Some, None, List, [], ◌∷◌}
use Rattle.std.proofs.Common.{length, refl, sym, ap, arith}
use Rattle.std.specs.Option.{option_map_or}
use Rattle.std.proofs.lemmas.Bool.Decides.{eqb_tells}
use Rattle.std.proofs.lemmas.Bool.{cases_lt, ne_eqb, lt-ltb, le-ltb}
use Rattle.std.proofs.Math.Bool.{or-false}
use Rattle.model.specs.Kernel.State.{put}
use Rattle.slots.specs.preorder.Chains.{IsChain, Links, back_above}
use Rattle.slots.specs.preorder.Preorder.{AreDeep, Path, Rises, Row, above, descends_by, no_path, parents_of, rows_of, slots_of}
use Rattle.slots.proofs.preorder.Descents.{IsLeft, Stands, on-some, on_path, own-test, rest-left}
use Rattle.slots.proofs.preorder.Paths.{put-here, put-other, rows-rest}
use Rattle.slots.proofs.preorder.Walking.{TellsBack, back-none, tells-more}

-- a slot that is, if there is one
abbrev pub is_one : ℕ → Option ℕ → Bool
is_one root o = option_map_or (λ s. s == root) o false

lt-step : (k d : ℕ) → k ≢ d → nat_lt k (suc d) ≡ nat_lt k d
lt-step k d apart = elim (cases_lt k d) [
  | inl less ↦ lt-ltb k (suc d) (omega (arith, less)) ∙ sym (lt-ltb k d less)
  | inr least ↦ le-ltb k (suc d) (omega (arith, least, apart)) ∙ sym (le-ltb k d least)
]

-- a slot is on a path at its own depth
on-depth : (parents : ℕ → Option ℕ) (depths : ℕ → ℕ) (p : Path) (root d : ℕ) → ((i : ℕ) → i < d → Stands parents p i)
    → ((i x : ℕ) → i < d → p i ≡ Some x → depths x ≡ i) → on_path p root d ≡ (nat_lt (depths root) d && is_one root (p (depths root)))
on-depth parents depths p root zero live levels = sym (ap (λ b. b && is_one root (p (depths root))) (le-ltb (depths root) 0 (omega arith)))
on-depth parents depths p root (suc d) live levels =
    let k = depths root in
    let at = live d (omega arith) in
    let more = on-depth parents depths p root d (λ i under. live i (omega (arith, under))) (λ i x under. levels i x (omega (arith, under))) in
    on-some p root d at.slot at.is
    ∙ elim (eqb_tells k d) [
      | inl here ↦
          ap (λ b. at.slot == root || b) (more ∙ ap (λ b. b && is_one root (p k)) (le-ltb k d (omega (arith, here.1)))) ∙ or-false (at.slot == root)
          ∙ sym (ap (is_one root) (ap p here.1 ∙ at.is))
          ∙ sym (ap (λ b. b && is_one root (p k)) (lt-ltb k (suc d) (omega (arith, here.1))))
      | inr other ↦
          ap (λ b. b || on_path p root d) (ne_eqb at.slot root (λ same. other.1 (ap depths (sym same) ∙ levels d at.slot (omega arith) at.is)))
          ∙ more ∙ sym (ap (λ b. b && is_one root (p k)) (lt-step k d other.1))
    ]

test-from : (all rows : List Row) (next previous : Links) (depths : ℕ → ℕ) (p : Path) (bound seen : ℕ) (before : Option ℕ) (root s n : ℕ)
    → Rises 0 all → AreDeep depths all → ((x : ℕ) → 0 < rows_of all x → depths x ≤ 256) → IsLeft all depths bound p rows
    → IsChain next previous before (slots_of rows) → TellsBack previous depths p bound seen before → ((i x : ℕ) → i < bound → p i ≡ Some x → depths x ≡ i)
    → 0 < rows_of rows s → seen + length rows ≤ n
    → descends_by (parents_of all) root s ≡ (nat_lt (depths root) (depths s) && is_one root (back_above previous depths n (depths root + 1) (previous s)))
test-from all [] next previous depths p bound seen before root s n rises deep shallow left chain tells levels there few = absurd (omega (arith, there))
test-from all (r ∷ rest) next previous depths p bound seen before root s n rises deep shallow left chain tells levels there few = elim (eqb_tells r.slot s) [
  | inl here ↦
      let k = depths root in
      ap (descends_by (parents_of all) root) (sym here.1)
      ∙ own-test all depths bound p r rest root rises deep shallow left
      ∙ on-depth (parents_of all) depths p root r.depth (λ i under. left.live i (omega (arith, under, left.rises.0)))
      (λ i x under. levels i x (omega (arith, under, left.rises.0)))
      ∙ ap (λ d. nat_lt k d && is_one root (p k)) (sym left.deep.0 ∙ ap depths here.1)
      ∙ elim (cases_lt k (depths s)) [
        | inl less ↦
            ap (λ o. nat_lt k (depths s) && is_one root o)
            (ap (above p) (let is : suc k ≡ k + 1 = omega arith in is)
            ∙ tells n (k + 1) (omega (arith, few)) (omega (arith, less, left.rises.0, left.deep.0, ap depths here.1))
            ∙ ap (back_above previous depths n (k + 1)) (sym chain.0 ∙ ap previous here.1))
        | inr least ↦
            ap (λ b. b && is_one root (p k)) (le-ltb k (depths s) least)
            ∙ sym (ap (λ b. b && is_one root (back_above previous depths n (k + 1) (previous s))) (le-ltb k (depths s) least))
      ]
  | inr other ↦
      test-from all rest next previous depths (put p r.depth (Some r.slot)) (r.depth + 1) (seen + 1) (Some r.slot) root s n rises deep shallow
      (rest-left all depths bound p r rest left) chain.2 (tells-more previous depths p bound seen before r tells left.rises.0 left.deep.0 chain.0)
      (λ i x under is. elim (eqb_tells i r.depth) [
        | inl at ↦ (let e : Some r.slot ≡ Some x = sym (put-here p r.depth i (Some r.slot) at.1) ∙ is in let f : r.slot ≡ x = cc in ap depths (sym f)
            ∙ left.deep.0 ∙ sym at.1)
        | inr off ↦ levels i x (omega (arith, under, off.1, left.rises.0)) (sym (put-other p r.depth i (Some r.slot) off.1) ∙ is)
      ])
      (omega (arith, there, rows-rest r rest s other.1)) (omega (arith, few))
]

pub descends-back : (rows : List Row) (next previous : Links) (depths : ℕ → ℕ) (root s n : ℕ) → Rises 0 rows → AreDeep depths rows
    → ((x : ℕ) → rows_of rows x ≤ 1) → ((x : ℕ) → 0 < rows_of rows x → depths x ≤ 256) → IsChain next previous None (slots_of rows) → 0 < rows_of rows s →
    length rows ≤ n
    → descends_by (parents_of rows) root s ≡ (nat_lt (depths root) (depths s) && is_one root (back_above previous depths n (depths root + 1) (previous s)))
descends-back rows next previous depths root s n rises deep once shallow chain there few =
    test-from rows rows next previous depths no_path 0 0 None root s n rises deep shallow
    (record { rises = rises; deep = deep; once = once; among = λ x is. is; parents = λ x is. refl; live = λ i under. absurd (omega (arith, under)) })
    chain (λ m e size under. ap (above no_path) (let is : e ≡ 0 = omega (arith, under) in is) ∙ sym (back-none previous depths m e))
    (λ i x under is. absurd (omega (arith, under))) there (omega (arith, few))
