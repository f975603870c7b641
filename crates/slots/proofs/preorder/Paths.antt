-- What insertions and removals of rows do to parents.
use Rattle.std.proofs.Common.{ℕ, zero, suc, ◌≡◌, ◌≢◌, ◌∙◌, ◌+◌, ◌<◌, ◌≤◌, inl, inr, if◌then◌else◌, Option, Some, List, [], ◌∷◌, refl, sym, ap, arith}
use Rattle.std.proofs.lemmas.Bool.Decides.{eqb_tells}
use Rattle.std.proofs.lemmas.Bool.{cases_lt, eq-eqb, ne_eqb}
use Rattle.model.specs.Kernel.State.{put}
use Rattle.slots.specs.preorder.Preorder.{Path, Rises, Row, above, parent_from, put_behind, rows_of}

-- ---- one row

pub from-here : (path : Path) (r : Row) (rest : List Row) (s : ℕ) → r.slot ≡ s → parent_from path (r ∷ rest) s ≡ above path r.depth
from-here path r rest s here = ap (λ b. if b then above path r.depth else parent_from (put path r.depth (Some r.slot)) rest s) (eq-eqb r.slot s here)

pub from-rest : (path : Path) (r : Row) (rest : List Row) (s : ℕ) → r.slot ≢ s →
    parent_from path (r ∷ rest) s ≡ parent_from (put path r.depth (Some r.slot)) rest s
from-rest path r rest s other = ap (λ b. if b then above path r.depth else parent_from (put path r.depth (Some r.slot)) rest s) (ne_eqb r.slot s other)

pub put-here : (p : Path) (d i : ℕ) (x : Option ℕ) → i ≡ d → put p d x i ≡ x
put-here p d i x here = ap (λ b. if b then x else p i) (eq-eqb i d here)

pub put-other : (p : Path) (d i : ℕ) (x : Option ℕ) → i ≢ d → put p d x i ≡ p i
put-other p d i x other = ap (λ b. if b then x else p i) (ne_eqb i d other)

put-same : (p q : Path) (d : ℕ) (x : Option ℕ) (i : ℕ) → (i ≢ d → p i ≡ q i) → put p d x i ≡ put q d x i
put-same p q d x i same = elim (eqb_tells i d) [
  | inl here ↦ put-here p d i x here.1 ∙ sym (put-here q d i x here.1)
  | inr other ↦ put-other p d i x other.1 ∙ same other.1 ∙ sym (put-other q d i x other.1)
]

pub above-same : (p q : Path) (d k : ℕ) → d ≤ k → ((i : ℕ) → i < k → p i ≡ q i) → above p d ≡ above q d
above-same p q zero k less same = refl
above-same p q (suc d) k less same = same d (omega (arith, less))

-- ---- paths that agree below a depth that is not passed give the same parents

pub same-paths : (rows : List Row) (bound k : ℕ) (p q : Path) (s : ℕ) → bound ≤ k → ((i : ℕ) → i < k → p i ≡ q i) → Rises bound rows
    → parent_from p rows s ≡ parent_from q rows s
same-paths [] bound k p q s le same rises = refl
same-paths (r ∷ rest) bound k p q s le same rises = elim (eqb_tells r.slot s) [
  | inl here ↦ from-here p r rest s here.1 ∙ above-same p q r.depth k (omega (arith, rises.0)) same ∙ sym (from-here q r rest s here.1)
  | inr other ↦
      from-rest p r rest s other.1
      ∙ elim (cases_lt r.depth k) [
        | inl less ↦ same-paths rest (r.depth + 1) k (put p r.depth (Some r.slot)) (put q r.depth (Some r.slot)) s (omega (arith, less))
            (λ i under. put-same p q r.depth (Some r.slot) i (λ apart. same i under)) rises.1
        | inr least ↦ same-paths rest (r.depth + 1) (r.depth + 1) (put p r.depth (Some r.slot)) (put q r.depth (Some r.slot)) s (omega arith)
            (λ i under. put-same p q r.depth (Some r.slot) i (λ apart. same i (omega (arith, apart, under, rises.0, le)))) rises.1
      ]
      ∙ sym (from-rest q r rest s other.1)
]

-- ---- a new row right after its parent's

behind-here : (parent slot : ℕ) (r : Row) (rest : List Row) → r.slot ≡ parent →
    put_behind parent slot (r ∷ rest) ≡ r ∷ (record { slot = slot; depth = r.depth + 1 }) ∷ rest
behind-here parent slot r rest here =
    ap (λ b. if b then r ∷ (record { slot = slot; depth = r.depth + 1 }) ∷ rest else r ∷ put_behind parent slot rest) (eq-eqb r.slot parent here)

behind-rest : (parent slot : ℕ) (r : Row) (rest : List Row) → r.slot ≢ parent → put_behind parent slot (r ∷ rest) ≡ r ∷ put_behind parent slot rest
behind-rest parent slot r rest other =
    ap (λ b. if b then r ∷ (record { slot = slot; depth = r.depth + 1 }) ∷ rest else r ∷ put_behind parent slot rest) (ne_eqb r.slot parent other)

-- the others keep their parents
pub put-others : (rows : List Row) (bound : ℕ) (p : Path) (parent slot s : ℕ) → Rises bound rows → s ≢ slot
    → parent_from p (put_behind parent slot rows) s ≡ parent_from p rows s
put-others [] bound p parent slot s rises apart = refl
put-others (r ∷ rest) bound p parent slot s rises apart = elim (eqb_tells r.slot parent) [
  | inl here ↦
      let new : Row = record { slot = slot; depth = r.depth + 1 } in
      let after = put p r.depth (Some r.slot) in
      ap (λ rows. parent_from p rows s) (behind-here parent slot r rest here.1)
      ∙ elim (eqb_tells r.slot s) [
        | inl own ↦ from-here p r (new ∷ rest) s own.1 ∙ sym (from-here p r rest s own.1)
        | inr other ↦
            from-rest p r (new ∷ rest) s other.1
            ∙ from-rest after new rest s (λ same. apart (sym same))
            ∙ same-paths rest (r.depth + 1) (r.depth + 1) (put after (r.depth + 1) (Some slot)) after s (omega arith)
            (λ i under. put-other after (r.depth + 1) i (Some slot) (λ same. absurd (omega (arith, same, under)))) rises.1
            ∙ sym (from-rest p r rest s other.1)
      ]
  | inr there ↦
      ap (λ rows. parent_from p rows s) (behind-rest parent slot r rest there.1)
      ∙ elim (eqb_tells r.slot s) [
        | inl own ↦ from-here p r (put_behind parent slot rest) s own.1 ∙ sym (from-here p r rest s own.1)
        | inr other ↦
            from-rest p r (put_behind parent slot rest) s other.1
            ∙ put-others rest (r.depth + 1) (put p r.depth (Some r.slot)) parent slot s rises.1 apart
            ∙ sym (from-rest p r rest s other.1)
      ]
]

pub rows-here : (r : Row) (rest : List Row) (s : ℕ) → r.slot ≡ s → rows_of (r ∷ rest) s ≡ rows_of rest s + 1
rows-here r rest s here = ap (λ b. if b then rows_of rest s + 1 else rows_of rest s) (eq-eqb r.slot s here)

pub rows-rest : (r : Row) (rest : List Row) (s : ℕ) → r.slot ≢ s → rows_of (r ∷ rest) s ≡ rows_of rest s
rows-rest r rest s other = ap (λ b. if b then rows_of rest s + 1 else rows_of rest s) (ne_eqb r.slot s other)

pub none-first : (r : Row) (rest : List Row) (s : ℕ) → rows_of (r ∷ rest) s ≡ 0 → r.slot ≢ s
none-first r rest s none same = absurd (omega (arith, rows-here r rest s same, none))

-- the new row's parent
pub put-own : (rows : List Row) (p : Path) (parent slot : ℕ) → 0 < rows_of rows parent → rows_of rows slot ≡ 0
    → parent_from p (put_behind parent slot rows) slot ≡ Some parent
put-own [] p parent slot there none = absurd (omega (arith, there))
put-own (r ∷ rest) p parent slot there none =
    let apart : r.slot ≢ slot = none-first r rest slot none in
    elim (eqb_tells r.slot parent) [
      | inl here ↦
          let new : Row = record { slot = slot; depth = r.depth + 1 } in
          let after = put p r.depth (Some r.slot) in
          ap (λ rows. parent_from p rows slot) (behind-here parent slot r rest here.1)
          ∙ from-rest p r (new ∷ rest) slot apart ∙ from-here after new rest slot refl
          ∙ above-next after r.depth ∙ put-here p r.depth r.depth (Some r.slot) refl ∙ ap Some here.1
      | inr other ↦
          ap (λ rows. parent_from p rows slot) (behind-rest parent slot r rest other.1)
          ∙ from-rest p r (put_behind parent slot rest) slot apart
          ∙ put-own rest (put p r.depth (Some r.slot)) parent slot (omega (arith, there, rows-rest r rest parent other.1))
          (omega (arith, none, rows-rest r rest slot apart))
    ]
  where
    above-next : (path : Path) (d : ℕ) → above path (d + 1) ≡ path d
    above-next path d = ap (above path) (let e : d + 1 ≡ suc d = omega arith in e)
