-- The depth of a row is that of its slot by the map of parents.
use Rattle.std.proofs.Common.{ℕ, zero, suc, ◌≡◌, ◌∙◌, ◌+◌, ◌<◌, ◌≤◌, ◌⊎◌, inl, inr, Option, Some, None, List, [], ◌∷◌, refl, sym, ap, arith}
use Rattle.std.proofs.lemmas.Bool.Decides.{eqb_tells}
use Rattle.model.specs.Kernel.State.{put}
use Rattle.model.specs.Capabilities.Slots.{depth_within}
use Rattle.model.proofs.Depths.{depth-le, depth-none, depth-some}
use Rattle.slots.specs.preorder.Preorder.{AreDeep, Path, Rises, Row, above, no_path, parent_from, rows_of}
use Rattle.slots.proofs.preorder.Paths.{from-here, from-rest, put-here, put-other, rows-here, rows-rest}

-- a slot with a row, at this depth
record Stands (all : List Row) (depths : ℕ → ℕ) (depth : ℕ) (o : Option ℕ) : Type 0 where
  slot : ℕ
  is : o ≡ Some slot
  deep : depths slot ≡ depth
  among : 0 < rows_of all slot

record IsRoot (depth : ℕ) (o : Option ℕ) : Type 0 where
  none : o ≡ None
  top : depth ≡ 0

record IsChild (all : List Row) (depths : ℕ → ℕ) (depth : ℕ) (o : Option ℕ) : Type 0 where
  slot : ℕ
  is : o ≡ Some slot
  deep : depth ≡ suc (depths slot)
  among : 0 < rows_of all slot

own-above : (all : List Row) (depths : ℕ → ℕ) (p : Path) (e bound : ℕ) → e ≤ bound → ((i : ℕ) → i < bound → Stands all depths i (p i))
    → IsRoot e (above p e) ⊎ IsChild all depths e (above p e)
own-above all depths p zero bound le live = inl (record { none = refl; top = refl })
own-above all depths p (suc f) bound le live =
    let up = live f (omega (arith, le)) in
    inr (record { slot = up.slot; is = up.is; deep = ap suc (sym up.deep); among = up.among })

own-parent : (rows all : List Row) (depths : ℕ → ℕ) (bound : ℕ) (p : Path) (s : ℕ) → Rises bound rows → AreDeep depths rows
    → ((i : ℕ) → i < bound → Stands all depths i (p i)) → ((x : ℕ) → 0 < rows_of rows x → 0 < rows_of all x) → 0 < rows_of rows s
    → IsRoot (depths s) (parent_from p rows s) ⊎ IsChild all depths (depths s) (parent_from p rows s)
own-parent [] all depths bound p s rises deep live within there = absurd (omega (arith, there))
own-parent (r ∷ rest) all depths bound p s rises deep live within there = elim (eqb_tells r.slot s) [
  | inl here ↦
      let at : depths s ≡ r.depth = ap depths (sym here.1) ∙ deep.0 in
      let from = from-here p r rest s here.1 in
      elim (own-above all depths p r.depth bound rises.0 live) [
        | inl root ↦ inl (record { none = from ∙ root.none; top = at ∙ root.top })
        | inr child ↦ inr (record { slot = child.slot; is = from ∙ child.is; deep = at ∙ child.deep; among = child.among })
      ]
  | inr other ↦
      let next = put p r.depth (Some r.slot) in
      let from = from-rest p r rest s other.1 in
      let more = own-parent rest all depths (r.depth + 1) next s rises.1 deep.1
      (λ i under. elim (eqb_tells i r.depth) [
        | inl at ↦ record {
          slot = r.slot;
          is = put-here p r.depth i (Some r.slot) at.1;
          deep = deep.0 ∙ sym at.1;
          among =
              within r.slot (omega (arith, rows-here r rest r.slot refl));
        }
        | inr off ↦
            let up = live i (omega (arith, off.1, under, rises.0)) in
            record { slot = up.slot; is = put-other p r.depth i (Some r.slot) off.1 ∙ up.is; deep = up.deep; among = up.among }
      ])
      (λ x is. within x (elim (eqb_tells r.slot x) [
        | inl same ↦ omega (arith, rows-here r rest x same.1)
        | inr apart ↦
            omega (arith, is, rows-rest r rest x apart.1)
      ]))
      (omega (arith, there, rows-rest r rest s other.1)) in
      elim more [
        | inl root ↦ inl (record { none = from ∙ root.none; top = root.top })
        | inr child ↦ inr (record { slot = child.slot; is = from ∙ child.is; deep = child.deep; among = child.among })
      ]
]

pub depth-rows : (n : ℕ) (rows : List Row) (depths : ℕ → ℕ) (s : ℕ) → Rises 0 rows → AreDeep depths rows → 0 < rows_of rows s → depths s ≤ n
    → depth_within n (parent_from no_path rows) s ≡ depths s
depth-rows zero rows depths s rises deep there le = omega (arith, le, depth-le zero (parent_from no_path rows) s)
depth-rows (suc n) rows depths s rises deep there le =
    elim (own-parent rows rows depths 0 no_path s rises deep (λ i under. absurd (omega (arith, under))) (λ x is. is) there) [
      | inl root ↦ depth-none (suc n) (parent_from no_path rows) s root.none ∙ sym root.top
      | inr child ↦
          let up = depth-rows n rows depths child.slot rises deep child.among (omega (arith, le, child.deep)) in
          omega (arith, depth-some n (parent_from no_path rows) s child.slot child.is, up, child.deep)
    ]
