-- What taking out a row does to parents: its children get its parent.
use Rattle.std.proofs.Common.{ℕ, zero, suc, ◌≡◌, ◌≢◌, ◌∙◌, ◌+◌, ◌-◌, ◌<◌, ◌≤◌, inl, inr, if◌then◌else◌, Option, Some, None, List, [], ◌∷◌, refl, sym, ap, arith}
use Rattle.std.proofs.lemmas.Bool.Decides.{eqb_tells}
use Rattle.std.proofs.lemmas.Bool.{cases_lt, eq-eqb, ne_eqb, lt-ltb, le-ltb}
use Rattle.model.specs.Kernel.State.{put}
use Rattle.model.proofs.Depths.{adopted_parent}
use Rattle.slots.specs.preorder.Preorder.{Path, Rises, Row, above, lowered, no_path, parent_from, parents_of, rows_of, taken_out}
use Rattle.slots.proofs.preorder.Paths.{above-same, from-here, from-rest, none-first, put-here, put-other, rows-here, rows-rest, same-paths}

-- ---- adoption

pub adopted-own : (x : ℕ) (u : Option ℕ) (was : Option ℕ) → was ≡ Some x → adopted_parent x u was ≡ u
adopted-own x u was is = ap (adopted_parent x u) is ∙ ap (λ b. if b then u else Some x) (eq-eqb x x refl)

pub adopted-other : (x : ℕ) (u : Option ℕ) (was : Option ℕ) → was ≢ Some x → adopted_parent x u was ≡ was
adopted-other x u None apart = refl
adopted-other x u (Some p) apart = ap (λ b. if b then u else Some p) (ne_eqb p x (λ same. absurd (apart (ap Some same))))

-- ---- a slot that is neither on the path nor in the rows is no parent

some-apart : (r x : ℕ) → r ≢ x → Some r ≢ Some x
some-apart r x apart same = apart (let e : r ≡ x = cc in e)

above-never : (p : Path) (d k x : ℕ) → d ≤ k → ((i : ℕ) → i < k → p i ≢ Some x) → above p d ≢ Some x
above-never p zero k x less apart same = absurd (let clash : None ≡ Some x = same in cc)
above-never p (suc d) k x less apart same = apart d (omega (arith, less)) same

put-never : (p : Path) (d i r x : ℕ) → r ≢ x → (i ≢ d → p i ≢ Some x) → put p d (Some r) i ≢ Some x
put-never p d i r x apart others same = elim (eqb_tells i d) [
  | inl here ↦ some-apart r x apart (sym (put-here p d i (Some r) here.1) ∙ same)
  | inr other ↦ others other.1 (sym (put-other p d i (Some r) other.1) ∙ same)
]

rest-none : (r : Row) (rest : List Row) (x : ℕ) → rows_of (r ∷ rest) x ≡ 0 → rows_of rest x ≡ 0
rest-none r rest x none = omega (arith, none, rows-rest r rest x (none-first r rest x none))

pub never-parent : (rows : List Row) (bound k : ℕ) (p : Path) (x s : ℕ) → bound ≤ k → ((i : ℕ) → i < k → p i ≢ Some x) → rows_of rows x ≡ 0
    → Rises bound rows → parent_from p rows s ≢ Some x
never-parent [] bound k p x s le apart none rises same = absurd (let clash : None ≡ Some x = same in cc)
never-parent (r ∷ rest) bound k p x s le apart none rises same = elim (eqb_tells r.slot s) [
  | inl here ↦ above-never p r.depth k x (omega (arith, rises.0, le)) apart (sym (from-here p r rest s here.1) ∙ same)
  | inr other ↦
      never-parent rest (r.depth + 1) (r.depth + 1) (put p r.depth (Some r.slot)) x s (omega arith)
      (λ i under. put-never p r.depth i r.slot x (none-first r rest x none) (λ there. apart i (omega (arith, there, under, rises.0, le))))
      (rest-none r rest x none) rises.1
      (sym (from-rest p r rest s other.1) ∙ same)
]

-- ---- the run of descendants

pub lowered-run : (d : ℕ) (r : Row) (rest : List Row) → d < r.depth → lowered d (r ∷ rest) ≡ (record { slot = r.slot; depth = r.depth - 1 }) ∷ lowered d rest
lowered-run d r rest deep = ap (λ b. if b then (record { slot = r.slot; depth = r.depth - 1 }) ∷ lowered d rest else r ∷ rest) (lt-ltb d r.depth deep)

pub lowered-end : (d : ℕ) (r : Row) (rest : List Row) → r.depth ≤ d → lowered d (r ∷ rest) ≡ r ∷ rest
lowered-end d r rest end = ap (λ b. if b then (record { slot = r.slot; depth = r.depth - 1 }) ∷ lowered d rest else r ∷ rest) (le-ltb d r.depth end)

-- the row itself is deeper than the one that is gone
own-run : (e f d bound x : ℕ) (p q : Path) (u : Option ℕ) → e ≡ suc f → d ≤ f → e ≤ bound
    → ((i : ℕ) → i < d → p i ≡ q i) → ((i : ℕ) → d ≤ i → suc i < bound → q i ≡ p (suc i))
    → p d ≡ Some x → ((i : ℕ) → i ≢ d → p i ≢ Some x) → above p d ≡ u
    → above q (e - 1) ≡ adopted_parent x u (above p e)
own-run e f d bound x p q u is deep high low shifted own apart up =
    ap (above q) (let g : e - 1 ≡ f = omega (arith, is) in g)
    ∙ elim (eqb_tells f d) [
      | inl here ↦
          ap (above q) here.1 ∙ sym (above-same p q d d (omega arith) low) ∙ up
          ∙ sym (adopted-own x u (above p e) (ap (above p) is ∙ ap p here.1 ∙ own))
      | inr other ↦
          let g = f - 1 in
          let steps : f ≡ suc g = omega (arith, other.1, deep) in
          ap (above q) steps ∙ shifted g (omega (arith, steps, other.1, deep)) (omega (arith, steps, is, high)) ∙ ap p (sym steps)
          ∙ sym (adopted-other x u (p f) (apart f other.1)) ∙ ap (λ n. adopted_parent x u (above p n)) (sym is)
    ]

pub run-parents : (rows : List Row) (bound d x : ℕ) (p q : Path) (u : Option ℕ) (s : ℕ) → d < bound
    → ((i : ℕ) → i < d → p i ≡ q i) → ((i : ℕ) → d ≤ i → suc i < bound → q i ≡ p (suc i))
    → p d ≡ Some x → ((i : ℕ) → i ≢ d → p i ≢ Some x) → above p d ≡ u
    → rows_of rows x ≡ 0 → Rises bound rows
    → parent_from q (lowered d rows) s ≡ adopted_parent x u (parent_from p rows s)
run-parents [] bound d x p q u s deep low shifted own apart up none rises = refl
run-parents (r ∷ rest) bound d x p q u s deep low shifted own apart up none rises = elim (cases_lt d r.depth) [
  | inl run ↦
      let e = r.depth in
      let less : Row = record { slot = r.slot; depth = e - 1 } in
      ap (λ rows. parent_from q rows s) (lowered-run d r rest run)
      ∙ elim (eqb_tells r.slot s) [
        | inl here ↦
            from-here q less (lowered d rest) s here.1
            ∙ own-run e (e - 1) d bound x p q u (omega (arith, run)) (omega (arith, run)) rises.0 low shifted own apart up
            ∙ ap (adopted_parent x u) (sym (from-here p r rest s here.1))
        | inr other ↦
            from-rest q less (lowered d rest) s other.1
            ∙ run-parents rest (e + 1) d x (put p e (Some r.slot)) (put q (e - 1) (Some r.slot)) u s (omega (arith, run))
            (λ i under. put-other p e i (Some r.slot) (λ same. absurd (omega (arith, same, under, run))) ∙ low i under
            ∙ sym (put-other q (e - 1) i (Some r.slot) (λ same. absurd (omega (arith, same, under, run)))))
            (λ i from under. elim (eqb_tells i (e - 1)) [
              | inl at ↦ put-here q (e - 1) i (Some r.slot) at.1 ∙ sym (put-here p e (suc i) (Some r.slot) (omega (arith, at.1, run)))
              | inr off ↦ put-other q (e - 1) i (Some r.slot) off.1
                  ∙ shifted i from (omega (arith, off.1, under, rises.0, run))
                  ∙ sym (put-other p e (suc i) (Some r.slot) (λ same. absurd (omega (arith, same, off.1, run))))
            ])
            (put-other p e d (Some r.slot) (λ same. absurd (omega (arith, same, run))) ∙ own)
            (λ i there. put-never p e i r.slot x (none-first r rest x none) (λ off. apart i there))
            (above-same (put p e (Some r.slot)) p d d (omega arith)
            (λ i under. put-other p e i (Some r.slot) (λ same. absurd (omega (arith, same, under, run)))) ∙ up)
            (rest-none r rest x none) rises.1
            ∙ ap (adopted_parent x u) (sym (from-rest p r rest s other.1))
      ]
  | inr end ↦
      let all : Rises d (r ∷ rest) = (end, rises.1) in
      ap (λ rows. parent_from q rows s) (lowered-end d r rest end)
      ∙ same-paths (r ∷ rest) d d q p s (omega arith) (λ i under. sym (low i under)) all
      ∙ sym (adopted-other x u (parent_from p (r ∷ rest) s)
      (never-parent (r ∷ rest) d d p x s (omega arith) (λ i under. apart i (λ same. absurd (omega (arith, same, under)))) none all))
]

-- ---- a row is taken out

pub taken-here : (x : ℕ) (r : Row) (rest : List Row) → r.slot ≡ x → taken_out x (r ∷ rest) ≡ lowered r.depth rest
taken-here x r rest here = ap (λ b. if b then lowered r.depth rest else r ∷ taken_out x rest) (eq-eqb r.slot x here)

pub taken-rest : (x : ℕ) (r : Row) (rest : List Row) → r.slot ≢ x → taken_out x (r ∷ rest) ≡ r ∷ taken_out x rest
taken-rest x r rest other = ap (λ b. if b then lowered r.depth rest else r ∷ taken_out x rest) (ne_eqb r.slot x other)

pub taken-others : (rows : List Row) (bound : ℕ) (p : Path) (x s : ℕ) → Rises bound rows → s ≢ x → ((i : ℕ) → p i ≢ Some x) → rows_of rows x ≤ 1
    → parent_from p (taken_out x rows) s ≡ adopted_parent x (parent_from p rows x) (parent_from p rows s)
taken-others [] bound p x s rises apart absent once = refl
taken-others (r ∷ rest) bound p x s rises apart absent once = elim (eqb_tells r.slot x) [
  | inl here ↦
      let d = r.depth in
      let old = put p d (Some r.slot) in
      let beside : r.slot ≢ s = λ same. absurd (apart (sym same ∙ here.1)) in
      ap (λ rows. parent_from p rows s) (taken-here x r rest here.1)
      ∙ run-parents rest (d + 1) d x old p (above p d) s (omega arith)
      (λ i under. put-other p d i (Some r.slot) (λ same. absurd (omega (arith, same, under))))
      (λ i from under. absurd (omega (arith, from, under)))
      (put-here p d d (Some r.slot) refl ∙ ap Some here.1)
      (λ i there same. absent i (sym (put-other p d i (Some r.slot) there) ∙ same))
      (above-same old p d d (omega arith) (λ i under. put-other p d i (Some r.slot) (λ same. absurd (omega (arith, same, under)))))
      (let none : rows_of rest x ≡ 0 = omega (arith, rows-here r rest x here.1, once) in none) rises.1
      ∙ ap (λ u. adopted_parent x u (parent_from old rest s)) (sym (from-here p r rest x here.1))
      ∙ ap (adopted_parent x (parent_from p (r ∷ rest) x)) (sym (from-rest p r rest s beside))
  | inr there ↦
      ap (λ rows. parent_from p rows s) (taken-rest x r rest there.1)
      ∙ elim (eqb_tells r.slot s) [
        | inl own ↦
            from-here p r (taken_out x rest) s own.1
            ∙ sym (adopted-other x (parent_from p (r ∷ rest) x) (above p r.depth) (above-never p r.depth r.depth x (omega arith) (λ i under. absent i)))
            ∙ ap (adopted_parent x (parent_from p (r ∷ rest) x)) (sym (from-here p r rest s own.1))
        | inr other ↦
            let next = put p r.depth (Some r.slot) in
            from-rest p r (taken_out x rest) s other.1
            ∙ taken-others rest (r.depth + 1) next x s rises.1 apart (λ i. put-never p r.depth i r.slot x there.1 (λ off. absent i))
            (omega (arith, rows-rest r rest x there.1, once))
            ∙ ap (λ u. adopted_parent x u (parent_from next rest s)) (sym (from-rest p r rest x there.1))
            ∙ ap (adopted_parent x (parent_from p (r ∷ rest) x)) (sym (from-rest p r rest s other.1))
      ]
]

pub taken-out : (rows : List Row) (gone s : ℕ) → Rises 0 rows → s ≢ gone → rows_of rows gone ≤ 1
    → parents_of (taken_out gone rows) s ≡ adopted_parent gone (parents_of rows gone) (parents_of rows s)
taken-out rows gone s rises apart once = taken-others rows 0 no_path gone s rises apart (λ i same. absurd (let clash : None ≡ Some gone = same in cc)) once
