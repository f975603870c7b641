-- The nearest ancestor outside a set is the same once a slot of the set has been emptied.
use Rattle.std.proofs.Common.{ℕ, zero, suc, ◌≡◌, ◌≢◌, ◌∙◌, ◌==◌, ◌+◌, ◌≤◌, ◌&&◌, ◌⊎◌, inl, inr, true, false, not, if◌then◌else◌, Option, Some, None, refl, sym}
use Rattle.std.proofs.Common.{ap, arith}
use Rattle.std.proofs.Math.Bool.{and-true}
use Rattle.std.proofs.lemmas.Bool.Decides.{eqb_tells}
use Rattle.model.specs.Capabilities.Slots.{Slots, depth_within, parent_at}
use Rattle.model.specs.Kernel.Removal.{SlotSet, ancestor_outside}
use Rattle.model.proofs.Depths.{Parents, adopted_parent, depth-some, depth-own_parent, depth-spliced}
use Rattle.model.proofs.Ancestors.{depth-stable}
use Rattle.removal_laws.specs.Steps.{alone, less}

-- ---- one step up

pub outside-none : (n : ℕ) (set : SlotSet) (slots : Slots) → ancestor_outside n set slots None ≡ None
unfolding ancestor_outside
outside-none zero set slots = refl
outside-none (suc n) set slots = refl

pub outside-zero : (set : SlotSet) (slots : Slots) (p : Option ℕ) → ancestor_outside zero set slots p ≡ None
unfolding ancestor_outside
outside-zero set slots p = refl

pub outside-in : (n : ℕ) (set : SlotSet) (slots : Slots) (p : ℕ) → set p ≡ true →
    ancestor_outside (suc n) set slots (Some p) ≡ ancestor_outside n set slots (parent_at slots p)
unfolding ancestor_outside
outside-in n set slots p member = ap (λ b. if b then ancestor_outside n set slots (parent_at slots p) else Some p) member

pub outside-out : (n : ℕ) (set : SlotSet) (slots : Slots) (p : ℕ) → set p ≡ false → ancestor_outside (suc n) set slots (Some p) ≡ Some p
unfolding ancestor_outside
outside-out n set slots p stays = ap (λ b. if b then ancestor_outside n set slots (parent_at slots p) else Some p) stays

-- what is found is the first one, or the parent of a slot of the set
pub outside-found : (n : ℕ) (set : SlotSet) (slots : Slots) (p : Option ℕ) (u : ℕ) → ancestor_outside n set slots p ≡ Some u
    → (p ≡ Some u) ⊎ ((z : ℕ) × (set z ≡ true) × (parent_at slots z ≡ Some u))
outside-found n set slots None u found = inl (sym (outside-none n set slots) ∙ found)
outside-found zero set slots (Some q) u found = absurd (let clash : None ≡ Some u = sym (outside-zero set slots (Some q)) ∙ found in cc)
outside-found (suc n) set slots (Some q) u found =
    elim (set q) as (λ b. set q ≡ b → (Some q ≡ Some u) ⊎ ((z : ℕ) × (set z ≡ true) × (parent_at slots z ≡ Some u))) [
      | true ↦ λ is. elim (outside-found n set slots (parent_at slots q) u (sym (outside-in n set slots q is) ∙ found)) [
        | inl above ↦ inr (q, is, above)
        | inr further ↦ inr further
      ]
      | false ↦ λ is. inl (sym (outside-out n set slots q is) ∙ found)
    ] refl

-- ---- how far a parent is from the top

abbrev pub height : Parents → Option ℕ → ℕ
height parents None = 0
height parents (Some p) = depth_within 256 parents p + 1

abbrev pub IsShallow : Parents → Type 0
IsShallow parents = (slot : ℕ) → depth_within 256 parents slot ≤ 255

pub height-up : (parents : Parents) (p : ℕ) → IsShallow parents → height parents (parents p) ≤ depth_within 256 parents p
height-up parents p shallow = elim (parents p) as (λ o. parents p ≡ o → height parents o ≤ depth_within 256 parents p) [
  | None ↦ λ is. omega arith
  | Some q ↦ λ is.
      let one = depth-some 255 parents p q is in
      omega (arith, one, depth-stable 255 parents q (omega (arith, one, shallow p)))
] refl

-- more steps than that change nothing
pub outside-stable : (n : ℕ) (set : SlotSet) (slots : Slots) (p : Option ℕ) → IsShallow (parent_at slots) → height (parent_at slots) p ≤ n →
    ancestor_outside (suc n) set slots p ≡ ancestor_outside n set slots p
outside-stable n set slots None shallow high = outside-none (suc n) set slots ∙ sym (outside-none n set slots)
outside-stable zero set slots (Some p) shallow high = absurd (omega (arith, high))
outside-stable (suc n) set slots (Some p) shallow high =
    elim (set p) as (λ b. set p ≡ b → ancestor_outside (suc (suc n)) set slots (Some p) ≡ ancestor_outside (suc n) set slots (Some p)) [
      | true ↦ λ is.
          outside-in (suc n) set slots p is
          ∙ outside-stable n set slots (parent_at slots p) shallow (omega (arith, high, height-up (parent_at slots) p shallow))
          ∙ sym (outside-in n set slots p is)
      | false ↦ λ is. outside-out (suc n) set slots p is ∙ sym (outside-out n set slots p is)
    ] refl

-- ---- a slot of the set is emptied, and its children have its parent

module _ (set : SlotSet) (x : ℕ) (slots now : Slots) (member : set x ≡ true) (shallow : IsShallow (parent_at slots)) (gone : parent_at now x ≡ None)
    (moved : (y : ℕ) → y ≢ x → parent_at now y ≡ adopted_parent x (parent_at slots x) (parent_at slots y)) where
  shallow-now : IsShallow (parent_at now)
  shallow-now y = omega (arith, depth-spliced 256 (parent_at slots) (parent_at now) x gone moved y, shallow y)

  no-circle : parent_at slots x ≢ Some x
  no-circle is = absurd (omega (arith, depth-own_parent 256 (parent_at slots) x is, shallow x))

  step-above : adopted_parent x (parent_at slots x) (parent_at slots x) ≡ parent_at slots x
  step-above = elim (parent_at slots x) as (λ o. parent_at slots x ≡ o → adopted_parent x (parent_at slots x) o ≡ o) [
    | None ↦ λ is. refl
    | Some q ↦ λ is. elim (eqb_tells q x) [
      | inl same ↦ absurd (no-circle (is ∙ ap (λ n. Some n) same.1))
      | inr other ↦ ap (λ b. if b then parent_at slots x else Some q) other.0
    ]
  ] refl

  low-now : (n : ℕ) (p : Option ℕ) → height (parent_at slots) p ≤ n → height (parent_at now) p ≤ n
  low-now n None high = omega (arith, high)
  low-now n (Some p) high = omega (arith, high, depth-spliced 256 (parent_at slots) (parent_at now) x gone moved p)

  pub outside-split : (n : ℕ) (p : Option ℕ) → height (parent_at slots) p ≤ n →
      ancestor_outside n set slots p ≡ ancestor_outside n (less set x) now (adopted_parent x (parent_at slots x) p)
  outside-split n None high = outside-none n set slots ∙ sym (outside-none n (less set x) now)
  outside-split zero (Some q) high = absurd (omega (arith, high))
  outside-split (suc n) (Some q) high =
      let above : height (parent_at slots) (parent_at slots q) ≤ n = omega (arith, high, height-up (parent_at slots) q shallow) in
      elim (eqb_tells q x) [
        | inl same ↦
            let here : height (parent_at slots) (parent_at slots x) ≤ n = omega (arith, above, ap (λ s. height (parent_at slots) (parent_at slots s)) same.1) in
            outside-in n set slots q (ap set same.1 ∙ member)
            ∙ ap (λ s. ancestor_outside n set slots (parent_at slots s)) same.1
            ∙ outside-split n (parent_at slots x) here
            ∙ ap (ancestor_outside n (less set x) now) step-above
            ∙ sym (outside-stable n (less set x) now (parent_at slots x) shallow-now (low-now n (parent_at slots x) here))
            ∙ ap (λ b. ancestor_outside (suc n) (less set x) now (if b then parent_at slots x else Some q)) (sym same.0)
        | inr other ↦
            let kept : less set x q ≡ set q = ap (λ b. set q && not b) other.0 ∙ and-true (set q) in
            elim (set q) as (λ b. set q ≡ b → ancestor_outside (suc n) set slots (Some q) ≡ ancestor_outside (suc n) (less set x) now
            (if q == x then parent_at slots x else Some q)) [
              | true ↦ λ is.
                  outside-in n set slots q is
                  ∙ outside-split n (parent_at slots q) above
                  ∙ ap (ancestor_outside n (less set x) now) (sym (moved q other.1))
                  ∙ sym (outside-in n (less set x) now q (kept ∙ is))
                  ∙ ap (λ b. ancestor_outside (suc n) (less set x) now (if b then parent_at slots x else Some q)) (sym other.0)
              | false ↦ λ is.
                  outside-out n set slots q is
                  ∙ sym (outside-out n (less set x) now q (kept ∙ is))
                  ∙ ap (λ b. ancestor_outside (suc n) (less set x) now (if b then parent_at slots x else Some q)) (sym other.0)
            ] refl
      ]

-- the nearest ancestor that is not the one slot
pub outside-one : (x : ℕ) (slots : Slots) (p : Option ℕ) → parent_at slots x ≢ Some x →
    ancestor_outside 256 (alone x) slots p ≡ adopted_parent x (parent_at slots x) p
outside-one x slots None apart = outside-none 256 (alone x) slots
outside-one x slots (Some q) apart = elim (eqb_tells q x) [
  | inl same ↦
      outside-in 255 (alone x) slots q same.0
      ∙ ap (λ s. ancestor_outside 255 (alone x) slots (parent_at slots s)) same.1
      ∙ elim (parent_at slots x) as (λ o. parent_at slots x ≡ o → ancestor_outside 255 (alone x) slots o ≡ o) [
        | None ↦ λ is. outside-none 255 (alone x) slots
        | Some r ↦ λ is. elim (eqb_tells r x) [
          | inl circle ↦ absurd (apart (is ∙ ap (λ n. Some n) circle.1))
          | inr other ↦ outside-out 254 (alone x) slots r other.0
        ]
      ] refl
      ∙ ap (λ b. if b then parent_at slots x else Some q) (sym same.0)
  | inr other ↦ outside-out 255 (alone x) slots q other.0 ∙ ap (λ b. if b then parent_at slots x else Some q) (sym other.0)
]
