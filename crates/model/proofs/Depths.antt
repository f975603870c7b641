-- Depths by a map of parents, and what changes of the map do to them.
use Rattle.std.proofs.Common.{ℕ, zero, suc, ◌≡◌, ◌≢◌, ◌∙◌, ◌==◌, ◌+◌, ◌≤◌, inl, inr, if◌then◌else◌, Option, Some, None, refl, sym, ap, arith}
use Rattle.std.specs.Option.{option_map_or}
use Rattle.std.proofs.lemmas.Bool.Decides.{eqb_tells}
use Rattle.model.specs.Capabilities.Slots.{depth_within}

abbrev pub Parents : Type 0
Parents = ℕ → Option ℕ

pub depth-none : (n : ℕ) (parents : Parents) (slot : ℕ) → parents slot ≡ None → depth_within n parents slot ≡ 0
unfolding depth_within
depth-none zero parents slot is = refl
depth-none (suc n) parents slot is = ap (λ o. option_map_or (λ parent. depth_within n parents parent + 1) o 0) is

pub depth-some : (n : ℕ) (parents : Parents) (slot parent : ℕ) → parents slot ≡ Some parent →
    depth_within (suc n) parents slot ≡ depth_within n parents parent + 1
unfolding depth_within
depth-some n parents slot parent is = ap (λ o. option_map_or (λ p. depth_within n parents p + 1) o 0) is

depth-zero : (parents : Parents) (slot : ℕ) → depth_within zero parents slot ≡ 0
unfolding depth_within
depth-zero parents slot = refl

-- no depth is above its bound
pub depth-le : (n : ℕ) (parents : Parents) (slot : ℕ) → depth_within n parents slot ≤ n
depth-le zero parents slot = omega (arith, depth-zero parents slot)
depth-le (suc n) parents slot =
    elim (parents slot) as (λ o. parents slot ≡ o → depth_within (suc n) parents slot ≤ suc n) [
      | None ↦ λ is. omega (arith, depth-none (suc n) parents slot is)
      | Some parent ↦ λ is. omega (arith, depth-some n parents slot parent is, depth-le n parents parent)
    ] refl

-- a greater bound adds at most one, and takes nothing
pub depth-mono : (n : ℕ) (parents : Parents) (slot : ℕ) → (depth_within n parents slot ≤ depth_within (suc n) parents slot)
    × (depth_within (suc n) parents slot ≤ depth_within n parents slot + 1)
depth-mono zero parents slot = (omega (arith, depth-zero parents slot), omega (arith, depth-zero parents slot, depth-le 1 parents slot))
depth-mono (suc n) parents slot =
    elim (parents slot) as (λ o. parents slot ≡ o → (depth_within (suc n) parents slot ≤ depth_within (suc (suc n)) parents slot)
    × (depth_within (suc (suc n)) parents slot ≤ depth_within (suc n) parents slot + 1)) [
      | None ↦ λ is. (omega (arith, depth-none (suc n) parents slot is), omega (arith, depth-none (suc (suc n)) parents slot is))
      | Some parent ↦ λ is.
          let more = depth-mono n parents parent in
          let one = depth-some n parents slot parent is in
          let two = depth-some (suc n) parents slot parent is in
          (omega (arith, more.0, one, two), omega (arith, more.1, one, two))
    ] refl

-- a slot that is its own parent has no depth
pub depth-own_parent : (n : ℕ) (parents : Parents) (slot : ℕ) → parents slot ≡ Some slot → depth_within n parents slot ≡ n
depth-own_parent zero parents slot is = depth-zero parents slot
depth-own_parent (suc n) parents slot is = omega (arith, depth-some n parents slot slot is, depth-own_parent n parents slot is)

-- the same parents give the same depths
pub depth-same : (n : ℕ) (old new : Parents) → ((slot : ℕ) → new slot ≡ old slot) → (slot : ℕ) → depth_within n new slot ≡ depth_within n old slot
depth-same zero old new same slot = depth-zero new slot ∙ sym (depth-zero old slot)
depth-same (suc n) old new same slot =
    elim (old slot) as (λ o. old slot ≡ o → depth_within (suc n) new slot ≡ depth_within (suc n) old slot) [
      | None ↦ λ is. depth-none (suc n) new slot (same slot ∙ is) ∙ sym (depth-none (suc n) old slot is)
      | Some parent ↦ λ is.
          depth-some n new slot parent (same slot ∙ is) ∙ ap (λ d. d + 1) (depth-same n old new same parent) ∙ sym (depth-some n old slot parent is)
    ] refl

-- a slot that is no parent can have another parent, and the others keep their depths
pub depth-leaf : (n : ℕ) (old new : Parents) (leaf : ℕ) → ((slot : ℕ) → slot ≢ leaf → new slot ≡ old slot) →
    ((slot parent : ℕ) → old slot ≡ Some parent → parent ≢ leaf) → (slot : ℕ) → slot ≢ leaf → depth_within n new slot ≡ depth_within n old slot
depth-leaf zero old new leaf same no_parent slot other = depth-zero new slot ∙ sym (depth-zero old slot)
depth-leaf (suc n) old new leaf same no_parent slot other =
    elim (old slot) as (λ o. old slot ≡ o → depth_within (suc n) new slot ≡ depth_within (suc n) old slot) [
      | None ↦ λ is. depth-none (suc n) new slot (same slot other ∙ is) ∙ sym (depth-none (suc n) old slot is)
      | Some parent ↦ λ is.
          depth-some n new slot parent (same slot other ∙ is) ∙ ap (λ d. d + 1) (depth-leaf n old new leaf same no_parent parent (no_parent slot parent is))
          ∙ sym (depth-some n old slot parent is)
    ] refl

-- a parent, or another in place of one that is gone
abbrev pub adopted_parent : ℕ → Option ℕ → Option ℕ → Option ℕ
adopted_parent gone parent None = None
adopted_parent gone parent (Some p) = if p == gone then parent else Some p

depth-spliced-child : (n : ℕ) (old new : Parents) (gone slot : ℕ) → new slot ≡ old gone → old slot ≡ Some gone →
    ((s : ℕ) → depth_within n new s ≤ depth_within n old s) → depth_within (suc n) new slot ≤ depth_within (suc n) old slot
depth-spliced-child n old new gone slot moved was less =
    elim (old gone) as (λ o. old gone ≡ o → depth_within (suc n) new slot ≤ depth_within (suc n) old slot) [
      | None ↦ λ is. omega (arith, depth-none (suc n) new slot (moved ∙ is))
      | Some parent ↦ λ is.
          let new_depth = depth-some n new slot parent (moved ∙ is) in
          let old_depth = depth-some n old slot gone was in
          let above = depth-some n old gone parent is in
          let more = depth-mono n old gone in
          let step = depth-mono n old parent in
          omega (arith, new_depth, old_depth, above, more.0, more.1, less parent, step.0)
    ] refl

-- where a slot is taken out and its children get its parent, no depth grows
pub depth-spliced : (n : ℕ) (old new : Parents) (gone : ℕ) → new gone ≡ None →
    ((slot : ℕ) → slot ≢ gone → new slot ≡ adopted_parent gone (old gone) (old slot)) → (slot : ℕ) → depth_within n new slot ≤ depth_within n old slot
depth-spliced zero old new gone empty moved slot = omega (arith, depth-zero new slot, depth-zero old slot)
depth-spliced (suc n) old new gone empty moved slot =
    elim (eqb_tells slot gone) [
      | inl here ↦ omega (arith, depth-none (suc n) new slot (ap new here.1 ∙ empty))
      | inr other ↦
          elim (old slot) as (λ o. old slot ≡ o → depth_within (suc n) new slot ≤ depth_within (suc n) old slot) [
            | None ↦ λ is. omega (arith, depth-none (suc n) new slot (moved slot other.1 ∙ ap (adopted_parent gone (old gone)) is))
            | Some parent ↦ λ is.
                elim (eqb_tells parent gone) [
                  | inl child ↦
                      depth-spliced-child n old new gone slot
                      (moved slot other.1 ∙ ap (adopted_parent gone (old gone)) is ∙ ap (λ b. if b then old gone else Some parent) child.0)
                      (is ∙ ap (λ p. Some p) child.1)
                      (depth-spliced n old new gone empty moved)
                  | inr stays ↦
                      omega (
                        arith,
                        depth-spliced n old new gone empty moved parent,
                        depth-some n new slot parent (moved slot other.1 ∙ ap (adopted_parent gone (old gone)) is
                            ∙ ap (λ b. if b then old gone else Some parent) stays.0),
                        depth-some n old slot parent is,
                      )
                ]
          ] refl
    ]

-- the name that a slot has once another was moved
abbrev pub renamed : ℕ → ℕ → ℕ → ℕ
renamed from to slot = if slot == from then to else slot

-- where a slot is moved to one that is no parent, with its children, all keep their depths
pub depth-relocated : (n : ℕ) (old new : Parents) (from to : ℕ) → new to ≡ old from →
    ((slot : ℕ) → slot ≢ to → slot ≢ from → new slot ≡ adopted_parent from (Some to) (old slot)) → ((slot parent : ℕ) → old slot ≡ Some parent → parent ≢ to) →
    old from ≢ Some from → (slot : ℕ) → slot ≢ to → depth_within n new (renamed from to slot) ≡ depth_within n old slot
depth-relocated zero old new from to moved others no_parent no_circle slot apart = depth-zero new (renamed from to slot) ∙ sym (depth-zero old slot)
depth-relocated (suc n) old new from to moved others no_parent no_circle slot apart =
    elim (eqb_tells slot from) [
      | inl here ↦
          rw here.0 (elim (old slot) as (λ o. old slot ≡ o → depth_within (suc n) new to ≡ depth_within (suc n) old slot) [
            | None ↦ λ is. depth-none (suc n) new to (moved ∙ ap old (sym here.1) ∙ is) ∙ sym (depth-none (suc n) old slot is)
            | Some parent ↦ λ is.
                elim (eqb_tells parent from) [
                  | inl circle ↦ absurd (no_circle (ap old (sym here.1) ∙ is ∙ ap (λ p. Some p) circle.1))
                  | inr stays ↦
                      let above = depth-relocated n old new from to moved others no_parent no_circle parent (no_parent slot parent is) in
                      depth-some n new to parent (moved ∙ ap old (sym here.1) ∙ is) ∙ ap (λ d. d + 1) (rw stays.0 at above)
                      ∙ sym (depth-some n old slot parent is)
                ]
          ] refl)
      | inr other ↦
          rw other.0 (elim (old slot) as (λ o. old slot ≡ o → depth_within (suc n) new slot ≡ depth_within (suc n) old slot) [
            | None ↦ λ is. depth-none (suc n) new slot (others slot apart other.1 ∙ ap (adopted_parent from (Some to)) is)
                ∙ sym (depth-none (suc n) old slot is)
            | Some parent ↦ λ is.
                let above = depth-relocated n old new from to moved others no_parent no_circle parent (no_parent slot parent is) in
                let same : new slot ≡ adopted_parent from (Some to) (Some parent) = others slot apart other.1 ∙ ap (adopted_parent from (Some to)) is in
                elim (eqb_tells parent from) [
                  | inl child ↦
                      depth-some n new slot to (same ∙ ap (λ b. if b then Some to else Some parent) child.0) ∙ ap (λ d. d + 1) (rw child.0 at above)
                      ∙ sym (depth-some n old slot parent is)
                  | inr stays ↦
                      depth-some n new slot parent (same ∙ ap (λ b. if b then Some to else Some parent) stays.0) ∙ ap (λ d. d + 1) (rw stays.0 at above)
                      ∙ sym (depth-some n old slot parent is)
                ]
          ] refl)
    ]
