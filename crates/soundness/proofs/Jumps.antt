-- Slots whose new parents are ancestors that they had: none gets deeper, and who descends from a slot that stays still does.
use Rattle.std.proofs.Common.{ℕ, zero, suc, ◌≡◌, ◌∙◌, ◌+◌, ◌≤◌, ◌⊎◌, inl, inr, true, false, Option, Some, None, refl, sym, ap, arith}
use Rattle.model.specs.Capabilities.Slots.{Descendant, child, deeper, IsDerivation, IsFull, Slots, depth_within, parent_at}
use Rattle.model.specs.Kernel.Removal.{SlotSet, ancestor_outside}
use Rattle.model.proofs.Depths.{depth-le, depth-mono, depth-none, depth-some}
use Rattle.removal_laws.proofs.Laws.{height-up, outside-in, outside-none, outside-out, outside-stable, outside-zero}

-- ---- ancestors

-- what is found outside a set is outside, and an ancestor
pub outside-above : (n : ℕ) (set : SlotSet) (slots : Slots) (p : Option ℕ) (y a : ℕ) → parent_at slots y ≡ p → ancestor_outside n set slots p ≡ Some a
    → (set a ≡ false) × Descendant slots a y
outside-above n set slots None y a is found = let clash : None ≡ Some a = sym (outside-none n set slots) ∙ found in absurd cc
outside-above zero set slots (Some q) y a is found = let clash : None ≡ Some a = sym (outside-zero set slots (Some q)) ∙ found in absurd cc
outside-above (suc n) set slots (Some q) y a is found = elim (set q) as (λ b. set q ≡ b → (set a ≡ false) × Descendant slots a y) [
  | true ↦ λ member.
      let above = outside-above n set slots (parent_at slots q) q a refl (sym (outside-in n set slots q member) ∙ found) in
      (above.0, deeper y q is above.1)
  | false ↦ λ out.
      let e : Some q ≡ Some a = sym (outside-out n set slots q out) ∙ found in
      let same : q ≡ a = cc in
      (ap set (sym same) ∙ out, child y (is ∙ e))
] refl

-- both ends of a descent are full
pub descends-full : (slots : Slots) (a y : ℕ) → IsDerivation slots → Descendant slots a y → IsFull slots a × IsFull slots y
descends-full slots a y tree (child _ is) = (tree.parent_full y a is, tree.child_full y a is)
descends-full slots a y tree (deeper _ p is above) = ((descends-full slots a p tree above).0, tree.child_full y p is)

-- ---- depths

-- whoever descends is deeper
module _ (slots : Slots) (a : ℕ) where
  depth-below : (n y : ℕ) → Descendant slots a y → depth_within n (parent_at slots) a + 1 ≤ depth_within (suc n) (parent_at slots) y
  depth-below n y (child _ is) = let one = depth-some n (parent_at slots) y a is in omega (arith, one)
  depth-below zero y (deeper _ p is above) =
      let one = depth-some zero (parent_at slots) y p is in
      let low = depth-le zero (parent_at slots) a in
      omega (arith, one, low)
  depth-below (suc n) y (deeper _ p is above) =
      let one = depth-some (suc n) (parent_at slots) y p is in
      let more = depth-below n p above in
      let grows = (depth-mono n (parent_at slots) a).1 in
      omega (arith, one, more, grows)

pub depth-jumped : (n : ℕ) (old new : Slots) → ((y p : ℕ) → parent_at new y ≡ Some p → Descendant old p y) → (y : ℕ)
    → depth_within n (parent_at new) y ≤ depth_within n (parent_at old) y
depth-jumped zero old new jumps y = let low = depth-le zero (parent_at new) y in omega (arith, low)
depth-jumped (suc n) old new jumps y = elim (parent_at new y) as (λ o. parent_at new y ≡ o →
    depth_within (suc n) (parent_at new) y ≤ depth_within (suc n) (parent_at old) y) [
      | None ↦ λ none. let low = depth-none (suc n) (parent_at new) y none in omega (arith, low)
      | Some p ↦ λ is.
          let one = depth-some n (parent_at new) y p is in
          let more = depth-jumped n old new jumps p in
          let below = depth-below old p n y (jumps y p is) in
          omega (arith, one, more, below)
    ] refl

-- ---- descent

-- The nearest ancestor outside the set, of whoever descends from a slot that stays: it is that slot, or descends from it.
pub record Heir (set : SlotSet) (old new : Slots) (root y : ℕ) : Type 0 where
  pub nearest : ℕ
  pub found : ancestor_outside 256 set old (parent_at old y) ≡ Some nearest
  pub below : (nearest ≡ root) ⊎ Descendant new root nearest

module _ (set : SlotSet) (old new : Slots) (tree : IsDerivation old)
    (moved : (y : ℕ) → set y ≡ false → parent_at new y ≡ ancestor_outside 256 set old (parent_at old y)) where
  under : (root y : ℕ) → set y ≡ false → Heir set old new root y → Descendant new root y
  under root y stays heir = elim (heir.below) [
    | inl at ↦ child y (moved y stays ∙ heir.found ∙ ap (λ (n : ℕ). Some n) at)
    | inr further ↦ deeper y heir.nearest (moved y stays ∙ heir.found) further
  ]

  heir-of : (root y : ℕ) → set root ≡ false → Descendant old root y → Heir set old new root y
  heir-of root y stays (child _ is) = record {
    nearest = root;
    found = ap (ancestor_outside 256 set old) is ∙ outside-out 255 set old root stays;
    below = inl refl;
  }
  heir-of root y stays (deeper _ p is above) =
      let more = heir-of root p stays above in
      elim (set p) as (λ b. set p ≡ b → Heir set old new root y) [
        | true ↦ λ member.
            let low = height-up (parent_at old) p tree.shallow in
            record {
              nearest = more.nearest;
              found =
                  ap (ancestor_outside 256 set old) is
                  ∙ outside-in 255 set old p member
                  ∙ sym (outside-stable 255 set old (parent_at old p) tree.shallow (omega (arith, low, tree.shallow p)))
                  ∙ more.found;
              below = more.below;
            }
        | false ↦ λ out. record {
          nearest = p;
          found = ap (ancestor_outside 256 set old) is ∙ outside-out 255 set old p out;
          below = inr (under root p out more);
        }
      ] refl

  -- who stays still descends from what stays
  pub descends-still : (root y : ℕ) → set root ≡ false → set y ≡ false → Descendant old root y → Descendant new root y
  descends-still root y root_stays stays below = under root y stays (heir-of root y root_stays below)

-- somebody is the child of whoever has descendants
pub some-child : (slots : Slots) (root y : ℕ) → Descendant slots root y → (z : ℕ) × (parent_at slots z ≡ Some root)
some-child slots root y (child _ is) = (y, is)
some-child slots root y (deeper _ p is above) = some-child slots root p above
