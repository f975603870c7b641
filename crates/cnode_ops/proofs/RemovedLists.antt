-- The full slots of a set, listed.
use Rattle.std.proofs.Common.{ℕ, ◌≡◌, ◌∙◌, ◌&&◌, true, false, if◌then◌else◌, List, refl, sym, ap}
use Rattle.std.proofs.Math.Bool.{and-false}
use Rattle.std.proofs.lemmas.Bool.{and_parts}
use Rattle.model.specs.Capabilities.Orders.{IsOrderOf}
use Rattle.model.specs.Capabilities.Slots.{IsDerivation, IsFull, Slots, is_descendant, is_full}
use Rattle.model.proofs.Ancestors.{descendant-full, descendants-once}
use Rattle.cnode_ops.specs.Listed.{Lists}
use Rattle.cnode_ops.specs.Refusals.{goes}
use Rattle.cnode_ops.specs.Sets.{listed_in}
use Rattle.cnode_ops.specs.declared.sets.Removed.TheVariants.{Below}

-- all that is derived from a slot
pub below-listed : (slots : Slots) (order : List ℕ) (root : ℕ) → IsDerivation slots → IsOrderOf order slots →
    Lists (listed_in order slots (Below root)) (goes slots (Below root))
below-listed slots order root tree lists slot =
    descendants-once order slots root slot tree lists
    ∙ ap (λ b. if b then 1 else 0) (elim (is_descendant slots root slot) as (λ b. is_descendant slots root slot ≡ b → b ≡ (is_full slots slot && b)) [
      | true ↦ λ is. sym (ap (λ b. b && true) (descendant-full slots root slot tree is))
      | false ↦ λ is. sym (and-false (is_full slots slot))
    ] refl)

pub goes-below : (slots : Slots) (root slot : ℕ) → goes slots (Below root) slot ≡ true → (IsFull slots slot) × (is_descendant slots root slot ≡ true)
goes-below slots root slot is = and_parts (is_full slots slot) (is_descendant slots root slot) is
