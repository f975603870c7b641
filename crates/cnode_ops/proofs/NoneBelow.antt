-- Nothing descends from a slot below which a store finds nothing.
use Rattle.std.proofs.Common.{ℕ, ◌≡◌, ◌∙◌, true, false, List, [], None, refl, ap, arith, if◌then◌else◌}
use Rattle.model.specs.Capabilities.Orders.{IsOrderOf, descendants, next_in}
use Rattle.model.specs.Capabilities.Slots.{IsDerivation, Slots, is_descendant}
use Rattle.model.specs.Shared.Lists.{times_in}
use Rattle.model.proofs.Ancestors.{descendants-once}
use Rattle.model.proofs.Orders.{first-none}

pub no-descendants : (slots : Slots) (order : List ℕ) (root : ℕ) → IsDerivation slots → IsOrderOf order slots →
    next_in (descendants order slots root) None ≡ None → (slot : ℕ) → is_descendant slots root slot ≡ false
no-descendants slots order root tree lists none slot =
    let empty : descendants order slots root ≡ [] = first-none (descendants order slots root) none in
    let once = descendants-once order slots root slot tree lists in
    elim (is_descendant slots root slot) as (λ b. is_descendant slots root slot ≡ b → b ≡ false) [
      | true ↦ λ is. let listed : times_in (descendants order slots root) slot ≡ 1 = once ∙ ap (λ b. if b then 1 else 0) is in
          absurd (omega (arith, listed, ap (λ l. times_in l slot) empty))
      | false ↦ λ is. refl
    ] refl
