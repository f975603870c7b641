-- What descends from a descendant, and the slots between a root and its descendants.
use Rattle.std.proofs.Common.{ℕ, ◌≡◌, ◌≢◌, ◌∙◌, true, Some, sym, ap}
use Rattle.cnode_ops.specs.Sets.{set_of}
use Rattle.cnode_ops.specs.declared.sets.Removed.{Removed}
use Rattle.cnode_ops.specs.declared.sets.Removed.TheVariants.{Below}
use Rattle.cnode_ops.proofs.FullSlots.{same-number}
use Rattle.model.proofs.Ancestors.{descendant-from_test, test-from_descendant}
use Rattle.model.specs.Capabilities.Slots.{Descendant, IsDerivation, Slots, child, deeper, depth_of, is_descendant, parent_at}

through : (slots : Slots) (root middle slot : ℕ) → Descendant slots root middle → Descendant slots middle slot → Descendant slots root slot
through slots root middle slot above (child _ is) = deeper _ middle is above
through slots root middle slot above (deeper _ p is below) = deeper _ p is (through slots root middle p above below)

pub below-below : (slots : Slots) (root middle slot : ℕ) → IsDerivation slots → is_descendant slots root middle ≡ true → is_descendant slots middle slot ≡ true
    → is_descendant slots root slot ≡ true
below-below slots root middle slot tree above below =
    test-from_descendant slots root slot tree
    (through slots root middle slot (descendant-from_test (depth_of slots middle) slots root middle above)
    (descendant-from_test (depth_of slots slot) slots middle slot below))

above-descends : (slots : Slots) (root slot parent : ℕ) → IsDerivation slots → parent_at slots slot ≡ Some parent → parent ≢ root → Descendant slots root slot
    → is_descendant slots root parent ≡ true
above-descends slots root slot parent tree is apart (child _ own) = absurd (apart (same-number parent root (sym is ∙ own)))
above-descends slots root slot parent tree is apart (deeper _ p own above) =
    ap (is_descendant slots root) (same-number parent p (sym is ∙ own)) ∙ test-from_descendant slots root p tree above

-- the slot that one below a root is derived from is below it too, or the root
pub parent-below : (slots : Slots) (set : Removed) (root slot parent : ℕ) → IsDerivation slots → set ≡ Below root → parent_at slots slot ≡ Some parent →
    parent ≢ root
    → set_of slots set slot ≡ true → set_of slots set parent ≡ true
parent-below slots set root slot parent tree which is apart member =
    ap (λ s. set_of slots s parent) which
    ∙ above-descends slots root slot parent tree is apart
    (descendant-from_test (depth_of slots slot) slots root slot (sym (ap (λ s. set_of slots s slot) which) ∙ member))
