-- Descent and depth.
use Rattle.std.proofs.Common.{ℕ, ◌<◌, arith}
use Rattle.model.specs.Capabilities.Slots.{Slots, Descendant, child, deeper, IsDerivation, depth_of}
use Rattle.model.proofs.Ancestors.{depth-child}

pub descends-on : (slots : Slots) (root middle slot : ℕ) → Descendant slots root middle → Descendant slots middle slot → Descendant slots root slot
descends-on slots root middle slot above (child _ is) = deeper slot middle is above
descends-on slots root middle slot above (deeper _ parent is below) = deeper slot parent is (descends-on slots root middle parent above below)

-- what descends is deeper
deeper-below : (slots : Slots) (root slot : ℕ) → IsDerivation slots → Descendant slots root slot → depth_of slots root < depth_of slots slot
deeper-below slots root slot tree (child _ is) = let one = depth-child slots slot root tree is in omega (arith, one)
deeper-below slots root slot tree (deeper _ parent is above) =
    let one = depth-child slots slot parent tree is in
    let more = deeper-below slots root parent tree above in
    omega (arith, one, more)

pub not-itself : (slots : Slots) (slot : ℕ) → IsDerivation slots → Descendant slots slot slot → ⊥
not-itself slots slot tree below = let less = deeper-below slots slot slot tree below in omega (arith, less)
