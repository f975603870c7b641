-- Slots that are few steps below a root may have children.
use Rattle.std.proofs.Common.{ℕ, zero, suc, ◌≡◌, ◌∙◌, ◌+◌, ◌<◌, Option, Some, None, refl, ap, arith}
use Rattle.std.specs.Option.{option_map_or}
use Rattle.model.specs.Capabilities.Slots.{Slots, depth_of, depth_within, parent_at}

depth-root : (n : ℕ) (parents : ℕ → Option ℕ) (slot : ℕ) → parents slot ≡ None → depth_within n parents slot ≡ 0
unfolding depth_within
depth-root zero parents slot is = refl
depth-root (suc n) parents slot is = ap (λ o. option_map_or (λ parent. depth_within n parents parent + 1) o 0) is

depth-child : (n : ℕ) (parents : ℕ → Option ℕ) (slot parent : ℕ) → parents slot ≡ Some parent →
    depth_within (suc n) parents slot ≡ depth_within n parents parent + 1
unfolding depth_within
depth-child n parents slot parent is = ap (λ o. option_map_or (λ p. depth_within n parents p + 1) o 0) is

pub root-shallow : (slots : Slots) (slot : ℕ) → parent_at slots slot ≡ None → depth_of slots slot < 255
root-shallow slots slot is = let e = depth-root 256 (parent_at slots) slot is in omega (arith, e)

pub child-shallow : (slots : Slots) (slot root : ℕ) → parent_at slots slot ≡ Some root → parent_at slots root ≡ None → depth_of slots slot < 255
child-shallow slots slot root is top =
    let e = depth-child 255 (parent_at slots) slot root is ∙ ap (λ (n : ℕ). n + 1) (depth-root 255 (parent_at slots) root top) in
    omega (arith, e)

pub grandchild-shallow : (slots : Slots) (slot parent root : ℕ) → parent_at slots slot ≡ Some parent → parent_at slots parent ≡ Some root
    → parent_at slots root ≡ None → depth_of slots slot < 255
grandchild-shallow slots slot parent root is above top =
    let e = depth-child 255 (parent_at slots) slot parent is in
    let f = depth-child 254 (parent_at slots) parent root above in
    let g = depth-root 254 (parent_at slots) root top in
    omega (arith, e, f, g)
