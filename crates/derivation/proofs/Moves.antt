-- A slot's content that is moved keeps its descent.
use Rattle.std.proofs.Common.{ℕ, ◌≡◌, ◌≢◌, ◌∙◌, ◌==◌, inl, inr, Some, None, true, false, if◌then◌else◌, refl, sym, ap, subst, arith}
use Rattle.std.proofs.lemmas.Bool.Decides.{eqb_tells}
use Rattle.std.proofs.lemmas.Bool.{eq-eqb, ne_eqb}
use Rattle.model.specs.Capabilities.Slots.{Slots, Descendant, child, deeper, IsDerivation, IsFull, empty_entry, parent_at, relocated, with_entry, with_parent}
use Rattle.model.proofs.SlotChanges.{entry-other, entry-same, full-not-empty, parent-adopted, parent_of}
use Rattle.model.proofs.Depths.{adopted_parent, depth-own_parent}
use Rattle.derivation.specs.Moves.{name_after_move}

-- the name that a slot had before
abbrev old_name : ℕ → ℕ → ℕ → ℕ
old_name from to slot = if slot == to then from else slot

-- what is known before a move
record Moves (slots : Slots) (from to : ℕ) : Type 0 where
  tree : IsDerivation slots
  full : IsFull slots from
  empty : slots to ≡ Some empty_entry

apart : (slots : Slots) (from to : ℕ) → Moves slots from to → to ≢ from
apart slots from to moves = λ same. full-not-empty slots from to moves.full moves.empty (sym same)

no_parent : (slots : Slots) (from to : ℕ) → Moves slots from to → (slot parent : ℕ) → parent_at slots slot ≡ Some parent → parent ≢ to
no_parent slots from to moves slot parent is = full-not-empty slots parent to (moves.tree.parent_full slot parent is) moves.empty

not_own : (slots : Slots) (from to : ℕ) → Moves slots from to → (parent : ℕ) → parent_at slots from ≡ Some parent → parent ≢ from
not_own slots from to moves parent is = λ same.
    absurd (omega (arith, depth-own_parent 256 (parent_at slots) from (is ∙ ap (λ p. Some p) same), moves.tree.shallow from))

-- the parents after a move
parent-there : (slots : Slots) (from to : ℕ) → to ≢ from → parent_at (relocated slots from to) to ≡ parent_at slots from
parent-there slots from to other =
    ap parent_of (entry-other (with_entry (with_parent slots from (Some to)) to (slots from)) from (Some empty_entry) to other
    ∙ entry-same (with_parent slots from (Some to)) to (slots from))

parent-left : (slots : Slots) (from to : ℕ) → parent_at (relocated slots from to) from ≡ None
parent-left slots from to = ap parent_of (entry-same (with_entry (with_parent slots from (Some to)) to (slots from)) from (Some empty_entry))

parent-others : (slots : Slots) (from to slot : ℕ) → slot ≢ to → slot ≢ from →
    parent_at (relocated slots from to) slot ≡ adopted_parent from (Some to) (parent_at slots slot)
parent-others slots from to slot not_to not_from =
    ap parent_of (entry-other (with_entry (with_parent slots from (Some to)) to (slots from)) from (Some empty_entry) slot not_from
    ∙ entry-other (with_parent slots from (Some to)) to (slots from) slot not_to)
    ∙ parent-adopted from (Some to) (slots slot)

-- a parent keeps to its child under the new names
new-parent : (slots : Slots) (from to slot parent : ℕ) → Moves slots from to → slot ≢ to → parent_at slots slot ≡ Some parent →
    parent_at (relocated slots from to) (name_after_move from to slot) ≡ Some (name_after_move from to parent)
new-parent slots from to slot parent moves not_to is =
    elim (eqb_tells slot from) [
      | inl here ↦
          let up : parent_at slots from ≡ Some parent = ap (parent_at slots) (sym here.1) ∙ is in
          ap (λ b. parent_at (relocated slots from to) (if b then to else slot)) here.0
          ∙ parent-there slots from to (apart slots from to moves) ∙ up
          ∙ sym (ap (λ b. Some (if b then to else parent)) (ne_eqb parent from (not_own slots from to moves parent up)))
      | inr other ↦
          ap (λ b. parent_at (relocated slots from to) (if b then to else slot)) other.0
          ∙ parent-others slots from to slot not_to other.1 ∙ ap (adopted_parent from (Some to)) is
          ∙ elim (parent == from) as (λ b. (if b then Some to else Some parent) ≡ Some (if b then to else parent)) [ true ↦ refl | false ↦ refl ]
    ]

pub descendant-moved : (slots : Slots) (from to root slot : ℕ) → IsDerivation slots → IsFull slots from → slots to ≡ Some empty_entry → slot ≢ to →
    Descendant slots root slot → Descendant (relocated slots from to) (name_after_move from to root) (name_after_move from to slot)
descendant-moved slots from to root slot tree full empty not_to (child _ is) =
    child (name_after_move from to slot) (new-parent slots from to slot root (record { tree = tree; full = full; empty = empty }) not_to is)
descendant-moved slots from to root slot tree full empty not_to (deeper _ parent is above) =
    let moves : Moves slots from to = record { tree = tree; full = full; empty = empty } in
    deeper (name_after_move from to slot) (name_after_move from to parent) (new-parent slots from to slot parent moves not_to is)
    (descendant-moved slots from to root parent tree full empty (no_parent slots from to moves slot parent is) above)

-- and under the old ones
old-parent : (slots : Slots) (from to slot parent : ℕ) → Moves slots from to → parent_at (relocated slots from to) slot ≡ Some parent →
    parent_at slots (old_name from to slot) ≡ Some (old_name from to parent)
old-parent slots from to slot parent moves is =
    elim (eqb_tells slot to) [
      | inl here ↦
          let up : parent_at slots from ≡ Some parent = sym (parent-there slots from to (apart slots from to moves))
          ∙ ap (parent_at (relocated slots from to)) (sym here.1) ∙ is in
          ap (λ b. parent_at slots (if b then from else slot)) here.0 ∙ up
          ∙ sym (ap (λ b. Some (if b then from else parent)) (ne_eqb parent to (no_parent slots from to moves from parent up)))
      | inr not_to ↦ elim (eqb_tells slot from) [
        | inl left ↦ absurd (let clash : None ≡ Some parent = sym (parent-left slots from to) ∙ ap (parent_at (relocated slots from to)) (sym left.1) ∙ is in
            cc)
        | inr not_from ↦ elim (parent_at slots slot) as (λ o. parent_at slots slot ≡ o →
            parent_at slots (if slot == to then from else slot) ≡ Some (if parent == to then from else parent)) [
              | None ↦ λ none. absurd (let clash : None ≡ Some parent = ap (adopted_parent from (Some to)) (sym none)
                  ∙ sym (parent-others slots from to slot not_to.1 not_from.1) ∙ is in cc)
              | Some p ↦ λ some. ap (λ b. parent_at slots (if b then from else slot)) not_to.0 ∙ some ∙ elim (eqb_tells p from) [
                | inl was ↦
                    let same : Some to ≡ Some parent = ap (λ b. if b then Some to else Some p) (sym was.0) ∙ ap (adopted_parent from (Some to)) (sym some)
                    ∙ sym (parent-others slots from to slot not_to.1 not_from.1) ∙ is in
                    let e : to ≡ parent = cc in
                    ap (λ q. Some q) was.1 ∙ sym (ap (λ b. Some (if b then from else parent)) (eq-eqb parent to (sym e)))
                | inr stays ↦
                    let same : Some p ≡ Some parent = ap (λ b. if b then Some to else Some p) (sym stays.0) ∙ ap (adopted_parent from (Some to)) (sym some)
                    ∙ sym (parent-others slots from to slot not_to.1 not_from.1) ∙ is in
                    same ∙ sym (ap (λ b. Some (if b then from else parent)) (ne_eqb parent to (no_parent slots from to moves slot parent (some ∙ same))))
              ]
            ] refl
      ]
    ]

old-descendant : (slots : Slots) (from to root slot : ℕ) → Moves slots from to → Descendant (relocated slots from to) root slot →
    Descendant slots (old_name from to root) (old_name from to slot)
old-descendant slots from to root slot moves (child _ is) = child (old_name from to slot) (old-parent slots from to slot root moves is)
old-descendant slots from to root slot moves (deeper _ parent is above) =
    deeper (old_name from to slot) (old_name from to parent) (old-parent slots from to slot parent moves is)
    (old-descendant slots from to root parent moves above)

back : (from to slot : ℕ) → slot ≢ to → old_name from to (name_after_move from to slot) ≡ slot
back from to slot other =
    elim (eqb_tells slot from) [
      | inl here ↦ ap (λ b. old_name from to (if b then to else slot)) here.0 ∙ ap (λ b. if b then from else to) (eq-eqb to to refl) ∙ sym here.1
      | inr apart' ↦ ap (λ b. old_name from to (if b then to else slot)) apart'.0 ∙ ap (λ b. if b then from else slot) (ne_eqb slot to other)
    ]

pub descendant-unmoved : (slots : Slots) (from to root slot : ℕ) → IsDerivation slots → IsFull slots from → slots to ≡ Some empty_entry → root ≢ to →
    slot ≢ to → Descendant (relocated slots from to) (name_after_move from to root) (name_after_move from to slot) → Descendant slots root slot
descendant-unmoved slots from to root slot tree full empty root_other slot_other below =
    let moves : Moves slots from to = record { tree = tree; full = full; empty = empty } in
    let was = old-descendant slots from to (name_after_move from to root) (name_after_move from to slot) moves below in
    subst (λ (r : ℕ). Descendant slots r slot) (back from to root root_other)
    (subst (λ (s : ℕ). Descendant slots (old_name from to (name_after_move from to root)) s) (back from to slot slot_other) was)
