-- A slot taken out leaves the descent of the others as it was.
use Rattle.std.proofs.Common.{ℕ, ◌≡◌, ◌≢◌, ◌∙◌, ◌==◌, inl, inr, Some, None, true, false, if◌then◌else◌, refl, sym, ap, arith}
use Rattle.std.proofs.lemmas.Bool.Decides.{eqb_tells}
use Rattle.std.proofs.lemmas.Bool.{ne_eqb}
use Rattle.model.specs.Capabilities.Slots.{Slots, Descendant, child, deeper, IsDerivation, empty_entry, parent_at, spliced, with_parent}
use Rattle.model.proofs.SlotChanges.{entry-other, entry-same, parent-adopted, parent_of}
use Rattle.model.proofs.Depths.{adopted_parent, depth-own_parent}

-- the parents after a splice
pub parent-gone : (slots : Slots) (gone : ℕ) → parent_at (spliced slots gone) gone ≡ None
parent-gone slots gone = ap parent_of (entry-same (with_parent slots gone (parent_at slots gone)) gone (Some empty_entry))

parent-spliced : (slots : Slots) (gone slot : ℕ) → slot ≢ gone →
    parent_at (spliced slots gone) slot ≡ adopted_parent gone (parent_at slots gone) (parent_at slots slot)
parent-spliced slots gone slot other =
    ap parent_of (entry-other (with_parent slots gone (parent_at slots gone)) gone (Some empty_entry) slot other)
    ∙ parent-adopted gone (parent_at slots gone) (slots slot)

-- a parent after a splice was the parent, or the parent of the slot that is gone, which was
pub old-parent : (slots : Slots) (gone slot parent : ℕ) → parent_at (spliced slots gone) slot ≡ Some parent → Descendant slots parent slot
old-parent slots gone slot parent is =
    elim (eqb_tells slot gone) [
      | inl here ↦ absurd (let clash : None ≡ Some parent = sym (parent-gone slots gone) ∙ ap (parent_at (spliced slots gone)) (sym here.1) ∙ is in cc)
      | inr other ↦ elim (parent_at slots slot) as (λ o. parent_at slots slot ≡ o → Descendant slots parent slot) [
        | None ↦ λ none. absurd (let clash : None ≡ Some parent = ap (adopted_parent gone (parent_at slots gone)) (sym none)
            ∙ sym (parent-spliced slots gone slot other.1) ∙ is in cc)
        | Some p ↦ λ some. elim (eqb_tells p gone) [
          | inl was ↦
              let moved : parent_at slots gone ≡ Some parent = ap (λ b. if b then parent_at slots gone else Some p) (sym was.0)
              ∙ ap (adopted_parent gone (parent_at slots gone)) (sym some) ∙ sym (parent-spliced slots gone slot other.1) ∙ is in
              deeper slot gone (some ∙ ap (λ q. Some q) was.1) (child gone moved)
          | inr stays ↦
              let same : Some p ≡ Some parent = ap (λ b. if b then parent_at slots gone else Some p) (sym stays.0)
              ∙ ap (adopted_parent gone (parent_at slots gone)) (sym some) ∙ sym (parent-spliced slots gone slot other.1) ∙ is in
              child slot (some ∙ same)
        ]
      ] refl
    ]

-- what descends from a descendant descends
descendant-through : (slots : Slots) (root middle slot : ℕ) → Descendant slots middle slot → Descendant slots root middle → Descendant slots root slot
descendant-through slots root middle slot (child _ is) above = deeper slot middle is above
descendant-through slots root middle slot (deeper _ parent is more) above = deeper slot parent is (descendant-through slots root middle parent more above)

-- what descends after a splice did before
pub descendant-before : (slots : Slots) (gone root slot : ℕ) → Descendant (spliced slots gone) root slot → Descendant slots root slot
descendant-before slots gone root slot (child _ is) = old-parent slots gone slot root is
descendant-before slots gone root slot (deeper _ parent is above) =
    descendant-through slots root parent slot (old-parent slots gone slot parent is) (descendant-before slots gone root parent above)

-- the new parent of a slot whose parent stays, and of a child of the slot that is gone
kept-parent : (slots : Slots) (gone slot parent : ℕ) → slot ≢ gone → parent_at slots slot ≡ Some parent → (parent == gone) ≡ false →
    parent_at (spliced slots gone) slot ≡ Some parent
kept-parent slots gone slot parent other is stays =
    parent-spliced slots gone slot other ∙ ap (adopted_parent gone (parent_at slots gone)) is ∙ ap (λ b. if b then parent_at slots gone else Some parent) stays

moved-parent : (slots : Slots) (gone slot parent : ℕ) → slot ≢ gone → parent_at slots slot ≡ Some parent → (parent == gone) ≡ true →
    parent_at (spliced slots gone) slot ≡ parent_at slots gone
moved-parent slots gone slot parent other is was =
    parent-spliced slots gone slot other ∙ ap (adopted_parent gone (parent_at slots gone)) is ∙ ap (λ b. if b then parent_at slots gone else Some parent) was

-- what descended before a splice does after it, unless it or its root is gone. If it is the one that is
-- gone, then each slot descends that has its parent now.
StillDescends : Slots → ℕ → ℕ → ℕ → Type 0
StillDescends slots gone root slot =
    (slot ≢ gone → Descendant (spliced slots gone) root slot)
    × (slot ≡ gone → (heir : ℕ) → parent_at (spliced slots gone) heir ≡ parent_at slots gone → Descendant (spliced slots gone) root heir)

still-descends : (slots : Slots) (gone root slot : ℕ) → IsDerivation slots → root ≢ gone → Descendant slots root slot → StillDescends slots gone root slot
unfolding StillDescends
still-descends slots gone root slot tree apart (child _ is) = (
  (λ other. child slot (kept-parent slots gone slot root other is (ne_eqb root gone apart))),
  (λ here heir moved. child heir (moved ∙ ap (parent_at slots) (sym here) ∙ is)),
)
still-descends slots gone root slot tree apart (deeper _ parent is above) =
    let more : (parent ≢ gone → Descendant (spliced slots gone) root parent)
    × (parent ≡ gone → (heir : ℕ) → parent_at (spliced slots gone) heir ≡ parent_at slots gone → Descendant (spliced slots gone) root heir) =
    still-descends slots gone root parent tree apart above in (
      (λ other. elim (eqb_tells parent gone) [
        | inl was ↦ more.1 was.1 slot (moved-parent slots gone slot parent other is was.0)
        | inr stays ↦ deeper slot parent (kept-parent slots gone slot parent other is stays.0) (more.0 stays.1)
      ]),
      (λ here heir moved.
          let up : parent_at slots gone ≡ Some parent = ap (parent_at slots) (sym here) ∙ is in
          let not_own : parent ≢ gone = λ same.
          absurd (omega (arith, depth-own_parent 256 (parent_at slots) gone (up ∙ ap (λ p. Some p) same), tree.shallow gone)) in
          deeper heir parent (moved ∙ up) (more.0 not_own)),
    )

pub descendant-after : (slots : Slots) (gone root slot : ℕ) → IsDerivation slots → root ≢ gone → slot ≢ gone → Descendant slots root slot →
    Descendant (spliced slots gone) root slot
unfolding StillDescends
descendant-after slots gone root slot tree apart other below =
    let still : (slot ≢ gone → Descendant (spliced slots gone) root slot)
    × (slot ≡ gone → (heir : ℕ) → parent_at (spliced slots gone) heir ≡ parent_at slots gone → Descendant (spliced slots gone) root heir) =
    still-descends slots gone root slot tree apart below in
    still.0 other
