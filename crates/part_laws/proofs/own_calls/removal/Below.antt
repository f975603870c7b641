-- What descends from an own slot: own slots alone, and the same on both sides.
use Rattle.std.proofs.Common.{ℕ, ◌≡◌, ◌∙◌, true, false, Option, Some, None, refl, sym, ap}
use Rattle.std.specs.Option.{option_map_or}
use Rattle.std.proofs.lemmas.Bool.{false≢true}
use Rattle.model.proofs.Ancestors.{descendant-from_test, test-from_descendant}
use Rattle.model.specs.declared.slot_entries.Entry.{Entry}
use Rattle.model.specs.Capabilities.Slots.{Slots, Descendant, child, deeper, IsDerivation, depth_of, is_descendant, parent_at}
use Rattle.model.specs.Kernel.Removal.{SlotSet}
use Rattle.removal_laws.proofs.Laws.{bool-iff}

-- no slot hangs below an own one that is none itself
abbrev pub HangsOutside : SlotSet → Slots → Type 0
HangsOutside own slots = (slot parent : ℕ) → own slot ≡ false → parent_at slots slot ≡ Some parent → own parent ≡ false

own-child : (own : SlotSet) (slots : Slots) → HangsOutside own slots → (slot parent : ℕ) → parent_at slots slot ≡ Some parent → own parent ≡ true
    → own slot ≡ true
own-child own slots outside slot parent up mine = elim (own slot) as (λ b. own slot ≡ b → b ≡ true) [
  | true ↦ λ _. refl
  | false ↦ λ other. absurd (false≢true (sym (outside slot parent other up) ∙ mine))
] refl

below-own : (own : SlotSet) (slots : Slots) → HangsOutside own slots → (root slot : ℕ) → own root ≡ true → Descendant slots root slot → own slot ≡ true
below-own own slots outside root slot mine (child _ up) = own-child own slots outside slot root up mine
below-own own slots outside root slot mine (deeper _ parent up above) =
    own-child own slots outside slot parent up (below-own own slots outside root parent mine above)

moves : (own : SlotSet) (a b : Slots) → HangsOutside own a → ((slot : ℕ) → own slot ≡ true → a slot ≡ b slot) → (root slot : ℕ) → own root ≡ true
    → Descendant a root slot → Descendant b root slot
moves own a b outside same root slot mine (child _ up) =
    child slot (sym (ap (λ (o : Option Entry). option_map_or (λ (h : Entry). h.parent) o None) (same slot (own-child own a outside slot root up mine))) ∙ up)
moves own a b outside same root slot mine (deeper _ parent up above) =
    deeper slot parent
    (sym (ap (λ (o : Option Entry). option_map_or (λ (h : Entry). h.parent) o None)
    (same slot (own-child own a outside slot parent up (below-own own a outside root parent mine above)))) ∙ up)
    (moves own a b outside same root parent mine above)

pub descends-own : (own : SlotSet) (slots : Slots) → HangsOutside own slots → (root slot : ℕ) → own root ≡ true → is_descendant slots root slot ≡ true
    → own slot ≡ true
descends-own own slots outside root slot mine is =
    below-own own slots outside root slot mine (descendant-from_test (depth_of slots slot) slots root slot is)

module _ (own : SlotSet) (a b : Slots) (tree : IsDerivation a) (other_tree : IsDerivation b) (outside : HangsOutside own a) (other_outside : HangsOutside own b)
    (same : (slot : ℕ) → own slot ≡ true → a slot ≡ b slot) (root : ℕ) (mine : own root ≡ true) where
  pub descends-same : (slot : ℕ) → is_descendant a root slot ≡ is_descendant b root slot
  descends-same slot =
      bool-iff (is_descendant a root slot) (is_descendant b root slot)
      (λ is. test-from_descendant b root slot other_tree
      (moves own a b outside same root slot mine (descendant-from_test (depth_of a slot) a root slot is)))
      (λ is. test-from_descendant a root slot tree
      (moves own b a other_outside (λ n inner. sym (same n inner)) root slot mine (descendant-from_test (depth_of b slot) b root slot is)))
