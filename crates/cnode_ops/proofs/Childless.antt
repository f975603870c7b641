-- The parent of a slot that is emptied, once its object has ended.
use Rattle.std.proofs.Common.{ℕ, ◌≡◌, ◌∙◌, Option, Some, None, option_map, refl, sym, ap, subst}
use Rattle.std.specs.Option.{option_map_or}
use Rattle.model.proofs.SlotChanges.{parent_of}
use Rattle.model.specs.Capabilities.CapabilityKinds.{root_of}
use Rattle.model.specs.Capabilities.Slots.{Slots, capability_at, parent_at, spliced}
use Rattle.model.specs.Kernel.State.{State, with_slots}
use Rattle.model.specs.declared.capabilities.Cap.{Cap}
use Rattle.model.specs.declared.slot_entries.Entry.{Entry}
use Rattle.removal_laws.proofs.Laws.{unmapped-itself}
use Rattle.removal_laws.specs.Steps.{IfUnnamed, IsChildless, Rewinds, ends, object_ended, slots_ended, stays, still, unmapped_at, uprooted, without_root}
use Rattle.slots.specs.Kin.{LeavesChildless, childless, has_child, no_parent}

-- ---- the end of an object leaves all parents

uprooted-parent : (root : ℕ) (held : Option Entry) → parent_of (option_map (uprooted root) held) ≡ parent_of held
uprooted-parent root None = refl
uprooted-parent root (Some held) = refl

ended-parent : (capability : Cap) (slots : Slots) (y : ℕ) → parent_at (slots_ended capability slots) y ≡ parent_at slots y
ended-parent capability slots y = elim (root_of capability)
    as (λ r. parent_at (option_map_or (λ root. without_root root slots) r slots) y ≡ parent_at slots y) [
      | None ↦ refl
      | Some root ↦ uprooted-parent root (slots y)
    ]

pub unnamed-parent : (t u : State) (removed : Cap) → IfUnnamed t removed u → (y : ℕ) → parent_at u.slots y ≡ parent_at t.slots y
unnamed-parent t u removed (stays named same) y = ap (λ (s : State). parent_at s.slots y) same
unnamed-parent t u removed (ends o object none same) y =
    ap (λ (s : State). parent_at s.slots y) same
    ∙ ap (λ (p : Option ℕ). parent_at (option_map_or (λ offset. with_slots (object_ended t offset) (slots_ended removed t.slots)) p t).slots y) object
    ∙ ended-parent removed t.slots y

-- ---- what the store answers

module _ (before taken after : Slots) (t u : State) (removed : Cap) (x : ℕ) (taken_is : taken ≡ spliced (unmapped_at before x) x) (has : t.slots ≡ taken)
    (ending : IfUnnamed t removed u)
    (has_after : u.slots ≡ after) where
  left-parent : (y : ℕ) → parent_at after y ≡ parent_at (spliced (unmapped_at before x) x) y
  left-parent y =
      ap (λ (f : Slots). parent_at f y) (sym has_after) ∙ unnamed-parent t u removed ending y ∙ ap (λ (f : Slots). parent_at f y) (has ∙ taken_is)

  own-parent : parent_at (unmapped_at before x) x ≡ parent_at before x
  own-parent = (unmapped-itself before x (capability_at before x) refl).1

  -- a parent that is left without a child
  some-left : (found : Option ℕ) (parent : ℕ) → LeavesChildless (unmapped_at before x) x found → found ≡ Some parent → (parent_at before x ≡ Some parent)
      × IsChildless after parent
  some-left found parent (childless q up none) is =
      let same : q ≡ parent = (let e : Some q ≡ Some parent = is in cc) in (
        sym own-parent ∙ up ∙ is,
        λ y child. none y (sym (left-parent y) ∙ child ∙ ap Some (sym same)),
      )
  some-left found parent (has_child q other up child) is = absurd (let clash : None ≡ Some parent = is in cc)
  some-left found parent (no_parent none) is = absurd (let clash : None ≡ Some parent = is in cc)

  pub parent-was : (found : Option ℕ) (parent : ℕ) → LeavesChildless (unmapped_at before x) x found → found ≡ Some parent → parent_at before x ≡ Some parent
  parent-was found parent leaves is = (some-left found parent leaves is).0

  pub childless-left : (found : Option ℕ) (parent : ℕ) → LeavesChildless (unmapped_at before x) x found → found ≡ Some parent → IsChildless after parent
  childless-left found parent leaves is = (some-left found parent leaves is).1

  -- or the parent, if there is one, has another child
  pub none-left : (found : Option ℕ) → LeavesChildless (unmapped_at before x) x found → found ≡ None → Rewinds (parent_at before x) after after
  none-left found (childless q up none) is = absurd (let clash : Some q ≡ None = is in cc)
  none-left found (has_child q other up child) is =
      subst (λ (p : Option ℕ). Rewinds p after after) (sym (sym own-parent ∙ up)) (still other (left-parent other ∙ child) refl)
  none-left found (no_parent none) is = subst (λ (p : Option ℕ). Rewinds p after after) (sym (sym own-parent ∙ none)) refl
