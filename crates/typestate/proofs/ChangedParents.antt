-- What the image lists was derived from none of the thread's slots: the changes alone say what a slot was derived from.
use Rattle.std.proofs.Common.{◌≡◌, ◌∙◌, ◌||◌, Bool, true, false, is_some, if◌then◌else◌, Option, Some, None, option_and_then, List, [], ◌∷◌, refl, ap}
use Rattle.std.specs.List.{list_any}
use Rattle.model.specs.Acceptance.NotedStates.{NotedSlot, SlotKey, is_same_key, slot_at}
use Rattle.model.specs.Capabilities.CapabilityKinds.{frame_mapping}
use Rattle.typestate.specs.Differences.{changed}
use Rattle.typestate.specs.Left.{parent_left}
use Rattle.typestate.specs.Orders.{Rise}
use Rattle.typestate.specs.SlotChanges.{noted_parent}
use Rattle.typestate.specs.Unlinked.{AreUnlinked, is_linked}
use Rattle.typestate.proofs.OrderedChanges.{changed-at, found_or}
use Rattle.typestate.proofs.Rising.{from-first}

no-parent : (parent : Option SlotKey) (mapped others : Bool) → (is_some parent || mapped || others) ≡ false → parent ≡ None
no-parent None mapped others none = refl
no-parent (Some key) mapped others none = absurd (let clash : true ≡ false = none in cc)

others-unlinked : (a b : Bool) → (a || b) ≡ false → b ≡ false
others-unlinked true b none = absurd (let clash : true ≡ false = none in cc)
others-unlinked false b none = none

unlinked-parent : (slots : List NotedSlot) (key : SlotKey) → AreUnlinked slots → noted_parent slots key ≡ None
unlinked-parent [] key are = refl
unlinked-parent (s ∷ rest) key are =
    elim (is_same_key s.key key) as (λ b. option_and_then (λ (r : NotedSlot). r.parent) (if b then Some s else slot_at rest key) ≡ None) [
      | true ↦ no-parent s.parent (is_some (frame_mapping s.capability)) (list_any is_linked rest) are
      | false ↦ unlinked-parent rest key (others-unlinked (is_linked s) (list_any is_linked rest) are)
    ]

either-parent : (change held : Option NotedSlot) → option_and_then (λ (s : NotedSlot). s.parent) held ≡ None
    → option_and_then (λ (s : NotedSlot). s.parent) (found_or change held) ≡ option_and_then parent_left change
either-parent None held none = none
either-parent (Some c) held none = refl

pub parent-changed : (image changes : List NotedSlot) (key : SlotKey) → Rise changes → AreUnlinked image
    → noted_parent (changed image changes) key ≡ option_and_then parent_left (slot_at changes key)
parent-changed image changes key rises are =
    ap (option_and_then (λ (s : NotedSlot). s.parent)) (changed-at changes image 0 key (from-first changes rises))
    ∙ either-parent (slot_at changes key) (slot_at image key) (unlinked-parent image key are)
