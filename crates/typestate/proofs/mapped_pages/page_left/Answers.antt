-- What holds no frame maps no page.
use Rattle.std.proofs.Common.{◌≡◌, true, false, if◌then◌else◌, Some, None, option_and_then, option_map, refl, sym, ap}
use Rattle.model.specs.declared.capabilities.FrameMapping.{FrameMapping}
use Rattle.model.specs.Acceptance.NotedStates.{NotedSlot}
use Rattle.model.specs.Capabilities.CapabilityKinds.{frame_mapping}
use Rattle.model.specs.Capabilities.Slots.{is_empty}
use Rattle.typestate.specs.Pages.{page_left}
use Rattle.typestate.proofs.mapped_pages.page_left.Goals as goal

no-page-left : (c : NotedSlot) → frame_mapping c.capability ≡ None → page_left c ≡ None
no-page-left c none =
    elim (is_empty c.capability) as (λ b. option_and_then (λ (s : NotedSlot). option_map (λ (m : FrameMapping). m.page) (frame_mapping s.capability))
    (if b then None else Some c) ≡ None) [
      | true ↦ refl
      | false ↦ ap (option_map (λ (m : FrameMapping). m.page)) none
    ]

pub returns-else-may_map : goal.returns-else-may_map
returns-else-may_map c = sym (no-page-left c.args.change (c.may_map.ensures c.if-may_map.false))
