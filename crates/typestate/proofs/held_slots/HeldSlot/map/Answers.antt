-- By the mapping that is made, and then by the rights that are asked.
use Rattle.std.proofs.Common.{◌∙◌, Option, Some, Result, Ok, List, sym, ap}
use Rattle.model.specs.declared.capabilities.Cap.{Cap}
use Rattle.model.specs.declared.capabilities.FrameMapping.{FrameMapping}
use Rattle.model.specs.Acceptance.NotedStates.{NotedSlot, with_noted}
use Rattle.model.specs.Capabilities.CapabilityKinds.{frame_mapping, with_frame_mapping}
use Rattle.model.specs.declared.refusals.Refusal.{Refusal}
use Rattle.typestate.specs.declared.slot_changes.SlotChange.{SlotChange}
use Rattle.typestate.specs.SlotChanges.{slots_left}
use Rattle.typestate.specs.Differences.{slots_of}
use Rattle.typestate.specs.Invocations.{mapping_made}
use Rattle.typestate.proofs.GivenFacts.{apart-of}
use Rattle.typestate.proofs.FrameRules.{map-executes, map-goes, map-refused}
use Rattle.typestate.proofs.Rising.{changes-rise, from-first}
use Rattle.typestate.proofs.held_slots.HeldSlot.map.Goals as goal

pub returns-in-Err : goal.returns-in-Err
returns-in-Err c =
    let image = c.args.self.now.own.space.image.now in
    let t = c.args.self.now.own.space.thread.now in
    let slots = slots_of c.args.self.now.own.slots in
    map-refused image t c.args.at slots c.args.self.now.held.now c.args.allowed c.args.root c.args.address c.args.rights c.in-Err.error
    (ap (λ (m : Option FrameMapping). mapping_made image t slots m c.args.allowed c.args.root c.args.address c.args.rights)
    (ap (λ (h : NotedSlot). frame_mapping h.capability) (sym c.held.view_is) ∙ sym c.mapping_of-mapping.ensures) ∙ sym c.in-Err.ensures.value)

pub returns-then-not-is_data : goal.returns-then-not-is_data
returns-then-not-is_data c =
    let image = c.args.self.now.own.space.image.now in
    let t = c.args.self.now.own.space.thread.now in
    let slots = slots_of c.args.self.now.own.slots in
    map-executes image t c.args.at slots c.args.self.now.held.now c.args.allowed c.args.root c.args.address c.args.rights c.in-Ok.mapping
    (ap (λ (m : Option FrameMapping). mapping_made image t slots m c.args.allowed c.args.root c.args.address c.args.rights)
    (ap (λ (h : NotedSlot). frame_mapping h.capability) (sym c.held.view_is) ∙ sym c.mapping_of-mapping.ensures) ∙ sym c.in-Ok.ensures.value)
    (sym c.if-not-is_data.ensures)

pub returns-else-not-is_data : goal.returns-else-not-is_data
returns-else-not-is_data c =
    let image = c.args.self.now.own.space.image.now in
    let t = c.args.self.now.own.space.thread.now in
    let slots = slots_of c.args.self.now.own.slots in
    let rises = changes-rise c.args.self.now.own.slots.image.now c.args.self.now.own.slots.changes.now
    (from-first c.args.self.now.own.slots.image.now c.args.self.now.own.slots.rising) in
    map-goes image t c.args.at slots c.args.self.now.held.now (apart-of c.args.self.now.own.space) c.args.self.now.own.own rises c.args.self.now.there
    c.args.allowed c.args.root c.args.address c.args.rights c.in-Ok.mapping
    (ap (λ (m : Option FrameMapping). mapping_made image t slots m c.args.allowed c.args.root c.args.address c.args.rights)
    (ap (λ (h : NotedSlot). frame_mapping h.capability) (sym c.held.view_is) ∙ sym c.mapping_of-mapping.ensures) ∙ sym c.in-Ok.ensures.value)
    (sym c.if-not-is_data.ensures) c.requires
    ∙ ap (λ (x : Cap). let r : Result (List NotedSlot) Refusal =
    Ok (with_noted slots (record { key = c.args.self.now.held.now.key; capability = x; parent = c.args.self.now.held.now.parent })) in
    r)
    (ap (λ (h : NotedSlot). with_frame_mapping h.capability (Some c.in-Ok.mapping)) (sym c.held.view_is) ∙ sym c.with_mapping.ensures.value)
    ∙ ap (λ (x : SlotChange). let r : Result (List NotedSlot) Refusal = Ok (slots_left slots x) in r) (sym c.recapped.ensures)
