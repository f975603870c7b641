-- Each of its parts.
use Rattle.std.proofs.Common.{◌∙◌, Option, ap}
use Rattle.model.specs.Acceptance.NotedStates.{NotedSlot, SlotKey}
use Rattle.model.specs.declared.capabilities.Cap.{Cap}
use Rattle.typestate.specs.Differences.{slots_of}
use Rattle.typestate.specs.Removals.{gone_by}
use Rattle.typestate.specs.SlotChanges.{cap_left, noted_outside}
use Rattle.typestate.proofs.staying.Staying.left.Goals as goal

pub returns : goal.returns
returns c =
    let slots = slots_of c.args.self.now.removal.now.slots in
    let gone = gone_by c.args.self.now.removal.now in
    let slot = c.args.self.now.slot.now in
    let key : SlotKey = record { cnode = c.slot.inside.key.cnode; index = c.slot.inside.key.index } in
    let capability = cap_left gone slots slot.key slot.capability in
    ap (λ (capability : Cap). let s : NotedSlot = record { key = key; capability = capability; parent = c.outside.result } in s) c.cap_left.ensures.value
    ∙ ap (λ (parent : Option SlotKey). let s : NotedSlot = record { key = key; capability = capability; parent = parent } in s) c.outside.ensures
    ∙ ap (λ (h : NotedSlot). let s : NotedSlot = record { key = h.key; capability = capability; parent = noted_outside 256 gone slots h.parent } in s)
    c.slot.view_is
