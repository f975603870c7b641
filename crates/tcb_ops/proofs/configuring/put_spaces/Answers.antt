-- The copies may come.
use Rattle.std.proofs.Common.{ℕ, ◌≡◌, ◌∙◌, ◌<◌, inl, Some, sym, ap, subst}
use Rattle.model.specs.Capabilities.CapabilityKinds.{object_of}
use Rattle.model.specs.Capabilities.CapabilityWords.{IsCapability}
use Rattle.model.specs.Capabilities.Slots.{Slots, capability_at, depth_of}
use Rattle.model.specs.Kernel.ThreadCalls.{with_guard}
use Rattle.model.specs.declared.capabilities.Cap.{Cap}
use Rattle.tcb_ops.proofs.Putting.{guarded-object, guarded-valid, object-still, room-still}
use Rattle.tcb_ops.proofs.configuring.put_spaces.Goals as goal

pub insert-requires-clause-valid : goal.insert-requires-clause-valid
insert-requires-clause-valid g c =
    let slots : Slots = g.S.SlotMap.slots c.args.store.now in
    let held : Cap = capability_at slots c.args.from.cspace in
    let made = c.with_guard-node.ensures ∙ ap (λ (k : Cap). with_guard k c.args.guard) c.capability.ensures.value in
    subst IsCapability (sym made)
    (guarded-valid held c.args.guard (subst IsCapability c.capability.ensures.value c.capability.ensures.valid) c.requires.may.is_cnode c.requires.may.fits)

pub insert-requires-2-clause-room : goal.insert-requires-2-clause-room
insert-requires-2-clause-room g c = λ x same.
    let slots : Slots = g.S.SlotMap.slots c.args.store.now in
    let now : Slots = g.S.SlotMap.slots c.insert.new.self in
    let room : depth_of now c.args.from.vspace < 255 =
    room-still slots now c.new.result c.with_guard-node.result (Some c.args.from.cspace) c.args.thread c.args.from.vspace c.requires.may.derivation
    c.requires.may.first
    c.new.ensures c.requires.may.vspace_full c.requires.may.vspace_room c.insert.ensures.slots in
    let e : c.args.from.vspace ≡ x = cc in
    subst (λ (y : ℕ). depth_of now y < 255) e room

pub insert-requires-clause-kin : goal.insert-requires-clause-kin
insert-requires-clause-kin g c =
    let slots : Slots = g.S.SlotMap.slots c.args.store.now in
    let made = c.with_guard-node.ensures ∙ ap (λ (k : Cap). with_guard k c.args.guard) c.capability.ensures.value in
    inl (ap object_of made ∙ guarded-object (capability_at slots c.args.from.cspace) c.args.guard)

pub insert-requires-2-clause-kin : goal.insert-requires-2-clause-kin
insert-requires-2-clause-kin g c =
    let slots : Slots = g.S.SlotMap.slots c.args.store.now in
    let now : Slots = g.S.SlotMap.slots c.insert.new.self in
    inl (ap object_of c.capability-table.ensures.value
    ∙ sym (object-still slots now c.new.result c.with_guard-node.result (Some c.args.from.cspace) c.args.thread c.args.from.vspace c.requires.may.first
    c.new.ensures c.requires.may.vspace_full
    c.insert.ensures.slots))
