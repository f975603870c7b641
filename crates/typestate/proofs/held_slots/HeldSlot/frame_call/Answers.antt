-- By the call.
use Rattle.std.proofs.Common.{◌∙◌, None, Result, Ok, List, sym, ap, subst}
use Rattle.model.specs.declared.capabilities.Cap.{Cap}
use Rattle.model.specs.declared.invocations.FrameCall.{FrameCall}
use Rattle.model.specs.declared.invocations.Invocation.TheVariants.{OnFrame}
use Rattle.model.specs.declared.refusals.Refusal.{Refusal}
use Rattle.model.specs.Acceptance.NotedStates.{NotedSlot, with_noted}
use Rattle.model.specs.Capabilities.CapabilityKinds.{with_frame_mapping}
use Rattle.typestate.specs.declared.slot_changes.SlotChange.{SlotChange}
use Rattle.typestate.specs.Differences.{slots_of}
use Rattle.typestate.specs.Invocations.{IsCallOn, held_after}
use Rattle.typestate.specs.SlotChanges.{slots_left}
use Rattle.typestate.proofs.GivenFacts.{apart-of}
use Rattle.typestate.proofs.FrameRules.{unmap-goes}
use Rattle.typestate.proofs.Rising.{changes-rise, from-first}
use Rattle.typestate.proofs.held_slots.HeldSlot.frame_call.Goals as goal

pub returns-in-UnmapFrame : goal.returns-in-UnmapFrame
returns-in-UnmapFrame c =
    let image = c.args.self.now.own.space.image.now in
    let t = c.args.self.now.own.space.thread.now in
    let slots = slots_of c.args.self.now.own.slots in
    let rises = changes-rise c.args.self.now.own.slots.image.now c.args.self.now.own.slots.changes.now
    (from-first c.args.self.now.own.slots.image.now c.args.self.now.own.slots.rising) in
    ap (λ (call : FrameCall). held_after image t c.args.at slots c.args.self.now.held.now (OnFrame c.args.allowed call)) c.in-UnmapFrame.is
    ∙ unmap-goes image t c.args.at slots c.args.self.now.held.now (apart-of c.args.self.now.own.space) c.args.self.now.own.own rises c.args.self.now.there
    c.args.allowed
    (subst (λ (call : FrameCall). IsCallOn c.args.self.now.held.now.capability (OnFrame c.args.allowed call)) c.in-UnmapFrame.is c.requires)
    ∙ ap (λ (x : Cap). let r : Result (List NotedSlot) Refusal =
    Ok (with_noted slots (record { key = c.args.self.now.held.now.key; capability = x; parent = c.args.self.now.held.now.parent })) in
    r)
    (ap (λ (h : NotedSlot). with_frame_mapping h.capability None) (sym c.held.view_is) ∙ sym c.with_mapping.ensures.value)
    ∙ ap (λ (x : SlotChange). let r : Result (List NotedSlot) Refusal = Ok (slots_left slots x) in r) (sym c.recapped.ensures)
