-- By what the slot's call leaves of the slots.
use Rattle.std.proofs.Common.{◌∙◌, refl, sym, ap}
use Rattle.model.specs.declared.capabilities.Cap.{Cap}
use Rattle.model.specs.Acceptance.NotedKernel.{slot_of_key}
use Rattle.typestate.specs.Calls.{call_on, known_with}
use Rattle.typestate.specs.Differences.{slots_of}
use Rattle.typestate.specs.SlotChanges.{leaves, slots_after}
use Rattle.typestate.proofs.CallsOn.{done-as}
use Rattle.typestate.proofs.Decided.{decided-by}
use Rattle.typestate.proofs.thread_slots.ThreadSlots.called_on.Goals as goal

pub returns-clause-left : goal.returns-clause-left
returns-clause-left c = done-as c.behind.result _ _ (λ called left. λ measure.
    let image = c.args.self.now.space.image.now in
    let t = c.args.self.now.space.thread.now in
    let slots = slots_of c.args.self.now.slots in
    let state = known_with c.args.bounds.now slots measure in
    let held = c.held-found.result in
    let answers = c.args.called.answers in
    c.in-Ok.ensures.value image t slots measure (call_on image t c.args.called.slot c.args.called.capability) answers refl
    ∙ decided-by image t c.args.at state (call_on image t c.args.called.slot c.args.called.capability) c.in-Ok.call answers
    ∙ ap (λ n. leaves state answers (slots_after image t c.args.at slots (call_on image t n c.args.called.capability) c.in-Ok.call))
    (sym c.held-found.ensures.place)
    ∙ ap (λ (k : Cap). leaves state answers (slots_after image t c.args.at slots (call_on image t (slot_of_key image held.key) k) c.in-Ok.call))
    (c.requires.held.held ∙ sym c.held-found.ensures.capability)
    ∙ left measure) c.behind.ensures.left
