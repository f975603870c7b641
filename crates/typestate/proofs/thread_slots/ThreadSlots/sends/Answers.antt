-- By the capability that a0 names.
use Rattle.std.proofs.Common.{◌∙◌, sym, ap}
use Rattle.model.specs.Acceptance.CallRules.{send_rule}
use Rattle.typestate.specs.Calls.{known_with, ruled_by}
use Rattle.typestate.specs.Differences.{slots_of}
use Rattle.typestate.proofs.GivenFacts.{space-of}
use Rattle.typestate.proofs.CalledCaps.{by-called}
use Rattle.typestate.proofs.thread_slots.ThreadSlots.sends.Goals as goal

pub returns-in-Err-clause-value : goal.returns-in-Err-clause-value
returns-in-Err-clause-value c = λ measure.
    let image = c.args.self.now.space.image.now in
    let t = c.args.self.now.space.thread.now in
    let slots = slots_of c.args.self.now.slots in
    let state = known_with c.args.bounds.now slots measure in
    let rule = send_rule image t c.args.at state c.args.kind in
    by-called c.args.self.now.space c.args.at state rule (space-of c.args.self.now.space) c.args.self.now.inside
    ∙ ap (ruled_by rule) (sym (c.in-Err.ensures.value measure))

pub returns-in-Ok-clause-value : goal.returns-in-Ok-clause-value
returns-in-Ok-clause-value c = λ measure.
    let image = c.args.self.now.space.image.now in
    let t = c.args.self.now.space.thread.now in
    let slots = slots_of c.args.self.now.slots in
    let state = known_with c.args.bounds.now slots measure in
    let rule = send_rule image t c.args.at state c.args.kind in
    by-called c.args.self.now.space c.args.at state rule (space-of c.args.self.now.space) c.args.self.now.inside
    ∙ ap (ruled_by rule) (sym (c.in-Ok.ensures.value measure)) ∙ c.sends.ensures.value t slots measure
