-- By what is left to decide of the system call.
use Rattle.std.proofs.Common.{◌∙◌, Result, Ok, ap}
use Rattle.model.specs.Acceptance.CallRules.{AfterCall}
use Rattle.model.specs.Acceptance.Measures.{Measure}
use Rattle.model.specs.declared.refusals.Refusal.{Refusal}
use Rattle.typestate.specs.declared.system_calls.SystemCall.{SystemCall}
use Rattle.typestate.specs.Calls.{goes_on, known_with}
use Rattle.typestate.specs.Differences.{slots_of}
use Rattle.typestate.proofs.CallsOn.{done-as}
use Rattle.typestate.proofs.thread_slots.ThreadSlots.after_call.Goals as goal

pub returns-in-Ok-Invokes-clause-left : goal.returns-in-Ok-Invokes-clause-left
returns-in-Ok-Invokes-clause-left c =
    let image = c.args.self.now.space.image.now in
    let t = c.args.self.now.space.thread.now in
    let slots = slots_of c.args.self.now.slots in
    let left : SystemCall → Measure → Result AfterCall Refusal = λ x measure. goes_on image t c.args.at (known_with c.args.bounds.now slots measure) (Ok x) in
    done-as c.called_on.result _ _ (λ called invoked measure.
    c.in-Ok-Invokes.ensures.value measure ∙ ap (λ (x : SystemCall). left x measure) c.in-Ok-Invokes.field-0-is ∙ invoked measure) c.called_on.ensures.left
