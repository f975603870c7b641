-- By the capability that a0 names.
use Rattle.std.proofs.Common.{ℕ, ◌∙◌, Result, sym, ap}
use Rattle.model.specs.declared.capabilities.Cap.{Cap}
use Rattle.model.specs.declared.refusals.Refusal.{Refusal}
use Rattle.model.specs.Acceptance.CallRules.{AfterCall, receive_rule}
use Rattle.typestate.specs.Calls.{known_with, ruled_by}
use Rattle.typestate.specs.Differences.{slots_of}
use Rattle.typestate.proofs.GivenFacts.{space-of}
use Rattle.typestate.proofs.CalledCaps.{by-called}
use Rattle.typestate.proofs.thread_slots.ThreadSlots.receives.Goals as goal

pub returns-in-Err-clause-value : goal.returns-in-Err-clause-value
returns-in-Err-clause-value c = λ measure.
    let slots = slots_of c.args.self.now.slots in
    let state = known_with c.args.bounds.now slots measure in
    let rule : ℕ → Cap → Result AfterCall Refusal = λ _. receive_rule c.args.self.now.space.image.now c.args.at state c.args.is_wait in
    by-called c.args.self.now.space c.args.at state rule (space-of c.args.self.now.space) c.args.self.now.inside
    ∙ ap (ruled_by rule) (sym (c.in-Err.ensures.value measure))

pub returns-in-Ok-receive_rule-clause-value : goal.returns-in-Ok-receive_rule-clause-value
returns-in-Ok-receive_rule-clause-value c = λ measure.
    let slots = slots_of c.args.self.now.slots in
    let state = known_with c.args.bounds.now slots measure in
    let rule : ℕ → Cap → Result AfterCall Refusal = λ _. receive_rule c.args.self.now.space.image.now c.args.at state c.args.is_wait in
    by-called c.args.self.now.space c.args.at state rule (space-of c.args.self.now.space) c.args.self.now.inside
    ∙ ap (ruled_by rule) (sym (c.in-Ok.ensures.value measure)) ∙ sym (c.in-Ok-receive_rule.ensures slots measure)

pub returns-in-Err-receive_rule-clause-value : goal.returns-in-Err-receive_rule-clause-value
returns-in-Err-receive_rule-clause-value c = λ measure.
    let slots = slots_of c.args.self.now.slots in
    let state = known_with c.args.bounds.now slots measure in
    let rule : ℕ → Cap → Result AfterCall Refusal = λ _. receive_rule c.args.self.now.space.image.now c.args.at state c.args.is_wait in
    by-called c.args.self.now.space c.args.at state rule (space-of c.args.self.now.space) c.args.self.now.inside
    ∙ ap (ruled_by rule) (sym (c.in-Ok.ensures.value measure)) ∙ sym (c.in-Err-receive_rule.ensures slots measure)
