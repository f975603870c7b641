-- By the number in a7.
use Rattle.std.proofs.Common.{◌≡◌, ◌∙◌, Some, None, Result, Ok, sym, ap}
use Rattle.model.specs.declared.refusals.Refusal.{Refusal}
use Rattle.model.specs.Acceptance.CallRules.{AfterCall}
use Rattle.typestate.specs.declared.behind.Behind.{Behind}
use Rattle.typestate.specs.declared.system_calls.Kind.{Kind}
use Rattle.typestate.specs.declared.system_calls.Kind.TheVariants.{Sends, Receives, Passes}
use Rattle.typestate.specs.Calls.{behind_with, by_kind, known_with}
use Rattle.typestate.specs.Differences.{slots_of}
use Rattle.typestate.proofs.CalledCaps.{after-known, after-unknown}
use Rattle.typestate.proofs.thread_slots.ThreadSlots.system_call.Goals as goal

pub returns-in-Err-clause-value : goal.returns-in-Err-clause-value
returns-in-Err-clause-value c = λ measure.
    let slots = slots_of c.args.self.now.slots in
    after-unknown c.args.self.now.space.image.now c.args.self.now.space.thread.now c.args.at (known_with c.args.bounds.now slots measure) c.in-Err.refusal
    (c.in-Err.ensures slots measure)

pub returns-in-None-clause-value : goal.returns-in-None-clause-value
returns-in-None-clause-value c = λ measure.
    let image = c.args.self.now.space.image.now in
    let t = c.args.self.now.space.thread.now in
    let slots = slots_of c.args.self.now.slots in
    let state = known_with c.args.bounds.now slots measure in
    after-known image t c.args.at state c.in-Ok.number None (c.in-Ok.ensures slots measure)
    (c.kind_of_number.ensures image t c.args.at state ∙ ap (by_kind image t c.args.at state) c.in-None.is)

pub returns-in-Some-Passes-clause-value : goal.returns-in-Some-Passes-clause-value
returns-in-Some-Passes-clause-value c = λ measure.
    let image = c.args.self.now.space.image.now in
    let t = c.args.self.now.space.thread.now in
    let slots = slots_of c.args.self.now.slots in
    let state = known_with c.args.bounds.now slots measure in
    let kind : c.kind_of_number.result ≡ Some Passes = c.in-Some-Passes.is ∙ ap (λ (k : Kind). Some k) c.in-Some-Passes.field-0-is in
    let done : Behind → Result AfterCall Refusal = λ b. Ok (behind_with slots b) in
    after-known image t c.args.at state c.in-Ok.number (Some Passes) (c.in-Ok.ensures slots measure)
    (c.kind_of_number.ensures image t c.args.at state ∙ ap (by_kind image t c.args.at state) kind)
    ∙ ap done (sym c.unchanged.ensures)

pub returns-in-Some-Receives-clause-value : goal.returns-in-Some-Receives-clause-value
returns-in-Some-Receives-clause-value c = λ measure.
    let image = c.args.self.now.space.image.now in
    let t = c.args.self.now.space.thread.now in
    let slots = slots_of c.args.self.now.slots in
    let state = known_with c.args.bounds.now slots measure in
    let is : c.kind_of_number.result ≡ Some (Receives c.in-Some-Receives.is_wait) = c.in-Some-Receives.is
    ∙ ap (λ (k : Kind). Some k) c.in-Some-Receives.field-0-is in
    after-known image t c.args.at state c.in-Ok.number (Some (Receives c.in-Some-Receives.is_wait)) (c.in-Ok.ensures slots measure)
    (c.kind_of_number.ensures image t c.args.at state ∙ ap (by_kind image t c.args.at state) is)
    ∙ c.receives.ensures.value measure

pub returns-in-Some-Sends-clause-value : goal.returns-in-Some-Sends-clause-value
returns-in-Some-Sends-clause-value c = λ measure.
    let image = c.args.self.now.space.image.now in
    let t = c.args.self.now.space.thread.now in
    let slots = slots_of c.args.self.now.slots in
    let state = known_with c.args.bounds.now slots measure in
    let is : c.kind_of_number.result ≡ Some (Sends c.in-Some-Sends.kind) = c.in-Some-Sends.is ∙ ap (λ (k : Kind). Some k) c.in-Some-Sends.field-0-is in
    after-known image t c.args.at state c.in-Ok.number (Some (Sends c.in-Some-Sends.kind)) (c.in-Ok.ensures slots measure)
    (c.kind_of_number.ensures image t c.args.at state ∙ ap (by_kind image t c.args.at state) is)
    ∙ c.sends.ensures.value measure
