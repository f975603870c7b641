-- By the call.
use Rattle.std.proofs.Common.{◌∙◌, ap}
use Rattle.model.specs.declared.invocations.HandlerCall.{HandlerCall}
use Rattle.model.specs.declared.invocations.Invocation.TheVariants.{OnHandler}
use Rattle.typestate.specs.Differences.{slots_of}
use Rattle.typestate.specs.Invocations.{held_after}
use Rattle.typestate.proofs.GivenFacts.{apart-of}
use Rattle.typestate.proofs.HandlerRules.{acknowledge-goes, clear-never}
use Rattle.typestate.proofs.Rising.{changes-rise, from-first}
use Rattle.typestate.proofs.thread_slots.ThreadSlots.handler_call.Goals as goal

pub returns-in-Acknowledge : goal.returns-in-Acknowledge
returns-in-Acknowledge c = λ held.
    let image = c.args.self.now.space.image.now in
    let t = c.args.self.now.space.thread.now in
    let slots = slots_of c.args.self.now.slots in
    let rises = changes-rise c.args.self.now.slots.image.now c.args.self.now.slots.changes.now
    (from-first c.args.self.now.slots.image.now c.args.self.now.slots.rising) in
    ap (λ (call : HandlerCall). held_after image t c.args.at slots held (OnHandler c.args.line call)) c.in-Acknowledge.is
    ∙ acknowledge-goes image t c.args.at slots held (apart-of c.args.self.now.space) c.args.line c.args.self.now.own rises

pub returns-in-Clear : goal.returns-in-Clear
returns-in-Clear c = λ held.
    let image = c.args.self.now.space.image.now in
    let t = c.args.self.now.space.thread.now in
    let slots = slots_of c.args.self.now.slots in
    ap (λ (call : HandlerCall). held_after image t c.args.at slots held (OnHandler c.args.line call)) c.in-Clear.is
    ∙ clear-never image t c.args.at slots held (apart-of c.args.self.now.space) c.args.line

pub returns-in-SetNotification : goal.returns-in-SetNotification
returns-in-SetNotification c = λ held.
    let image = c.args.self.now.space.image.now in
    let t = c.args.self.now.space.thread.now in
    let slots = slots_of c.args.self.now.slots in
    ap (λ (call : HandlerCall). held_after image t c.args.at slots held (OnHandler c.args.line call)) c.in-SetNotification.is
    ∙ c.binds.ensures held
