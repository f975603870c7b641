-- By the rights, and by what is promised there.
use Rattle.std.proofs.Common.{◌∙◌, Err, Ok, sym, ap}
use Rattle.model.specs.Acceptance.CallRules.{AfterCall}
use Rattle.model.specs.Acceptance.Promises.{promise_at}
use Rattle.typestate.specs.Calls.{known_with}
use Rattle.typestate.proofs.SentMessages.{allowed, not-allowed}
use Rattle.typestate.proofs.plain_calls.sends_message.Goals as goal

pub returns-then-not-may_send : goal.returns-then-not-may_send
returns-then-not-may_send c = λ slots measure.
    not-allowed c.args.at (known_with c.args.bounds.now slots measure) c.args.endpoint.badge c.args.kind c.args.endpoint.rights
    (promise_at c.args.space.now.image.now c.args.endpoint.offset) (sym c.may_send.ensures ∙ c.if-not-may_send.true)

pub returns-in-Ok : goal.returns-in-Ok
returns-in-Ok c = λ slots measure.
    ap (λ (after : AfterCall). Ok after) (c.after_message.ensures slots measure)
    ∙ allowed c.args.at (known_with c.args.bounds.now slots measure) c.args.endpoint.badge c.args.kind c.args.endpoint.rights
    (promise_at c.args.space.now.image.now c.args.endpoint.offset) (sym c.may_send.ensures ∙ c.if-not-may_send.false) (Ok tt) (c.in-Ok.ensures slots measure)

pub returns-in-Err : goal.returns-in-Err
returns-in-Err c = λ slots measure.
    allowed c.args.at (known_with c.args.bounds.now slots measure) c.args.endpoint.badge c.args.kind c.args.endpoint.rights
    (promise_at c.args.space.now.image.now c.args.endpoint.offset) (sym c.may_send.ensures ∙ c.if-not-may_send.false) (Err c.in-Err.refusal)
    (c.in-Err.ensures slots measure)
