-- By what is promised there.
use Rattle.std.proofs.Common.{◌≡◌, ◌∙◌, Bool, Some, None, sym, ap}
use Rattle.std.specs.Prelude.{option_map}
use Rattle.model.specs.Acceptance.CallRules.{promise_received, with_received}
use Rattle.model.specs.Acceptance.Promises.{promise_at}
use Rattle.typestate.proofs.plain_calls.with_received.Goals as goal

pub returns-in-Some : goal.returns-in-Some
returns-in-Some c =
    let image = c.args.space.now.image.now in
    let some : promise_at image c.args.endpoint ≡ Some c.in-Some.promise.now = sym c.promise_at.ensures ∙ ap (λ o. option_map (λ p. p.now) o) c.in-Some.is in
    c.with_promise.ensures ∙ ap (with_received c.args.bounds.now) (sym some)
    ∙ ap (λ (b : Bool). with_received c.args.bounds.now (promise_received image b c.args.endpoint)) (sym c.if-is_wait.true)

pub returns-in-None : goal.returns-in-None
returns-in-None c =
    let image = c.args.space.now.image.now in
    let none : promise_at image c.args.endpoint ≡ None = sym c.promise_at.ensures ∙ ap (λ o. option_map (λ p. p.now) o) c.in-None.is in
    c.with_message.ensures ∙ ap (with_received c.args.bounds.now) (sym none)
    ∙ ap (λ (b : Bool). with_received c.args.bounds.now (promise_received image b c.args.endpoint)) (sym c.if-is_wait.true)

pub returns-else-is_wait : goal.returns-else-is_wait
returns-else-is_wait c =
    c.with_message-else-is_wait.ensures
    ∙ ap (λ (b : Bool). with_received c.args.bounds.now (promise_received c.args.space.now.image.now b c.args.endpoint)) (sym c.if-is_wait.false)
