-- By what is promised there.
use Rattle.std.proofs.Common.{◌≡◌, ◌∙◌, Some, None, sym, ap}
use Rattle.std.specs.Prelude.{option_map}
use Rattle.model.specs.Acceptance.CallRules.{promise_rule}
use Rattle.model.specs.Acceptance.Promises.{promise_at}
use Rattle.typestate.specs.Calls.{known_with}
use Rattle.typestate.proofs.SentMessages.{info-unknown, promise-judged}
use Rattle.typestate.proofs.plain_calls.promise_rule.Goals as goal

pub returns-in_default : goal.returns-in_default
returns-in_default c = λ slots measure.
    let none : promise_at c.args.space.now.image.now c.args.endpoint ≡ None = sym c.promise_at.ensures ∙ ap (λ o. option_map (λ p. p.now) o) c.in_default.is in
    sym (ap (promise_rule c.args.at (known_with c.args.bounds.now slots measure) c.args.badge) none)

pub returns-in-Err : goal.returns-in-Err
returns-in-Err c = λ slots measure.
    let state = known_with c.args.bounds.now slots measure in
    let p = c.in-Some.promise.now in
    let some : promise_at c.args.space.now.image.now c.args.endpoint ≡ Some p = sym c.promise_at.ensures ∙ ap (λ o. option_map (λ p. p.now) o) c.in-Some.is in
    info-unknown c.args.at state c.args.badge p c.in-Err.refusal (sym (c.in-Err.ensures slots measure))
    ∙ ap (promise_rule c.args.at state c.args.badge) (sym some)

pub returns-then-keeps_promise : goal.returns-then-keeps_promise
returns-then-keeps_promise c = λ slots measure.
    let state = known_with c.args.bounds.now slots measure in
    let p = c.in-Some.promise.now in
    let some : promise_at c.args.space.now.image.now c.args.endpoint ≡ Some p = sym c.promise_at.ensures ∙ ap (λ o. option_map (λ p. p.now) o) c.in-Some.is in
    promise-judged c.args.at state c.args.badge p c.in-Ok.info _ (sym (c.in-Ok.ensures slots measure)) (sym c.keeps_promise.ensures ∙ c.if-keeps_promise.true)
    ∙ ap (promise_rule c.args.at state c.args.badge) (sym some)

pub returns-else-keeps_promise : goal.returns-else-keeps_promise
returns-else-keeps_promise c = λ slots measure.
    let state = known_with c.args.bounds.now slots measure in
    let p = c.in-Some.promise.now in
    let some : promise_at c.args.space.now.image.now c.args.endpoint ≡ Some p = sym c.promise_at.ensures ∙ ap (λ o. option_map (λ p. p.now) o) c.in-Some.is in
    promise-judged c.args.at state c.args.badge p c.in-Ok.info _ (sym (c.in-Ok.ensures slots measure)) (sym c.keeps_promise.ensures ∙ c.if-keeps_promise.false)
    ∙ ap (promise_rule c.args.at state c.args.badge) (sym some)
