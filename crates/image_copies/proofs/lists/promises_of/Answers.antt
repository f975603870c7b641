-- By one more.
use Rattle.std.proofs.Common.{rules, ◌≡◌, ◌∙◌, ◌++◌, ◌∷◌, [], ap}
use Rattle.image_copies.proofs.Loops.{copied-all, copied-next, copied-none, first-of, others-of}
use Rattle.image_copies.specs.Counts.{HasPromiseCount}
use Rattle.image_copies.proofs.lists.promises_of.Goals as goal

pub loop-promise-init : goal.loop-promise-init
loop-promise-init c =
    let none : c.new-all.result.items ≡ [] = search rules in
    let left : c.into_iter-promise-iterator.result ≡ c.args.promises = search rules in
    copied-none HasPromiseCount c.args.promises c.into_iter-promise-iterator.result c.new-all.result.items none left

pub loop-promise-preserved : goal.loop-promise-preserved
loop-promise-preserved c = λ counted.
    let left = c.loop-promise.promise-iterator in
    let so-far = c.loop-promise.invariant counted in
    let own = first-of HasPromiseCount left c.next.new.self c.in-Some.promise c.in-Some.ensures.steps so-far.1 in (
      copied-next c.args.promises left c.next.new.self c.loop-promise.all.items c.push.new.self.items _ c.in-Some.ensures.steps
          (c.in_ok-push.ensures.items ∙ ap (λ x. c.loop-promise.all.items ++ x ∷ []) (c.in_ok-promise_of.ensures own)) so-far.0,
      others-of HasPromiseCount left c.next.new.self c.in-Some.promise c.in-Some.ensures.steps so-far.1,
    )

pub returns : goal.returns
returns c = λ counted.
    copied-all c.args.promises c.loop-promise.promise-iterator c.loop-promise.all.items c.in-None.ensures.steps.0 (c.loop-promise.invariant counted).0
