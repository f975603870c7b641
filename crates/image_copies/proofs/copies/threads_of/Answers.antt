-- By one more.
use Rattle.std.proofs.Common.{rules, ◌≡◌, ◌∙◌, ◌++◌, ◌∷◌, [], ap}
use Rattle.image_copies.proofs.Loops.{copied-all, copied-next, copied-none, first-of, others-of}
use Rattle.image_copies.specs.Counts.{HasThreadCounts}
use Rattle.image_copies.proofs.copies.threads_of.Goals as goal

pub loop-thread-init : goal.loop-thread-init
loop-thread-init c =
    let none : c.new-all.result.items ≡ [] = search rules in
    let left : c.into_iter-thread-iterator.result ≡ c.args.threads = search rules in
    copied-none HasThreadCounts c.args.threads c.into_iter-thread-iterator.result c.new-all.result.items none left

pub loop-thread-preserved : goal.loop-thread-preserved
loop-thread-preserved c = λ counted.
    let left = c.loop-thread.thread-iterator in
    let so-far = c.loop-thread.invariant counted in
    let own = first-of HasThreadCounts left c.next.new.self c.in-Some.thread c.in-Some.ensures.steps so-far.1 in (
      copied-next c.args.threads left c.next.new.self c.loop-thread.all.items c.push.new.self.items _ c.in-Some.ensures.steps
          (c.in_ok-push.ensures.items ∙ ap (λ x. c.loop-thread.all.items ++ x ∷ []) (c.in_ok-thread_of.ensures own)) so-far.0,
      others-of HasThreadCounts left c.next.new.self c.in-Some.thread c.in-Some.ensures.steps so-far.1,
    )

pub returns : goal.returns
returns c = λ counted.
    copied-all c.args.threads c.loop-thread.thread-iterator c.loop-thread.all.items c.in-None.ensures.steps.0 (c.loop-thread.invariant counted).0
