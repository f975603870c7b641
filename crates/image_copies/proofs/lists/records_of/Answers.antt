-- By one more.
use Rattle.std.proofs.Common.{rules, ◌≡◌, ◌∙◌, ◌++◌, ◌∷◌, [], ap}
use Rattle.image_copies.proofs.Loops.{copied-all, copied-next, copied-none, first-of, others-of}
use Rattle.image_copies.specs.Counts.{HasRecordCounts}
use Rattle.image_copies.proofs.lists.records_of.Goals as goal

pub loop-point-init : goal.loop-point-init
loop-point-init c =
    let none : c.new-all.result.items ≡ [] = search rules in
    let left : c.into_iter-point-iterator.result ≡ c.args.records = search rules in
    copied-none HasRecordCounts c.args.records c.into_iter-point-iterator.result c.new-all.result.items none left

pub loop-point-preserved : goal.loop-point-preserved
loop-point-preserved c = λ counted.
    let left = c.loop-point.point-iterator in
    let so-far = c.loop-point.invariant counted in
    let own = first-of HasRecordCounts left c.next.new.self c.in-Some.point c.in-Some.ensures.steps so-far.1 in (
      copied-next c.args.records left c.next.new.self c.loop-point.all.items c.push.new.self.items _ c.in-Some.ensures.steps
          (c.in_ok-push.ensures.items ∙ ap (λ x. c.loop-point.all.items ++ x ∷ []) (c.in_ok-record_of.ensures own)) so-far.0,
      others-of HasRecordCounts left c.next.new.self c.in-Some.point c.in-Some.ensures.steps so-far.1,
    )

pub returns : goal.returns
returns c = λ counted.
    copied-all c.args.records c.loop-point.point-iterator c.loop-point.all.items c.in-None.ensures.steps.0 (c.loop-point.invariant counted).0
