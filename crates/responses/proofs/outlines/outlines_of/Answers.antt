-- By one thread more.
use Rattle.std.proofs.Common.{◌≡◌, ◌∙◌, ◌<◌, length, sym, arith}
use Rattle.std.proofs.lemmas.Option.{slice_get_within}
use Rattle.responses.proofs.OutlinedThreads.{made-all, made-first, made-next}
use Rattle.responses.proofs.Points.{outline-so}
use Rattle.responses.proofs.outlines.outlines_of.Goals as goal
use Rattle.wellformed.proofs.Laws.{head-of}

pub threads-init : goal.threads-init
threads-init c =
    let same : c.into_iter-thread-iterator.result ≡ c.args.image.now.threads = c.into_iter-thread-iterator.ensures.into_iter_gives
    ∙ c.threads-thread-items.ensures in
    record {
      rest = sym same;
      made = made-first c.args.image.now c.args.image.now.threads c.into_iter-thread-iterator.result c.new-outlines.result.items same
          c.new-outlines.ensures.items;
    }

pub invariant_of-owner : goal.invariant_of-owner
invariant_of-owner c = record {
  listed = (head-of c.threads.number c.args.image.now.threads c.next.new.self c.in-Some.thread (c.threads.invariant.rest ∙ c.in-Some.ensures.steps)).0;
}

pub overflow_add-number : goal.overflow_add-number
overflow_add-number c =
    let at = (head-of c.threads.number c.args.image.now.threads c.next.new.self c.in-Some.thread (c.threads.invariant.rest ∙ c.in-Some.ensures.steps)).0 in
    let below : c.threads.number < length c.args.image.now.threads = slice_get_within c.args.image.now.threads c.threads.number c.in-Some.thread at in
    let fitting = c.images_that_fit_keep_their_limits.ensures c.args.image.now c.header.ensures.fits in
    let count = fitting.threads in
    let few = fitting.header.threads in
    omega (arith, below, count, few)

pub threads-preserved : goal.threads-preserved
threads-preserved c =
    let image = c.args.image.now in
    let here = head-of c.threads.number image.threads c.next.new.self c.in-Some.thread (c.threads.invariant.rest ∙ c.in-Some.ensures.steps) in
    record {
      rest = here.1;
      made = made-next image image.threads c.threads.thread-iterator c.next.new.self c.in-Some.thread c.in_ok-of.field-0 c.threads.number
          c.threads.outlines.items c.push.new.self.items c.in-Some.ensures.steps
          (outline-so image _ c.in_ok-view.view c.in_ok-view.ensures.view c.in_ok-of.field-0 c.in_ok-of.ensures)
          c.in_ok-push.ensures.items c.threads.invariant.made;
    }

pub returns-clause-outlines : goal.returns-clause-outlines
returns-clause-outlines c =
    let image = c.args.image.now in
    made-all image image.threads c.threads.thread-iterator c.threads.number c.threads.outlines.items c.in-None.ensures.steps.0 c.threads.invariant.made
