-- Thread by thread.
use Rattle.std.proofs.Common.{◌∙◌, ◌<◌, length, sym, ap, subst, arith}
use Rattle.std.specs.Prelude.{slice_get}
use Rattle.std.proofs.lemmas.Option.{slice_get_within}
use Rattle.model.specs.Images.Image.{Image}
use Rattle.answering.proofs.Shown.{answers-so, head-of, shown-more, shown-none}
use Rattle.answering.proofs.answers.answers_of.Goals as goal
use Rattle.answering.specs.Answers.{AreShown}

pub threads-init : goal.threads-init
threads-init c = record {
  rest =
      sym (c.into_iter-thread-iterator.ensures.into_iter_gives ∙ c.threads-thread-items.ensures ∙ ap (λ (i : Image). i.threads) c.image-image.ensures.value);
  shown = shown-none c.args.accepted.now c.new-found.result.items c.new-found.ensures.items;
}

pub invariant_of-owner : goal.invariant_of-owner
invariant_of-owner c = record {
  listed =
      ap (λ (i : Image). slice_get i.threads c.threads.number) c.image-image.ensures.value
      ∙ (head-of c.threads.number c.args.accepted.now.threads c.next.new.self c.in-Some.thread (c.threads.invariant.rest ∙ c.in-Some.ensures.steps)).0;
}

pub overflow_add-number : goal.overflow_add-number
overflow_add-number c =
    let image = c.image-image.result.now in
    let at =
    ap (λ (i : Image). slice_get i.threads c.threads.number) c.image-image.ensures.value
    ∙ (head-of c.threads.number c.args.accepted.now.threads c.next.new.self c.in-Some.thread (c.threads.invariant.rest ∙ c.in-Some.ensures.steps)).0 in
    let below : c.threads.number < length image.threads = slice_get_within image.threads c.threads.number c.in-Some.thread at in
    let fitting = c.images_that_fit_keep_their_limits.ensures image c.header.ensures.fits in
    let count = fitting.threads in
    let few = fitting.header.threads in
    omega (arith, below, count, few)

pub threads-preserved : goal.threads-preserved
threads-preserved c =
    let image = c.args.accepted.now in
    let here = head-of c.threads.number image.threads c.next.new.self c.in-Some.thread (c.threads.invariant.rest ∙ c.in-Some.ensures.steps) in
    record {
      rest = here.1;
      shown = shown-more image c.threads.number c.threads.found.items c.push.new.self.items c.in_ok-answered_of.field-0 c.in-Some.thread
          c.in_ok-push.ensures.items here.0
          (subst (λ (i : Image). AreShown i (record { number = c.threads.number; thread = c.in-Some.thread }) c.in_ok-answered_of.field-0.badges.items)
          c.image-image.ensures.value c.in_ok-answered_of.ensures.answered) c.threads.invariant.shown;
    }

pub returns-clause-answers : goal.returns-clause-answers
returns-clause-answers c = answers-so c.args.accepted.now c.threads.number c.threads.found.items c.threads.invariant.shown
