-- What the image gives the thread is of this image and this thread.
use Rattle.std.proofs.Common.{ℕ, ◌∙◌, refl, ap, subst}
use Rattle.model.specs.Images.Image.{Image, Thread}
use Rattle.program_rules.proofs.views.view_of.Goals as goal
use Rattle.program_rules.specs.Views.{AreViews}
use Rattle.thread_spaces.specs.declared.placed_threads.PlacedThread.{PlacedThread}

pub returns-clause-view : goal.returns-clause-view
returns-clause-view c =
    let given = c.given.result in
    let owner = c.args.owner in
    let is = c.in_ok-parts.ensures in
    let views = c.in_ok-points.points in
    let image-is = c.given.ensures.image ∙ ap (λ (o : PlacedThread). o.placed.now.image.now) is in
    let thread-is = c.given.ensures.thread ∙ ap (λ (o : PlacedThread). o.thread.now) is in
    let number-is = c.given.ensures.number ∙ ap (λ (o : PlacedThread). o.number) is in
    record {
      number = refl;
      header = c.header-header.ensures;
      tcb = c.tcb_of-tcb.ensures;
      points = subst (λ (i : Image). AreViews i (record { number = owner.number; thread = owner.thread.now }) owner.thread.now.header.words views) image-is
          (subst (λ (t : Thread). AreViews given.space.image.now (record { number = owner.number; thread = t }) t.header.words views) thread-is
          (subst (λ (n : ℕ). AreViews given.space.image.now (record { number = n; thread = given.space.thread.now }) given.space.thread.now.header.words views)
          number-is c.in_ok-points.ensures.views));
    }
