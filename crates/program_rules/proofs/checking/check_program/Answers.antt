-- What the image gives the thread is of this image and this thread.
use Rattle.std.proofs.Common.{◌∙◌, ℕ, ap, subst}
use Rattle.model.specs.Acceptance.PointRules.{rules_of_program}
use Rattle.model.specs.Acceptance.Rules.{first_broken}
use Rattle.model.specs.Images.Image.{Image, Thread}
use Rattle.program_rules.proofs.checking.check_program.Goals as goal
use Rattle.thread_spaces.specs.declared.placed_threads.PlacedThread.{PlacedThread}
use Rattle.wellformed.specs.Answering.{Answers}

pub returns : goal.returns
returns c =
    let given = c.given.result in
    let owner = c.args.owner in
    let is = c.in_ok-parts.ensures in
    let image-is = c.given.ensures.image ∙ ap (λ (o : PlacedThread). o.placed.now.image.now) is in
    let thread-is = c.given.ensures.thread ∙ ap (λ (o : PlacedThread). o.thread.now) is in
    let number-is = c.given.ensures.number ∙ ap (λ (o : PlacedThread). o.number) is in
    subst (λ (i : Image). Answers (first_broken (rules_of_program i (record { number = owner.number; thread = owner.thread.now })))
    c.check_given.result) image-is
    (subst (λ (t : Thread). Answers (first_broken (rules_of_program given.space.image.now (record { number = owner.number; thread = t }))) c.check_given.result)
    thread-is
    (subst (λ (n : ℕ). Answers (first_broken (rules_of_program given.space.image.now (record { number = n; thread = given.space.thread.now })))
    c.check_given.result)
    number-is c.check_given.ensures))
