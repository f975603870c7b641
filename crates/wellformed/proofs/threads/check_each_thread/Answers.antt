-- By one thread more.
use Rattle.std.proofs.Common.{◌∙◌}
use Rattle.model.specs.Acceptance.ThreadRules.{rules_of_thread}
use Rattle.wellformed.proofs.RulesLeft.{all_kept}
use Rattle.wellformed.proofs.ThreadSteps.{head-of}
use Rattle.wellformed.proofs.threads.check_each_thread.Goals as goal

pub check_thread-requires-clause-there : goal.check_thread-requires-clause-there
check_thread-requires-clause-there c =
    (head-of c.loop-thread.number c.args.image.now.threads c.next.new.self c.in-Some.thread (c.loop-thread.invariant.rest ∙ c.in-Some.ensures.steps)).0

pub loop-thread-preserved : goal.loop-thread-preserved
loop-thread-preserved c =
    let image = c.args.image.now in
    let n = c.loop-thread.number in
    let here = head-of n image.threads c.next.new.self c.in-Some.thread (c.loop-thread.invariant.rest ∙ c.in-Some.ensures.steps) in
    record {
      rest = here.1;
      earlier = c.in_ok-check_thread.ensures.earlier;
      left = all_kept (λ u. rules_of_thread image (record { number = u.0; thread = u.1 })) image.threads n c.in-Some.thread _ here.0
          c.in_ok-check_thread.ensures.rules c.loop-thread.invariant.left;
    }
