-- By one thread more.
use Rattle.std.proofs.Common.{◌≡◌, ◌∙◌, ◌<◌, List, length, sym, ap, arith}
use Rattle.std.proofs.lemmas.Option.{slice_get_within}
use Rattle.model.specs.Acceptance.PointRules.{program_rules}
use Rattle.model.specs.Acceptance.Rules.{first_broken}
use Rattle.model.specs.Images.Image.{Thread}
use Rattle.program_rules.proofs.Outcomes.{passed-on}
use Rattle.program_rules.proofs.ThreadsLeft.{next-kept, one-refused, rules_from}
use Rattle.program_rules.proofs.checking.check_programs.Goals as goal
use Rattle.wellformed.proofs.Laws.{head-of}

pub threads-init : goal.threads-init
unfolding program_rules
threads-init c =
    let same : c.into_iter-thread-iterator.result ≡ c.args.image.now.threads = c.into_iter-thread-iterator.ensures.into_iter_gives
    ∙ c.threads-thread-items.ensures in
    record {
      rest = sym same;
      left = ap (λ (ts : List Thread). first_broken (rules_from c.args.image.now 0 ts)) same;
    }

pub invariant_of-owner : goal.invariant_of-owner
invariant_of-owner c = record {
  listed = (head-of c.threads.number c.args.image.now.threads c.next.new.self c.in-Some.thread (c.threads.invariant.rest ∙ c.in-Some.ensures.steps)).0;
}

pub returns-in_err-check_program : goal.returns-in_err-check_program
returns-in_err-check_program c =
    let refusal = c.in_err-check_program.field-0.0 in
    passed-on _ c.from_residual-in_err-check_program.result refusal c.from_residual-in_err-check_program.ensures.1
    (one-refused c.args.image.now c.threads.number c.in-Some.thread c.next.new.self (first_broken (program_rules c.args.image.now)) refusal
    c.in_err-check_program.ensures
    (ap (λ (ts : List Thread). first_broken (rules_from c.args.image.now c.threads.number ts)) (sym c.in-Some.ensures.steps) ∙ c.threads.invariant.left))

pub overflow_add-number : goal.overflow_add-number
overflow_add-number c =
    let at = (head-of c.threads.number c.args.image.now.threads c.next.new.self c.in-Some.thread (c.threads.invariant.rest ∙ c.in-Some.ensures.steps)).0 in
    let below : c.threads.number < length c.args.image.now.threads = slice_get_within c.args.image.now.threads c.threads.number c.in-Some.thread at in
    let fitting = c.images_that_fit_keep_their_limits.ensures c.args.image.now c.header.ensures.fits in
    let count = fitting.threads in
    let few = fitting.header.threads in
    omega (arith, below, count, few)

pub threads-preserved : goal.threads-preserved
threads-preserved c =
    let here = head-of c.threads.number c.args.image.now.threads c.next.new.self c.in-Some.thread (c.threads.invariant.rest ∙ c.in-Some.ensures.steps) in
    record {
      rest = here.1;
      left = next-kept c.args.image.now c.threads.number c.in-Some.thread c.next.new.self (first_broken (program_rules c.args.image.now))
          c.in_ok-check_program.ensures
          (ap (λ (ts : List Thread). first_broken (rules_from c.args.image.now c.threads.number ts)) (sym c.in-Some.ensures.steps) ∙ c.threads.invariant.left);
    }
