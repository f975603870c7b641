-- By the operations that are left.
use Rattle.std.proofs.Common.{◌∙◌, ◌+◌, List, length, ap, subst, arith}
use Rattle.std.specs.List.{AllByRecursion}
use Rattle.std.proofs.lemmas.Result.{err_from_is_err_and}
use Rattle.model.specs.Images.BootCalls.{program_operation}
use Rattle.model.specs.Images.Image.{Thread}
use Rattle.bootstrap.specs.Limits.{ThreadFits}
use Rattle.bootstrap.specs.Loading.{all_performed, progress_of}
use Rattle.bootstrap.proofs.FillLemmas.{op-fails, op-more}
use Rattle.bootstrap.proofs.Rests.{programs_from}
use Rattle.bootstrap.proofs.loading.Loader.fill_programs.Goals as goal

pub fill_program-requires-clause-fits : goal.fill_program-requires-clause-fits
fill_program-requires-clause-fits c =
    (subst (λ (ts : List Thread). AllByRecursion (ThreadFits c.args.image.now.read.now.header) ts) c.in-Some.ensures.steps c.loop-thread.invariant.fits).0

pub returns-in_err-fill_program-clause-outcome : goal.returns-in_err-fill_program-clause-outcome
returns-in_err-fill_program-clause-outcome c =
    let image = c.args.image.now.read.now in
    let n = c.loop-thread.number in
    let now = progress_of c.loop-thread.self in
    let p = err_from_is_err_and c.from_residual.result c.from_residual.ensures.1 in
    rw (p.1, p.2) (op-fails image.header.untypeds (program_operation image (record { number = n; thread = c.in-Some.thread }))
    (programs_from image (n + 1) c.next.new.self) _ now _
    (c.loop-thread.invariant.same ∙ ap (λ ts. all_performed image.header.untypeds now (programs_from image n ts)) c.in-Some.ensures.steps)
    c.in_err-fill_program.ensures.outcome)

pub loop-thread-preserved : goal.loop-thread-preserved
loop-thread-preserved c =
    let image = c.args.image.now.read.now in
    let n = c.loop-thread.number in
    let now = progress_of c.loop-thread.self in
    record {
      same = op-more image.header.untypeds (program_operation image (record { number = n; thread = c.in-Some.thread }))
          (programs_from image (n + 1) c.next.new.self) _ now (progress_of c.fill_program.new.self)
          (c.loop-thread.invariant.same ∙ ap (λ ts. all_performed image.header.untypeds now (programs_from image n ts)) c.in-Some.ensures.steps)
          c.in_ok-fill_program.ensures.outcome;
      calls = c.fill_program.ensures.counted ∙ c.loop-thread.invariant.calls;
      few = omega (arith, ap length c.in-Some.ensures.steps, c.loop-thread.invariant.few);
      fits = (subst (λ (ts : List Thread). AllByRecursion (ThreadFits c.args.image.now.read.now.header) ts) c.in-Some.ensures.steps
          c.loop-thread.invariant.fits).1;
    }

pub returns-clause-outcome : goal.returns-clause-outcome
returns-clause-outcome c =
    let image = c.args.image.now.read.now in
    let n = c.loop-thread.number in
    let now = progress_of c.loop-thread.self in
    c.loop-thread.invariant.same ∙ ap (λ ts. all_performed image.header.untypeds now (programs_from image n ts)) c.in-None.ensures.steps.0
