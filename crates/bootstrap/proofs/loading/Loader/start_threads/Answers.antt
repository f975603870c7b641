-- By the calls that are left.
use Rattle.std.proofs.Common.{List, length, ap, subst, arith}
use Rattle.std.specs.Prelude.{flat_map}
use Rattle.std.specs.List.{AllByRecursion}
use Rattle.std.proofs.lemmas.Result.{err_from_is_err_and}
use Rattle.model.specs.Images.BootCalls.{thread_calls}
use Rattle.model.specs.Images.Image.{Thread}
use Rattle.bootstrap.specs.Limits.{ThreadFits}
use Rattle.bootstrap.specs.Loading.{progress_of}
use Rattle.bootstrap.proofs.Calls.{done, fails, more}
use Rattle.bootstrap.proofs.loading.Loader.start_threads.Goals as goal

pub start_thread-requires-clause-fits : goal.start_thread-requires-clause-fits
start_thread-requires-clause-fits c =
    (subst (λ (ts : List Thread). AllByRecursion (ThreadFits c.args.image.now.read.now.header) ts) c.in-Some.ensures.steps c.loop-thread.invariant.fits).0

pub returns-in_err-start_thread-clause-outcome : goal.returns-in_err-start_thread-clause-outcome
returns-in_err-start_thread-clause-outcome c =
    let f = thread_calls c.args.image.now.read.now in
    let p = err_from_is_err_and c.from_residual.result c.from_residual.ensures.1 in
    rw (p.1, p.2) (fails (flat_map f c.loop-thread.thread-iterator) (flat_map f c.next.new.self) (f c.in-Some.thread) _ (progress_of c.loop-thread.self) _
    (ap (flat_map f) c.in-Some.ensures.steps) c.loop-thread.invariant.same c.in_err-start_thread.ensures.outcome)

pub loop-thread-preserved : goal.loop-thread-preserved
loop-thread-preserved c =
    let f = thread_calls c.args.image.now.read.now in
    record {
      same = more (flat_map f c.loop-thread.thread-iterator) (flat_map f c.next.new.self) (f c.in-Some.thread) _ (progress_of c.loop-thread.self)
          (progress_of c.start_thread.new.self)
          (ap (flat_map f) c.in-Some.ensures.steps) c.loop-thread.invariant.same c.in_ok-start_thread.ensures.outcome;
      room = omega (arith, ap length c.in-Some.ensures.steps, c.start_thread.ensures.counted);
      fits = (subst (λ (ts : List Thread). AllByRecursion (ThreadFits c.args.image.now.read.now.header) ts) c.in-Some.ensures.steps
          c.loop-thread.invariant.fits).1;
    }

pub returns-clause-outcome : goal.returns-clause-outcome
returns-clause-outcome c =
    let f = thread_calls c.args.image.now.read.now in
    done (flat_map f c.loop-thread.thread-iterator) _ (progress_of c.loop-thread.self) (ap (flat_map f) c.in-None.ensures.steps.0) c.loop-thread.invariant.same
