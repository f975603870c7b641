-- By the calls that are left.
use Rattle.std.proofs.Common.{[], ◌∷◌, length, map, ap, arith}
use Rattle.std.proofs.lemmas.Result.{err_from_is_err_and}
use Rattle.bootstrap.specs.Loading.{progress_of, register_call}
use Rattle.bootstrap.proofs.Calls.{done, fails, more}
use Rattle.bootstrap.proofs.loading.Loader.set_registers.Goals as goal

pub returns-in_err-call-clause-outcome : goal.returns-in_err-call-clause-outcome
returns-in_err-call-clause-outcome c =
    let f = register_call c.args.tcb in
    let p = err_from_is_err_and c.from_residual.result c.from_residual.ensures.1 in
    rw (p.1, p.2) (fails (map f c.loop-entry.entry-iterator) (map f c.next.new.self) (f c.in-Some.entry ∷ []) _ (progress_of c.loop-entry.self) _
    (ap (map f) c.in-Some.ensures.steps) c.loop-entry.invariant.same c.in_err-call.ensures.outcome)

pub loop-entry-preserved : goal.loop-entry-preserved
loop-entry-preserved c =
    let f = register_call c.args.tcb in
    record {
      same = more (map f c.loop-entry.entry-iterator) (map f c.next.new.self) (f c.in-Some.entry ∷ []) _ (progress_of c.loop-entry.self)
          (progress_of c.call.new.self)
          (ap (map f) c.in-Some.ensures.steps) c.loop-entry.invariant.same c.in_ok-call.ensures.outcome;
      room = omega (arith, ap length c.in-Some.ensures.steps, c.call.ensures.counted);
    }

pub returns-clause-outcome : goal.returns-clause-outcome
returns-clause-outcome c =
    let f = register_call c.args.tcb in
    done (map f c.loop-entry.entry-iterator) _ (progress_of c.loop-entry.self) (ap (map f) c.in-None.ensures.steps.0) c.loop-entry.invariant.same
