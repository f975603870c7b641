-- By the calls that are left.
use Rattle.std.proofs.Common.{◌+◌, [], ◌∷◌, ap, arith}
use Rattle.std.proofs.lemmas.Result.{err_from_is_err_and}
use Rattle.model.specs.Images.BootCalls.{capability_call}
use Rattle.bootstrap.specs.Loading.{progress_of}
use Rattle.bootstrap.proofs.Calls.{done, fails, more}
use Rattle.bootstrap.proofs.Rests.{capabilities_from, capabilities-next, capabilities-none}
use Rattle.bootstrap.proofs.loading.Loader.put_capabilities.Goals as goal

pub returns-in_err-put_capability-clause-outcome : goal.returns-in_err-put_capability-clause-outcome
returns-in_err-put_capability-clause-outcome c =
    let image = c.args.image.now.read.now in
    let n = c.loop-number.number in
    let x = c.capability-entry.result in
    let p = err_from_is_err_and c.from_residual.result c.from_residual.ensures.1 in
    rw (p.1, p.2) (fails (capabilities_from image n) (capabilities_from image (n + 1)) (capability_call image x ∷ []) _ (progress_of c.loop-number.self) _
    (capabilities-next image n x c.capability-entry.ensures) c.loop-number.invariant.same c.in_err-put_capability.ensures.outcome)

pub loop-number-preserved : goal.loop-number-preserved
loop-number-preserved c =
    let image = c.args.image.now.read.now in
    let n = c.loop-number.number in
    let x = c.capability-entry.result in
    record {
      same = more (capabilities_from image n) (capabilities_from image (n + 1)) (capability_call image x ∷ []) _ (progress_of c.loop-number.self)
          (progress_of c.put_capability.new.self)
          (capabilities-next image n x c.capability-entry.ensures) c.loop-number.invariant.same c.in_ok-put_capability.ensures.outcome;
      room = omega (arith, c.put_capability.ensures.counted);
    }

pub returns-clause-outcome : goal.returns-clause-outcome
returns-clause-outcome c =
    let image = c.args.image.now.read.now in
    done (capabilities_from image c.loop-number.number) _ (progress_of c.loop-number.self)
    (capabilities-none image c.loop-number.number
    (omega (arith, ap (λ h. h.capabilities) c.header-number-end.ensures.value, c.args.image.now.limits.capabilities.count))) c.loop-number.invariant.same

pub put_capability-requires-clause-fits : goal.put_capability-requires-clause-fits
put_capability-requires-clause-fits c = c.args.image.now.limits.capabilities.entries c.loop-number.number c.capability-entry.result c.capability-entry.ensures
