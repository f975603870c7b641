-- By the calls that are left.
use Rattle.std.proofs.Common.{◌+◌, ap, arith}
use Rattle.std.proofs.lemmas.Result.{err_from_is_err_and}
use Rattle.model.specs.Images.BootCalls.{signal_calls}
use Rattle.bootstrap.specs.Loading.{progress_of}
use Rattle.bootstrap.proofs.Calls.{done, fails, more}
use Rattle.bootstrap.proofs.Rests.{signals_from, signals-next, signals-none}
use Rattle.bootstrap.proofs.loading.Loader.bind_interrupts.Goals as goal

pub returns-in_err-bind_interrupt-clause-outcome : goal.returns-in_err-bind_interrupt-clause-outcome
returns-in_err-bind_interrupt-clause-outcome c =
    let image = c.args.image.now.read.now in
    let n = c.loop-number.number in
    let x = c.interrupt-entry.result in
    let p = err_from_is_err_and c.from_residual.result c.from_residual.ensures.1 in
    rw (p.1, p.2) (fails (signals_from image n) (signals_from image (n + 1)) (signal_calls image (n, x)) _ (progress_of c.loop-number.self) _
    (signals-next image n x c.interrupt-entry.ensures) c.loop-number.invariant.same c.in_err-bind_interrupt.ensures.outcome)

pub loop-number-preserved : goal.loop-number-preserved
loop-number-preserved c =
    let image = c.args.image.now.read.now in
    let n = c.loop-number.number in
    let x = c.interrupt-entry.result in
    record {
      same = more (signals_from image n) (signals_from image (n + 1)) (signal_calls image (n, x)) _ (progress_of c.loop-number.self)
          (progress_of c.bind_interrupt.new.self)
          (signals-next image n x c.interrupt-entry.ensures) c.loop-number.invariant.same c.in_ok-bind_interrupt.ensures.outcome;
      room = omega (arith, c.bind_interrupt.ensures.counted);
    }

pub returns-clause-outcome : goal.returns-clause-outcome
returns-clause-outcome c =
    let image = c.args.image.now.read.now in
    done (signals_from image c.loop-number.number) _ (progress_of c.loop-number.self)
    (signals-none image c.loop-number.number
    (omega (arith, ap (λ h. h.interrupts) c.header-number-end.ensures.value, c.args.image.now.limits.interrupts.count)))
    c.loop-number.invariant.same

pub bind_interrupt-requires-clause-fits : goal.bind_interrupt-requires-clause-fits
bind_interrupt-requires-clause-fits c = c.args.image.now.limits.interrupts.entries c.loop-number.number c.interrupt-entry.result c.interrupt-entry.ensures
