-- By the calls that are left.
use Rattle.std.proofs.Common.{◌+◌, [], ◌∷◌, ap, arith}
use Rattle.std.proofs.lemmas.Result.{err_from_is_err_and}
use Rattle.model.specs.Images.BootCalls.{interrupt_call}
use Rattle.bootstrap.specs.Loading.{progress_of}
use Rattle.bootstrap.proofs.Calls.{done, fails, more}
use Rattle.bootstrap.proofs.Rests.{handlers_from, handlers-next, handlers-none}
use Rattle.bootstrap.proofs.loading.Loader.take_handlers.Goals as goal

pub returns-in_err-take_handler-clause-outcome : goal.returns-in_err-take_handler-clause-outcome
returns-in_err-take_handler-clause-outcome c =
    let image = c.args.image.now.read.now in
    let n = c.loop-number.number in
    let x = c.interrupt-entry.result in
    let p = err_from_is_err_and c.from_residual.result c.from_residual.ensures.1 in
    rw (p.1, p.2) (fails (handlers_from image n) (handlers_from image (n + 1)) (interrupt_call image (n, x) ∷ []) _ (progress_of c.loop-number.self) _
    (handlers-next image n x c.interrupt-entry.ensures) c.loop-number.invariant.same c.in_err-take_handler.ensures.outcome)

pub loop-number-preserved : goal.loop-number-preserved
loop-number-preserved c =
    let image = c.args.image.now.read.now in
    let n = c.loop-number.number in
    let x = c.interrupt-entry.result in
    record {
      same = more (handlers_from image n) (handlers_from image (n + 1)) (interrupt_call image (n, x) ∷ []) _ (progress_of c.loop-number.self)
          (progress_of c.take_handler.new.self)
          (handlers-next image n x c.interrupt-entry.ensures) c.loop-number.invariant.same c.in_ok-take_handler.ensures.outcome;
      room = omega (arith, c.take_handler.ensures.counted);
    }

pub returns-clause-outcome : goal.returns-clause-outcome
returns-clause-outcome c =
    let image = c.args.image.now.read.now in
    done (handlers_from image c.loop-number.number) _ (progress_of c.loop-number.self)
    (handlers-none image c.loop-number.number
    (omega (arith, ap (λ h. h.interrupts) c.header-number-end.ensures.value, c.args.image.now.limits.interrupts.count)))
    c.loop-number.invariant.same
