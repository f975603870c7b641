-- By the calls of the sections, one after another.
use Rattle.std.specs.Prelude.{flat_map}
use Rattle.std.proofs.lemmas.Result.{err_from_is_err_and}
use Rattle.model.specs.Images.BootCalls.{signal_calls, thread_calls}
use Rattle.model.specs.Images.Described.{numbered}
use Rattle.bootstrap.specs.Loading.{progress_of}
use Rattle.bootstrap.proofs.Calls.{calls-fail, leaves-more}
use Rattle.bootstrap.proofs.loading.Loader.make_last_calls.Goals as goal

pub returns-in_err-bind_interrupts : goal.returns-in_err-bind_interrupts
returns-in_err-bind_interrupts c =
    let image = c.args.image.now.read.now in
    let p = err_from_is_err_and c.from_residual.result c.from_residual.ensures.1 in
    rw (p.1, p.2) (calls-fail (flat_map (signal_calls image) (numbered image.interrupts)) (flat_map (thread_calls image) image.threads)
    (progress_of c.args.self.now) _ c.in_err-bind_interrupts.ensures.outcome)

pub returns : goal.returns
returns c =
    let image = c.args.image.now.read.now in
    leaves-more (flat_map (signal_calls image) (numbered image.interrupts)) (flat_map (thread_calls image) image.threads) (progress_of c.args.self.now)
    (progress_of c.bind_interrupts.new.self)
    (progress_of c.start_threads.new.self) c.start_threads.result c.in_ok-bind_interrupts.ensures.outcome c.start_threads.ensures.outcome
