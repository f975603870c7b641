-- By the calls one after another.
use Rattle.std.proofs.Common.{[], ◌∷◌, ◌++◌}
use Rattle.std.proofs.lemmas.Result.{err_from_is_err_and}
use Rattle.model.specs.Images.BootCalls.{boot_argument, loader_call}
use Rattle.model.specs.Kernel.CallForms.{configure_label}
use Rattle.bootstrap.specs.Loading.{buffer_calls, progress_of}
use Rattle.bootstrap.proofs.Calls.{calls-fail, leaves-more}
use Rattle.bootstrap.proofs.loading.Loader.configure.Goals as goal

pub returns-in_err-call-clause-outcome : goal.returns-in_err-call-clause-outcome
returns-in_err-call-clause-outcome c =
    let h = c.args.header.now in
    let words = (h.fault ∷ boot_argument c.args.cspace) ++ boot_argument c.args.vspace ++ h.guard ∷ [] in
    let p = err_from_is_err_and c.from_residual.result c.from_residual.ensures.1 in
    rw (p.1, p.2) (calls-fail (loader_call c.args.tcb configure_label words ∷ []) (buffer_calls c.args.image.now.read.now c.args.tcb h.buffer)
    (progress_of c.args.self.now) _ c.in_err-call.ensures.outcome)

pub returns-clause-outcome : goal.returns-clause-outcome
returns-clause-outcome c =
    let h = c.args.header.now in
    let words = (h.fault ∷ boot_argument c.args.cspace) ++ boot_argument c.args.vspace ++ h.guard ∷ [] in
    leaves-more (loader_call c.args.tcb configure_label words ∷ []) (buffer_calls c.args.image.now.read.now c.args.tcb h.buffer)
    (progress_of c.args.self.now) (progress_of c.call.new.self) (progress_of c.set_buffer.new.self) c.set_buffer.result c.in_ok-call.ensures.outcome
    c.set_buffer.ensures.outcome
