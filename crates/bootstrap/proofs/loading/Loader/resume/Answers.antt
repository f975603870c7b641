-- By the calls one after another.
use Rattle.std.proofs.Common.{[], ◌∷◌, map}
use Rattle.std.proofs.lemmas.Result.{err_from_is_err_and}
use Rattle.model.specs.Images.BootCalls.{loader_call}
use Rattle.model.specs.Kernel.CallForms.{resume_label}
use Rattle.bootstrap.specs.Loading.{progress_of, register_call}
use Rattle.bootstrap.proofs.Calls.{calls-fail, leaves-more}
use Rattle.bootstrap.proofs.loading.Loader.resume.Goals as goal

pub returns-in_err-set_registers-clause-outcome : goal.returns-in_err-set_registers-clause-outcome
returns-in_err-set_registers-clause-outcome c =
    let p = err_from_is_err_and c.from_residual.result c.from_residual.ensures.1 in
    rw (p.1, p.2) (calls-fail (map (register_call c.args.tcb) c.args.thread.now.registers) (loader_call c.args.tcb resume_label [] ∷ [])
    (progress_of c.args.self.now) _ c.in_err-set_registers.ensures.outcome)

pub returns-clause-outcome : goal.returns-clause-outcome
returns-clause-outcome c =
    leaves-more (map (register_call c.args.tcb) c.args.thread.now.registers) (loader_call c.args.tcb resume_label [] ∷ []) (progress_of c.args.self.now)
    (progress_of c.set_registers.new.self)
    (progress_of c.call.new.self) c.call.result c.in_ok-set_registers.ensures.outcome c.call.ensures.outcome
