-- By the calls that start a thread.
use Rattle.std.proofs.lemmas.Result.{err_from_is_err_and}
use Rattle.bootstrap.specs.Loading.{progress_of}
use Rattle.bootstrap.proofs.Started.{not-configured, not-set, started}
use Rattle.bootstrap.proofs.loading.Loader.start_thread.Goals as goal

pub returns-in_err-configure-clause-outcome : goal.returns-in_err-configure-clause-outcome
returns-in_err-configure-clause-outcome c =
    let p = err_from_is_err_and c.from_residual.result c.from_residual.ensures.1 in
    rw (p.1, p.2) (not-configured c.args.image.now.read.now c.args.thread.now c.original_slot-tcb.result c.original_slot-cspace.result
    c.original_slot-vspace.result c.header-header.result c.header-header.ensures c.original_slot-tcb.ensures c.original_slot-cspace.ensures
    c.original_slot-vspace.ensures (progress_of c.args.self.now) _ c.in_err-configure.ensures.outcome)

pub returns-in_err-set_start-clause-outcome : goal.returns-in_err-set_start-clause-outcome
returns-in_err-set_start-clause-outcome c =
    let p = err_from_is_err_and c.from_residual-in_err-set_start.result c.from_residual-in_err-set_start.ensures.1 in
    rw (p.1, p.2) (not-set c.args.image.now.read.now c.args.thread.now c.original_slot-tcb.result c.original_slot-cspace.result
    c.original_slot-vspace.result c.header-header.result c.header-header.ensures c.original_slot-tcb.ensures c.original_slot-cspace.ensures
    c.original_slot-vspace.ensures (progress_of c.args.self.now) (progress_of c.configure.new.self) _ c.in_ok-configure.ensures.outcome
    c.in_err-set_start.ensures.outcome)

pub returns-clause-outcome : goal.returns-clause-outcome
returns-clause-outcome c =
    started c.args.image.now.read.now c.args.thread.now c.original_slot-tcb.result c.original_slot-cspace.result c.original_slot-vspace.result
    c.header-header.result c.header-header.ensures c.original_slot-tcb.ensures c.original_slot-cspace.ensures c.original_slot-vspace.ensures
    (progress_of c.args.self.now) (progress_of c.configure.new.self) (progress_of c.set_start.new.self) (progress_of c.resume.new.self) c.resume.result
    c.in_ok-configure.ensures.outcome c.in_ok-set_start.ensures.outcome c.resume.ensures.outcome
