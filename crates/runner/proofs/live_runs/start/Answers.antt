-- What cannot be read is reported as it is.
use Rattle.std.proofs.lemmas.Result.{err_from_is_err_and}
use Rattle.runner.proofs.Refusals.{tells-alone}
use Rattle.runner.proofs.live_runs.start.Goals as goal

pub returns-in_err-accepted-clause-unread : goal.returns-in_err-accepted-clause-unread
returns-in_err-accepted-clause-unread c =
    let p = err_from_is_err_and c.from_residual.result c.from_residual.ensures.1 in
    tells-alone _ c.args.bytes.now c.in_err-accepted.field-0.0 c.from_residual.result p.0 c.in_err-accepted.ensures.unread p.1 p.2
