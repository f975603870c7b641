-- No frame is beyond the last address.
use Rattle.std.proofs.Common.{sym, arith}
use Rattle.bootstrap.proofs.FarFrames.{frame-far}
use Rattle.bootstrap.proofs.fills.frame_behind.Goals as goal

pub returns-in-Err-clause-value : goal.returns-in-Err-clause-value
returns-in-Err-clause-value c =
    sym (frame-far c.args.image.now.read.now.frames c.args.root c.args.address
    (λ k f at. let fits = c.args.image.now.limits.frames.entries k f at in fits.address)
    (omega (arith, c.in-Err.ensures)))
