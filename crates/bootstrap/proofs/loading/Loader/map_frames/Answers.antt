-- By the calls that are left.
use Rattle.std.proofs.Common.{◌+◌, ap, arith}
use Rattle.std.proofs.lemmas.Result.{err_from_is_err_and}
use Rattle.model.specs.Images.BootCalls.{frame_calls}
use Rattle.bootstrap.specs.Loading.{progress_of}
use Rattle.bootstrap.proofs.Calls.{done, fails, more}
use Rattle.bootstrap.proofs.Rests.{frames_from, frames-next, frames-none}
use Rattle.bootstrap.proofs.loading.Loader.map_frames.Goals as goal

pub returns-in_err-map_frame-clause-outcome : goal.returns-in_err-map_frame-clause-outcome
returns-in_err-map_frame-clause-outcome c =
    let image = c.args.image.now.read.now in
    let n = c.loop-number.number in
    let x = c.frame-entry.result in
    let p = err_from_is_err_and c.from_residual.result c.from_residual.ensures.1 in
    rw (p.1, p.2) (fails (frames_from image n) (frames_from image (n + 1)) (frame_calls image (n, x)) _ (progress_of c.loop-number.self) _
    (frames-next image n x c.frame-entry.ensures) c.loop-number.invariant.same c.in_err-map_frame.ensures.outcome)

pub loop-number-preserved : goal.loop-number-preserved
loop-number-preserved c =
    let image = c.args.image.now.read.now in
    let n = c.loop-number.number in
    let x = c.frame-entry.result in
    record {
      same = more (frames_from image n) (frames_from image (n + 1)) (frame_calls image (n, x)) _ (progress_of c.loop-number.self)
          (progress_of c.map_frame.new.self)
          (frames-next image n x c.frame-entry.ensures) c.loop-number.invariant.same c.in_ok-map_frame.ensures.outcome;
      room = omega (arith, c.map_frame.ensures.counted);
    }

pub returns-clause-outcome : goal.returns-clause-outcome
returns-clause-outcome c =
    let image = c.args.image.now.read.now in
    done (frames_from image c.loop-number.number) _ (progress_of c.loop-number.self)
    (frames-none image c.loop-number.number (omega (arith, ap (λ h. h.frames) c.header-number-end.ensures.value, c.args.image.now.limits.frames.count)))
    c.loop-number.invariant.same

pub map_frame-requires-clause-fits : goal.map_frame-requires-clause-fits
map_frame-requires-clause-fits c = c.args.image.now.limits.frames.entries c.loop-number.number c.frame-entry.result c.frame-entry.ensures
