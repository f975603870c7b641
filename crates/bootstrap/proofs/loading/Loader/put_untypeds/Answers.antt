-- By the operations that are left.
use Rattle.std.proofs.Common.{◌∙◌, ◌+◌, ap, arith}
use Rattle.std.proofs.lemmas.Result.{err_from_is_err_and}
use Rattle.model.specs.Images.BootCalls.{PutsUntyped}
use Rattle.bootstrap.specs.Loading.{all_performed, progress_of}
use Rattle.bootstrap.proofs.FillLemmas.{op-fails, op-more, op-none}
use Rattle.bootstrap.proofs.Rests.{untypeds_from, untypeds-next, untypeds-none}
use Rattle.bootstrap.proofs.loading.Loader.put_untypeds.Goals as goal

pub put_untyped-requires : goal.put_untyped-requires
put_untyped-requires c = (c.args.image.now.limits.untypeds.entries c.loop-number.number c.untyped-entry.result c.untyped-entry.ensures).bits

pub returns-in_err-put_untyped-clause-outcome : goal.returns-in_err-put_untyped-clause-outcome
returns-in_err-put_untyped-clause-outcome c =
    let image = c.args.image.now.read.now in
    let n = c.loop-number.number in
    let u = image.header.untypeds in
    let now = progress_of c.loop-number.self in
    let p = err_from_is_err_and c.from_residual.result c.from_residual.ensures.1 in
    rw (p.1, p.2) (op-fails u (PutsUntyped n c.untyped-entry.result) (untypeds_from image (n + 1)) _ now _
    (c.loop-number.invariant.same ∙ ap (all_performed u now) (untypeds-next image n c.untyped-entry.result c.untyped-entry.ensures))
    c.in_err-put_untyped.ensures.outcome)

pub loop-number-preserved : goal.loop-number-preserved
loop-number-preserved c =
    let image = c.args.image.now.read.now in
    let n = c.loop-number.number in
    let u = image.header.untypeds in
    let now = progress_of c.loop-number.self in
    record {
      same = op-more u (PutsUntyped n c.untyped-entry.result) (untypeds_from image (n + 1)) _ now (progress_of c.put_untyped.new.self)
          (c.loop-number.invariant.same ∙ ap (all_performed u now) (untypeds-next image n c.untyped-entry.result c.untyped-entry.ensures))
          c.in_ok-put_untyped.ensures.outcome;
      calls = c.put_untyped.ensures.counted ∙ c.loop-number.invariant.calls;
    }

pub returns-clause-outcome : goal.returns-clause-outcome
returns-clause-outcome c =
    let image = c.args.image.now.read.now in
    op-none image.header.untypeds (untypeds_from image c.loop-number.number) _ (progress_of c.loop-number.self)
    (untypeds-none image c.loop-number.number (omega (arith, ap (λ h. h.untypeds) c.header-number-end.ensures.value, c.args.image.now.limits.untypeds.count)))
    c.loop-number.invariant.same
