-- Why a copy without the others has no image that is accepted.
use Rattle.std.proofs.Common.{◌∙◌, Err, ap}
use Rattle.std.proofs.lemmas.Result.{err_from_is_err_and}
use Rattle.headline.specs.parts.Parts.{alone}
use Rattle.parts.specs.Alone.{WhyNotAlone}
use Rattle.parts.specs.Uses.{is_part}
use Rattle.parts.specs.declared.alone.NotAlone.{NotAlone}
use Rattle.parts.proofs.AloneImages.{memory-refused, refused-alone, returned}
use Rattle.parts.proofs.alone.alone_of.Goals as goal

pub returns-in_err-parts-clause-refused : goal.returns-in_err-parts-clause-refused
returns-in_err-parts-clause-refused c =
    let left = alone c.args.image.now (is_part c.args.threads c.args.all.now) in
    let p = err_from_is_err_and c.from_residual.result c.from_residual.ensures.1 in
    returned c.from_residual.result c.in_err-parts.field-0.0 (WhyNotAlone left) (p.1 ∙ ap (λ (why : NotAlone). Err why) p.2)
    (memory-refused left c.in_err-parts.field-0.0 c.in_err-parts.ensures.memory)

pub returns-in-Err-clause-refused : goal.returns-in-Err-clause-refused
returns-in-Err-clause-refused c =
    refused-alone c.args.image.now c.in_ok-parts.parts c.leave_others_out.new.parts (is_part c.args.threads c.args.all.now) c.in_ok-bytes.bytes.items
    c.as_slice.result.now c.in-Err.refusal c.in_ok-bytes.ensures.spelled c.leave_others_out.ensures c.in_ok-parts.ensures.parts c.as_slice.ensures.value
    c.in-Err.ensures.refused
