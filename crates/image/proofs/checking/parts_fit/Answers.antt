use Rattle.std.proofs.Common.{List, length, ap, ◌∙◌}
use Rattle.model.specs.Images.Format.{many_fit}
use Rattle.model.specs.Images.Image.{Thread, slots_format, thread_format}
use Rattle.image.proofs.WholeFits.{threads_fit, whole-fits}
use Rattle.image.proofs.checking.parts_fit.Goals as goal

pub returns : goal.returns
returns c =
    let l = c.in-Some.counts in
    let version = c.parts.inside.version in
    let threads = c.threads_fit.ensures
    ∙ ap (λ (ts : List Thread). many_fit (λ _. thread_format (slots_format l.objects) version l.objects) (λ _. 0) 0 (length ts) ts) c.deref.ensures.value
    ∙ ap (threads_fit l) c.parts.view_is in
    whole-fits c.args.parts.now l c.sections_fit.result c.threads_fit.result c.in-Some.ensures c.if-not-sections_fit.false c.sections_fit.ensures threads
