-- By the operations that are left.
use Rattle.std.proofs.Common.{◌∙◌, List, map, ap, subst}
use Rattle.std.specs.List.{AllByRecursion}
use Rattle.std.proofs.lemmas.Result.{err_from_is_err_and}
use Rattle.model.specs.Images.BootCalls.{content_operation}
use Rattle.model.specs.Images.Image.{ImageContent}
use Rattle.bootstrap.specs.Limits.{ContentFits}
use Rattle.bootstrap.specs.Loading.{all_performed, progress_of}
use Rattle.bootstrap.proofs.FillLemmas.{op-fails, op-more}
use Rattle.bootstrap.proofs.loading.Loader.fill_contents.Goals as goal

pub fill_content-requires-clause-fits : goal.fill_content-requires-clause-fits
fill_content-requires-clause-fits c =
    (subst (λ (xs : List ImageContent). AllByRecursion (ContentFits c.args.image.now.read.now.header) xs) c.in-Some.ensures.steps
    c.loop-content.invariant.fits).0

pub returns-in_err-fill_content-clause-outcome : goal.returns-in_err-fill_content-clause-outcome
returns-in_err-fill_content-clause-outcome c =
    let f = content_operation c.args.image.now.read.now in
    let u = c.args.image.now.read.now.header.untypeds in
    let now = progress_of c.loop-content.self in
    let p = err_from_is_err_and c.from_residual.result c.from_residual.ensures.1 in
    rw (p.1, p.2) (op-fails u (f c.in-Some.content) (map f c.next.new.self) _ now _
    (c.loop-content.invariant.same ∙ ap (λ xs. all_performed u now (map f xs)) c.in-Some.ensures.steps) c.in_err-fill_content.ensures.outcome)

pub loop-content-preserved : goal.loop-content-preserved
loop-content-preserved c =
    let f = content_operation c.args.image.now.read.now in
    let u = c.args.image.now.read.now.header.untypeds in
    let now = progress_of c.loop-content.self in
    record {
      same = op-more u (f c.in-Some.content) (map f c.next.new.self) _ now (progress_of c.fill_content.new.self)
          (c.loop-content.invariant.same ∙ ap (λ xs. all_performed u now (map f xs)) c.in-Some.ensures.steps) c.in_ok-fill_content.ensures.outcome;
      calls = c.fill_content.ensures.counted ∙ c.loop-content.invariant.calls;
      fits = (subst (λ (xs : List ImageContent). AllByRecursion (ContentFits c.args.image.now.read.now.header) xs) c.in-Some.ensures.steps
          c.loop-content.invariant.fits).1;
    }

pub returns-clause-outcome : goal.returns-clause-outcome
returns-clause-outcome c =
    let f = content_operation c.args.image.now.read.now in
    let u = c.args.image.now.read.now.header.untypeds in
    let now = progress_of c.loop-content.self in
    c.loop-content.invariant.same ∙ ap (λ xs. all_performed u now (map f xs)) c.in-None.ensures.steps.0
