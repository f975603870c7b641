-- The part by the numbers of its threads is the part. Where its image alone is accepted, the laws on parts say both promises.
use Rattle.std.proofs.Common.{◌∙◌, List, IfErr, IfOk, ap, subst}
use Rattle.std.proofs.lemmas.Result.{IfOk-weaker}
use Rattle.headline.specs.parts.Parts.{alone}
use Rattle.model.specs.Acceptance.Accepted.{IsAccepted}
use Rattle.model.specs.Images.Image.{Image, whole_image}
use Rattle.parts.specs.Alone.{WhyNotAlone}
use Rattle.parts.specs.Promises.{IsUndisturbed, RunsAsAlone}
use Rattle.parts.specs.Uses.{is_part, part_of}
use Rattle.parts.specs.declared.uses.Uses.{Uses}
use Rattle.parts.proofs.AloneImages.{alone-is, by-its-bytes, is-undisturbed, runs-alone}
use Rattle.parts.proofs.image_parts.Parts.alone.Goals as goal

pub returns-clause-accepted : goal.returns-clause-accepted
returns-clause-accepted c =
    let threads = c.args.threads in
    subst (λ (i : Image). IfOk c.alone_of.result (λ bytes. IsAccepted bytes i))
    (ap (λ (i : Image). alone i (is_part threads c.as_slice.result.now)) c.image.ensures.value
    ∙ ap (λ (l : List Uses). alone c.self.inside.accepted.now (is_part threads l)) c.as_slice.ensures.value
    ∙ alone-is c.self.inside.accepted.now threads c.self.inside.uses.items c.self.invariant
    ∙ ap (λ (i : Image). alone i (part_of i threads)) c.self.view_is)
    c.alone_of.ensures.accepted

pub returns-clause-runs : goal.returns-clause-runs
returns-clause-runs c =
    let image = c.self.inside.accepted.now in
    let threads = c.args.threads in
    let kept = c.image.ensures in
    subst (λ (i : Image). IfOk c.alone_of.result (λ _. RunsAsAlone i (part_of i threads))) c.self.view_is
    (IfOk-weaker c.alone_of.result (λ bytes. IsAccepted bytes (alone image (is_part threads c.as_slice.result.now)))
    (λ _. RunsAsAlone image (part_of image threads))
    (λ bytes single. runs-alone image (part_of image threads) (whole_image.spelling image) bytes
    (by-its-bytes image kept.fits kept.formed kept.programs)
    (subst (λ (i : Image). IsAccepted bytes i)
    (ap (λ (l : List Uses). alone image (is_part threads l)) c.as_slice.ensures.value ∙ alone-is image threads c.self.inside.uses.items c.self.invariant)
    single) c.accepted_parts_run_as_alone.ensures)
    (subst (λ (i : Image). IfOk c.alone_of.result (λ bytes. IsAccepted bytes (alone i (is_part threads c.as_slice.result.now)))) c.image.ensures.value
    c.alone_of.ensures.accepted))

pub returns-clause-undisturbed : goal.returns-clause-undisturbed
returns-clause-undisturbed c =
    let image = c.self.inside.accepted.now in
    let threads = c.args.threads in
    let kept = c.image.ensures in
    subst (λ (i : Image). IfOk c.alone_of.result (λ _. IsUndisturbed i (part_of i threads))) c.self.view_is
    (IfOk-weaker c.alone_of.result (λ bytes. IsAccepted bytes (alone image (is_part threads c.as_slice.result.now)))
    (λ _. IsUndisturbed image (part_of image threads))
    (λ bytes single. is-undisturbed image (part_of image threads) (whole_image.spelling image) bytes
    (by-its-bytes image kept.fits kept.formed kept.programs)
    (subst (λ (i : Image). IsAccepted bytes i)
    (ap (λ (l : List Uses). alone image (is_part threads l)) c.as_slice.ensures.value ∙ alone-is image threads c.self.inside.uses.items c.self.invariant)
    single) c.accepted_parts_above_are_undisturbed.ensures)
    (subst (λ (i : Image). IfOk c.alone_of.result (λ bytes. IsAccepted bytes (alone i (is_part threads c.as_slice.result.now)))) c.image.ensures.value
    c.alone_of.ensures.accepted))

pub returns-clause-refused : goal.returns-clause-refused
returns-clause-refused c =
    let threads = c.args.threads in
    subst (λ (i : Image). IfErr c.alone_of.result (WhyNotAlone i))
    (ap (λ (i : Image). alone i (is_part threads c.as_slice.result.now)) c.image.ensures.value
    ∙ ap (λ (l : List Uses). alone c.self.inside.accepted.now (is_part threads l)) c.as_slice.ensures.value
    ∙ alone-is c.self.inside.accepted.now threads c.self.inside.uses.items c.self.invariant
    ∙ ap (λ (i : Image). alone i (part_of i threads)) c.self.view_is)
    c.alone_of.ensures.refused
