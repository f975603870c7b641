-- What the numbers say is what the threads take and may change.
use Rattle.std.proofs.Common.{◌∙◌, ◌≤◌, List, ap, subst}
use Rattle.std.specs.List.{list_all}
use Rattle.headline.specs.parts.Parts.{takes_nothing}
use Rattle.model.specs.declared.entries.ImageHeader.{ImageHeader}
use Rattle.model.specs.Images.Image.{Image}
use Rattle.parts.specs.Uses.{is_separate, part_of}
use Rattle.parts.specs.declared.uses.Uses.{Uses}
use Rattle.parts.proofs.OfThreads.{takes-nothing-is}
use Rattle.parts.proofs.image_parts.Parts.takes_nothing.Goals as goal

pub returns : goal.returns
returns c =
    let image = c.self.inside.accepted.now in
    let all = c.self.inside.uses.items in
    let threads = c.args.threads in
    let head = c.header_of-objects in
    let few = subst (λ (h : ImageHeader). h.objects ≤ 4096) (head.ensures.value ∙ ap (λ (i : Image). i.header) c.image.ensures.value)
    head.ensures.small.objects in
    c.all_take_nothing.ensures
    ∙ ap (λ (l : List Uses). list_all (λ taker. list_all (is_separate head.result.objects threads l taker) l) l) c.as_slice.ensures.value
    ∙ ap (λ (h : ImageHeader). list_all (λ taker. list_all (is_separate h.objects threads all taker) all) all)
    (head.ensures.value ∙ ap (λ (i : Image). i.header) c.image.ensures.value)
    ∙ takes-nothing-is image threads all c.self.invariant few
    ∙ ap (λ (i : Image). takes_nothing i (part_of i threads)) c.self.view_is
