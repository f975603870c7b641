-- What the numbers say is what the threads take and may change.
use Rattle.std.proofs.Common.{◌≡◌, ◌∙◌, ◌≤◌, List, IfOk, ap, subst}
use Rattle.std.specs.List.{flat_map}
use Rattle.model.specs.declared.entries.ImageHeader.{ImageHeader}
use Rattle.model.specs.Images.Image.{Image}
use Rattle.parts.specs.Taken.{taken, taken_inside}
use Rattle.parts.specs.Uses.{part_of}
use Rattle.parts.specs.declared.taken.Taken.{Taken}
use Rattle.parts.specs.declared.uses.Uses.{Uses}
use Rattle.parts.proofs.TakenLists.{taken-is}
use Rattle.parts.proofs.image_parts.Parts.taken.Goals as goal

pub returns : goal.returns
returns c =
    let image = c.self.inside.accepted.now in
    let all = c.self.inside.uses.items in
    let threads = c.args.threads in
    let head = c.header_of-objects in
    let header = head.ensures.value ∙ ap (λ (i : Image). i.header) c.image.ensures.value in
    let few = subst (λ (h : ImageHeader). h.objects ≤ 4096) header head.ensures.small.objects in
    subst (λ (l : List Taken). IfOk c.all_taken.result (λ found. found.items ≡ l))
    (ap (λ (l : List Uses). flat_map (taken_inside head.result.objects threads l) l) c.as_slice.ensures.value
    ∙ ap (λ (h : ImageHeader). flat_map (taken_inside h.objects threads all) all) header
    ∙ taken-is image threads all c.self.invariant few
    ∙ ap (λ (i : Image). taken i (part_of i threads)) c.self.view_is)
    c.all_taken.ensures
