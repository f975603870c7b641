-- The priorities are the threads'.
use Rattle.std.proofs.Common.{◌∙◌, List, ap}
use Rattle.std.specs.List.{list_all}
use Rattle.headline.specs.parts.Parts.{is_above}
use Rattle.model.specs.Images.Image.{Image}
use Rattle.parts.specs.Uses.{is_high, part_of}
use Rattle.parts.specs.declared.uses.Uses.{Uses}
use Rattle.parts.proofs.OfThreads.{is-above-is}
use Rattle.parts.proofs.image_parts.Parts.is_above.Goals as goal

pub returns : goal.returns
returns c =
    let image = c.self.inside.accepted.now in
    let all = c.self.inside.uses.items in
    let threads = c.args.threads in
    c.all_are_above.ensures
    ∙ ap (λ (l : List Uses). list_all (λ own. list_all (is_high threads l own) l) l) c.as_slice.ensures.value
    ∙ is-above-is image threads all c.self.invariant
    ∙ ap (λ (i : Image). is_above i (part_of i threads)) c.self.view_is
