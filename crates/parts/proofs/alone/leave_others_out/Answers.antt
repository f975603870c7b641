-- The threads that are kept are those of the part.
use Rattle.std.proofs.Common.{◌∙◌, rules, List, length, ap}
use Rattle.std.proofs.lemmas.Fn.{filter_same}
use Rattle.headline.specs.parts.Parts.{alone, is_in}
use Rattle.image.specs.contracts.parts.Parts.{the_view}
use Rattle.model.specs.Images.Image.{Image, Thread}
use Rattle.parts.specs.Uses.{is_part}
use Rattle.parts.proofs.alone.leave_others_out.Goals as goal

pub returns : goal.returns
unfolding alone
returns c =
    let old : Image = the_view c.parts.inside in
    let part = is_part c.args.threads c.args.all.now in
    ap (λ (l : List Thread). record old { header = record old.header { threads = length l }; threads = l })
    (filter_same _ (is_in part) _ (λ x b f' k. search rules) _ _ c.retain.ensures.filtered)
    ∙ ap (λ (i : Image). alone i part) c.parts.view_is
