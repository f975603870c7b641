-- Its count is its length.
use Rattle.std.proofs.Common.{refl, ap, ◌∙◌}
use Rattle.image_copies.proofs.Counted.{same-content}
use Rattle.image_copies.proofs.lists.content_of.Goals as goal
use Rattle.model.specs.declared.entries.ContentHeader.{ContentHeader}

pub returns : goal.returns
returns c =
    same-content _ c.args.content.now (ap (λ (h : ContentHeader). h.frame) c.header.ensures) c.in_ok-words.ensures refl
    (c.word_count.ensures.length ∙ c.word_count.ensures.value)
