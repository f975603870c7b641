use Rattle.std.proofs.Common.{List, ℕ, ◌++◌, ap, ◌∙◌}
use Rattle.image.specs.Spellings.{image_bytes}
use Rattle.image.proofs.SpellingLaws.{image-law}
use Rattle.image.proofs.writing.write.Goals as goal

pub returns-clause-bytes : goal.returns-clause-bytes
returns-clause-bytes c =
    rw (image-law c.args.image.now, ← c.parts-parts.ensures.parts)
    (c.in_ok-append_parts.ensures ∙ ap (λ (l : List ℕ). l ++ image_bytes c.parts-parts.result.now) c.new-bytes.ensures.items)

pub returns-clause-spelled : goal.returns-clause-spelled
returns-clause-spelled c = record { fits = c.parts-parts.ensures.fits; spelled = returns-clause-bytes c }
