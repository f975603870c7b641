use Rattle.std.proofs.Common.{length, sym, ap, ◌∙◌}
use Rattle.model.specs.Images.Format.{field}
use Rattle.model.specs.Images.Image.{ImageContent, anything, words_format}
use Rattle.image_reading.proofs.EntryLists.{list_length}
use Rattle.image_reading.proofs.contents.ContentRef.word_count.Goals as goal

pub returns-clause-length : goal.returns-clause-length
unfolding words_format
returns-clause-length c =
    let t = c.self.inside in
    ap (λ (x : ImageContent). length x.words) (sym c.self.view_is)
    ∙ list_length (λ _. field anything) (λ _. 0) 0 t.header.words t.bytes.now t.words_at c.self.invariant.1
