use Rattle.std.proofs.Common.{ℕ, length, Result, is_ok, sym, ap, ◌∙◌}
use Rattle.model.specs.declared.refusals.Refusal.{Refusal}
use Rattle.model.specs.Images.Format.{field}
use Rattle.model.specs.Images.Image.{Thread, anything, words_format}
use Rattle.image_reading.proofs.EntryLists.{list_length}
use Rattle.image_reading.proofs.threads.ThreadRef.word_count.Goals as goal

pub returns-clause-length : goal.returns-clause-length
unfolding words_format
returns-clause-length c =
    let t = c.self.inside in
    ap (λ (x : Thread). length x.words) (sym c.self.view_is)
    ∙ list_length (λ _. field anything) (λ _. 0) 0 t.header.words t.bytes.now t.words_at (ap (λ (r : Result ℕ Refusal). is_ok r) c.self.invariant.1)
