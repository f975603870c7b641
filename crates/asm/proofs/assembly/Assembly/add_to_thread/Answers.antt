use Rattle.std.specs.Prelude.{length}
use Rattle.std.proofs.Common.{◌≡◌, None, Option, sym, ap, subst, ◌∙◌}
use Rattle.asm.specs.Drafts.{Draft}
use Rattle.asm.specs.Meaning.{ended}
use Rattle.asm.specs.Outcomes.{Means}
use Rattle.asm.specs.Reading.{labels_at}
use Rattle.asm.specs.Threads.{OpenDraft}
use Rattle.asm.proofs.Steps.{end-means}
use Rattle.asm.proofs.assembly.Assembly.add_to_thread.Goals as goal

pub returns-then-is_end : goal.returns-then-is_end
returns-then-is_end c none =
    let new : Draft = c.end_thread.new.self in
    let shut : new.open_thread ≡ None = c.end_thread.ensures.kept ∙ none in
    let same : record new { open_thread = None } ≡ new = sym (ap (λ (left : Option OpenDraft). record new { open_thread = left }) shut) in
    end-means (labels_at c.args.labels.now (length c.args.self.now.threads)) c.args.number c.args.self.now c.args.thread c.args.line c.end_thread.result
    (λ _. new) (sym c.if-is_end.ensures)
    (subst (λ (left : Draft). Means c.end_thread.result (λ _. left) (ended c.args.self.now c.args.thread)) same c.end_thread.ensures.meant)
