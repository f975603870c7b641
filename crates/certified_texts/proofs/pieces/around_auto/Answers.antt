-- The two cuts are around the word, and what is before and behind it was looked at.
use Rattle.std.proofs.Common.{◌++◌, ap, sym, ◌∙◌}
use Rattle.certified_texts.proofs.Comments.{open-around}
use Rattle.certified_texts.proofs.pieces.around_auto.Goals as goal

pub returns-then-are_around_budget : goal.returns-then-are_around_budget
returns-then-are_around_budget c =
    open-around c.args.line.now c.split_at.result.0.now c.in_ok-behind.behind.now (sym c.is_thread.ensures ∙ c.if-not-is_thread.false)
    (c.split_at.ensures.by_index.0 ∙ ap (λ l. c.split_at.result.0.now ++ l) c.in_ok-behind.ensures) c.if-are_around_budget.ensures
