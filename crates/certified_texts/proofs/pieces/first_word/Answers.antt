use Rattle.std.proofs.Common.{sym, ap, ◌∙◌, unwrap_or}
use Rattle.std.proofs.Common.{length}
use Rattle.certified_texts.proofs.Splitting.{words-none, words-cut}
use Rattle.certified_texts.proofs.pieces.first_word.Goals as goal

pub returns-in_default : goal.returns-in_default
returns-in_default c = words-none c.args.text.now (sym c.in_default.ensures)

pub returns : goal.returns
returns c =
    words-cut c.args.text.now c.split_at.result.1.now _ _ c.in-Some.start c.unwrap_or-end.result (sym c.in-Some.ensures) c.split_at.ensures.back
    (c.unwrap_or-end.ensures ∙ ap (λ o. unwrap_or o (length c.split_at.result.1.now)) c.word_end.ensures) c.split_at-2.ensures.front c.split_at-2.ensures.back
