use Rattle.std.proofs.Common.{ap, ◌∙◌}
use Rattle.std.specs.Result.{result_ok}
use Rattle.asm_line.proofs.ListedLines.{next-number}
use Rattle.asm_line.proofs.words.Words.next_word.Goals as goal

pub returns-clause-listed : goal.returns-clause-listed
returns-clause-listed c x rest h e = c.ok.ensures.value ∙ ap result_ok (c.word_and_rest.ensures ∙ next-number x c.args.self rest h e)
