use Rattle.std.proofs.Common.{ap, ◌∙◌}
use Rattle.std.specs.Result.{result_ok}
use Rattle.asm_line.proofs.ListedLines.{next-promised}
use Rattle.asm_line.proofs.words.Words.next_promised_word.Goals as goal

pub returns-clause-listed : goal.returns-clause-listed
returns-clause-listed c word rest h e = c.ok.ensures.value ∙ ap result_ok (c.promised_and_rest.ensures ∙ next-promised word c.args.self rest h e)
