use Rattle.std.proofs.Common.{ap, ◌∙◌}
use Rattle.std.specs.Result.{result_ok}
use Rattle.asm_line.proofs.ListedLines.{next-term}
use Rattle.asm_line.proofs.words.Words.next_term.Goals as goal

pub returns-clause-listed : goal.returns-clause-listed
returns-clause-listed c x rest h e = c.ok.ensures.value ∙ ap result_ok (c.term_and_rest.ensures ∙ next-term x c.args.self rest h e)
