use Rattle.std.proofs.Common.{ap, ◌∙◌}
use Rattle.asm_line.specs.Meaning.{line_said, numbered}
use Rattle.asm_line.proofs.MeantLines.{listed-said}
use Rattle.asm_line.proofs.parsing.parse_line.Goals as goal

pub returns-clause-listed : goal.returns-clause-listed
unfolding line_said
returns-clause-listed c l h =
    c.numbered.ensures.value ∙ ap numbered c.read.ensures ∙ (ap line_said c.as_bytes.ensures.value ∙ listed-said l c.args.text.now h)
