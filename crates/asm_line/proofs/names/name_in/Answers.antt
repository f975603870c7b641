use Rattle.std.proofs.Common.{sym}
use Rattle.asm_line.proofs.NameBytes.{name-utf8}
use Rattle.asm_line.proofs.names.name_in.Goals as goal

pub returns-in-Err : goal.returns-in-Err
returns-in-Err c = absurd (c.in-Err.ensures.cases.0 (name-utf8 c.args.word.now (sym c.if-not-names_something.ensures)))
