-- What a word spells is what `decoded` reads of it.
use Rattle.std.proofs.Common.{◌∙◌}
use Rattle.rv32_isa.proofs.Spellings.{spelled-decoded}
use Rattle.rv32_isa.proofs.decoding.decode.Goals as goal

pub returns-clause-only : goal.returns-clause-only
returns-clause-only c = λ i spells. c.by_opcode.ensures.value ∙ spelled-decoded c.args.word i spells
