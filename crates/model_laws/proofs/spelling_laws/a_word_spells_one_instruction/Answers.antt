-- Format by format.
use Rattle.rv32_isa.proofs.Laws.{one-spelled, spelled-decoded}
use Rattle.model_laws.proofs.spelling_laws.a_word_spells_one_instruction.Goals as goal

pub returns-clause-one : goal.returns-clause-one
returns-clause-one c = one-spelled

pub returns-clause-decoded : goal.returns-clause-decoded
returns-clause-decoded c = spelled-decoded
