-- By the fields of the two words.
use Rattle.image_reading.proofs.Laws.{words-back, words-only}
use Rattle.model_laws.proofs.capability_laws.words_are_read_back.Goals as goal

pub returns-clause-back : goal.returns-clause-back
returns-clause-back c = words-back

pub returns-clause-only : goal.returns-clause-only
returns-clause-only c = words-only
