-- Its three parts.
use Rattle.image_reading.proofs.Laws.{decides-guard}
use Rattle.model_laws.proofs.capability_laws.the_test_of_a_guard_word_decides.Goals as goal

pub returns : goal.returns
returns c = decides-guard
