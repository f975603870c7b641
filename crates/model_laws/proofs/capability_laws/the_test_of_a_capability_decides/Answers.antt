-- Kind by kind.
use Rattle.image_reading.proofs.Laws.{decides-test, test-decides}
use Rattle.model_laws.proofs.capability_laws.the_test_of_a_capability_decides.Goals as goal

pub returns : goal.returns
returns c = λ capability. (test-decides capability, decides-test capability)
