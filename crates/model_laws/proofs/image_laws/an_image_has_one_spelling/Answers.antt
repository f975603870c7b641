-- By the laws of the format.
use Rattle.image_reading.proofs.Laws.{one-image, one-spelling}
use Rattle.model_laws.proofs.image_laws.an_image_has_one_spelling.Goals as goal

pub returns-clause-spelling : goal.returns-clause-spelling
returns-clause-spelling c = one-spelling

pub returns-clause-image : goal.returns-clause-image
returns-clause-image c = one-image
