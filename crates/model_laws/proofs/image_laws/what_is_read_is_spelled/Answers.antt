-- By the laws of the format.
use Rattle.image_reading.proofs.Laws.{bytes-fit, reading-spelled, spelled-reading}
use Rattle.model_laws.proofs.image_laws.what_is_read_is_spelled.Goals as goal

pub returns-clause-read : goal.returns-clause-read
returns-clause-read c = spelled-reading

pub returns-clause-spelled : goal.returns-clause-spelled
returns-clause-spelled c = λ bytes image fits. reading-spelled bytes image (bytes-fit bytes fits)
