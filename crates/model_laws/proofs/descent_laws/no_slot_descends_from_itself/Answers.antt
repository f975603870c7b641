-- What descends is deeper.
use Rattle.model_laws.proofs.Descents.{not-itself}
use Rattle.model_laws.proofs.descent_laws.no_slot_descends_from_itself.Goals as goal

pub returns : goal.returns
returns c = not-itself
