-- Point by point, as each follows from its record or from the one before.
use Rattle.headline.proofs.steps.PointForms.{known-form}
use Rattle.headline.proofs.steps.slot_laws.noted_points_have_their_form.Goals as goal

pub returns : goal.returns
returns c = known-form
