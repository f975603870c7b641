-- Phase by phase.
use Rattle.wellformed.proofs.Laws.{accepted-no_breach, no-breach_accepted}
use Rattle.model_laws.proofs.image_laws.accepted_images_have_no_breach.Goals as goal

pub returns-clause-none : goal.returns-clause-none
returns-clause-none c = accepted-no_breach

pub returns-clause-accepted : goal.returns-clause-accepted
returns-clause-accepted c = no-breach_accepted
