-- What descends from a slot is the same on both sides, and leaves the same slots there.
use Rattle.headline.proofs.invocations.RevokedSlots.{revoke-well}
use Rattle.headline.proofs.invocations.removing_laws.revokes_go_well.Goals as goal

pub returns : goal.returns
returns c = λ image t s slots slot name mirrors runs may. revoke-well image t s slots mirrors runs slot name may
