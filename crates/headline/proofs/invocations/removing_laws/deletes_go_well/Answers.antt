-- A slot that is deleted is found alike on both sides, and leaves the same slots there.
use Rattle.headline.proofs.invocations.DeletedSlots.{delete-well}
use Rattle.headline.proofs.invocations.removing_laws.deletes_go_well.Goals as goal

pub returns : goal.returns
returns c = λ image t s slots slot name mirrors runs may. delete-well image t s slots mirrors runs slot name may
