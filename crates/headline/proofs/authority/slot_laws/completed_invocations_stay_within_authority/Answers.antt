-- Its own registers alone change.
use Rattle.headline.proofs.authority.CallsMade.{completed-within, runs-apart}
use Rattle.headline.proofs.authority.slot_laws.completed_invocations_stay_within_authority.Goals as goal

pub returns : goal.returns
returns c = λ image t s after kind own now sound is runs there within.
    completed-within image t s after (runs-apart image t s sound own is runs) now there within kind
