-- Field by field.
use Rattle.headline.proofs.kept.StandingOn.{stands-on}
use Rattle.headline.proofs.kept.ThreadsGiven.{given}
use Rattle.headline.proofs.kept.standing_laws.untouched_threads_stand_on.Goals as goal

pub returns : goal.returns
returns c = λ bytes image t s after own next point following state known accepted listed sound sound_after same.
    stands-on image t s after (given image t accepted.formed listed) sound sound_after same own next point following state known
