-- The laws on noted slots, by what keeps the CNodes of threads apart.
use Rattle.thread_spaces.proofs.Laws.{stands-apart}
use Rattle.headline.specs.lookups.Laws.{HoldsNoted, LooksUpNoted}
use Rattle.headline.proofs.facts.Laws.{is-listed}
use Rattle.headline.proofs.lookups.NotedLookups.{finds-noted}
use Rattle.headline.proofs.lookups.OwnSlots.{own-same}

pub holds-noted : HoldsNoted
holds-noted bytes image t s state accepted listed same slot own =
    own-same image t (stands-apart image t.thread accepted.spelled.fits accepted.formed (is-listed image t listed)) s.slots state.slots same slot own

pub looks-up-noted : LooksUpNoted
looks-up-noted bytes image t s point state accepted listed same none =
    finds-noted image t (stands-apart image t.thread accepted.spelled.fits accepted.formed (is-listed image t listed)) s point state same none accepted.formed
    listed
