-- What is noted of a slot has the key of its parent, if the parent has one.
use Rattle.thread_spaces.proofs.Laws.{stands-apart}
use Rattle.headline.proofs.lookups.NotedParents.{parent-noted}
use Rattle.headline.proofs.lookups.lookup_laws.parents_are_noted.Goals as goal
use Rattle.headline.proofs.facts.Laws.{is-listed}

pub returns : goal.returns
returns c = λ bytes image t s state accepted listed same parents slot own full.
    parent-noted image t (stands-apart image t.thread accepted.spelled.fits accepted.formed (is-listed image t listed)) s state.slots same parents slot own full
