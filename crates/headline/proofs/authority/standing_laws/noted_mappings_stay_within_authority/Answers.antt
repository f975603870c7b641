-- What the thread maps is under its own root table.
use Rattle.headline.proofs.authority.StandingInvocations.{moves-within, unmaps-within}
use Rattle.headline.proofs.authority.standing_laws.noted_mappings_stay_within_authority.Goals as goal

pub returns-clause-moves : goal.returns-clause-moves
returns-clause-moves c = λ image t s slots own slot destination source m is maps. moves-within image t s slots m own is slot maps destination source

pub returns-clause-unmaps : goal.returns-clause-unmaps
returns-clause-unmaps c = λ image t s slots own slot allowed m is maps. unmaps-within image t s slots m own is slot maps allowed
