-- New objects lie where nothing was.
use Rattle.headline.proofs.authority.StandingRetypes.{retypes-within}
use Rattle.headline.proofs.authority.standing_laws.noted_retypes_stay_within_authority.Goals as goal

pub returns : goal.returns
returns c = λ image t s slots own slot memory retyped m is called may. retypes-within image t s slots m own is slot memory retyped may called
