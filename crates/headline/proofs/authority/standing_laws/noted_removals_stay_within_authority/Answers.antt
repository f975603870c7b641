-- Slots of the thread's own go, and what ends with them.
use Rattle.headline.proofs.authority.StandingDeletes.{deletes-within, revokes-within}
use Rattle.headline.proofs.authority.standing_laws.noted_removals_stay_within_authority.Goals as goal

pub returns-clause-deletes : goal.returns-clause-deletes
returns-clause-deletes c = λ image t s slots own slot name m runs is maps inside may. deletes-within image t s slots m runs own is maps slot name may inside

pub returns-clause-revokes : goal.returns-clause-revokes
returns-clause-revokes c = λ image t s slots own slot name m runs is maps inside may. revokes-within image t s slots m runs own is maps slot name may inside
