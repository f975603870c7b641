-- What the call names is the thread's own.
use Rattle.headline.proofs.authority.StandingInvocations.{copies-within, maps-within, mints-within}
use Rattle.headline.proofs.authority.standing_laws.noted_calls_stay_within_authority.Goals as goal

pub returns-clause-copies : goal.returns-clause-copies
returns-clause-copies c = λ image t s after slots own slot destination source word m is may.
    copies-within image t s slots m own is slot destination source word may after

pub returns-clause-mints : goal.returns-clause-mints
returns-clause-mints c = λ image t s after slots own slot destination source word payload m is may.
    mints-within image t s slots m own is slot destination source word payload may after

pub returns-clause-maps : goal.returns-clause-maps
returns-clause-maps c = λ image t s after slots own slot allowed name address word m is may.
    maps-within image t s slots m own is slot allowed name address word may after
