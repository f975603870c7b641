-- A call that passes.
use Rattle.headline.proofs.moves.Passing.{passes-on}
use Rattle.headline.proofs.moves.moving_laws.calls_that_pass_lead_on.Goals as goal

pub returns : goal.returns
returns c = λ image t s after own point state left labels later alone stands ecall call wait slots passes budget more.
    passes-on c.laws_below.ensures.stand_on image t s after own point state alone stands c.laws_below.ensures.lead c.laws_below.ensures.ends left ecall call
    slots passes labels later wait budget more
