-- A wait that ends.
use Rattle.headline.proofs.moves.Passing.{ends-wait}
use Rattle.headline.proofs.moves.moving_laws.waits_that_end_lead_on.Goals as goal

pub returns : goal.returns
returns c = λ image t s after own point state left later alone stands ecall call wait slots passes none.
    ends-wait c.laws_below.ensures.stand_on image t s after own point state alone stands c.laws_below.ensures.lead c.laws_below.ensures.ends left ecall call
    slots passes later wait none
