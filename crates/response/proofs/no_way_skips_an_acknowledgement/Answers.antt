-- By its marks.
use Rattle.response.proofs.Ways.{no-way}
use Rattle.response.proofs.no_way_skips_an_acknowledgement.Goals as goal

pub returns : goal.returns
returns c = no-way
