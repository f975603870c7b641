-- Four bytes of a frame change, or nothing.
use Rattle.headline.proofs.authority.Written.{write-within}
use Rattle.headline.proofs.authority.step_laws.a_write_stays_within_authority.Goals as goal

pub returns : goal.returns
returns c = write-within
