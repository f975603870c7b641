-- The frames of code hold the program, and nothing else is filled into them.
use Rattle.headline.proofs.starts.StartPrograms.{program-stands}
use Rattle.headline.proofs.starts.start_laws.programs_stand_at_their_addresses.Goals as goal

pub returns : goal.returns
returns c = λ image t fits well listed. program-stands image fits well t listed
