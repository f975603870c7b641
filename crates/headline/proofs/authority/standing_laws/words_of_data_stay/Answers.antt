-- The boot CNode names each frame.
use Rattle.headline.proofs.authority.DataStays.{word-there}
use Rattle.headline.proofs.authority.standing_laws.words_of_data_stay.Goals as goal

pub returns : goal.returns
returns c = word-there
