-- By the thread that runs.
use Rattle.response.proofs.Seen.{seen}
use Rattle.response.proofs.levels_are_seen.Goals as goal

pub returns : goal.returns
returns c = λ image s priority of_level. seen image s priority of_level
