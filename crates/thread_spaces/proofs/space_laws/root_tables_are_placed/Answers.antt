-- By the capability to it in the boot CNode, which is valid.
use Rattle.thread_spaces.proofs.RootPlaces.{root-placed}
use Rattle.thread_spaces.proofs.space_laws.root_tables_are_placed.Goals as goal

pub returns : goal.returns
returns c = root-placed
