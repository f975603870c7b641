-- By what single slots hold.
use Rattle.thread_spaces.proofs.ListedMappings.{mappings-listed}
use Rattle.thread_spaces.proofs.space_laws.mappings_are_listed.Goals as goal

pub returns : goal.returns
returns c = mappings-listed
