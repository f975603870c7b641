-- Only the copies of frames and the thread's own slots are mapped, and what is code is named by its own mapping alone.
use Rattle.headline.proofs.starts.StartMaps.{code-unnamed, maps-given}
use Rattle.headline.proofs.starts.start_laws.mappings_are_as_listed.Goals as goal

pub returns-clause-maps : goal.returns-clause-maps
returns-clause-maps c = maps-given

pub returns-clause-code : goal.returns-clause-code
returns-clause-code c = λ image t fits well. code-unnamed image fits well t
