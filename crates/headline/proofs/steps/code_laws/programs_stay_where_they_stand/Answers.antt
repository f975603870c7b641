-- Frames of code are mapped once, and not for writing.
use Rattle.headline.proofs.steps.ProgramStays.{program-stays}
use Rattle.headline.proofs.steps.code_laws.programs_stay_where_they_stand.Goals as goal

pub returns : goal.returns
returns c = program-stays
