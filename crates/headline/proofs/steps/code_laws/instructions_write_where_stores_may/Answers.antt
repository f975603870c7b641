-- Only a store puts bytes.
use Rattle.headline.proofs.steps.CodeStays.{effect-keeps}
use Rattle.headline.proofs.steps.code_laws.instructions_write_where_stores_may.Goals as goal

pub returns : goal.returns
returns c = effect-keeps
