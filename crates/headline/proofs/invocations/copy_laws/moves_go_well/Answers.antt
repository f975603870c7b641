use Rattle.headline.proofs.invocations.CopyingCalls.{moves-well}
use Rattle.headline.proofs.invocations.copy_laws.moves_go_well.Goals as goal

pub returns : goal.returns
returns c = λ image t s slots slot destination source m may. moves-well image t s slots m slot destination source may
