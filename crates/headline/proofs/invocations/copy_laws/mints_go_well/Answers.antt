use Rattle.headline.proofs.invocations.CopyingCalls.{mints-well}
use Rattle.headline.proofs.invocations.copy_laws.mints_go_well.Goals as goal

pub returns : goal.returns
returns c = λ image t s slots slot destination source rights_word payload m may. mints-well image t s slots m slot destination source rights_word payload may
