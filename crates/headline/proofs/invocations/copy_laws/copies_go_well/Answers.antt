use Rattle.headline.proofs.invocations.CopyingCalls.{copies-well}
use Rattle.headline.proofs.invocations.copy_laws.copies_go_well.Goals as goal

pub returns : goal.returns
returns c = λ image t s slots slot destination source rights_word m may. copies-well image t s slots m slot destination source rights_word may
