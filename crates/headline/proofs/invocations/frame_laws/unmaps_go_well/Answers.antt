use Rattle.headline.proofs.invocations.FrameCalls.{unmaps-well}
use Rattle.headline.proofs.invocations.frame_laws.unmaps_go_well.Goals as goal

pub returns : goal.returns
returns c = λ image t s slots slot held m may. unmaps-well image t s slots m slot held may
