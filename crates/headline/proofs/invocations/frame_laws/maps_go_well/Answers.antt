use Rattle.headline.proofs.invocations.FrameCalls.{maps-well}
use Rattle.headline.proofs.invocations.frame_laws.maps_go_well.Goals as goal

pub returns : goal.returns
returns c = λ image t s slots slot held root_name address rights_word m may. maps-well image t s slots m slot held root_name address rights_word may
