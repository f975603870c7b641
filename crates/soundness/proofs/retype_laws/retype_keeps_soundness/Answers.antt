-- New objects lie in the free part of their memory, each apart from all others.
use Rattle.soundness.proofs.RetypeCalls.{retype-whole}
use Rattle.soundness.proofs.retype_laws.retype_keeps_soundness.Goals as goal

pub returns : goal.returns
returns c = retype-whole
