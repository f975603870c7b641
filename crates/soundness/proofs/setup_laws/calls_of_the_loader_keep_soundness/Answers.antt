-- Its root is the boot CNode, and a boot slot that it names is full.
use Rattle.soundness.proofs.Loading.{made-whole}
use Rattle.soundness.proofs.setup_laws.calls_of_the_loader_keep_soundness.Goals as goal

pub returns : goal.returns
returns c = made-whole
