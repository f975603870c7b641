-- Objects have capabilities, whose memory lies elsewhere.
use Rattle.soundness.proofs.UnusedMemory.{unused-free}
use Rattle.soundness.proofs.unused_laws.unused_memory_is_free.Goals as goal

pub returns : goal.returns
returns c = λ s slot offset bits used sound memory. unused-free s sound slot offset bits used memory
