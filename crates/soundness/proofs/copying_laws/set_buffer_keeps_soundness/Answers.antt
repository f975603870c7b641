-- A copy into the thread's own slot, which is empty.
use Rattle.soundness.proofs.CopyingCalls.{set_buffer-sound}
use Rattle.soundness.proofs.copying_laws.set_buffer_keeps_soundness.Goals as goal

pub returns : goal.returns
returns c s t root thread name whole is_thread is = set_buffer-sound s t root thread name whole is_thread is
