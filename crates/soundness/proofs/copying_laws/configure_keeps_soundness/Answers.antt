-- Two copies into the thread's own slots, which are empty, and another word of the thread.
use Rattle.soundness.proofs.CopyingCalls.{configure-whole}
use Rattle.soundness.proofs.copying_laws.configure_keeps_soundness.Goals as goal

pub returns : goal.returns
returns c s t root thread guard address cspace vspace whole is_thread less is =
    configure-whole s t root thread guard address cspace vspace whole is_thread less is
