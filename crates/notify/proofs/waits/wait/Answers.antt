-- Who runs is there, and waits nowhere.
use Rattle.ipc.proofs.Laws.{runs-nowhere, runs-there}
use Rattle.notify.proofs.waits.wait.Goals as goal
use Rattle.objects.specs.Lives.{state_in}

pub wait_for_signal-requires-clause-there : goal.wait_for_signal-requires-clause-there
wait_for_signal-requires-clause-there g c =
    runs-there (state_in g.S.SlotMap.slots g.S.SlotStore.memory c.args.live.now)
    c.args.thread c.requires.runs

pub wait_for_signal-requires-clause-apart : goal.wait_for_signal-requires-clause-apart
wait_for_signal-requires-clause-apart g c =
    runs-nowhere (state_in g.S.SlotMap.slots g.S.SlotStore.memory c.args.live.now)
    c.args.thread c.requires.sound c.requires.runs

pub take_word-requires-clause-there : goal.take_word-requires-clause-there
take_word-requires-clause-there g c =
    runs-there (state_in g.S.SlotMap.slots g.S.SlotStore.memory c.args.live.now)
    c.args.thread c.requires.runs
