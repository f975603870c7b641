-- Both buffers are frames that are there.
use Rattle.std.proofs.Common.{◌∙◌, sym}
use Rattle.ipc.proofs.BufferFrames.{buffers-are}
use Rattle.ipc.proofs.buffers.copy_between.Goals as goal
use Rattle.objects.specs.Lives.{state_in}

pub copy_words-requires-clause-source : goal.copy_words-requires-clause-source
copy_words-requires-clause-source g c =
    let before = state_in g.S.SlotMap.slots g.S.SlotStore.memory c.args.live.now in
    let are = buffers-are before c.args.from c.args.to c.in-Some.source c.in-Some.target (sym c.buffers.ensures ∙ c.in-Some.is) in
    c.requires.may.buffers c.args.from c.in-Some.source are.0

pub copy_words-requires-clause-target : goal.copy_words-requires-clause-target
copy_words-requires-clause-target g c =
    let before = state_in g.S.SlotMap.slots g.S.SlotStore.memory c.args.live.now in
    let are = buffers-are before c.args.from c.args.to c.in-Some.source c.in-Some.target (sym c.buffers.ensures ∙ c.in-Some.is) in
    c.requires.may.buffers c.args.to c.in-Some.target are.1
