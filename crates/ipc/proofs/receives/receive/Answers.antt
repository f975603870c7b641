-- Who runs is there, waits nowhere, and still does without its right to reply.
use Rattle.std.proofs.Common.{None, subst, sym}
use Rattle.ipc.specs.Buffers.{HaveBuffers}
use Rattle.ipc.proofs.BufferFrames.{have-buffers}
use Rattle.ipc.proofs.Premises.{caller-endpoint, caller-nowhere, nowhere-still, one-sided, runs-nowhere, runs-there}
use Rattle.objects.proofs.Laws.{beside-then}
use Rattle.ipc.proofs.receives.receive.Goals as goal
use Rattle.model.specs.Kernel.State.{EndpointState, State, endpoint_at}
use Rattle.objects.specs.Lives.{state_in}
use Rattle.objects.specs.Waiting.{IsOneSided}

pub set_caller-requires-clause-there : goal.set_caller-requires-clause-there
set_caller-requires-clause-there g c =
    runs-there (state_in g.S.SlotMap.slots g.S.SlotStore.memory c.args.live.now) c.args.thread c.requires.runs

pub receive_or_wait-requires-clause-one_sided : goal.receive_or_wait-requires-clause-one_sided
receive_or_wait-requires-clause-one_sided g c =
    let before = state_in g.S.SlotMap.slots g.S.SlotStore.memory c.args.live.now in
    let there = runs-there before c.args.thread c.requires.runs in
    subst (λ (s : State). IsOneSided (endpoint_at s c.args.endpoint)) (sym c.set_caller.ensures.state)
    (subst (λ (e : EndpointState). IsOneSided e) (sym (caller-endpoint before c.args.thread None there c.args.endpoint c.requires.endpoint))
    (one-sided before c.args.endpoint c.requires.sound c.requires.endpoint))

pub receive_or_wait-requires-clause-apart : goal.receive_or_wait-requires-clause-apart
receive_or_wait-requires-clause-apart g c =
    let before = state_in g.S.SlotMap.slots g.S.SlotStore.memory c.args.live.now in
    nowhere-still _ _ c.args.thread c.set_caller.ensures.state
    (caller-nowhere before c.args.thread None (runs-there before c.args.thread c.requires.runs) c.args.thread
    (runs-nowhere before c.args.thread c.requires.sound c.requires.runs))

pub receive_or_wait-requires-clause-buffers : goal.receive_or_wait-requires-clause-buffers
receive_or_wait-requires-clause-buffers g c =
    subst (λ (s : State). HaveBuffers s) (sym c.set_caller.ensures.state)
    (have-buffers (state_in g.S.SlotMap.slots g.S.SlotStore.memory c.args.live.now) c.requires.sound)

pub returns-clause-beside : goal.returns-clause-beside
returns-clause-beside g c = beside-then c.set_caller.ensures.beside c.receive_or_wait.ensures.beside
