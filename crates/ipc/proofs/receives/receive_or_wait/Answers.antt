-- The first sender is served, or nobody sends.
use Rattle.std.proofs.Common.{◌∙◌, ap, subst, sym}
use Rattle.ipc.specs.Buffers.{HaveBuffers}
use Rattle.ipc.proofs.Taken.{received-from, waits-here}
use Rattle.objects.proofs.Laws.{beside-then}
use Rattle.ipc.proofs.receives.receive_or_wait.Goals as goal
use Rattle.model.specs.Kernel.Messages.{waits_to_receive}
use Rattle.model.specs.Kernel.State.{State, endpoint_at}
use Rattle.objects.specs.Lives.{state_in}
use Rattle.objects.specs.thread_records.Threads.{sender_of}

pub returns-in-Some-clause-state : goal.returns-in-Some-clause-state
returns-in-Some-clause-state g c =
    let before = state_in g.S.SlotMap.slots g.S.SlotStore.memory c.args.live.now in
    received-from before _ _ (waits_to_receive before c.args.endpoint c.args.thread) c.args.endpoint c.args.thread
    (sender_of c.in-Some.sender.thread c.in-Some.sender.sending)
    c.in-Some.ensures.state c.receive_from.ensures.state

pub receive_from-requires : goal.receive_from-requires
receive_from-requires g c = record {
  giver = c.in-Some.ensures.state.there;
  taker = c.take_sender.ensures.beside.bytes.kinds c.args.thread ∙ c.requires.there;
  buffers = subst (λ (s : State). HaveBuffers s) (sym c.in-Some.ensures.state.state) c.requires.buffers;
}

pub returns-in-Some-clause-beside : goal.returns-in-Some-clause-beside
returns-in-Some-clause-beside g c = beside-then c.take_sender.ensures.beside c.receive_from.ensures.beside

pub push_receiver-requires-clause-alone : goal.push_receiver-requires-clause-alone
push_receiver-requires-clause-alone g c =
    ap (λ (s : State). (endpoint_at s c.args.endpoint).senders) c.in-None.ensures.state.state ∙ c.in-None.ensures.state.none

pub returns-in-None-clause-beside : goal.returns-in-None-clause-beside
returns-in-None-clause-beside g c =
    beside-then c.take_sender.ensures.beside (beside-then c.push_receiver.ensures.beside c.block.ensures.beside)

pub returns-in-None-clause-state : goal.returns-in-None-clause-state
returns-in-None-clause-state g c =
    waits-here (state_in g.S.SlotMap.slots g.S.SlotStore.memory c.args.live.now) _ _ _ c.args.endpoint c.args.thread c.in-None.ensures.state
    c.push_receiver.ensures.state c.block.ensures.state
