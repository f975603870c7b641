-- The first receiver gets the message, or the sender waits.
use Rattle.std.proofs.Common.{◌∙◌, ap, subst, sym}
use Rattle.ipc.specs.Buffers.{HaveBuffers}
use Rattle.ipc.proofs.BufferFrames.{have-buffers}
use Rattle.ipc.proofs.Premises.{nowhere-still, one-sided, runs-nowhere, runs-there}
use Rattle.ipc.proofs.Taken.{sent-to, waits-there}
use Rattle.objects.proofs.Laws.{beside-then}
use Rattle.ipc.proofs.sends.send.Goals as goal
use Rattle.model.specs.Kernel.State.{State, endpoint_at}
use Rattle.objects.specs.Lives.{state_in}
use Rattle.objects.specs.thread_records.Threads.{sender_of}

pub returns-in-Some-clause-state : goal.returns-in-Some-clause-state
returns-in-Some-clause-state g c =
    sent-to (state_in g.S.SlotMap.slots g.S.SlotStore.memory c.args.live.now) _ _ c.args.endpoint (sender_of c.args.thread c.args.sending)
    c.in-Some.receiver c.in-Some.ensures.state c.send_to.ensures.state

pub returns-in-Some-clause-beside : goal.returns-in-Some-clause-beside
returns-in-Some-clause-beside g c = beside-then c.take_receiver.ensures.beside c.send_to.ensures.beside

pub take_receiver-requires-clause-one_sided : goal.take_receiver-requires-clause-one_sided
take_receiver-requires-clause-one_sided g c =
    one-sided (state_in g.S.SlotMap.slots g.S.SlotStore.memory c.args.live.now) c.args.endpoint
    c.requires.sound c.requires.endpoint

pub send_to-requires : goal.send_to-requires
send_to-requires g c =
    let before = state_in g.S.SlotMap.slots g.S.SlotStore.memory c.args.live.now in
    record {
      giver = c.take_receiver.ensures.beside.bytes.kinds c.args.thread ∙ runs-there before c.args.thread c.requires.runs;
      taker = c.in-Some.ensures.state.there;
      buffers = subst (λ (s : State). HaveBuffers s) (sym c.in-Some.ensures.state.state) (have-buffers before c.requires.sound);
    }

pub push_sender-requires-clause-there : goal.push_sender-requires-clause-there
push_sender-requires-clause-there g c =
    c.take_receiver.ensures.beside.bytes.kinds c.args.thread
    ∙ runs-there (state_in g.S.SlotMap.slots g.S.SlotStore.memory c.args.live.now) c.args.thread c.requires.runs

pub push_sender-requires-clause-apart : goal.push_sender-requires-clause-apart
push_sender-requires-clause-apart g c =
    let before = state_in g.S.SlotMap.slots g.S.SlotStore.memory c.args.live.now in
    nowhere-still before _ c.args.thread c.in-None.ensures.state.state (runs-nowhere before c.args.thread c.requires.sound c.requires.runs)

pub push_sender-requires-clause-alone : goal.push_sender-requires-clause-alone
push_sender-requires-clause-alone g c =
    ap (λ (s : State). (endpoint_at s c.args.endpoint).receivers) c.in-None.ensures.state.state ∙ c.in-None.ensures.state.none

pub block-requires : goal.block-requires
block-requires g c = record {
  there = c.push_sender.ensures.beside.bytes.kinds c.args.thread ∙ c.take_receiver.ensures.beside.bytes.kinds c.args.thread
      ∙ runs-there (state_in g.S.SlotMap.slots g.S.SlotStore.memory c.args.live.now) c.args.thread c.requires.runs;
}

pub returns-in-None-clause-state : goal.returns-in-None-clause-state
returns-in-None-clause-state g c =
    waits-there (state_in g.S.SlotMap.slots g.S.SlotStore.memory c.args.live.now) _ _ c.args.endpoint (sender_of c.args.thread c.args.sending) _
    c.in-None.ensures.state c.push_sender.ensures.state c.block.ensures.state

pub returns-in-None-clause-beside : goal.returns-in-None-clause-beside
returns-in-None-clause-beside g c =
    beside-then c.take_receiver.ensures.beside (beside-then c.push_sender.ensures.beside c.block.ensures.beside)
