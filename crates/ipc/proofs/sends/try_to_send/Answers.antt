-- The first receiver gets the message, or it is dropped.
use Rattle.std.proofs.Common.{◌∙◌, subst, sym}
use Rattle.ipc.specs.Buffers.{HaveBuffers}
use Rattle.ipc.proofs.BufferFrames.{have-buffers}
use Rattle.ipc.proofs.Premises.{one-sided, runs-there}
use Rattle.ipc.proofs.Taken.{tried-to}
use Rattle.objects.proofs.Laws.{beside-then}
use Rattle.ipc.proofs.sends.try_to_send.Goals as goal
use Rattle.model.specs.Kernel.State.{State}
use Rattle.objects.specs.Lives.{state_in}
use Rattle.objects.specs.thread_records.Threads.{sender_of}

pub returns-in-Some-clause-state : goal.returns-in-Some-clause-state
returns-in-Some-clause-state g c =
    tried-to (state_in g.S.SlotMap.slots g.S.SlotStore.memory c.args.live.now) _ _ c.args.endpoint (sender_of c.args.thread c.args.sending)
    c.in-Some.receiver c.in-Some.ensures.state c.send_to.ensures.state

pub returns-in-Some-clause-beside : goal.returns-in-Some-clause-beside
returns-in-Some-clause-beside g c = beside-then c.take_receiver.ensures.beside c.send_to.ensures.beside

pub take_receiver-requires-clause-one_sided : goal.take_receiver-requires-clause-one_sided
take_receiver-requires-clause-one_sided g c =
    one-sided (state_in g.S.SlotMap.slots g.S.SlotStore.memory c.args.live.now) c.args.endpoint
    c.requires.sound c.requires.endpoint

pub send_to-requires : goal.send_to-requires
send_to-requires g c =
    let before = state_in g.S.SlotMap.slots g.S.SlotStore.memory c.args.live.now in
    record {
      giver = c.take_receiver.ensures.beside.bytes.kinds c.args.thread ∙ runs-there before c.args.thread c.requires.runs;
      taker = c.in-Some.ensures.state.there;
      buffers = subst (λ (s : State). HaveBuffers s) (sym c.in-Some.ensures.state.state) (have-buffers before c.requires.sound);
    }

pub returns-in-None-clause-beside : goal.returns-in-None-clause-beside
returns-in-None-clause-beside g c = beside-then c.take_receiver.ensures.beside c.pass.ensures.beside
