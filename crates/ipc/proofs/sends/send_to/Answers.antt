-- The receiver gets the message and runs, and the sender does what it does.
use Rattle.std.proofs.Common.{◌∙◌, ap}
use Rattle.objects.proofs.Laws.{beside-then}
use Rattle.ipc.proofs.sends.send_to.Goals as goal
use Rattle.model.specs.Kernel.Messages.{received}
use Rattle.model.specs.Kernel.Scheduling.{wake}
use Rattle.model.specs.Kernel.State.{State}
use Rattle.objects.specs.thread_records.Threads.{sender_of, sent_of}

pub returns-clause-state : goal.returns-clause-state
returns-clause-state g c =
    c.received.ensures.state
    ∙ ap (λ (s : State). received s (sender_of c.args.sender.thread c.args.sender.sending) (sent_of c.args.sender.sending.sent) c.args.receiver)
    (c.wake.ensures.state ∙ ap (λ (s : State). wake s c.args.receiver) c.deliver_sent.ensures.state)

pub returns-clause-beside : goal.returns-clause-beside
returns-clause-beside g c = beside-then c.deliver_sent.ensures.beside (beside-then c.wake.ensures.beside c.received.ensures.beside)
