-- It is after the others, and the objects are the same.
use Rattle.std.proofs.Common.{◌∙◌, Some, ap}
use Rattle.objects.proofs.Endpoints.{changed-endpoint}
use Rattle.objects.proofs.Frames.{joined-objects}
use Rattle.objects.proofs.lives.Live.push_sender.Goals as goal
use Rattle.objects.specs.Tables.{state_of}
use Rattle.objects.specs.Waiting.{has_waiting, joined}

pub enqueue-requires-clause-queue : goal.enqueue-requires-clause-queue
enqueue-requires-clause-queue g c =
    let endpoint = rw (← c.self.view_is) at c.requires.endpoint in
    ap has_waiting endpoint

pub returns-clause-state : goal.returns-clause-state
returns-clause-state g c =
    let slots = g.S.SlotMap.slots c.self.inside.store in
    let old = g.S.SlotStore.memory c.self.inside.store in
    let before = state_of c.self.inside.objects slots old in
    let endpoint = rw (← c.self.view_is) at c.requires.endpoint in
    rw (← c.self.view_is) (c.enqueue.ensures.state ∙ changed-endpoint before c.args.endpoint (joined c.args.thread (Some c.args.sending)) endpoint)

pub returns-clause-beside : goal.returns-clause-beside
returns-clause-beside g c =
    rw (← c.self.view_is) (record {
      slots = c.enqueue.ensures.slots;
      order = c.enqueue.ensures.order;
      bytes = joined-objects c.args.endpoint c.args.thread (Some c.args.sending) c.enqueue.ensures.state c.enqueue.ensures.bytes;
    })
