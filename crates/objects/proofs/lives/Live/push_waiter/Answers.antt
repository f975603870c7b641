-- It is after the others, and the objects are the same.
use Rattle.std.proofs.Common.{◌∙◌, None, ap}
use Rattle.objects.proofs.Endpoints.{changed-notification}
use Rattle.objects.proofs.Frames.{joined-objects}
use Rattle.objects.proofs.lives.Live.push_waiter.Goals as goal
use Rattle.objects.specs.Tables.{state_of}
use Rattle.objects.specs.Waiting.{has_waiting, joined}

pub enqueue-requires-clause-queue : goal.enqueue-requires-clause-queue
enqueue-requires-clause-queue g c =
    let notification = rw (← c.self.view_is) at c.requires.notification in
    ap has_waiting notification

pub returns-clause-state : goal.returns-clause-state
returns-clause-state g c =
    let slots = g.S.SlotMap.slots c.self.inside.store in
    let old = g.S.SlotStore.memory c.self.inside.store in
    let before = state_of c.self.inside.objects slots old in
    let notification = rw (← c.self.view_is) at c.requires.notification in
    rw (← c.self.view_is) (c.enqueue.ensures.state ∙ changed-notification before c.args.notification (joined c.args.thread None) notification)

pub returns-clause-beside : goal.returns-clause-beside
returns-clause-beside g c =
    rw (← c.self.view_is) (record {
      slots = c.enqueue.ensures.slots;
      order = c.enqueue.ensures.order;
      bytes = joined-objects c.args.notification c.args.thread None c.enqueue.ensures.state c.enqueue.ensures.bytes;
    })
