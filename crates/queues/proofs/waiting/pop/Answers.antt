-- The first thread leaves.
use Rattle.std.proofs.Common.{rules, ◌≡◌, ◌∙◌, Some}
use Rattle.model.specs.Kernel.Scheduling.{head_of}
use Rattle.queues.specs.Queues.{queue_of}
use Rattle.queues.proofs.Standings.{popped}
use Rattle.queues.proofs.waiting.pop.Goals as goal

pub returns-clause-queues : goal.returns-clause-queues
returns-clause-queues g c =
    let places = g.L.Layout.places c.args.layout.now in
    let m = g.S.SlotStore.memory c.args.store.now in
    let head : head_of (queue_of places m c.args.queue) ≡ Some c.in_ok-thread.thread = search rules in
    λ other. c.leave.ensures.queues other ∙ popped places m c.args.queue c.in_ok-thread.thread c.requires.stands head other
