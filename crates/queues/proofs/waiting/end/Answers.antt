-- The first thread of the queue leaves, until there is none.
use Rattle.std.proofs.Common.{◌∙◌, sym}
use Rattle.queues.proofs.EndingQueues.{fewer-threads, one-fewer}
use Rattle.queues.proofs.waiting.end.Goals as goal

pub threads-smaller : goal.threads-smaller
threads-smaller g c =
    fewer-threads (g.L.Layout.places c.args.layout.now) c.args.queue c.in-Some.thread (g.S.SlotStore.memory c.threads.store)
    (g.S.SlotStore.memory c.leave.new.store)
    c.threads.invariant.fewer.stands (sym c.first.ensures ∙ c.in-Some.is) c.leave.ensures.queues

pub threads-preserved : goal.threads-preserved
threads-preserved g c = record {
  fewer = one-fewer (g.L.Layout.places c.args.layout.now) c.args.queue c.in-Some.thread (g.S.SlotStore.memory c.args.store.now)
      (g.S.SlotStore.memory c.threads.store) (g.S.SlotStore.memory c.leave.new.store) c.threads.invariant.fewer
      (sym c.first.ensures ∙ c.in-Some.is) c.leave.ensures.queues c.leave.ensures.stands c.leave.ensures.bytes;
  slots = c.leave.ensures.slots ∙ c.threads.invariant.slots;
  order = c.leave.ensures.order ∙ c.threads.invariant.order;
}
