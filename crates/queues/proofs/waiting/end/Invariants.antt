-- Some threads of the queue are gone, and fewer are left each time.
use Rattle.std.proofs.Common.{◌≡◌, length}
use Rattle.queues.specs.Queues.{queue_of}
use Rattle.queues.proofs.EndingQueues.{AreFewer}
use Rattle.queues.proofs.waiting.end.Given as goal

abbrev pub invariant-threads : goal.invariant-threads
invariant-threads g l =
    let places = g.L.Layout.places l.layout in
    record {
      fewer : AreFewer places l.queue (g.S.SlotStore.memory l.fn.store) (g.S.SlotStore.memory l.store);
      slots : g.S.SlotMap.slots l.store ≡ g.S.SlotMap.slots l.fn.store;
      order : g.S.SlotStore.order l.store ≡ g.S.SlotStore.order l.fn.store;
    }

abbrev pub decreases-threads : goal.decreases-threads
decreases-threads g l = length (queue_of (g.L.Layout.places l.layout) (g.S.SlotStore.memory l.store) l.queue)
