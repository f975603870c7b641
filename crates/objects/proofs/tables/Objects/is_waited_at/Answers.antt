-- The first of the queue that the object has, if it has one.
use Rattle.std.proofs.Common.{◌∙◌, ◌&&◌, is_some, sym, ap}
use Rattle.model.specs.Kernel.Scheduling.{head_of}
use Rattle.objects.proofs.PointsHere.{waited-in}
use Rattle.objects.proofs.tables.Objects.is_waited_at.Goals as goal
use Rattle.objects.specs.Tables.{waiting_of}

pub returns-then-has_queue : goal.returns-then-has_queue
returns-then-has_queue g c =
    waited-in c.args.self.now (g.S.SlotMap.slots c.args.store.now) (g.S.SlotStore.memory c.args.store.now) c.args.offset _
    (c.is_some.ensures ∙ ap is_some c.first_waiting.ensures
    ∙ ap (λ b. b && is_some (head_of (waiting_of c.args.self.now (g.S.SlotStore.memory c.args.store.now) c.args.offset)))
    (sym c.if-has_queue.true ∙ c.has_queue.ensures))

pub returns-else-has_queue : goal.returns-else-has_queue
returns-else-has_queue g c =
    waited-in c.args.self.now (g.S.SlotMap.slots c.args.store.now) (g.S.SlotStore.memory c.args.store.now) c.args.offset _
    (c.if-has_queue.false ∙ ap (λ b. b && is_some (head_of (waiting_of c.args.self.now (g.S.SlotStore.memory c.args.store.now) c.args.offset)))
    (sym c.if-has_queue.false ∙ c.has_queue.ensures))
