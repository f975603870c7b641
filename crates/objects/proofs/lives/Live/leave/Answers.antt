-- A thread leaves, and the objects are the same.
use Rattle.std.proofs.Common.{◌==◌, refl}
use Rattle.objects.proofs.Frames.{kind-left, unmoved-objects}
use Rattle.objects.proofs.OneThread.{of-state}
use Rattle.objects.proofs.lives.Live.leave.Goals as goal
use Rattle.objects.specs.Tables.{state_of}

pub forget-requires-clause-there : goal.forget-requires-clause-there
forget-requires-clause-there g c =
    let there = rw (← c.self.view_is) at c.requires.there in
    of-state c.self.inside.objects (g.S.SlotMap.slots c.self.inside.store) (g.S.SlotStore.memory c.self.inside.store) c.args.thread there

pub returns-clause-beside : goal.returns-clause-beside
returns-clause-beside g c =
    let before = state_of c.self.inside.objects (g.S.SlotMap.slots c.self.inside.store) (g.S.SlotStore.memory c.self.inside.store) in
    rw (← c.self.view_is) (record {
      slots = c.forget.ensures.slots;
      order = c.forget.ensures.order;
      bytes = unmoved-objects c.forget.ensures.state
          (record { kinds = λ offset. kind-left (λ other. other == c.args.thread) (before.objects offset); bytes = refl; slots = refl; bits = refl })
          c.forget.ensures.bytes;
    })
