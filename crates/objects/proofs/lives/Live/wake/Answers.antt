-- A thread runs again, and the objects are the same.
use Rattle.std.proofs.Common.{refl}
use Rattle.model.specs.Kernel.State.{ThreadObject}
use Rattle.objects.proofs.Frames.{kind-put, unmoved-objects}
use Rattle.objects.proofs.lives.Live.wake.Goals as goal

pub returns-clause-beside : goal.returns-clause-beside
returns-clause-beside g c =
    let there = rw (← c.self.view_is) at c.requires.there in
    rw (← c.self.view_is) (record {
      slots = c.wake_at.ensures.slots;
      order = c.wake_at.ensures.order;
      bytes = unmoved-objects c.wake_at.ensures.state
          (record { kinds = kind-put _ c.args.thread (ThreadObject _) there; bytes = refl; slots = refl; bits = refl })
          c.wake_at.ensures.bytes;
    })
