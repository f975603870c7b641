-- The objects are the same.
use Rattle.std.proofs.Common.{refl}
use Rattle.objects.proofs.Frames.{unmoved-objects}
use Rattle.objects.proofs.lives.Live.to_tail.Goals as goal

pub returns-clause-beside : goal.returns-clause-beside
returns-clause-beside g c =
    rw (← c.self.view_is) (record {
      slots = c.to_tail_at.ensures.slots;
      order = c.to_tail_at.ensures.order;
      bytes = unmoved-objects c.to_tail_at.ensures.state (record { kinds = λ offset. refl; bytes = refl; slots = refl; bits = refl })
          c.to_tail_at.ensures.bytes;
    })
