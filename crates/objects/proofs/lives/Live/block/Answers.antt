-- A thread stops, and the objects are the same.
use Rattle.std.proofs.Common.{◌∙◌, ap, refl}
use Rattle.model.specs.Kernel.Scheduling.{unready}
use Rattle.model.specs.Kernel.State.{State}
use Rattle.objects.proofs.Frames.{objects-then, put-objects, unmoved-objects}
use Rattle.objects.proofs.lives.Live.block.Goals as goal

pub returns-clause-state : goal.returns-clause-state
returns-clause-state g c =
    rw (← c.self.view_is) ((c.unready.ensures.state ∙ ap (λ (s : State). unready s c.args.thread) c.set_status_at.ensures.state))

pub returns-clause-beside : goal.returns-clause-beside
returns-clause-beside g c =
    let there = rw (← c.self.view_is) at c.requires.there in
    rw (← c.self.view_is) (record {
      slots = c.unready.ensures.slots ∙ c.set_status_at.ensures.slots;
      order = c.unready.ensures.order ∙ c.set_status_at.ensures.order;
      bytes = objects-then _ _ _ _ _ _ (put-objects c.args.thread _ c.set_status_at.ensures.state there c.set_status_at.ensures.bytes)
          (unmoved-objects c.unready.ensures.state (record { kinds = λ offset. refl; bytes = refl; slots = refl; bits = refl })
          c.unready.ensures.bytes);
    })
