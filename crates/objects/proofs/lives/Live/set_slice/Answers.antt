-- One field of the thread changes.
use Rattle.objects.proofs.Frames.{put-objects}
use Rattle.objects.proofs.lives.Live.set_slice.Goals as goal

pub returns-clause-beside : goal.returns-clause-beside
returns-clause-beside g c =
    let there = rw (← c.self.view_is) at c.requires.there in
    rw (← c.self.view_is) (record {
      slots = c.set_slice_at.ensures.slots;
      order = c.set_slice_at.ensures.order;
      bytes = put-objects c.args.thread _ c.set_slice_at.ensures.state there c.set_slice_at.ensures.bytes;
    })
