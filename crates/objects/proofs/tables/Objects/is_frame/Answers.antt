-- The object is that of the tables.
use Rattle.std.proofs.Common.{◌∙◌, ap, sym}
use Rattle.model.specs.Kernel.Setup.{is_frame_object}
use Rattle.objects.proofs.OneThread.{objects-of}
use Rattle.objects.specs.Contents as contents
use Rattle.objects.specs.Tables.{contents_of}
use Rattle.objects.proofs.tables.Objects.is_frame.Goals as goal

pub returns : goal.returns
returns g c = c.has_frame.ensures (g.S.SlotStore.memory c.args.store.now)
    (contents.waiting_of (contents_of c.args.self.now (g.S.SlotStore.memory c.args.store.now)) (g.S.SlotStore.memory c.args.store.now))
    ∙ ap is_frame_object (sym (objects-of c.args.self.now (g.S.SlotMap.slots c.args.store.now) (g.S.SlotStore.memory c.args.store.now) c.args.offset))
