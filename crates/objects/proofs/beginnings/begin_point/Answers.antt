-- The two words of the queue and the word are written.
use Rattle.objects.proofs.Made.{point-beside, point-unwaited, point-word}
use Rattle.objects.proofs.beginnings.begin_point.Goals as goal

pub returns-clause-bytes : goal.returns-clause-bytes
returns-clause-bytes g c = point-beside (g.S.SlotStore.memory c.args.store.now) (g.S.SlotStore.memory c.begin_head.new.store)
    (g.S.SlotStore.memory c.write32.new.self) c.args.offset c.requires.within c.begin_head.ensures.bytes c.write32.ensures.bytes

pub returns-clause-unwaited : goal.returns-clause-unwaited
returns-clause-unwaited g c = point-unwaited (g.S.SlotStore.memory c.args.store.now) (g.S.SlotStore.memory c.begin_head.new.store)
    (g.S.SlotStore.memory c.write32.new.self) c.args.offset c.requires.within c.begin_head.ensures.bytes c.write32.ensures.bytes

pub returns-clause-word : goal.returns-clause-word
returns-clause-word g c = point-word (g.S.SlotStore.memory c.args.store.now) (g.S.SlotStore.memory c.begin_head.new.store)
    (g.S.SlotStore.memory c.write32.new.self) c.args.offset c.requires.within c.begin_head.ensures.bytes c.write32.ensures.bytes
