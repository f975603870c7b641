-- The priority is read from a byte.
use Rattle.objects.proofs.thread_records.Fields.{beside-record, priority-set}
use Rattle.std.proofs.Common.{arith}
use Rattle.objects.proofs.thread_records.writes.set_priority.Goals as goal

pub returns-clause-record : goal.returns-clause-record
returns-clause-record g c =
    priority-set (g.S.SlotStore.memory c.args.store.now) (g.S.SlotStore.memory c.put_byte.new.store) c.args.thread c.args.priority c.put_byte.ensures.others
    c.put_byte.ensures.read

pub returns-clause-bytes : goal.returns-clause-bytes
returns-clause-bytes g c =
    beside-record (g.S.SlotStore.memory c.args.store.now) (g.S.SlotStore.memory c.put_byte.new.store) c.args.thread 52 53 c.put_byte.ensures.others
    (omega arith) (omega arith)
