-- The pc is read from a word.
use Rattle.std.proofs.Common.{arith}
use Rattle.objects.proofs.thread_records.Fields.{beside-record, pc-set}
use Rattle.objects.proofs.thread_records.writes.set_pc.Goals as goal

pub returns-clause-record : goal.returns-clause-record
returns-clause-record g c =
    pc-set (g.S.SlotStore.memory c.args.store.now) (g.S.SlotStore.memory c.put_words.new.store) c.args.thread c.args.pc c.put_words.ensures.others
    c.put_words.ensures.read

pub returns-clause-bytes : goal.returns-clause-bytes
returns-clause-bytes g c =
    beside-record (g.S.SlotStore.memory c.args.store.now) (g.S.SlotStore.memory c.put_words.new.store) c.args.thread 48 52 c.put_words.ensures.others
    (omega arith) (omega arith)
