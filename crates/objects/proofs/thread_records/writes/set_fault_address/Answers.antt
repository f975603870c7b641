-- The address is read from a word.
use Rattle.std.proofs.Common.{arith}
use Rattle.objects.proofs.thread_records.Fields.{beside-record, fault_address-set}
use Rattle.objects.proofs.thread_records.writes.set_fault_address.Goals as goal

pub returns-clause-record : goal.returns-clause-record
returns-clause-record g c =
    fault_address-set (g.S.SlotStore.memory c.args.store.now) (g.S.SlotStore.memory c.put_words.new.store) c.args.thread c.args.fault_address
    c.put_words.ensures.others c.put_words.ensures.read

pub returns-clause-bytes : goal.returns-clause-bytes
returns-clause-bytes g c =
    beside-record (g.S.SlotStore.memory c.args.store.now) (g.S.SlotStore.memory c.put_words.new.store) c.args.thread 60 64 c.put_words.ensures.others
    (omega arith) (omega arith)
