-- What is sent is read from nine words.
use Rattle.std.proofs.Common.{ℕ, ◌≡◌, ◌∙◌, ◌+◌, ◌*◌, length, ap, subst, arith}
use Rattle.pmem.specs.Words.{words_at}
use Rattle.objects.specs.thread_records.Records.{SameBeside}
use Rattle.objects.proofs.thread_records.Fields.{beside-record, sending-count, sending-set}
use Rattle.objects.proofs.thread_records.writes.set_sending.Goals as goal

pub returns-clause-record : goal.returns-clause-record
returns-clause-record g c =
    let m = g.S.SlotStore.memory c.args.store.now in
    let n = g.S.SlotStore.memory c.put_words.new.store in
    let t = c.args.thread in
    let count : length c.sending_words.result ≡ 9 = ap length c.sending_words.ensures ∙ sending-count c.args.sending in
    sending-set m n t c.args.sending (subst (λ (k : ℕ). SameBeside (t + 208) (t + (208 + 4 * k)) m n) count c.put_words.ensures.others)
    (subst (λ (k : ℕ). words_at n (t + 208) k ≡ c.sending_words.result) count c.put_words.ensures.read ∙ c.sending_words.ensures)

pub returns-clause-bytes : goal.returns-clause-bytes
returns-clause-bytes g c =
    let m = g.S.SlotStore.memory c.args.store.now in
    let n = g.S.SlotStore.memory c.put_words.new.store in
    let t = c.args.thread in
    let count : length c.sending_words.result ≡ 9 = ap length c.sending_words.ensures ∙ sending-count c.args.sending in
    beside-record m n t 208 244 (subst (λ (k : ℕ). SameBeside (t + 208) (t + (208 + 4 * k)) m n) count c.put_words.ensures.others) (omega arith) (omega arith)
