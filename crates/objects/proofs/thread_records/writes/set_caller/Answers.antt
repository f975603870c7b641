-- The right to reply is read from two words.
use Rattle.std.proofs.Common.{ℕ, ◌≡◌, ◌∙◌, ◌+◌, ◌*◌, length, ap, subst, arith}
use Rattle.pmem.specs.Words.{words_at}
use Rattle.objects.specs.thread_records.Records.{SameBeside}
use Rattle.objects.proofs.thread_records.Fields.{beside-record, caller-count, caller-set}
use Rattle.objects.proofs.thread_records.writes.set_caller.Goals as goal

pub returns-clause-record : goal.returns-clause-record
returns-clause-record g c =
    let m = g.S.SlotStore.memory c.args.store.now in
    let n = g.S.SlotStore.memory c.put_words.new.store in
    let t = c.args.thread in
    let count : length c.caller_words.result ≡ 2 = ap length c.caller_words.ensures ∙ caller-count c.args.caller in
    caller-set m n t c.args.caller (subst (λ (k : ℕ). SameBeside (t + 200) (t + (200 + 4 * k)) m n) count c.put_words.ensures.others)
    (subst (λ (k : ℕ). words_at n (t + 200) k ≡ c.caller_words.result) count c.put_words.ensures.read ∙ c.caller_words.ensures)

pub returns-clause-bytes : goal.returns-clause-bytes
returns-clause-bytes g c =
    let m = g.S.SlotStore.memory c.args.store.now in
    let n = g.S.SlotStore.memory c.put_words.new.store in
    let t = c.args.thread in
    let count : length c.caller_words.result ≡ 2 = ap length c.caller_words.ensures ∙ caller-count c.args.caller in
    beside-record m n t 200 208 (subst (λ (k : ℕ). SameBeside (t + 200) (t + (200 + 4 * k)) m n) count c.put_words.ensures.others) (omega arith) (omega arith)
