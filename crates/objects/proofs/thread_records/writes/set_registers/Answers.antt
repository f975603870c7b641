-- The pc is read from a word, and the registers from 32 words.
use Rattle.std.proofs.Common.{ℕ, ◌≡◌, ◌∙◌, ◌+◌, ◌*◌, length, ap, subst, rules}
use Rattle.pmem.specs.Words.{words_at}
use Rattle.objects.specs.thread_records.Records.{SameBeside, thread_at}
use Rattle.objects.specs.declared.thread_records.records.Thread.{Thread}
use Rattle.objects.proofs.thread_records.Fields.{pc-set, words-set}
use Rattle.objects.proofs.thread_records.writes.set_registers.Goals as goal

pub returns-clause-record : goal.returns-clause-record
returns-clause-record g c =
    let m = g.S.SlotStore.memory c.args.store.now in
    let one = g.S.SlotStore.memory c.put_words.new.store in
    let n = g.S.SlotStore.memory c.put_words-2.new.store in
    let t = c.args.thread in
    let words = c.words.result.now in
    let count : length words ≡ 32 = search rules in
    words-set one n t words (subst (λ (k : ℕ). SameBeside (t + 64) (t + (64 + 4 * k)) one n) count c.put_words-2.ensures.others)
    (subst (λ (k : ℕ). words_at n (t + 64) k ≡ words) count c.put_words-2.ensures.read)
    ∙ ap (λ (x : Thread). record x { registers = record { pc = x.registers.pc; words = words } })
    (pc-set m one t c.pc.result c.put_words.ensures.others c.put_words.ensures.read)
    ∙ (λ i. record (thread_at m t) { registers = record { pc = c.pc.ensures i; words = c.words.ensures i } })
