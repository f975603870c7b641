-- What was written is read, and nothing else changed.
use Rattle.std.proofs.Common.{ℕ, ◌≡◌, ◌+◌, ◌*◌, List, length, subst, sym, arith}
use Rattle.pmem.specs.Words.{words_at}
use Rattle.objects.specs.thread_records.Records.{IsRecordAt, SameBeside}
use Rattle.pmem.proofs.Laws.{words-written}
use Rattle.objects.proofs.thread_records.WordLists.{beside-words, same-size}
use Rattle.objects.proofs.thread_records.writes.put_words.Goals as goal

pub returns-clause-others : goal.returns-clause-others
returns-clause-others g c =
    let m = g.S.SlotStore.memory c.args.store.now in
    let at = c.args.thread + c.args.place in
    subst (λ (n : List ℕ). SameBeside at (c.args.thread + (c.args.place + 4 * length c.args.words.now)) m n) (sym c.write_words.ensures.bytes)
    (beside-words m at c.args.words.now (c.args.thread + (c.args.place + 4 * length c.args.words.now)) (omega arith)
    (omega (arith, c.requires.there.within, c.requires.inside)))

pub returns-clause-read : goal.returns-clause-read
returns-clause-read g c =
    let m = g.S.SlotStore.memory c.args.store.now in
    let at = c.args.thread + c.args.place in
    subst (λ (n : List ℕ). words_at n at (length c.args.words.now) ≡ c.args.words.now) (sym c.write_words.ensures.bytes)
    (words-written m at c.args.words.now (omega (arith, c.requires.there.within, c.requires.inside)) (λ k. omega (arith, c.type_inv.words k)))

pub returns-clause-there : goal.returns-clause-there
returns-clause-there g c =
    let m = g.S.SlotStore.memory c.args.store.now in
    let at = c.args.thread + c.args.place in
    let slots = g.S.SlotMap.slots c.args.store.now in
    subst (λ slots. IsRecordAt slots (length (g.S.SlotStore.memory c.write_words.new.self)) c.args.thread) (sym c.write_words.ensures.slots)
    (subst (λ (size : ℕ). IsRecordAt slots size c.args.thread)
    (sym (same-size m (g.S.SlotStore.memory c.write_words.new.self) at (c.args.words.now) c.write_words.ensures.bytes
    (omega (arith, c.requires.there.within, c.requires.inside)))) c.requires.there)
