-- One of the 32 words is written, unless it is that of register 0.
use Rattle.std.proofs.Common.{ℕ, ◌≡◌, ◌+◌, ◌*◌, List, ap, arith, slice_index, subst}
use Rattle.model.specs.Shared.Bytes.{word_at}
use Rattle.objects.specs.thread_records.Records.{SameBeside}
use Rattle.objects.proofs.thread_records.Fields.{register-set}
use Rattle.objects.proofs.thread_records.writes.set_register.Goals as goal

pub returns-then-register-ne0-clause-record : goal.returns-then-register-ne0-clause-record
returns-then-register-ne0-clause-record g c =
    let m = g.S.SlotStore.memory c.args.store.now in
    let n = g.S.SlotStore.memory c.put_words.new.store in
    let t = c.args.thread in
    register-set m n t c.args.register c.args.value c.requires.named (λ none. omega (arith, none, c.if-register-ne0.true))
    (subst (λ (number : ℕ). SameBeside (t + (64 + 4 * number)) (t + (64 + 4 * number + 4)) m n) c.from.ensures c.put_words.ensures.others)
    (subst (λ (number : ℕ). word_at n (t + (64 + 4 * number)) ≡ c.args.value) c.from.ensures
    (ap (λ (words : List ℕ). slice_index words 0) c.put_words.ensures.read))
