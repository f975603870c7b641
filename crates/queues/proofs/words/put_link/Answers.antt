-- A word that is written leaves as many bytes.
use Rattle.std.proofs.Common.{ℕ, ◌∙◌, ◌+◌, ◌*◌, List, length, ap, arith}
use Rattle.queues.proofs.MemoryWrites.{size-word}
use Rattle.queues.proofs.words.put_link.Goals as goal

pub returns-clause-size : goal.returns-clause-size
returns-clause-size g c =
    ap (λ (l : List ℕ). length l) c.write32.ensures.bytes
    ∙ size-word (g.S.SlotStore.memory c.args.store.now) (c.args.thread + (c.base.result + 4 * c.args.number)) c.args.word
    (omega (arith, c.requires.there.within, c.base.ensures.most, c.requires.small))
