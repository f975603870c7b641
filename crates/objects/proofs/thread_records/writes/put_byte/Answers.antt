-- What was written is read, and nothing else changed.
use Rattle.std.proofs.Common.{ℕ, ◌+◌, [], ◌∷◌, List, slice_index, subst, sym, ap, ◌∙◌, arith}
use Rattle.model.proofs.BytesLemmas.{slice_index-written_inside}
use Rattle.model.specs.Shared.Bytes.{written}
use Rattle.objects.specs.thread_records.Records.{SameBeside}
use Rattle.objects.proofs.thread_records.WordLists.{written-beside}
use Rattle.objects.proofs.thread_records.writes.put_byte.Goals as goal

pub returns-clause-others : goal.returns-clause-others
returns-clause-others g c =
    let m = g.S.SlotStore.memory c.args.store.now in
    let at = c.args.thread + c.args.place in
    subst (λ (n : List ℕ). SameBeside at (c.args.thread + (c.args.place + 1)) m n) (sym c.write8.ensures.bytes)
    (written-beside m at (c.args.byte ∷ []) (c.args.thread + (c.args.place + 1)) (omega arith) (omega (arith, c.requires.there.within, c.requires.inside)))

pub returns-clause-read : goal.returns-clause-read
returns-clause-read g c =
    let m = g.S.SlotStore.memory c.args.store.now in
    let at = c.args.thread + c.args.place in
    ap (λ (n : List ℕ). slice_index n at) c.write8.ensures.bytes
    ∙ ap (slice_index (written m at (c.args.byte ∷ []))) (omega arith)
    ∙ slice_index-written_inside m at (c.args.byte ∷ []) 0 (omega (arith, c.requires.there.within, c.requires.inside)) (omega arith)
