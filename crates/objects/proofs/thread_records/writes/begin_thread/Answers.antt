-- Each byte of the record is zero.
use Rattle.std.proofs.Common.{ℕ, ◌≡◌, ◌+◌, ◌-◌, ◌∙◌, List, replicate, slice_index, ap, arith}
use Rattle.std.proofs.lemmas.List.{get_or-replicate}
use Rattle.model.proofs.BytesLemmas.{slice_index-written_inside}
use Rattle.model.specs.Shared.Bytes.{written}
use Rattle.objects.proofs.thread_records.Fields.{blank-zero}
use Rattle.objects.proofs.thread_records.writes.begin_thread.Goals as goal

pub returns-clause-record : goal.returns-clause-record
returns-clause-record g c =
    let m = g.S.SlotStore.memory c.args.store.now in
    let t = c.args.thread in
    let piece : List ℕ = replicate 196 0 in
    blank-zero (g.S.SlotStore.memory c.zero.new.self) t (λ place inside.
    let at : place ≡ t + 48 + (place - (t + 48)) = omega (arith, inside.0) in
    ap (λ (n : List ℕ). slice_index n place) c.zero.ensures.bytes
    ∙ ap (slice_index (written m (t + 48) piece)) at
    ∙ slice_index-written_inside m (t + 48) piece (place - (t + 48)) (omega (arith, c.requires.there.within)) (omega (arith, inside.0, inside.1))
    ∙ get_or-replicate 196 (place - (t + 48)) 0 0 (omega (arith, inside.0, inside.1)))
