-- The object names the first of its queue.
use Rattle.std.proofs.Common.{◌∙◌, sym, ap}
use Rattle.queues.specs.Words.{end_of}
use Rattle.queues.specs.declared.words.Ends.{Ends}
use Rattle.queues.proofs.Standings.{first-found}
use Rattle.queues.proofs.waiting.first.Goals as goal

pub returns-in-Some : goal.returns-in-Some
returns-in-Some g c =
    let places = g.L.Layout.places c.args.layout.now in
    let m = g.S.SlotStore.memory c.args.store.now in
    ap (λ (e : Ends). e.first) c.read_ends.ensures ∙ sym (ap (end_of m 0) (sym c.head.ensures ∙ c.in-Some.is))
    ∙ sym (first-found places m c.args.queue)

pub returns-in-None : goal.returns-in-None
returns-in-None g c =
    let places = g.L.Layout.places c.args.layout.now in
    let m = g.S.SlotStore.memory c.args.store.now in
    sym (ap (end_of m 0) (sym c.head.ensures ∙ c.in-None.is)) ∙ sym (first-found places m c.args.queue)
