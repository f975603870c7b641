use Rattle.std.proofs.Common.{List, length, ap, sym, ◌∙◌}
use Rattle.std.proofs.lemmas.List.{length-map}
use Rattle.model.specs.Images.Format.{many_read}
use Rattle.image_reading.proofs.EntryLists.{ends, list_length}
use Rattle.image_reading.proofs.entries.Section.key_count.Goals as goal

pub returns : goal.returns
returns g c =
    let r = c.self.inside in
    let read = ends (many_read (g.E.Listed.format r.counts) g.E.Listed.next r.least r.left r.bytes.now r.at) c.self.invariant in
    let count = list_length (g.E.Listed.format r.counts) g.E.Listed.next r.least r.left r.bytes.now r.at read in
    sym (length-map c.args.self.now g.E.Keyed.key ∙ ap (λ (l : List g.row.E.Denot). length l) (sym c.self.view_is) ∙ count)
