use Rattle.std.proofs.Common.{◌≡◌, ◌<◌, ◌∙◌, Some, length, map, subst, ap, sym}
use Rattle.std.proofs.lemmas.List.{length-map}
use Rattle.image_reading.proofs.image_entries.Laws.{key-at}
use Rattle.image_reading.proofs.entries.Section.key_at.Goals as goal

pub entry-requires : goal.entry-requires
entry-requires g c = subst (λ k. c.args.number < k) (length-map c.args.self.now g.E.Keyed.key) c.requires

pub returns : goal.returns
returns g c = key-at g.E.Keyed.key c.args.self.now c.args.number c.entry.result c.entry.ensures ∙ ap (λ n. Some n) (sym c.key.ensures)
