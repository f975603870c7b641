-- A label that is not there is the last.
use Rattle.std.proofs.Common.{◌≡◌, ◌∷◌, [], ◌++◌, None, sym, ap, ◌∙◌}
use Rattle.std.specs.Prelude.{map, is_some, Option, if◌then◌else◌}
use Rattle.std.specs.Map.{lookup}
use Rattle.std.specs.Str.{bytes_eq}
use Rattle.asm.specs.declared.labels.Place.{Place}
use Rattle.asm.specs.Labels.{FoundLabels, place_named}
use Rattle.asm.proofs.Shown.{insert-shown, with_text}
use Rattle.asm.proofs.labels.Labels.note.Goals as goal

pub returns-in_ok-insert-in-None : goal.returns-in_ok-insert-in-None
returns-in_ok-insert-in-None c =
    let old : FoundLabels = c.args.self.now in
    let name = c.args.name.now in
    let none : place_named old name ≡ None = sym (c.in-None.ensures ∙ ap (place_named old) c.text-text.ensures) in
    let place : Place = record { line = c.args.line; point = c.self.inside.points } in
    let added : map with_text c.insert.new.self.entries ≡ old.places ++ (name, record { line = c.args.line; point = old.points }) ∷ [] =
    ap (map with_text) c.in_ok-insert-in-None.ensures.entries
    ∙ insert-shown c.text-text.result place c.self.inside.places.entries ((λ i. lookup (bytes_eq (c.text-text.ensures i)) (c.self.view_is i).places) ∙ none)
    ∙ (λ i. (c.self.view_is i).places ++ (c.text-text.ensures i, record { line = c.args.line; point = (c.self.view_is i).points }) ∷ []) in
    let grown : FoundLabels = record old { places = old.places ++ (name, record { line = c.args.line; point = old.points }) ∷ [] } in
    (λ i. record (c.self.view_is i) { places = added i }) ∙ sym (ap (λ (o : Option Place). if is_some o then old else grown) none)
