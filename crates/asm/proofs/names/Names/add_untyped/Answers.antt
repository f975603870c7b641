-- The name was not there, so it is the last.
use Rattle.std.proofs.Common.{◌≡◌, ◌∷◌, [], ◌++◌, ap, ◌∙◌}
use Rattle.std.specs.Prelude.{map, is_some}
use Rattle.std.specs.List.{list_any}
use Rattle.std.specs.Str.{bytes_eq}
use Rattle.asm.specs.Names.{line_of_name}
use Rattle.asm.proofs.Shown.{insert-key-shown, none-of-three, text_of}
use Rattle.asm.proofs.names.Names.add_untyped.Goals as goal

pub returns : goal.returns
returns c h =
    let old = c.args.self.now in
    let name = c.args.name.now in
    let free = none-of-three (list_any (bytes_eq name) old.untypeds) (list_any (bytes_eq name) old.objects) (is_some (line_of_name old name)) h in
    let added : map text_of c.insert.new.self.keys ≡ old.untypeds ++ name ∷ [] =
    ap (map text_of) c.in_ok-insert.ensures.keys
    ∙ insert-key-shown c.text.result c.self.inside.untypeds.keys ((λ i. list_any (bytes_eq (c.text.ensures i)) (c.self.view_is i).untypeds) ∙ free.0)
    ∙ (λ i. (c.self.view_is i).untypeds ++ c.text.ensures i ∷ []) in
    λ i. record (c.self.view_is i) { untypeds = added i }
