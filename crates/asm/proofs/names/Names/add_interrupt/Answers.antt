-- The name was not there, so it is the last.
use Rattle.std.proofs.Common.{◌≡◌, ◌∷◌, [], ◌++◌, ap, ◌∙◌}
use Rattle.std.specs.Prelude.{map, is_some}
use Rattle.std.specs.List.{list_any}
use Rattle.std.specs.Map.{lookup}
use Rattle.std.specs.Str.{bytes_eq}
use Rattle.asm.specs.Names.{line_of_name}
use Rattle.asm.proofs.Shown.{insert-shown, is-none, none-of-three, with_text}
use Rattle.asm.proofs.names.Names.add_interrupt.Goals as goal

pub returns : goal.returns
returns c h =
    let old = c.args.self.now in
    let name = c.args.name.now in
    let free = none-of-three (list_any (bytes_eq name) old.untypeds) (list_any (bytes_eq name) old.objects) (is_some (line_of_name old name)) h in
    let added : map with_text c.insert.new.self.entries ≡ old.interrupts ++ (name, c.args.line) ∷ [] =
    ap (map with_text) c.in_ok-insert.ensures.entries
    ∙ insert-shown c.text.result c.args.line c.self.inside.interrupts.entries
    ((λ i. lookup (bytes_eq (c.text.ensures i)) (c.self.view_is i).interrupts) ∙ is-none (line_of_name old name) free.2)
    ∙ (λ i. (c.self.view_is i).interrupts ++ (c.text.ensures i, c.args.line) ∷ []) in
    λ i. record (c.self.view_is i) { interrupts = added i }
