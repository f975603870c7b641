use Rattle.std.proofs.Common.{ap, ◌∙◌}
use Rattle.std.specs.List.{list_any}
use Rattle.std.specs.Str.{bytes_eq}
use Rattle.asm.specs.Names.{KnownNames}
use Rattle.asm.proofs.Shown.{any-shown}
use Rattle.asm.proofs.names.Names.has_object.Goals as goal

pub returns : goal.returns
returns c = c.contains.ensures ∙ any-shown (bytes_eq c.args.name.now) c.self.inside.objects.keys
    ∙ ap (λ (n : KnownNames). list_any (bytes_eq c.args.name.now) n.objects) c.self.view_is
