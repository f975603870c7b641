use Rattle.std.proofs.Common.{ap, ◌∙◌}
use Rattle.std.specs.Map.{lookup}
use Rattle.std.specs.Str.{bytes_eq}
use Rattle.asm.specs.Names.{KnownNames}
use Rattle.asm.proofs.Shown.{lookup-shown}
use Rattle.asm.proofs.names.Names.line_of.Goals as goal

pub returns : goal.returns
returns c = c.copied.ensures ∙ c.get.ensures.value ∙ lookup-shown (bytes_eq c.args.name.now) c.self.inside.interrupts.entries
    ∙ ap (λ (n : KnownNames). lookup (bytes_eq c.args.name.now) n.interrupts) c.self.view_is
