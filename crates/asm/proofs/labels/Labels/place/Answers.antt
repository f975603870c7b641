use Rattle.std.proofs.Common.{ap, ◌∙◌}
use Rattle.std.specs.Map.{lookup}
use Rattle.std.specs.Str.{bytes_eq}
use Rattle.asm.specs.Labels.{FoundLabels}
use Rattle.asm.proofs.Shown.{lookup-shown}
use Rattle.asm.proofs.labels.Labels.place.Goals as goal

pub returns : goal.returns
returns c = c.copied.ensures ∙ c.get.ensures.value ∙ lookup-shown (bytes_eq c.args.name.now) c.self.inside.places.entries
    ∙ ap (λ (l : FoundLabels). lookup (bytes_eq c.args.name.now) l.places) c.self.view_is
