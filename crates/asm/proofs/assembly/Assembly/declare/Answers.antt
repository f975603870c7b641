use Rattle.asm.specs.Reading.{labels_at}
use Rattle.std.specs.Prelude.{length}
use Rattle.asm.proofs.Steps.{IsOther, means-same, other-placed}
use Rattle.asm.proofs.assembly.Assembly.declare.Goals as goal

pub returns-in_default : goal.returns-in_default
returns-in_default c =
    let not = c.in_default in
    let other : IsOther c.args.line = record { untyped = not.not-Untyped; object = not.not-Object; interrupt = not.not-Interrupt; thread = not.not-Thread } in
    means-same c.place.result _ _ _ (other-placed (labels_at c.args.labels.now (length c.args.self.now.threads)) c.args.self.now c.args.line other)
    c.place.ensures
