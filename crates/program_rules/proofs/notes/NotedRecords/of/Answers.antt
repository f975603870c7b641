-- The records of a certificate that fits its format.
use Rattle.std.proofs.Common.{List, sym, subst}
use Rattle.model.specs.Images.Image.{StateRecord}
use Rattle.program_rules.proofs.NextRecords.{all-limited}
use Rattle.program_rules.proofs.notes.NotedRecords.of.Goals as goal
use Rattle.program_rules.specs.Left.{AreLimited}

pub invariant_of-result : goal.invariant_of-result
invariant_of-result c =
    subst (λ (rs : List StateRecord). AreLimited rs) (sym c.records.ensures) (all-limited c.args.program.now.given.space.thread.now c.args.program.now.fits)
