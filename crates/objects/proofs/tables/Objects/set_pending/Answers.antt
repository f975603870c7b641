-- The bit of the line changes, and no other.
use Rattle.std.proofs.Common.{◌≡◌, ◌∙◌, ◌<◌, length, arith}
use Rattle.objects.proofs.Lines.{pending-state}
use Rattle.objects.proofs.tables.Objects.set_pending.Goals as goal

pub returns-clause-state : goal.returns-clause-state
returns-clause-state c = λ slots memory.
    let line : c.from.result ≡ c.args.line = c.from.ensures ∙ c.number.ensures.value in
    let less : c.from.result < length c.self.inside.pending = omega (arith, c.from.ensures, c.number.ensures.range, c.self.told.1) in
    pending-state _ c.args.self.now c.from.result c.args.line c.args.bit line c.self.view_is slots memory less
