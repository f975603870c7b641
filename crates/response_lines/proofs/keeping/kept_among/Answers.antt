-- By the row at hand.
use Rattle.response_lines.proofs.Keeps.{among-all}
use Rattle.response_lines.proofs.keeping.kept_among.Goals as goal

pub returns-then-row-priority : goal.returns-then-row-priority
returns-then-row-priority c =
    among-all c.args.rows.now c.loop-row.row-index c.row-item.result _ c.loop-row-test.true c.row-item.is c.kept_at.ensures
