-- The first record and the rest are all of them.
use Rattle.std.proofs.Common.{◌∙◌}
use Rattle.program_rules.proofs.NextRecords.{left-after}
use Rattle.program_rules.proofs.notes.RecordsLeft.of.Goals as goal

pub returns : goal.returns
returns c = left-after c.of-records.result c.next-next.new.self c.next-next.result c.next-next.ensures ∙ c.of-records.ensures
