-- Each is the same change on both sides.
use Rattle.part_laws.proofs.changes.Agreeing.{block-agrees, same-runs, tick-agrees, wake-agrees}
use Rattle.part_laws.proofs.changes.changes_of_a_part_agree.Goals as goal

pub returns-clause-runs : goal.returns-clause-runs
returns-clause-runs c = λ image part s t thread agree is inside. same-runs image part s t thread agree is inside

pub returns-clause-wakes : goal.returns-clause-wakes
returns-clause-wakes c = λ image part s t thread agree inside. wake-agrees image part s t thread agree inside

pub returns-clause-blocks : goal.returns-clause-blocks
returns-clause-blocks c = λ image part s t thread status agree inside. block-agrees image part s t thread status agree inside

pub returns-clause-ticks : goal.returns-clause-ticks
returns-clause-ticks c = λ image part s t thread agree is inside. tick-agrees image part s t thread agree is inside
