-- The same on both sides, part for part.
use Rattle.part_laws.proofs.changes.Signals.{poll-agrees, raise-agrees, reply-agrees, signal-agrees, wait-agrees}
use Rattle.part_laws.proofs.changes.signals_of_a_part_agree.Goals as goal

pub returns-clause-replies : goal.returns-clause-replies
returns-clause-replies c = λ image part s t thread agree has one inside. reply-agrees image part s t thread agree has one inside

pub returns-clause-signals : goal.returns-clause-signals
returns-clause-signals c = λ image part s t notification badge agree of inside. signal-agrees image part s t notification badge agree of inside

pub returns-clause-waits : goal.returns-clause-waits
returns-clause-waits c = λ image part s t notification thread agree of inside.
    (wait-agrees image part s t notification thread agree of inside, poll-agrees image part s t notification thread agree of inside)

pub returns-clause-interrupts : goal.returns-clause-interrupts
returns-clause-interrupts c = λ image part s t line agree own same inside. raise-agrees image part s t line agree own same inside
