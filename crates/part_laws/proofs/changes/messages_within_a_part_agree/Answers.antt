-- The same on both sides, part for part.
use Rattle.part_laws.proofs.changes.Messages.{receive-agrees, send-agrees}
use Rattle.part_laws.proofs.changes.messages_within_a_part_agree.Goals as goal

pub returns-clause-sends : goal.returns-clause-sends
returns-clause-sends c = λ image part s t endpoint x agree has of one inside. send-agrees image part s t endpoint x agree has of one inside

pub returns-clause-receives : goal.returns-clause-receives
returns-clause-receives c = λ image part s t endpoint receiver agree has of one inside. receive-agrees image part s t endpoint receiver agree has of one inside
