-- The state of the record takes the place of what the point before leaves.
use Rattle.program_rules.proofs.points.note_own.Goals as goal

pub returns-in_ok-derived-in-Some-clause-sound : goal.returns-in_ok-derived-in-Some-clause-sound
returns-in_ok-derived-in-Some-clause-sound c = λ point before. c.in_ok-derived-in-Some.ensures.sound point

pub returns-in_ok-derived-in-Some-clause-clean : goal.returns-in_ok-derived-in-Some-clause-clean
returns-in_ok-derived-in-Some-clause-clean c = λ image t slots before. c.in_ok-derived-in-Some.ensures.clean image t slots
