-- What was noted is answered.
use Rattle.answering.specs.Answers.{AreAnswered}
use Rattle.answering.proofs.answers.answered_by.Given as goal

abbrev pub invariant-badges : goal.invariant-badges
invariant-badges l = AreAnswered l.thread l.program l.answered.items
