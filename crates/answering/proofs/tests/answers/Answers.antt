-- What was found is what is known.
use Rattle.answering.specs.Known.{known_at, owes_over}
use Rattle.answering.proofs.Points.{leads-so}
use Rattle.answering.proofs.tests.answers.Goals as goal

pub returns : goal.returns
returns c = λ holds. (
  known_at c.in-Some.known,
  λ image t same view.
      let test = owes_over c.args.thread.now c.args.badge c.in-Some.known in
      leads-so image t c.args.program.now view test (c.holds.ensures holds),
)
