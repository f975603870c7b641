-- Each label of a thread is one of a thread that runs, which is within its budget.
use Rattle.headline.proofs.RunningLabels.{runs-within}
use Rattle.headline.proofs.SpentLabels.{keeps-budget}
use Rattle.headline.proofs.budget_laws.standing_threads_keep_their_budgets.Goals as goal
use Rattle.model.specs.Acceptance.ThreadInvariants.{tcb_of}
use Rattle.headline.proofs.Laws.{IsGiven, given}

pub returns : goal.returns
returns c = λ bytes image events accepted stand t listed.
    let fits = accepted.spelled.fits in
    let facts =
    given bytes image t (λ k point state at known. c.measures_of_points_name_registers.ensures image k t point state fits at known) accepted listed in
    keeps-budget image (tcb_of image t) t.thread.header.budget
    (runs-within image t listed (IsGiven.points facts) (IsGiven.names facts) c.least_values_are_least.ensures) events stand
