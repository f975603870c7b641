-- As each label of a thread is within its budget.
use Rattle.headline.proofs.Laws.{IsGiven, given, runs-within}
use Rattle.model.specs.Images.Described.{described}
use Rattle.model.specs.Kernel.Steps.{state_after, trace}
use Rattle.response.proofs.who_runs_has_left.Goals as goal

pub returns : goal.returns
returns c = λ bytes image events t accepted devices listed now.
    let fits = accepted.spelled.fits in
    let facts =
    given bytes image t (λ k point state at known. c.measures_of_points_name_registers.ensures image k t point state fits at known) accepted listed in
    runs-within image t listed (IsGiven.points facts) (IsGiven.names facts) c.least_values_are_least.ensures (state_after (described image) events)
    (trace (described image) events) (c.events_go_well.ensures bytes image events accepted devices).stand now
