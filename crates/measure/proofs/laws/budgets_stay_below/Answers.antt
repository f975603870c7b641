-- The measure counts no register, and its constant is the budget.
use Rattle.measure.proofs.LoweredMeasures.{budget-stays}
use Rattle.measure.proofs.laws.budgets_stay_below.Goals as goal

pub returns : goal.returns
returns c = budget-stays
