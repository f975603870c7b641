-- Both ways.
use Rattle.model.specs.Capabilities.Slots.{depth_of}
use Rattle.model.proofs.Ancestors.{descendant-from_test, test-from_descendant}
use Rattle.model_laws.proofs.descent_laws.the_test_of_descent_decides.Goals as goal

pub returns : goal.returns
returns c = λ slots root slot tree. (descendant-from_test (depth_of slots slot) slots root slot, test-from_descendant slots root slot tree)
