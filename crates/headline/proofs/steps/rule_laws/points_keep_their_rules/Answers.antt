-- The rules of a program are those of its points, one after another.
use Rattle.headline.proofs.steps.KeptRules.{point-kept}
use Rattle.headline.proofs.steps.rule_laws.points_keep_their_rules.Goals as goal

pub returns : goal.returns
returns c = point-kept
