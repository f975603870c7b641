-- Nothing is asked of the points that were passed.
use Rattle.program_rules.proofs.kept_points.KeptPoints.first_of.Given as goal

abbrev pub invariant-back : goal.invariant-back
invariant-back l = Unit {0}
