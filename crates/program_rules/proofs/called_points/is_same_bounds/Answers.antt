-- Each lies within the other.
use Rattle.program_rules.proofs.Placed.{ranges-one}
use Rattle.program_rules.proofs.called_points.is_same_bounds.Goals as goal

pub returns : goal.returns
returns c = λ is long_one long_other.
    ranges-one c.args.one.now c.args.other.now (c.is_within.ensures.0 c.if-not-is_within.false) (c.is_within-2.ensures.0 is) long_one long_other
