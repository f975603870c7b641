-- The test that the ranges' own type has is the rule's.
use Rattle.program_rules.proofs.point_rules.WithinRanges.{decides}
use Rattle.program_rules.proofs.point_rules.ways.are_within.Goals as goal

pub returns : goal.returns
returns c = decides c.args.bounds.now c.args.others.now c.is_within.result c.is_within.ensures
