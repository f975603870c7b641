-- By the page's region.
use Rattle.std.proofs.Common.{◌∙◌}
use Rattle.wellformed.proofs.Covered.{covered-is}
use Rattle.wellformed.proofs.mappings.is_covered.Goals as goal

pub returns : goal.returns
returns c = c.lists_region.ensures ∙ covered-is c.args.image.now c.args.entry
