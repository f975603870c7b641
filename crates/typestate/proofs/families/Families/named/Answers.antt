-- Those between two bounds, or from one on.
use Rattle.std.proofs.Common.{◌∙◌}
use Rattle.typestate.proofs.LastLinks.{last-links}
use Rattle.typestate.proofs.Linked.{named-links}
use Rattle.typestate.proofs.families.Families.named.Goals as goal

pub returns-then-name-last_name-clause-links : goal.returns-then-name-last_name-clause-links
returns-then-name-last_name-clause-links c = c.range.ensures.between tt ∙ named-links c.args.name c.args.self.now.links.keys

pub returns-else-name-last_name-clause-links : goal.returns-else-name-last_name-clause-links
returns-else-name-last_name-clause-links c =
    c.range-else-name-last_name.ensures.between tt
    ∙ last-links c.args.name c.last_name.result c.args.self.now.links.keys c.if-name-last_name.false c.last_name.ensures
