-- No slot of the block has the name any more.
use Rattle.typestate.proofs.LinkedChanges.{others-linked}
use Rattle.typestate.proofs.families.Families.replace.Goals as goal

pub returns-clause-linked : goal.returns-clause-linked
returns-clause-linked c = λ linked.
    let es = c.args.changes.now.entries in
    others-linked es c.args.self.now.links.keys c.remove.new.self.keys c.number-name.result c.block_of-block.result
    (λ a b off. c.remove.ensures.updates.2 (a, b) off) (c.is_any_named.ensures c.if-is_any_named.false) linked
