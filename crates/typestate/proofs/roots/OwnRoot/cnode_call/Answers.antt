-- Each call by its own.
use Rattle.std.proofs.Common.{◌∙◌, ap}
use Rattle.typestate.specs.CNodeCalls.{cnode_after}
use Rattle.typestate.specs.Differences.{slots_of}
use Rattle.typestate.proofs.roots.OwnRoot.cnode_call.Goals as goal

pub returns-in-Mutate : goal.returns-in-Mutate
returns-in-Mutate c =
    ap (cnode_after c.args.self.now.own.space.image.now c.args.self.now.own.space.thread.now c.args.at (slots_of c.args.self.now.own.slots)
    c.args.self.now.root) c.in-Mutate.is ∙ c.mutate.ensures c.in-Mutate.payload
