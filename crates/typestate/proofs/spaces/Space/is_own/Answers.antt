-- By the places of the thread's CNodes.
use Rattle.std.proofs.Common.{◌∙◌}
use Rattle.typestate.specs.Strays.{cnodes_of}
use Rattle.typestate.proofs.GivenFacts.{space-of}
use Rattle.typestate.proofs.OwnKeys.{own-told}
use Rattle.typestate.proofs.spaces.Space.is_own.Goals as goal

pub returns : goal.returns
returns c = c.have_key.ensures ∙ own-told c.args.self.now.image.now (cnodes_of c.args.self.now) c.args.self.now.windows.now c.args.key
    (space-of c.args.self.now).cnodes
