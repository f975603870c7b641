-- They are the image's.
use Rattle.std.proofs.Common.{◌∙◌}
use Rattle.typestate.proofs.spaces.Space.promise_at.Goals as goal

pub returns : goal.returns
returns c = c.at.ensures ∙ c.args.self.now.promised c.args.endpoint
