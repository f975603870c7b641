-- What is in no set of both is not there.
use Rattle.parts.proofs.Apart.{none-in-both}
use Rattle.parts.proofs.image_parts.is_apart.Goals as goal

pub returns-then-is_apart : goal.returns-then-is_apart
returns-then-is_apart c =
    none-in-both c.args.objects c.args.taker.now.takes c.args.other.now.changes (c.is_apart.ensures c.if-is_apart.true)
