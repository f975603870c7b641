-- What the verifier accepts is the image that the bytes spell.
use Rattle.parts.proofs.AloneImages.{accepted-as}
use Rattle.parts.proofs.alone.check.Goals as goal

pub returns-in-Ok-clause-accepted : goal.returns-in-Ok-clause-accepted
returns-in-Ok-clause-accepted c = λ image spelled. accepted-as c.args.bytes.now c.in-Ok.field-0 image c.in-Ok.ensures.accepted spelled
