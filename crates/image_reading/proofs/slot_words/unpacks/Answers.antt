use Rattle.image_reading.proofs.WordLaws.{unpacked-is}
use Rattle.image_reading.proofs.slot_words.unpacks.Goals as goal

pub returns : goal.returns
returns c = rw c.is_some.ensures (unpacked-is c.args.word0 c.args.word1 c.unpack.result c.unpack.ensures.some c.unpack.ensures.only)
