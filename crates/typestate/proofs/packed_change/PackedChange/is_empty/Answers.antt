-- By the first word.
use Rattle.typestate.proofs.PackedWords.{empty-told}
use Rattle.typestate.proofs.packed_change.PackedChange.is_empty.Goals as goal

pub returns : goal.returns
returns c = empty-told c.args.self.now.head c.args.self.now.word c.args.self.now.spelled
