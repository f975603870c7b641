-- The words stand for a capability.
use Rattle.typestate.proofs.PackedWords.{words-kept}
use Rattle.typestate.proofs.packed_change.PackedChange.packed_at.Goals as goal

pub invariant_of-result : goal.invariant_of-result
invariant_of-result c = words-kept c.args.self.now.head c.args.self.now.word c.args.self.now.spelled
