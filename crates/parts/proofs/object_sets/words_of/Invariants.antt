-- Those so far have their bits.
use Rattle.std.proofs.Common.{take}
use Rattle.parts.specs.ObjectSets.{AreMarked}
use Rattle.parts.proofs.object_sets.words_of.Given as goal

abbrev pub invariant-loop-place : goal.invariant-loop-place
invariant-loop-place l = AreMarked (take l.place l.fn.numbers) l.words.items
