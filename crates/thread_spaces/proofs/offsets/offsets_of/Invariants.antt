-- So many objects are placed, and so much of each untyped is used by them.
use Rattle.wellformed.specs.Used.{IsUsed}
use Rattle.thread_spaces.specs.Given.{AreOffsets}
use Rattle.thread_spaces.proofs.offsets.offsets_of.Given as goal

abbrev pub invariant-loop-number : goal.invariant-loop-number
invariant-loop-number l = record {
  used : IsUsed l.image l.number l.used.used;
  placed : AreOffsets l.image l.number l.offsets.items;
}
