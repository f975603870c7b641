-- The sets have what is mapped so far, and what is mapped more than once.
use Rattle.std.proofs.Common.{take}
use Rattle.wellformed.specs.Answering.{AreNamed, AreTwice}
use Rattle.wellformed.proofs.mappings.mapped_twice.Given as goal

abbrev pub invariant-loop-item : goal.invariant-loop-item
invariant-loop-item l = record {
  once : AreNamed (λ f. f.frame) (take l.item l.fn.image.frames) l.once;
  twice : AreTwice (λ f. f.frame) (take l.item l.fn.image.frames) l.twice;
}
