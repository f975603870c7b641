-- What is in the sets, with what is left of the frames.
use Rattle.std.proofs.Common.{◌==◌, ◌&&◌, drop}
use Rattle.model.specs.Capabilities.Rights.{may_write, rights}
use Rattle.parts.proofs.Left.{AreLeft}
use Rattle.parts.proofs.uses.note_frames.Given as goal

abbrev pub invariant-loop-entry : goal.invariant-loop-entry
invariant-loop-entry l = record {
  takes : AreLeft (λ f n. f.root == l.fn.root && f.frame == n) l.frames (drop l.entry-index l.frames) l.fn.takes l.takes;
  changes : AreLeft (λ f n. (f.root == l.fn.root && may_write (rights f.rights)) && f.frame == n) l.frames (drop l.entry-index l.frames) l.fn.changes l.changes;
}
