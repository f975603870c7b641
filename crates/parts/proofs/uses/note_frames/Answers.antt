-- By one frame more.
use Rattle.std.proofs.Common.{◌==◌, ◌&&◌, drop}
use Rattle.std.proofs.lemmas.List.{drop_all}
use Rattle.model.specs.Capabilities.Rights.{may_write, rights}
use Rattle.parts.proofs.Left.{left-none}
use Rattle.parts.proofs.uses.note_frames.Goals as goal

pub returns-clause-takes : goal.returns-clause-takes
returns-clause-takes c =
    let frames = c.args.frames.now in
    let k = c.loop-entry.entry-index in
    left-none (λ f n. f.root == c.args.root && f.frame == n) frames (drop k frames) c.args.takes.now c.loop-entry.takes
    (drop_all k frames c.loop-entry-test.false) c.loop-entry.invariant.takes

pub returns-clause-changes : goal.returns-clause-changes
returns-clause-changes c =
    let frames = c.args.frames.now in
    let k = c.loop-entry.entry-index in
    left-none (λ f n. (f.root == c.args.root && may_write (rights f.rights)) && f.frame == n) frames (drop k frames) c.args.changes.now
    c.loop-entry.changes (drop_all k frames c.loop-entry-test.false) c.loop-entry.invariant.changes
