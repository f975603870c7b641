-- The one that goes is lost; and of what descends from a root a child of it, which has its key among the changes.
use Rattle.std.proofs.Common.{◌∙◌, ◌&&◌, Bool}
use Rattle.model.specs.Acceptance.NotedStates.{NotedSlot}
use Rattle.typestate.specs.SlotChanges.{is_parent, is_removed}
use Rattle.typestate.specs.Differences.{slots_of}
use Rattle.typestate.specs.declared.points.NotedSlots.{NotedSlots}
use Rattle.typestate.proofs.KeptChildren.{lost-below, lost-one}
use Rattle.typestate.proofs.OwnChanges.{any-own, hold-own}
use Rattle.typestate.proofs.Rising.{from-first}
use Rattle.typestate.proofs.SomeHeld.{changes-held}
use Rattle.typestate.proofs.UnlinkedSlots.{none-goes}
use Rattle.typestate.proofs.removal.Removal.has_lost.Goals as goal

pub returns-in-One : goal.returns-in-One
returns-in-One c = lost-one (slots_of c.args.self.now.slots) c.args.self.now.which _ c.args.key c.in-One.is c.requires

pub returns-in-Below : goal.returns-in-Below
returns-in-Below c =
    let r = c.args.self.now in
    let n : NotedSlots = r.slots in
    let test : NotedSlot → Bool = λ s. is_removed (slots_of n) r.which s.key && is_parent c.args.key s.parent in
    let first = from-first n.image.now n.rising in
    c.one_goes.ensures ∙ lost-below n r.which _ c.args.key r.touched.now c.in-Below.is r.told c.requires
    ∙ any-own test (slots_of n) n.changes.now (hold-own n.image.now n.changes.now 0 (from-first n.changes.now n.ordered))
    ∙ changes-held test n.image.now n.changes.now first (none-goes (slots_of n) r.which c.args.key n.image.now n.unlinked)
