-- What maps a page or is a child has its key among the changes.
use Rattle.std.proofs.Common.{◌∙◌, Bool}
use Rattle.model.specs.Acceptance.NotedStates.{NotedSlot}
use Rattle.model.specs.Acceptance.PointRules.{holds_for}
use Rattle.typestate.specs.Differences.{slots_of}
use Rattle.typestate.specs.declared.points.NotedSlots.{NotedSlots}
use Rattle.typestate.proofs.OwnChanges.{any-own, hold-own}
use Rattle.typestate.proofs.Rising.{from-first}
use Rattle.typestate.proofs.SomeHeld.{changes-held}
use Rattle.typestate.proofs.UnlinkedSlots.{none-maps}
use Rattle.typestate.proofs.points.NotedSlots.maps.Goals as goal

pub returns : goal.returns
returns c =
    let n : NotedSlots = c.args.self.now in
    let test : NotedSlot → Bool = holds_for c.args.access c.args.root c.args.page in
    let first = from-first n.image.now n.rising in
    c.one_holds.ensures ∙ any-own test (slots_of n) n.changes.now (hold-own n.image.now n.changes.now 0 (from-first n.changes.now n.ordered))
    ∙ changes-held test n.image.now n.changes.now first (none-maps c.args.access c.args.root c.args.page n.image.now n.unlinked)
