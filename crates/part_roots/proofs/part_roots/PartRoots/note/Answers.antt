use Rattle.std.proofs.Common.{◌≡◌, ◌∙◌, IfSome, List, Option, sym, ap, subst}
use Rattle.std.specs.List.{All}
use Rattle.model.specs.Acceptance.NotedStates.{NotedSlot}
use Rattle.part_roots.specs.Held.{SaysBy}
use Rattle.part_roots.specs.Rooted.{AreIn, IsRooted}
use Rattle.part_roots.specs.declared.bases.Root.{Root}
use Rattle.part_roots.specs.declared.part_roots.RootedPart.{RootedPart}
use Rattle.part_roots.proofs.RootedParts.{next_rooted, rooted_more, rooted_stays}
use Rattle.part_roots.proofs.part_roots.PartRoots.note.Goals as goal
use Rattle.typestate.specs.Differences.{changed, slots_of}
use Rattle.typestate.specs.Replays.{replayed}
use Rattle.typestate.specs.Unlinked.{AreUnlinked}

pub returns-in_default-2 : goal.returns-in_default-2
returns-in_default-2 c = λ rooted.
    let image = c.args.image.now in
    let log = c.args.log.now in
    let old = c.args.self.now in
    let new = c.root_after.new.self.states in
    subst (λ (l : List RootedPart). All (IsRooted new image log) l) (sym c.root_after.ensures.all)
    (rooted_stays old.states new image log old.parts.items c.root_after.ensures.kept rooted)

pub returns : goal.returns
returns c = λ rooted.
    let image = c.args.image.now in
    let log = c.args.log.now in
    let old = c.args.self.now in
    let new = c.root_after.new.self.states in
    let start = c.start-start.result in
    let root = c.in-Some-2.root in
    let listed = slots_of c.slots-listed.result in
    let entries = c.in-Some-entries.entries.now in
    let held = c.in-Some.ensures.held in
    let within = subst (λ (o : Option Root). IfSome o (AreIn new)) c.in-Some-2.is c.in_ok-root.ensures.within in
    let says = subst (λ (o : Option Root). IfSome o (λ r. (slots : List NotedSlot) → AreUnlinked listed → SaysBy old.states start.root listed slots
    → SaysBy new r listed (replayed slots entries))) c.in-Some-2.is c.in_ok-root.ensures.says in
    let same : listed ≡ image = c.slots-listed.ensures.slots ∙ ap (changed image) c.new-nothing.ensures.none in
    rooted_more new image log c.root_after.new.self.parts.items c.push.new.self.items (let r : RootedPart = record { part = c.args.part; root = root } in r)
    c.in_ok-push.ensures.items
    (subst (λ (l : List RootedPart). All (IsRooted new image log) l) (sym c.root_after.ensures.all)
    (rooted_stays old.states new image log old.parts.items c.root_after.ensures.kept rooted))
    (next_rooted old.states new image listed log start c.args.part entries root same c.requires.unlinked held (c.start-start.ensures.next held.0)
    (c.start-start.ensures.rooted image log held rooted) c.in-Some-entries.ensures.same within says)
