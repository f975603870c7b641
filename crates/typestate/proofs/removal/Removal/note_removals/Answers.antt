-- What one change more tells.
use Rattle.std.proofs.Common.{◌∙◌, ◌++◌, Option, List, [], ap}
use Rattle.std.specs.Option.{option_map_or}
use Rattle.model.specs.Acceptance.NotedStates.{NotedSlot}
use Rattle.typestate.specs.ChangeLists.{removal_change, told_of}
use Rattle.typestate.specs.Differences.{left_by, slots_of}
use Rattle.typestate.specs.Removals.{gone_by}
use Rattle.typestate.proofs.Appended.{all-told, none-told, one-more-told}
use Rattle.typestate.proofs.removal.Removal.note_removals.Goals as goal

pub loop-change-init : goal.loop-change-init
loop-change-init c =
    none-told (told_of (removal_change (gone_by c.args.self.now) (slots_of c.args.self.now.slots))) c.args.self.now.touched.now c.args.made.now.items

pub loop-change-preserved : goal.loop-change-preserved
loop-change-preserved c =
    let tell : NotedSlot → List NotedSlot = removal_change (gone_by c.args.self.now) (slots_of c.args.self.now.slots) in
    one-more-told (told_of tell) c.args.self.now.touched.now c.loop-change.change-index c.change-item.result c.args.made.now.items c.loop-change.made.items
    c.note_held.new.made.items c.loop-change-test.true c.change-item.is c.loop-change.invariant
    (c.in_ok-note_held.ensures ∙ ap (λ (o : Option NotedSlot). c.loop-change.made.items ++ option_map_or tell o [])
    (c.left-held.ensures ∙ ap left_by c.unpacked.ensures))

pub returns : goal.returns
returns c =
    let tell : NotedSlot → List NotedSlot = removal_change (gone_by c.args.self.now) (slots_of c.args.self.now.slots) in
    all-told (told_of tell) c.args.self.now.touched.now c.loop-change.change-index c.args.made.now.items c.loop-change.made.items c.loop-change-test.false
    c.loop-change.invariant
