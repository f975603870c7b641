-- One entry more.
use Rattle.std.proofs.Common.{◌∙◌, ◌++◌, ◌∷◌, [], ap}
use Rattle.model.specs.Acceptance.NotedStates.{NotedSlot}
use Rattle.typestate.specs.declared.log_entries.LogEntry.TheVariants.{Sets}
use Rattle.typestate.specs.SlotChanges.{followed}
use Rattle.typestate.proofs.Appended.{all-entries, no-entry, one-more-entry}
use Rattle.typestate.proofs.change_lists.note_followed.Goals as goal

pub loop-slot-init : goal.loop-slot-init
loop-slot-init c = no-entry (λ s. Sets (followed c.args.from c.args.to s)) c.args.slots.now c.args.made.now.items

pub loop-slot-preserved : goal.loop-slot-preserved
loop-slot-preserved c =
    one-more-entry (λ s. Sets (followed c.args.from c.args.to s)) c.args.slots.now c.loop-slot.slot-index c.slot-item.result c.args.made.now.items
    c.loop-slot.made.items c.push.new.self.items c.loop-slot-test.true c.slot-item.is
    c.loop-slot.invariant (c.in_ok-push.ensures.items ∙ ap (λ (s : NotedSlot). c.loop-slot.made.items ++ Sets s ∷ [])
    (c.of.ensures ∙ c.followed.ensures ∙ ap (followed c.args.from c.args.to) c.unpacked.ensures))

pub returns : goal.returns
returns c = all-entries (λ s. Sets (followed c.args.from c.args.to s)) c.args.slots.now c.loop-slot.slot-index c.args.made.now.items c.loop-slot.made.items
    c.loop-slot-test.false c.loop-slot.invariant
