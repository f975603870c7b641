-- One entry more.
use Rattle.std.proofs.Common.{◌∙◌, ◌++◌, ◌∷◌, [], ap}
use Rattle.model.specs.Acceptance.NotedStates.{NotedSlot}
use Rattle.typestate.specs.declared.log_entries.LogEntry.TheVariants.{Sets}
use Rattle.typestate.proofs.Appended.{all-entries, no-entry, one-more-entry}
use Rattle.typestate.proofs.log_entries.note_sets.Goals as goal

pub loop-change-init : goal.loop-change-init
loop-change-init c = c.reserve.ensures.items ∙ no-entry (λ s. Sets s) c.args.changes.now c.args.made.now.items

pub loop-change-preserved : goal.loop-change-preserved
loop-change-preserved c =
    one-more-entry (λ s. Sets s) c.args.changes.now c.loop-change.change-index c.change-item.result c.args.made.now.items c.loop-change.made.items
    c.push.new.self.items c.loop-change-test.true c.change-item.is
    c.loop-change.invariant (c.in_ok-push.ensures.items ∙ ap (λ (s : NotedSlot). c.loop-change.made.items ++ Sets s ∷ []) c.of.ensures)

pub returns : goal.returns
returns c = all-entries (λ s. Sets s) c.args.changes.now c.loop-change.change-index c.args.made.now.items c.loop-change.made.items c.loop-change-test.false
    c.loop-change.invariant
