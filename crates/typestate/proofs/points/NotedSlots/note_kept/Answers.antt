-- Child by child.
use Rattle.std.proofs.Common.{◌∙◌, ◌++◌, List, map, ap}
use Rattle.model.specs.Acceptance.NotedStates.{NotedSlot}
use Rattle.typestate.specs.Families.{children_of}
use Rattle.typestate.specs.SlotChanges.{followed}
use Rattle.typestate.specs.declared.log_entries.LogEntry.{LogEntry}
use Rattle.typestate.specs.declared.log_entries.LogEntry.TheVariants.{Sets}
use Rattle.typestate.proofs.Appended.{sets-of}
use Rattle.typestate.proofs.points.NotedSlots.note_kept.Goals as goal

pub returns : goal.returns
returns c =
    let before = c.args.made.now.items in
    let follow : NotedSlot → NotedSlot = followed c.args.from c.args.to in
    let all = children_of c.args.self.now.changes.now c.args.to in
    let found = c.deref.ensures.value ∙ c.in_ok-note_children_of.ensures ∙ ap (λ (l : List NotedSlot). l ++ all) c.new-children.ensures.items in
    c.in_ok-note_followed.ensures ∙ ap (λ (l : List NotedSlot). before ++ map (λ s. Sets (follow s)) l) found
    ∙ ap (λ (l : List LogEntry). before ++ l) (sets-of follow all)
