-- What is found for one number more.
use Rattle.std.proofs.Common.{ℕ, ◌∙◌, ◌++◌, Option, ap}
use Rattle.std.specs.List.{filter_map}
use Rattle.std.specs.Option.{option_to_list}
use Rattle.model.specs.Acceptance.NotedStates.{NotedSlot}
use Rattle.typestate.specs.Families.{found}
use Rattle.typestate.proofs.Appended.{one-more-found}
use Rattle.typestate.proofs.points.NotedSlots.all_numbered.Goals as goal

pub loop-number-preserved : goal.loop-number-preserved
loop-number-preserved c =
    let changes = c.args.self.now.changes.now in
    one-more-found ℕ (found changes) _ c.loop-number.number-iterator c.next.new.self c.loop-number.all.items c.note_found.new.list.items
    (filter_map (found changes) c.args.numbers.now.keys)
    c.in-Some.ensures.steps c.loop-number.invariant (c.in_ok-note_found.ensures
    ∙ ap (λ (o : Option NotedSlot). c.loop-number.all.items ++ option_to_list o) c.packed_at-change.ensures)
