-- Whether the change leaves a slot, and then by its parent.
use Rattle.std.proofs.Common.{◌∙◌, if◌then◌else◌, Some, None, Option, sym, ap}
use Rattle.model.specs.Acceptance.NotedStates.{SlotKey}
use Rattle.typestate.specs.Families.{has_parent}
use Rattle.typestate.specs.SlotChanges.{is_parent}
use Rattle.typestate.proofs.noted.leaves_child.Goals as goal

pub returns-then-is_empty : goal.returns-then-is_empty
returns-then-is_empty c = ap (λ b. has_parent c.args.key (if b then None else Some c.args.change.now)) (sym c.if-is_empty.true ∙ c.is_empty.ensures)

pub returns-else-is_empty : goal.returns-else-is_empty
returns-else-is_empty c =
    c.is_parent.ensures ∙ ap (λ (p : Option SlotKey). is_parent c.args.key p) c.parent.ensures
    ∙ ap (λ b. has_parent c.args.key (if b then None else Some c.args.change.now)) (sym c.if-is_empty.false ∙ c.is_empty.ensures)
