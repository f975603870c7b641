-- By whether the change leaves a slot.
use Rattle.std.proofs.Common.{◌∙◌, ◌++◌, if◌then◌else◌, Some, None, [], ◌∷◌, append-nil, sym, ap}
use Rattle.std.specs.Option.{option_map_or}
use Rattle.model.specs.Acceptance.NotedStates.{NotedSlot}
use Rattle.typestate.specs.SlotChanges.{emptied}
use Rattle.typestate.proofs.stays.note_gone.Goals as goal

pub returns-then-is_empty : goal.returns-then-is_empty
returns-then-is_empty c =
    sym (append-nil c.args.made.now.items)
    ∙ ap (λ b. c.args.made.now.items ++ option_map_or (λ (s : NotedSlot). emptied s.key ∷ []) (if b then None else Some c.args.change.now) [])
    (sym c.if-is_empty.true ∙ c.is_empty.ensures)

pub returns : goal.returns
returns c =
    c.in_ok-push.ensures.items
    ∙ ap (λ (s : NotedSlot). c.args.made.now.items ++ s ∷ []) (c.of.ensures ∙ c.emptied.ensures ∙ ap emptied c.key.ensures)
    ∙ ap (λ b. c.args.made.now.items ++ option_map_or (λ (s : NotedSlot). emptied s.key ∷ []) (if b then None else Some c.args.change.now) [])
    (sym c.if-is_empty.false ∙ c.is_empty.ensures)
