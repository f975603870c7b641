-- What descends is listed.
use Rattle.std.proofs.Common.{◌∙◌, is_some, List, sym, ap}
use Rattle.model.specs.Acceptance.NotedStates.{NotedSlot, slot_at}
use Rattle.typestate.specs.Differences.{slots_of}
use Rattle.typestate.specs.Levels.{all_below}
use Rattle.typestate.specs.SlotChanges.{is_removed}
use Rattle.typestate.specs.declared.slot_changes.Removed.{Removed}
use Rattle.typestate.proofs.LevelByLevel.{listed-goes}
use Rattle.typestate.proofs.removal.Removal.goes.Goals as goal

pub returns-in-Below : goal.returns-in-Below
returns-in-Below c =
    let n = c.args.self.now.slots in
    let key = c.args.key in
    c.is_below.ensures
    ∙ ap (λ (l : List NotedSlot). is_some (slot_at l key)) (c.args.self.now.listed ∙ ap (all_below n) c.in-Below.is)
    ∙ listed-goes n c.in-Below.field-0 256 key
    ∙ sym (ap (λ (which : Removed). is_removed (slots_of n) which key) c.in-Below.is)
