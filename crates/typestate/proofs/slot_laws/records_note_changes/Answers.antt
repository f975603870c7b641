-- One slot after another.
use Rattle.std.proofs.Common.{◌≡◌, List, [], ◌∷◌, map, refl}
use Rattle.std.specs.Prelude.{fold}
use Rattle.model.specs.declared.entries.SlotEntry.{SlotEntry}
use Rattle.model.specs.Acceptance.NotedStates.{NotedSlot, entry_slot, image_slots, with_noted}
use Rattle.typestate.specs.Differences.{changed}
use Rattle.typestate.proofs.slot_laws.records_note_changes.Goals as goal

one-by-one : (slots : List NotedSlot) (entries : List SlotEntry) →
    fold (λ noted e. with_noted noted (entry_slot e)) slots entries ≡ changed slots (map entry_slot entries)
one-by-one slots [] = refl
one-by-one slots (e ∷ rest) = one-by-one (with_noted slots (entry_slot e)) rest

pub returns : goal.returns
returns c = λ image t r. one-by-one (image_slots image t) r.slots
