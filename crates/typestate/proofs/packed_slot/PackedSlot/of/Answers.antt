-- The words of a capability stand for it.
use Rattle.std.proofs.Common.{ℕ, ◌≡◌, ◌∙◌, List, slice_index_or, ap}
use Rattle.std.specs.Option.{option_map_or}
use Rattle.image_reading.proofs.Laws.{words-back}
use Rattle.model.specs.Acceptance.NotedStates.{NotedSlot}
use Rattle.model.specs.declared.capabilities.Cap.{Cap}
use Rattle.model.specs.declared.capabilities.Cap.TheVariants.{Empty}
use Rattle.typestate.specs.PackedChanges.{cap_of}
use Rattle.typestate.proofs.PackedWords.{words-again}
use Rattle.typestate.proofs.packed_slot.PackedSlot.of.Goals as goal

pub invariant_of-result : goal.invariant_of-result
invariant_of-result c = words-again c.slot.inside.capability c.pack.result c.pack.ensures c.slot.invariant

pub returns : goal.returns
returns c =
    let inside = c.slot.inside in
    let same : cap_of (slice_index_or c.pack.result 0 0) (slice_index_or c.pack.result 1 0) ≡ inside.capability =
    ap (λ (l : List ℕ). cap_of (slice_index_or l 0 0) (slice_index_or l 1 0)) c.pack.ensures
    ∙ ap (λ o. option_map_or (λ (k : Cap). k) o Empty) (words-back inside.capability c.slot.invariant) in
    ap (λ (k : Cap). let s : NotedSlot = record { key = inside.key; capability = k; parent = inside.parent } in s) same ∙ c.slot.view_is
