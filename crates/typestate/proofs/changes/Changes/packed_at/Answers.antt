-- By the numbers of the changes.
use Rattle.std.proofs.Common.{◌∙◌, Bor, Option, Some, List, option_map, sym, ap}
use Rattle.std.specs.Option.{option_copied}
use Rattle.model.specs.Acceptance.NotedStates.{NotedSlot}
use Rattle.typestate.specs.Families.{found}
use Rattle.typestate.specs.PackedChanges.{unpacked_change}
use Rattle.typestate.specs.declared.packed_change.PackedChange.{PackedChange}
use Rattle.typestate.proofs.NumberedChanges.{unpacked-found}
use Rattle.typestate.proofs.changes.Changes.packed_at.Goals as goal

pub returns-in-Some : goal.returns-in-Some
returns-in-Some c =
    let slots = c.self.inside.names.slots.entries in
    let es = c.self.inside.packed.entries in
    let n = c.args.number in
    let of : PackedChange → NotedSlot = unpacked_change slots n in
    ap (λ (s : NotedSlot). Some s) c.packed_at.ensures
    ∙ ap (λ (o : Option (Bor PackedChange)). option_map of (option_copied o)) (sym c.in-Some.is)
    ∙ ap (option_map of) c.get.ensures.value ∙ sym (unpacked-found slots es n) ∙ ap (λ (l : List NotedSlot). found l n) c.self.view_is

pub returns-in-None : goal.returns-in-None
returns-in-None c =
    let slots = c.self.inside.names.slots.entries in
    let es = c.self.inside.packed.entries in
    let n = c.args.number in
    let of : PackedChange → NotedSlot = unpacked_change slots n in
    ap (λ (o : Option (Bor PackedChange)). option_map of (option_copied o)) (sym c.in-None.is)
    ∙ ap (option_map of) c.get.ensures.value ∙ sym (unpacked-found slots es n) ∙ ap (λ (l : List NotedSlot). found l n) c.self.view_is
