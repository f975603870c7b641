-- Field by field.
use Rattle.std.proofs.Common.{◌∙◌, ◌^◌, nat_lt, is_some, sym, ap}
use Rattle.model.specs.Acceptance.NotedStates.{NotedSlot}
use Rattle.model.specs.Capabilities.CapabilityFields.{unpacked}
use Rattle.typestate.specs.PackedChanges.{cap_of}
use Rattle.typestate.specs.declared.packed_slot.PackedSlot.TheInside.{Inside}
use Rattle.typestate.proofs.NumberedChanges.{key-back, unpacked-is}
use Rattle.typestate.proofs.PackedWords.{spelled-again}
use Rattle.typestate.proofs.packed_change.PackedChange.of.Goals as goal

pub invariant_of-result : goal.invariant_of-result
invariant_of-result c =
    let slot : Inside = c.change.inside in
    record {
      spelled = ap (λ (s : Inside). is_some (unpacked s.head s.word)) c.change-inside.view_is ∙ spelled-again slot.head slot.word c.change.invariant;
    }

pub returns : goal.returns
returns c =
    let change : NotedSlot = c.args.change in
    let slot : Inside = c.change.inside in
    let raw = c.change-inside.inside in
    let low = ap (λ (s : NotedSlot). nat_lt s.key.index (2 ^ 32)) (sym c.change.view_is)
    ∙ ap (λ (s : Inside). nat_lt s.key.index (2 ^ 32)) (sym c.change-inside.view_is) ∙ c.low.ensures in
    unpacked-is c.args.names.now.slots.entries
    (record {
      head = raw.0.0;
      word = raw.0.1.0;
      parent = c.parent_name.result;
      spelled = ap (λ (s : Inside). is_some (unpacked s.head s.word)) c.change-inside.view_is ∙ spelled-again slot.head slot.word c.change.invariant;
    }) change
    (key-back change.key low)
    (ap (λ (s : Inside). cap_of s.head s.word) c.change-inside.view_is ∙ ap (λ (s : NotedSlot). s.capability) c.change.view_is)
    (c.parent_name.ensures.back c.requires ∙ ap (λ (s : Inside). s.parent) c.change-inside.view_is ∙ ap (λ (s : NotedSlot). s.parent) c.change.view_is)
