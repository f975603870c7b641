-- There and back.
use Rattle.std.proofs.Common.{◌∙◌, ◌^◌, nat_lt, Some, sym, ap}
use Rattle.model.specs.Acceptance.NotedStates.{SlotKey, number_of}
use Rattle.typestate.specs.Names.{renamed}
use Rattle.typestate.specs.PackedChanges.{numbered_key}
use Rattle.typestate.proofs.NumberedChanges.{key-back}
use Rattle.typestate.proofs.names.Names.parent_name.Goals as goal

pub returns-in-Some-clause-back : goal.returns-in-Some-clause-back
returns-in-Some-clause-back c = λ inverse.
    let names = c.args.self.now in
    let key : SlotKey = c.in-Some.key in
    let there = ap (renamed names.slots.entries) (c.of.ensures ∙ c.name.ensures ∙ ap (renamed names.names.entries) c.number.ensures)
    ∙ (inverse (number_of key)).0 in
    ap (λ (k : SlotKey). Some k) (ap numbered_key there ∙ key-back key (ap (λ (k : SlotKey). nat_lt k.index (2 ^ 32)) (sym c.key.view_is) ∙ c.low.ensures))
    ∙ sym c.in-Some.is
