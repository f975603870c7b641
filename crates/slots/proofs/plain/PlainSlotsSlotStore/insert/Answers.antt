-- insert: the change keeps the table sound.
use Rattle.std.proofs.Common.{◌≡◌, ◌∙◌, Option, List, length, ap, subst, arith}
use Rattle.model.specs.Capabilities.Slots.{Slots, inserted}
use Rattle.model.specs.declared.slot_entries.Entry.{Entry}
use Rattle.slots.specs.Table.{IsTable, table_slots}
use Rattle.model.proofs.Derivations.{derivation-inserted}
use Rattle.slots.proofs.Tables.{slots-changed, table-changed}
use Rattle.slots.proofs.plain.PlainSlotsSlotStore.insert.Goals as goal

pub invariant_of-self : goal.invariant_of-self
invariant_of-self c =
    let base : List (Option Entry) = c.args.self.now.1 in
    let slots : Slots = table_slots base in
    let items : c.self.inside.records.items ≡ base = ap (λ v. v.1) c.self.view_is in
    let lent : c.deref_mut.result.now ≡ base = c.deref_mut.ensures.value ∙ items in
    let table : IsTable c.self.inside.memory base = subst (IsTable c.self.inside.memory) items c.self.invariant in
    let size : length c.put.new.records ≡ c.self.inside.records.len = omega (arith, c.put.auto.records, c.deref_mut.ensures.len) in
    let kept : length c.put.new.records ≡ length base = omega (arith, c.put.auto.records, ap length lent) in
    table-changed c.self.inside.memory _ _ base c.put.new.records (inserted slots c.args.slot c.args.capability c.args.parent) table kept size
    (λ s. c.put.ensures s ∙ ap (λ r. inserted (table_slots r) c.number.result c.args.capability c.args.parent s) lent
    ∙ ap (λ n. inserted slots n c.args.capability c.args.parent s) c.number.ensures.value)
    (derivation-inserted slots c.args.slot c.args.capability c.args.parent table.derivation c.requires.empty c.requires.valid c.requires.some c.requires.full
    c.requires.room)

pub returns-clause-slots : goal.returns-clause-slots
returns-clause-slots c =
    let base : List (Option Entry) = c.args.self.now.1 in
    let slots : Slots = table_slots base in
    let items : c.self.inside.records.items ≡ base = ap (λ v. v.1) c.self.view_is in
    let lent : c.deref_mut.result.now ≡ base = c.deref_mut.ensures.value ∙ items in
    let size : length c.put.new.records ≡ c.self.inside.records.len = omega (arith, c.put.auto.records, c.deref_mut.ensures.len) in
    slots-changed _ _ c.put.new.records (inserted slots c.args.slot c.args.capability c.args.parent) size
    (λ s. c.put.ensures s ∙ ap (λ r. inserted (table_slots r) c.number.result c.args.capability c.args.parent s) lent
    ∙ ap (λ n. inserted slots n c.args.capability c.args.parent s) c.number.ensures.value)
