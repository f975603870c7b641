-- relocate: the change keeps the table sound.
use Rattle.std.proofs.Common.{◌≡◌, ◌∙◌, Option, List, length, ap, subst, arith}
use Rattle.model.specs.Capabilities.Slots.{Slots, relocated}
use Rattle.model.specs.declared.slot_entries.Entry.{Entry}
use Rattle.slots.specs.Table.{IsTable, table_slots}
use Rattle.model.proofs.Derivations.{derivation-relocated}
use Rattle.slots.proofs.Tables.{slots-changed, table-changed}
use Rattle.slots.proofs.plain.PlainSlotsSlotStore.relocate.Goals as goal

pub invariant_of-self : goal.invariant_of-self
invariant_of-self c =
    let base : List (Option Entry) = c.args.self.now.1 in
    let slots : Slots = table_slots base in
    let items : c.self.inside.records.items ≡ base = ap (λ v. v.1) c.self.view_is in
    let lent : c.deref_mut.result.now ≡ base = c.deref_mut.ensures.value ∙ items in
    let table : IsTable c.self.inside.memory base = subst (IsTable c.self.inside.memory) items c.self.invariant in
    let size : length c.move_entry.new.records ≡ c.self.inside.records.len = omega (arith, c.move_entry.auto.records, c.deref_mut.ensures.len) in
    let kept : length c.move_entry.new.records ≡ length base = omega (arith, c.move_entry.auto.records, ap length lent) in
    table-changed c.self.inside.memory _ _ base c.move_entry.new.records (relocated slots c.args.from c.args.to) table kept size
    (λ s. c.move_entry.ensures s ∙ ap (λ r. relocated (table_slots r) c.number.result c.args.to s) lent
    ∙ ap (λ n. relocated slots n c.args.to s) c.number.ensures.value)
    (derivation-relocated slots c.args.from c.args.to table.derivation c.requires.full c.requires.empty)

pub returns-clause-slots : goal.returns-clause-slots
returns-clause-slots c =
    let base : List (Option Entry) = c.args.self.now.1 in
    let slots : Slots = table_slots base in
    let items : c.self.inside.records.items ≡ base = ap (λ v. v.1) c.self.view_is in
    let lent : c.deref_mut.result.now ≡ base = c.deref_mut.ensures.value ∙ items in
    let size : length c.move_entry.new.records ≡ c.self.inside.records.len = omega (arith, c.move_entry.auto.records, c.deref_mut.ensures.len) in
    slots-changed _ _ c.move_entry.new.records (relocated slots c.args.from c.args.to) size
    (λ s. c.move_entry.ensures s ∙ ap (λ r. relocated (table_slots r) c.number.result c.args.to s) lent
    ∙ ap (λ n. relocated slots n c.args.to s) c.number.ensures.value)
