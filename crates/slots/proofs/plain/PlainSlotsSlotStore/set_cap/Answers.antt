-- set cap: the change keeps the table sound.
use Rattle.std.proofs.Common.{◌≡◌, ◌∙◌, Option, List, length, sym, ap, subst, arith}
use Rattle.model.specs.Capabilities.Slots.{Slots, recapped}
use Rattle.model.specs.declared.slot_entries.Entry.{Entry}
use Rattle.slots.specs.Table.{IsTable, table_slots}
use Rattle.model.proofs.Derivations.{derivation-recapped}
use Rattle.model.proofs.SlotChanges.{full-recapped}
use Rattle.slots.proofs.Tables.{order-changed, slots-changed, table-changed}
use Rattle.slots.proofs.plain.PlainSlotsSlotStore.set_cap.Goals as goal

pub invariant_of-self : goal.invariant_of-self
invariant_of-self c =
    let base : List (Option Entry) = c.args.self.now.1 in
    let slots : Slots = table_slots base in
    let items : c.self.inside.records.items ≡ base = ap (λ v. v.1) c.self.view_is in
    let lent : c.deref_mut.result.now ≡ base = c.deref_mut.ensures.value ∙ items in
    let table : IsTable c.self.inside.memory base = subst (IsTable c.self.inside.memory) items c.self.invariant in
    let size : length c.recap.new.records ≡ c.self.inside.records.len = omega (arith, c.recap.auto.records, c.deref_mut.ensures.len) in
    let kept : length c.recap.new.records ≡ length base = omega (arith, c.recap.auto.records, ap length lent) in
    table-changed c.self.inside.memory _ _ base c.recap.new.records (recapped slots c.args.slot c.args.capability) table kept size
    (λ s. c.recap.ensures s ∙ ap (λ r. recapped (table_slots r) c.number.result c.args.capability s) lent
    ∙ ap (λ n. recapped slots n c.args.capability s) c.number.ensures.value)
    (derivation-recapped slots c.args.slot c.args.capability table.derivation c.requires.valid c.requires.some)

pub returns-clause-slots : goal.returns-clause-slots
returns-clause-slots c =
    let base : List (Option Entry) = c.args.self.now.1 in
    let slots : Slots = table_slots base in
    let items : c.self.inside.records.items ≡ base = ap (λ v. v.1) c.self.view_is in
    let lent : c.deref_mut.result.now ≡ base = c.deref_mut.ensures.value ∙ items in
    let size : length c.recap.new.records ≡ c.self.inside.records.len = omega (arith, c.recap.auto.records, c.deref_mut.ensures.len) in
    slots-changed _ _ c.recap.new.records (recapped slots c.args.slot c.args.capability) size
    (λ s. c.recap.ensures s ∙ ap (λ r. recapped (table_slots r) c.number.result c.args.capability s) lent
    ∙ ap (λ n. recapped slots n c.args.capability s) c.number.ensures.value)

pub returns-clause-order : goal.returns-clause-order
returns-clause-order c =
    let base : List (Option Entry) = c.args.self.now.1 in
    let items : c.self.inside.records.items ≡ base = ap (λ v. v.1) c.self.view_is in
    let lent : c.deref_mut.result.now ≡ base = c.deref_mut.ensures.value ∙ items in
    let size : length c.recap.new.records ≡ length base = omega (arith, c.recap.auto.records, ap length lent) in
    let same : c.self.inside.records.len ≡ length c.recap.new.records = omega (arith, c.recap.auto.records, c.deref_mut.ensures.len) in
    order-changed c.self.inside.records.len _ base c.recap.new.records (recapped (table_slots base) c.args.slot c.args.capability) (returns-clause-slots c) size
    (sym same)
    (full-recapped (table_slots base) c.args.slot c.args.capability c.requires.full c.requires.some)
