-- open range: the change keeps the table sound.
use Rattle.std.proofs.Common.{◌≡◌, ◌∙◌, Option, Some, List, length, if◌then◌else◌, ap, subst, arith}
use Rattle.model.specs.Capabilities.Slots.{Slots, opened, is_within}
use Rattle.model.specs.declared.slot_entries.Entry.{Entry}
use Rattle.slots.specs.Table.{IsTable, table_slots}
use Rattle.model.proofs.Derivations.{derivation-opened}
use Rattle.model.proofs.SlotChanges.{within-bounds}
use Rattle.slots.proofs.Tables.{table-changed}
use Rattle.slots.proofs.plain.PlainSlotsSlotStore.open_range.Goals as goal

pub invariant_of-self : goal.invariant_of-self
invariant_of-self c =
    let base : List (Option Entry) = c.args.self.now.1 in
    let slots : Slots = table_slots base in
    let items : c.self.inside.records.items ≡ base = ap (λ v. v.1) c.self.view_is in
    let lent : c.deref_mut.result.now ≡ base = c.deref_mut.ensures.value ∙ items in
    let table : IsTable c.self.inside.memory base = subst (IsTable c.self.inside.memory) items c.self.invariant in
    let size : length c.put_range.new.records ≡ c.self.inside.records.len = omega (arith, c.put_range.auto.records, c.deref_mut.ensures.len) in
    let kept : length c.put_range.new.records ≡ length base = omega (arith, c.put_range.auto.records, ap length lent) in
    table-changed c.self.inside.memory _ _ base c.put_range.new.records (opened slots c.args.first c.args.count) table kept size
    (λ s. c.put_range.ensures s ∙ ap (λ held. if is_within c.number.result c.args.count s then Some held else table_slots c.deref_mut.result.now s)
    c.nothing.ensures ∙ ap (λ r. opened (table_slots r) c.number.result c.args.count s) lent
    ∙ ap (λ n. opened slots n c.args.count s) c.number.ensures.value)
    (derivation-opened slots c.args.first c.args.count table.derivation
    (λ t inside. let bounds = within-bounds c.args.first c.args.count t inside in c.requires.closed t bounds.0 bounds.1))
