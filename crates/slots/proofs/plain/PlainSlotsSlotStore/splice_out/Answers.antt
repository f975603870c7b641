-- splice out: the change keeps the table sound.
use Rattle.std.proofs.Common.{◌≡◌, ◌∙◌, Option, List, length, sym, ap, subst, arith}
use Rattle.model.specs.Capabilities.Slots.{Slots, spliced}
use Rattle.model.specs.declared.slot_entries.Entry.{Entry}
use Rattle.slots.specs.Table.{IsTable, table_slots}
use Rattle.model.proofs.Derivations.{derivation-spliced}
use Rattle.model.proofs.SlotChanges.{empty-spliced, full-spliced}
use Rattle.slots.proofs.Tables.{order-taken_out, slots-changed, table-changed}
use Rattle.slots.proofs.plain.PlainSlotsSlotStore.splice_out.Goals as goal

pub invariant_of-self : goal.invariant_of-self
invariant_of-self c =
    let base : List (Option Entry) = c.args.self.now.1 in
    let slots : Slots = table_slots base in
    let items : c.self.inside.records.items ≡ base = ap (λ v. v.1) c.self.view_is in
    let lent : c.deref_mut.result.now ≡ base = c.deref_mut.ensures.value ∙ items in
    let table : IsTable c.self.inside.memory base = subst (IsTable c.self.inside.memory) items c.self.invariant in
    let size : length c.splice.new.records ≡ c.self.inside.records.len = omega (arith, c.splice.auto.records, c.deref_mut.ensures.len) in
    let kept : length c.splice.new.records ≡ length base = omega (arith, c.splice.auto.records, ap length lent) in
    table-changed c.self.inside.memory _ _ base c.splice.new.records (spliced slots c.args.slot) table kept size
    (λ s. c.splice.ensures s ∙ ap (λ r. spliced (table_slots r) c.number.result s) lent ∙ ap (λ n. spliced slots n s) c.number.ensures.value)
    (derivation-spliced slots c.args.slot table.derivation c.requires)

pub returns-clause-slots : goal.returns-clause-slots
returns-clause-slots c =
    let base : List (Option Entry) = c.args.self.now.1 in
    let slots : Slots = table_slots base in
    let items : c.self.inside.records.items ≡ base = ap (λ v. v.1) c.self.view_is in
    let lent : c.deref_mut.result.now ≡ base = c.deref_mut.ensures.value ∙ items in
    let size : length c.splice.new.records ≡ c.self.inside.records.len = omega (arith, c.splice.auto.records, c.deref_mut.ensures.len) in
    slots-changed _ _ c.splice.new.records (spliced slots c.args.slot) size
    (λ s. c.splice.ensures s ∙ ap (λ r. spliced (table_slots r) c.number.result s) lent ∙ ap (λ n. spliced slots n s) c.number.ensures.value)

pub returns-clause-order : goal.returns-clause-order
returns-clause-order c =
    let base : List (Option Entry) = c.args.self.now.1 in
    let items : c.self.inside.records.items ≡ base = ap (λ v. v.1) c.self.view_is in
    let lent : c.deref_mut.result.now ≡ base = c.deref_mut.ensures.value ∙ items in
    let size : length c.splice.new.records ≡ length base = omega (arith, c.splice.auto.records, ap length lent) in
    let same : c.self.inside.records.len ≡ length c.splice.new.records = omega (arith, c.splice.auto.records, c.deref_mut.ensures.len) in
    order-taken_out c.self.inside.records.len _ base c.splice.new.records (spliced (table_slots base) c.args.slot) c.args.slot (returns-clause-slots c) size
    (sym same)
    (empty-spliced (table_slots base) c.args.slot) (full-spliced (table_slots base) c.args.slot)
