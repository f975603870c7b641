-- The bits of the range have the value, and the others what they had.
use Rattle.std.proofs.Common.{◌∙◌, if◌then◌else◌, length, sym, ap, arith}
use Rattle.std.proofs.lemmas.List.{with_items_is}
use Rattle.model.specs.Capabilities.Slots.{is_within}
use Rattle.packed_slots.specs.Bits.{bits_of, is_bit}
use Rattle.packed_slots.specs.Packing.{is_open_in}
use Rattle.packed_slots.proofs.BitLists.{bits-set, length-bits}
use Rattle.packed_slots.proofs.open_slots.OpenSlots.set.Goals as goal

pub set_range-requires-clause-within : goal.set_range-requires-clause-within
set_range-requires-clause-within c =
    let size = sym (length-bits c.self.inside.words.items c.self.inside.count) ∙ ap length c.self.view_is in
    omega (arith, c.number.ensures.value, c.requires, size, c.self.invariant.held, ap length c.deref_mut.ensures.value)

pub set_range-requires-clause-few : goal.set_range-requires-clause-few
set_range-requires-clause-few c =
    let size = sym (length-bits c.self.inside.words.items c.self.inside.count) ∙ ap length c.self.view_is in
    omega (arith, c.number.ensures.value, c.requires, size, c.self.invariant.most)

pub returns-clause-each : goal.returns-clause-each
returns-clause-each c =
    let words = c.self.inside.words.items in
    let n = c.self.inside.count in
    let size = sym (length-bits words n) ∙ ap length c.self.view_is in
    let back = with_items_is c.self.inside.words c.set_range.new.words (omega (arith, c.set_range.auto.words, c.deref_mut.ensures.len)) in
    λ s.
    ap (λ l. is_open_in (bits_of l n) s) back
    ∙ bits-set words c.set_range.new.words n c.args.first c.args.count c.args.value (omega (arith, c.requires, size))
    (λ i.
    c.set_range.ensures i ∙ ap (λ l. if is_within c.number.result c.args.count i then c.args.value else is_bit l i) c.deref_mut.ensures.value
    ∙ ap (λ f. if is_within f c.args.count i then c.args.value else is_bit words i) c.number.ensures.value) s
    ∙ ap (λ l. if is_within c.args.first c.args.count s then c.args.value else is_open_in l s) c.self.view_is

pub returns-clause-size : goal.returns-clause-size
returns-clause-size c =
    let n = c.self.inside.count in
    length-bits _ n ∙ sym (length-bits c.self.inside.words.items n) ∙ ap length c.self.view_is
