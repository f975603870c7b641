-- The bit of a slot, if there is one.
use Rattle.std.proofs.Common.{◌∙◌, sym, ap, arith}
use Rattle.std.proofs.lemmas.Bool.{le-ltb}
use Rattle.packed_slots.specs.Bits.{is_bit}
use Rattle.packed_slots.specs.Packing.{is_open_in}
use Rattle.packed_slots.proofs.BitLists.{bit-inside, bit-past}
use Rattle.packed_slots.proofs.open_slots.OpenSlots.contains.Goals as goal

pub returns-then-number-self : goal.returns-then-number-self
returns-then-number-self c =
    let words = c.self.inside.words.items in
    c.is_set.ensures ∙ ap (λ l. is_bit l c.number-then-number-self.result) c.deref.ensures.value ∙ ap (is_bit words) c.number-then-number-self.ensures.value
    ∙ sym (bit-inside words c.self.inside.count c.args.slot (omega (arith, c.if-number-self.true, c.number.ensures.value)))
    ∙ ap (λ l. is_open_in l c.args.slot) c.self.view_is

pub returns-else-number-self : goal.returns-else-number-self
returns-else-number-self c =
    let words = c.self.inside.words.items in
    le-ltb c.number.result c.self.inside.count (omega (arith, c.if-number-self.false))
    ∙ sym (bit-past words c.self.inside.count c.args.slot (omega (arith, c.if-number-self.false, c.number.ensures.value)))
    ∙ ap (λ l. is_open_in l c.args.slot) c.self.view_is
