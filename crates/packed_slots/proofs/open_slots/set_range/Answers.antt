-- One bit more of the range has the value, and in the end all of them.
use Rattle.std.proofs.Common.{◌≡◌, ◌∙◌, ◌-◌, if◌then◌else◌, ap, arith}
use Rattle.model.specs.Capabilities.Slots.{is_within}
use Rattle.packed_slots.specs.Bits.{is_bit}
use Rattle.packed_slots.proofs.BitLists.{one-more}
use Rattle.packed_slots.proofs.open_slots.set_range.Goals as goal

pub range-preserved : goal.range-preserved
range-preserved l =
    one-more l.args.words.now l.range.words l.set_one.new.words l.args.first l.range.place l.args.value (omega (arith, l.range.auto.place))
    l.set_one.ensures.own l.set_one.ensures.others
    l.range.invariant

pub returns : goal.returns
returns c = λ s.
    let all : c.range.place - c.args.first ≡ c.args.count = omega (arith, c.range-test.false, c.range.auto.place-end, c.range.auto.place) in
    c.range.invariant s ∙ ap (λ k. if is_within c.args.first k s then c.args.value else is_bit c.args.words.now s) all
