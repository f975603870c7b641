-- The run is lowered, and the slot taken out.
use Rattle.std.proofs.Common.{◌∙◌, length, sym, ap, subst}
use Rattle.model.specs.Capabilities.Slots.{IsDerivation, IsFull, SameOutside, spliced}
use Rattle.model.specs.Shared.Lists.{without}
use Rattle.packed_slots.specs.Packing.{IsChanged, Packed, packed_order, packed_slots, packing}
use Rattle.packed_slots.specs.Words.{lowered_memory, words_in}
use Rattle.packed_slots.proofs.Changing.{full-open, inside-as, lowered-near, spliced-is, spliced_order, spliced_out}
use Rattle.packed_slots.proofs.store.PackedSlotsSlotStore.splice_out.Goals as goal

pub take_out-self-inside-requires-clause-inside : goal.take_out-self-inside-requires-clause-inside
take_out-self-inside-requires-clause-inside c =
    let p : Packed = packing c.self.inside.memory c.self.inside.open_slots c.self.inside.first in
    let full = subst (λ (q : Packed). IsFull (packed_slots q) c.args.slot) (sym c.self.view_is) c.requires in
    inside-as p c.args.slot c.lower.new.memory c.self.invariant (full-open p c.args.slot full) c.lower.ensures.size

pub take_out-self-inside-requires-clause-behind : goal.take_out-self-inside-requires-clause-behind
take_out-self-inside-requires-clause-behind c =
    let p : Packed = packing c.self.inside.memory c.self.inside.open_slots c.self.inside.first in
    let full = subst (λ (q : Packed). IsFull (packed_slots q) c.args.slot) (sym c.self.view_is) c.requires in
    let lowered = c.lower.ensures.bytes
    ∙ ap (λ d. lowered_memory d c.len.result c.next-after.result p.memory) c.depth-own_depth.ensures.value
    ∙ ap (λ n. lowered_memory ((words_in p.memory).depth c.args.slot) n c.next-after.result p.memory) c.len.ensures.value
    ∙ ap (λ o. lowered_memory ((words_in p.memory).depth c.args.slot) (length p.open_slots) o p.memory) c.next-after.ensures in
    λ s. (lowered-near p c.args.slot s c.lower.new.memory c.self.invariant full lowered).0

pub take_out-self-inside-requires-clause-before : goal.take_out-self-inside-requires-clause-before
take_out-self-inside-requires-clause-before c =
    let p : Packed = packing c.self.inside.memory c.self.inside.open_slots c.self.inside.first in
    let full = subst (λ (q : Packed). IsFull (packed_slots q) c.args.slot) (sym c.self.view_is) c.requires in
    let lowered = c.lower.ensures.bytes
    ∙ ap (λ d. lowered_memory d c.len.result c.next-after.result p.memory) c.depth-own_depth.ensures.value
    ∙ ap (λ n. lowered_memory ((words_in p.memory).depth c.args.slot) n c.next-after.result p.memory) c.len.ensures.value
    ∙ ap (λ o. lowered_memory ((words_in p.memory).depth c.args.slot) (length p.open_slots) o p.memory) c.next-after.ensures in
    λ s. (lowered-near p c.args.slot s c.lower.new.memory c.self.invariant full lowered).1

pub invariant_of-self : goal.invariant_of-self
invariant_of-self c =
    let p : Packed = packing c.self.inside.memory c.self.inside.open_slots c.self.inside.first in
    let full = subst (λ (q : Packed). IsFull (packed_slots q) c.args.slot) (sym c.self.view_is) c.requires in
    let lowered = c.lower.ensures.bytes
    ∙ ap (λ d. lowered_memory d c.len.result c.next-after.result p.memory) c.depth-own_depth.ensures.value
    ∙ ap (λ n. lowered_memory ((words_in p.memory).depth c.args.slot) n c.next-after.result p.memory) c.len.ensures.value
    ∙ ap (λ o. lowered_memory ((words_in p.memory).depth c.args.slot) (length p.open_slots) o p.memory) c.next-after.ensures in
    let is = spliced-is p c.args.slot c.lower.new.memory c.take_out-self-inside.new.memory c.take_out-self-inside.result c.self.invariant lowered
    c.take_out-self-inside.ensures.bytes
    c.take_out-self-inside.ensures.first in
    let changed = subst (λ (q : Packed). IsChanged p q (spliced (packed_slots p) c.args.slot)) (sym is) (spliced_out p c.args.slot c.self.invariant full) in
    changed.packed

pub returns-clause-derivation : goal.returns-clause-derivation
returns-clause-derivation c = subst (λ (q : Packed). IsDerivation (packed_slots q)) c.self.view_is c.self.invariant.packed.derivation

pub returns-clause-slots : goal.returns-clause-slots
returns-clause-slots c =
    let p : Packed = packing c.self.inside.memory c.self.inside.open_slots c.self.inside.first in
    let full = subst (λ (q : Packed). IsFull (packed_slots q) c.args.slot) (sym c.self.view_is) c.requires in
    let lowered = c.lower.ensures.bytes
    ∙ ap (λ d. lowered_memory d c.len.result c.next-after.result p.memory) c.depth-own_depth.ensures.value
    ∙ ap (λ n. lowered_memory ((words_in p.memory).depth c.args.slot) n c.next-after.result p.memory) c.len.ensures.value
    ∙ ap (λ o. lowered_memory ((words_in p.memory).depth c.args.slot) (length p.open_slots) o p.memory) c.next-after.ensures in
    let is = spliced-is p c.args.slot c.lower.new.memory c.take_out-self-inside.new.memory c.take_out-self-inside.result c.self.invariant lowered
    c.take_out-self-inside.ensures.bytes
    c.take_out-self-inside.ensures.first in
    let changed = subst (λ (q : Packed). IsChanged p q (spliced (packed_slots p) c.args.slot)) (sym is) (spliced_out p c.args.slot c.self.invariant full) in
    changed.holds ∙ ap (λ (q : Packed). spliced (packed_slots q) c.args.slot) c.self.view_is

pub returns-clause-bytes : goal.returns-clause-bytes
returns-clause-bytes c =
    let p : Packed = packing c.self.inside.memory c.self.inside.open_slots c.self.inside.first in
    let full = subst (λ (q : Packed). IsFull (packed_slots q) c.args.slot) (sym c.self.view_is) c.requires in
    let lowered = c.lower.ensures.bytes
    ∙ ap (λ d. lowered_memory d c.len.result c.next-after.result p.memory) c.depth-own_depth.ensures.value
    ∙ ap (λ n. lowered_memory ((words_in p.memory).depth c.args.slot) n c.next-after.result p.memory) c.len.ensures.value
    ∙ ap (λ o. lowered_memory ((words_in p.memory).depth c.args.slot) (length p.open_slots) o p.memory) c.next-after.ensures in
    let is = spliced-is p c.args.slot c.lower.new.memory c.take_out-self-inside.new.memory c.take_out-self-inside.result c.self.invariant lowered
    c.take_out-self-inside.ensures.bytes
    c.take_out-self-inside.ensures.first in
    let changed = subst (λ (q : Packed). IsChanged p q (spliced (packed_slots p) c.args.slot)) (sym is) (spliced_out p c.args.slot c.self.invariant full) in
    subst (λ (q : Packed). SameOutside (packed_slots q) q.memory c.take_out-self-inside.new.memory) c.self.view_is changed.bytes

pub returns-clause-order : goal.returns-clause-order
returns-clause-order c =
    let p : Packed = packing c.self.inside.memory c.self.inside.open_slots c.self.inside.first in
    let full = subst (λ (q : Packed). IsFull (packed_slots q) c.args.slot) (sym c.self.view_is) c.requires in
    let lowered = c.lower.ensures.bytes
    ∙ ap (λ d. lowered_memory d c.len.result c.next-after.result p.memory) c.depth-own_depth.ensures.value
    ∙ ap (λ n. lowered_memory ((words_in p.memory).depth c.args.slot) n c.next-after.result p.memory) c.len.ensures.value
    ∙ ap (λ o. lowered_memory ((words_in p.memory).depth c.args.slot) (length p.open_slots) o p.memory) c.next-after.ensures in
    let is = spliced-is p c.args.slot c.lower.new.memory c.take_out-self-inside.new.memory c.take_out-self-inside.result c.self.invariant lowered
    c.take_out-self-inside.ensures.bytes
    c.take_out-self-inside.ensures.first in
    let changed = subst (λ (q : Packed). IsChanged p q (spliced (packed_slots p) c.args.slot)) (sym is) (spliced_out p c.args.slot c.self.invariant full) in
    ap packed_order is ∙ spliced_order p c.args.slot c.self.invariant full ∙ ap (λ (q : Packed). without c.args.slot (packed_order q)) c.self.view_is
