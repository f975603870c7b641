-- The new slot is linked after the old one, which is taken out.
use Rattle.std.proofs.Common.{◌≡◌, ◌∙◌, Some, sym, ap, subst}
use Rattle.model.specs.Capabilities.Slots.{IsDerivation, IsFull, SameOutside, empty_entry, relocated}
use Rattle.packed_slots.specs.Packing.{IsChanged, Packed, packed_rows, packed_slots, packing}
use Rattle.packed_slots.specs.Words.{linked_behind, with_cap, words_in}
use Rattle.packed_slots.proofs.Changing.{behind-near, capped-near, empty-open, full-open, inside, inside-as, moved, moved-is}
use Rattle.packed_slots.proofs.PackedFacts.{open-from}
use Rattle.packed_slots.proofs.store.PackedSlotsSlotStore.relocate.Goals as goal

pub copy_capability-requires : goal.copy_capability-requires
copy_capability-requires c =
    let p : Packed = packing c.self.inside.memory c.self.inside.open_slots c.self.inside.first in
    let full = subst (λ (q : Packed). IsFull (packed_slots q) c.args.from) (sym c.self.view_is) c.requires.full in
    let empty = subst (λ (q : Packed). packed_slots q c.args.to ≡ Some empty_entry) (sym c.self.view_is) c.requires.empty in
    inside p c.args.to c.self.invariant (empty-open p c.args.to empty)

pub link_behind-requires-clause-inside : goal.link_behind-requires-clause-inside
link_behind-requires-clause-inside c =
    let p : Packed = packing c.self.inside.memory c.self.inside.open_slots c.self.inside.first in
    let full = subst (λ (q : Packed). IsFull (packed_slots q) c.args.from) (sym c.self.view_is) c.requires.full in
    let empty = subst (λ (q : Packed). packed_slots q c.args.to ≡ Some empty_entry) (sym c.self.view_is) c.requires.empty in
    inside-as p c.args.to c.copy_capability.new.memory c.self.invariant (empty-open p c.args.to empty) c.copy_capability.ensures.size

pub link_behind-requires-clause-beside : goal.link_behind-requires-clause-beside
link_behind-requires-clause-beside c =
    let p : Packed = packing c.self.inside.memory c.self.inside.open_slots c.self.inside.first in
    let full = subst (λ (q : Packed). IsFull (packed_slots q) c.args.from) (sym c.self.view_is) c.requires.full in
    let empty = subst (λ (q : Packed). packed_slots q c.args.to ≡ Some empty_entry) (sym c.self.view_is) c.requires.empty in
    inside-as p c.args.from c.copy_capability.new.memory c.self.invariant (full-open p c.args.from full) c.copy_capability.ensures.size

pub link_behind-requires-clause-small : goal.link_behind-requires-clause-small
link_behind-requires-clause-small c = c.depth-own_depth.ensures.small

pub link_behind-requires-clause-behind : goal.link_behind-requires-clause-behind
link_behind-requires-clause-behind c =
    let p : Packed = packing c.self.inside.memory c.self.inside.open_slots c.self.inside.first in
    let full = subst (λ (q : Packed). IsFull (packed_slots q) c.args.from) (sym c.self.view_is) c.requires.full in
    let empty = subst (λ (q : Packed). packed_slots q c.args.to ≡ Some empty_entry) (sym c.self.view_is) c.requires.empty in
    let w = words_in p.memory in
    capped-near p c.args.to c.args.from (w.head c.args.from) (w.tail c.args.from) c.copy_capability.new.memory c.self.invariant
    (open-from w p.open_slots (packed_rows p) c.args.to empty_entry empty)
    c.copy_capability.ensures.head c.copy_capability.ensures.tail full c.copy_capability.ensures.bytes

pub take_out-self-inside-requires-clause-inside : goal.take_out-self-inside-requires-clause-inside
take_out-self-inside-requires-clause-inside c =
    let p : Packed = packing c.self.inside.memory c.self.inside.open_slots c.self.inside.first in
    let full = subst (λ (q : Packed). IsFull (packed_slots q) c.args.from) (sym c.self.view_is) c.requires.full in
    let empty = subst (λ (q : Packed). packed_slots q c.args.to ≡ Some empty_entry) (sym c.self.view_is) c.requires.empty in
    inside-as p c.args.from c.link_behind.new.memory c.self.invariant (full-open p c.args.from full)
    (c.link_behind.ensures.size ∙ c.copy_capability.ensures.size)

pub take_out-self-inside-requires-clause-behind : goal.take_out-self-inside-requires-clause-behind
take_out-self-inside-requires-clause-behind c =
    let p : Packed = packing c.self.inside.memory c.self.inside.open_slots c.self.inside.first in
    let full = subst (λ (q : Packed). IsFull (packed_slots q) c.args.from) (sym c.self.view_is) c.requires.full in
    let empty = subst (λ (q : Packed). packed_slots q c.args.to ≡ Some empty_entry) (sym c.self.view_is) c.requires.empty in
    let behind = c.link_behind.ensures.bytes
    ∙ ap (λ m. linked_behind m c.args.from c.args.to c.depth-own_depth.result) c.copy_capability.ensures.bytes
    ∙ ap (λ d. linked_behind (with_cap p.memory c.args.to ((words_in p.memory).head c.args.from) ((words_in p.memory).tail c.args.from)) c.args.from c.args.to
    d) c.depth-own_depth.ensures.value in
    λ s. (behind-near p c.args.from c.args.to s c.link_behind.new.memory c.self.invariant full empty
    c.copy_capability.ensures.head c.copy_capability.ensures.tail behind).0

pub take_out-self-inside-requires-clause-before : goal.take_out-self-inside-requires-clause-before
take_out-self-inside-requires-clause-before c =
    let p : Packed = packing c.self.inside.memory c.self.inside.open_slots c.self.inside.first in
    let full = subst (λ (q : Packed). IsFull (packed_slots q) c.args.from) (sym c.self.view_is) c.requires.full in
    let empty = subst (λ (q : Packed). packed_slots q c.args.to ≡ Some empty_entry) (sym c.self.view_is) c.requires.empty in
    let behind = c.link_behind.ensures.bytes
    ∙ ap (λ m. linked_behind m c.args.from c.args.to c.depth-own_depth.result) c.copy_capability.ensures.bytes
    ∙ ap (λ d. linked_behind (with_cap p.memory c.args.to ((words_in p.memory).head c.args.from) ((words_in p.memory).tail c.args.from)) c.args.from c.args.to
    d) c.depth-own_depth.ensures.value in
    λ s. (behind-near p c.args.from c.args.to s c.link_behind.new.memory c.self.invariant full empty
    c.copy_capability.ensures.head c.copy_capability.ensures.tail behind).1

pub invariant_of-self : goal.invariant_of-self
invariant_of-self c =
    let p : Packed = packing c.self.inside.memory c.self.inside.open_slots c.self.inside.first in
    let full = subst (λ (q : Packed). IsFull (packed_slots q) c.args.from) (sym c.self.view_is) c.requires.full in
    let empty = subst (λ (q : Packed). packed_slots q c.args.to ≡ Some empty_entry) (sym c.self.view_is) c.requires.empty in
    let behind = c.link_behind.ensures.bytes
    ∙ ap (λ m. linked_behind m c.args.from c.args.to c.depth-own_depth.result) c.copy_capability.ensures.bytes
    ∙ ap (λ d. linked_behind (with_cap p.memory c.args.to ((words_in p.memory).head c.args.from) ((words_in p.memory).tail c.args.from)) c.args.from c.args.to
    d) c.depth-own_depth.ensures.value in
    let is = moved-is p c.args.from c.args.to c.link_behind.new.memory c.take_out-self-inside.new.memory c.take_out-self-inside.result behind
    c.take_out-self-inside.ensures.bytes
    c.take_out-self-inside.ensures.first in
    let changed = subst (λ (q : Packed). IsChanged p q (relocated (packed_slots p) c.args.from c.args.to)) (sym is)
    (moved p c.args.from c.args.to c.self.invariant full empty c.copy_capability.ensures.head c.copy_capability.ensures.tail) in
    changed.packed

pub returns-clause-derivation : goal.returns-clause-derivation
returns-clause-derivation c = subst (λ (q : Packed). IsDerivation (packed_slots q)) c.self.view_is c.self.invariant.packed.derivation

pub returns-clause-slots : goal.returns-clause-slots
returns-clause-slots c =
    let p : Packed = packing c.self.inside.memory c.self.inside.open_slots c.self.inside.first in
    let full = subst (λ (q : Packed). IsFull (packed_slots q) c.args.from) (sym c.self.view_is) c.requires.full in
    let empty = subst (λ (q : Packed). packed_slots q c.args.to ≡ Some empty_entry) (sym c.self.view_is) c.requires.empty in
    let behind = c.link_behind.ensures.bytes
    ∙ ap (λ m. linked_behind m c.args.from c.args.to c.depth-own_depth.result) c.copy_capability.ensures.bytes
    ∙ ap (λ d. linked_behind (with_cap p.memory c.args.to ((words_in p.memory).head c.args.from) ((words_in p.memory).tail c.args.from)) c.args.from c.args.to
    d) c.depth-own_depth.ensures.value in
    let is = moved-is p c.args.from c.args.to c.link_behind.new.memory c.take_out-self-inside.new.memory c.take_out-self-inside.result behind
    c.take_out-self-inside.ensures.bytes
    c.take_out-self-inside.ensures.first in
    let changed = subst (λ (q : Packed). IsChanged p q (relocated (packed_slots p) c.args.from c.args.to)) (sym is)
    (moved p c.args.from c.args.to c.self.invariant full empty c.copy_capability.ensures.head c.copy_capability.ensures.tail) in
    changed.holds ∙ ap (λ (q : Packed). relocated (packed_slots q) c.args.from c.args.to) c.self.view_is

pub returns-clause-bytes : goal.returns-clause-bytes
returns-clause-bytes c =
    let p : Packed = packing c.self.inside.memory c.self.inside.open_slots c.self.inside.first in
    let full = subst (λ (q : Packed). IsFull (packed_slots q) c.args.from) (sym c.self.view_is) c.requires.full in
    let empty = subst (λ (q : Packed). packed_slots q c.args.to ≡ Some empty_entry) (sym c.self.view_is) c.requires.empty in
    let behind = c.link_behind.ensures.bytes
    ∙ ap (λ m. linked_behind m c.args.from c.args.to c.depth-own_depth.result) c.copy_capability.ensures.bytes
    ∙ ap (λ d. linked_behind (with_cap p.memory c.args.to ((words_in p.memory).head c.args.from) ((words_in p.memory).tail c.args.from)) c.args.from c.args.to
    d) c.depth-own_depth.ensures.value in
    let is = moved-is p c.args.from c.args.to c.link_behind.new.memory c.take_out-self-inside.new.memory c.take_out-self-inside.result behind
    c.take_out-self-inside.ensures.bytes
    c.take_out-self-inside.ensures.first in
    let changed = subst (λ (q : Packed). IsChanged p q (relocated (packed_slots p) c.args.from c.args.to)) (sym is)
    (moved p c.args.from c.args.to c.self.invariant full empty c.copy_capability.ensures.head c.copy_capability.ensures.tail) in
    subst (λ (q : Packed). SameOutside (packed_slots q) q.memory c.take_out-self-inside.new.memory) c.self.view_is changed.bytes
