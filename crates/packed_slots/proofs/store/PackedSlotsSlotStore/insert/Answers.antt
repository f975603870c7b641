-- With a parent or without.
use Rattle.std.proofs.Common.{ℕ, ◌≡◌, ◌∙◌, ◌+◌, ◌<◌, List, Some, None, sym, ap, subst, arith}
use Rattle.model.specs.Capabilities.Slots.{IsFull, SameOutside, depth_of, empty_entry, inserted}
use Rattle.slots.specs.Kin.{IsKin}
use Rattle.packed_slots.specs.Packing.{IsChanged, Packed, head_of, packed_slots, packing, tail_of}
use Rattle.packed_slots.specs.Words.{linked_behind, linked_first, words_in}
use Rattle.packed_slots.proofs.Changing.{capped-depth, capped-near, depth-full, empty-open, first-there, full-open, inserted_behind, inserted_first, inside}
use Rattle.packed_slots.proofs.Changing.{inside-as}
use Rattle.packed_slots.proofs.store.PackedSlotsSlotStore.insert.Goals as goal

pub put_capability-requires-clause-inside : goal.put_capability-requires-clause-inside
put_capability-requires-clause-inside c =
    let p : Packed = packing c.self.inside.memory c.self.inside.open_slots c.self.inside.first in
    inside p c.args.slot c.self.invariant
    (empty-open p c.args.slot (subst (λ (q : Packed). packed_slots q c.args.slot ≡ Some empty_entry) (sym c.self.view_is) c.requires.empty))

pub put_capability-requires-clause-valid : goal.put_capability-requires-clause-valid
put_capability-requires-clause-valid c = c.requires.valid

pub link_behind-requires-clause-inside : goal.link_behind-requires-clause-inside
link_behind-requires-clause-inside c =
    let p : Packed = packing c.self.inside.memory c.self.inside.open_slots c.self.inside.first in
    let slot = c.args.slot in
    let held = c.args.capability in
    let empty = subst (λ (q : Packed). packed_slots q slot ≡ Some empty_entry) (sym c.self.view_is) c.requires.empty in
    let kin = subst (λ (q : Packed). IsKin (packed_slots q) held c.args.parent) (sym c.self.view_is) c.requires.kin in
    let put = c.put_capability.ensures in
    inside-as p slot c.put_capability.new.memory c.self.invariant (empty-open p slot empty) put.size

pub link_behind-requires-clause-beside : goal.link_behind-requires-clause-beside
link_behind-requires-clause-beside c =
    let p : Packed = packing c.self.inside.memory c.self.inside.open_slots c.self.inside.first in
    let slot = c.args.slot in
    let held = c.args.capability in
    let empty = subst (λ (q : Packed). packed_slots q slot ≡ Some empty_entry) (sym c.self.view_is) c.requires.empty in
    let kin = subst (λ (q : Packed). IsKin (packed_slots q) held c.args.parent) (sym c.self.view_is) c.requires.kin in
    let put = c.put_capability.ensures in
    let above = c.in-Some.above in
    let full = subst (λ (q : Packed). IsFull (packed_slots q) above) (sym c.self.view_is) (c.requires.full above c.in-Some.is) in
    let room = subst (λ (q : Packed). depth_of (packed_slots q) above < 255) (sym c.self.view_is) (c.requires.room above c.in-Some.is) in
    inside-as p above c.put_capability.new.memory c.self.invariant (full-open p above full) put.size

pub link_behind-requires-clause-behind : goal.link_behind-requires-clause-behind
link_behind-requires-clause-behind c =
    let p : Packed = packing c.self.inside.memory c.self.inside.open_slots c.self.inside.first in
    let slot = c.args.slot in
    let held = c.args.capability in
    let empty = subst (λ (q : Packed). packed_slots q slot ≡ Some empty_entry) (sym c.self.view_is) c.requires.empty in
    let kin = subst (λ (q : Packed). IsKin (packed_slots q) held c.args.parent) (sym c.self.view_is) c.requires.kin in
    let put = c.put_capability.ensures in
    let above = c.in-Some.above in
    let full = subst (λ (q : Packed). IsFull (packed_slots q) above) (sym c.self.view_is) (c.requires.full above c.in-Some.is) in
    let room = subst (λ (q : Packed). depth_of (packed_slots q) above < 255) (sym c.self.view_is) (c.requires.room above c.in-Some.is) in
    capped-near p slot above (head_of held) (tail_of held) c.put_capability.new.memory c.self.invariant (empty-open p slot empty)
    put.head put.tail full put.bytes

pub link_behind-requires-clause-small : goal.link_behind-requires-clause-small
link_behind-requires-clause-small c =
    let p : Packed = packing c.self.inside.memory c.self.inside.open_slots c.self.inside.first in
    let slot = c.args.slot in
    let held = c.args.capability in
    let empty = subst (λ (q : Packed). packed_slots q slot ≡ Some empty_entry) (sym c.self.view_is) c.requires.empty in
    let kin = subst (λ (q : Packed). IsKin (packed_slots q) held c.args.parent) (sym c.self.view_is) c.requires.kin in
    let put = c.put_capability.ensures in
    let above = c.in-Some.above in
    let full = subst (λ (q : Packed). IsFull (packed_slots q) above) (sym c.self.view_is) (c.requires.full above c.in-Some.is) in
    let room = subst (λ (q : Packed). depth_of (packed_slots q) above < 255) (sym c.self.view_is) (c.requires.room above c.in-Some.is) in
    let depth = capped-depth p slot above (head_of held) (tail_of held) c.put_capability.new.memory c.self.invariant
    (empty-open p slot empty) put.head put.tail put.bytes in
    omega (arith, c.depth-parent_depth.ensures.value, depth, depth-full p above c.self.invariant full, room)

pub link_first-requires-clause-inside : goal.link_first-requires-clause-inside
link_first-requires-clause-inside c =
    let p : Packed = packing c.self.inside.memory c.self.inside.open_slots c.self.inside.first in
    let slot = c.args.slot in
    let held = c.args.capability in
    let empty = subst (λ (q : Packed). packed_slots q slot ≡ Some empty_entry) (sym c.self.view_is) c.requires.empty in
    let kin = subst (λ (q : Packed). IsKin (packed_slots q) held c.args.parent) (sym c.self.view_is) c.requires.kin in
    let put = c.put_capability.ensures in
    inside-as p slot c.put_capability.new.memory c.self.invariant (empty-open p slot empty) put.size

pub link_first-requires-clause-behind : goal.link_first-requires-clause-behind
link_first-requires-clause-behind c =
    let p : Packed = packing c.self.inside.memory c.self.inside.open_slots c.self.inside.first in
    let slot = c.args.slot in
    let held = c.args.capability in
    let empty = subst (λ (q : Packed). packed_slots q slot ≡ Some empty_entry) (sym c.self.view_is) c.requires.empty in
    let kin = subst (λ (q : Packed). IsKin (packed_slots q) held c.args.parent) (sym c.self.view_is) c.requires.kin in
    let put = c.put_capability.ensures in
    λ s same. omega (arith, inside p s c.self.invariant (first-there p s c.self.invariant same), put.size)

pub invariant_of-self : goal.invariant_of-self
invariant_of-self c =
    let p : Packed = packing c.self.inside.memory c.self.inside.open_slots c.self.inside.first in
    let slot = c.args.slot in
    let held = c.args.capability in
    let empty = subst (λ (q : Packed). packed_slots q slot ≡ Some empty_entry) (sym c.self.view_is) c.requires.empty in
    let kin = subst (λ (q : Packed). IsKin (packed_slots q) held c.args.parent) (sym c.self.view_is) c.requires.kin in
    let put = c.put_capability.ensures in
    let above = c.in-Some.above in
    let full = subst (λ (q : Packed). IsFull (packed_slots q) above) (sym c.self.view_is) (c.requires.full above c.in-Some.is) in
    let room = subst (λ (q : Packed). depth_of (packed_slots q) above < 255) (sym c.self.view_is) (c.requires.room above c.in-Some.is) in
    let depth = capped-depth p slot above (head_of held) (tail_of held) c.put_capability.new.memory c.self.invariant
    (empty-open p slot empty) put.head put.tail put.bytes in
    let changed = subst (λ (m : List ℕ). IsChanged p (packing m p.open_slots p.first) (inserted (packed_slots p) slot held (Some above)))
    (sym (c.link_behind.ensures.bytes
    ∙ ap (λ d. linked_behind c.put_capability.new.memory above slot (d + 1)) (c.depth-parent_depth.ensures.value ∙ depth)
    ∙ ap (λ m. linked_behind m above slot ((words_in p.memory).depth above + 1)) put.bytes))
    (inserted_behind p slot above held c.self.invariant empty c.requires.valid c.requires.some full room
    (subst (IsKin (packed_slots p) held) c.in-Some.is kin) put.head put.tail) in
    changed.packed

pub returns-in-Some-clause-slots : goal.returns-in-Some-clause-slots
returns-in-Some-clause-slots c =
    let p : Packed = packing c.self.inside.memory c.self.inside.open_slots c.self.inside.first in
    let slot = c.args.slot in
    let held = c.args.capability in
    let empty = subst (λ (q : Packed). packed_slots q slot ≡ Some empty_entry) (sym c.self.view_is) c.requires.empty in
    let kin = subst (λ (q : Packed). IsKin (packed_slots q) held c.args.parent) (sym c.self.view_is) c.requires.kin in
    let put = c.put_capability.ensures in
    let above = c.in-Some.above in
    let full = subst (λ (q : Packed). IsFull (packed_slots q) above) (sym c.self.view_is) (c.requires.full above c.in-Some.is) in
    let room = subst (λ (q : Packed). depth_of (packed_slots q) above < 255) (sym c.self.view_is) (c.requires.room above c.in-Some.is) in
    let depth = capped-depth p slot above (head_of held) (tail_of held) c.put_capability.new.memory c.self.invariant
    (empty-open p slot empty) put.head put.tail put.bytes in
    let changed = subst (λ (m : List ℕ). IsChanged p (packing m p.open_slots p.first) (inserted (packed_slots p) slot held (Some above)))
    (sym (c.link_behind.ensures.bytes
    ∙ ap (λ d. linked_behind c.put_capability.new.memory above slot (d + 1)) (c.depth-parent_depth.ensures.value ∙ depth)
    ∙ ap (λ m. linked_behind m above slot ((words_in p.memory).depth above + 1)) put.bytes))
    (inserted_behind p slot above held c.self.invariant empty c.requires.valid c.requires.some full room
    (subst (IsKin (packed_slots p) held) c.in-Some.is kin) put.head put.tail) in
    changed.holds ∙ ap (λ (q : Packed). inserted (packed_slots q) slot held (Some above)) c.self.view_is
    ∙ ap (inserted (packed_slots c.args.self.now) slot held) (sym c.in-Some.is)

pub returns-in-Some-clause-bytes : goal.returns-in-Some-clause-bytes
returns-in-Some-clause-bytes c =
    let p : Packed = packing c.self.inside.memory c.self.inside.open_slots c.self.inside.first in
    let slot = c.args.slot in
    let held = c.args.capability in
    let empty = subst (λ (q : Packed). packed_slots q slot ≡ Some empty_entry) (sym c.self.view_is) c.requires.empty in
    let kin = subst (λ (q : Packed). IsKin (packed_slots q) held c.args.parent) (sym c.self.view_is) c.requires.kin in
    let put = c.put_capability.ensures in
    let above = c.in-Some.above in
    let full = subst (λ (q : Packed). IsFull (packed_slots q) above) (sym c.self.view_is) (c.requires.full above c.in-Some.is) in
    let room = subst (λ (q : Packed). depth_of (packed_slots q) above < 255) (sym c.self.view_is) (c.requires.room above c.in-Some.is) in
    let depth = capped-depth p slot above (head_of held) (tail_of held) c.put_capability.new.memory c.self.invariant
    (empty-open p slot empty) put.head put.tail put.bytes in
    let changed = subst (λ (m : List ℕ). IsChanged p (packing m p.open_slots p.first) (inserted (packed_slots p) slot held (Some above)))
    (sym (c.link_behind.ensures.bytes
    ∙ ap (λ d. linked_behind c.put_capability.new.memory above slot (d + 1)) (c.depth-parent_depth.ensures.value ∙ depth)
    ∙ ap (λ m. linked_behind m above slot ((words_in p.memory).depth above + 1)) put.bytes))
    (inserted_behind p slot above held c.self.invariant empty c.requires.valid c.requires.some full room
    (subst (IsKin (packed_slots p) held) c.in-Some.is kin) put.head put.tail) in
    subst (λ (q : Packed). SameOutside (packed_slots q) q.memory c.link_behind.new.memory) c.self.view_is changed.bytes

pub invariant_of-self-in-None : goal.invariant_of-self-in-None
invariant_of-self-in-None c =
    let p : Packed = packing c.self.inside.memory c.self.inside.open_slots c.self.inside.first in
    let slot = c.args.slot in
    let held = c.args.capability in
    let empty = subst (λ (q : Packed). packed_slots q slot ≡ Some empty_entry) (sym c.self.view_is) c.requires.empty in
    let kin = subst (λ (q : Packed). IsKin (packed_slots q) held c.args.parent) (sym c.self.view_is) c.requires.kin in
    let put = c.put_capability.ensures in
    let changed = subst (λ (m : List ℕ). IsChanged p (packing m p.open_slots (Some slot)) (inserted (packed_slots p) slot held None))
    (sym (c.link_first.ensures.bytes ∙ ap (λ m. linked_first m p.first slot) put.bytes))
    (inserted_first p slot held c.self.invariant empty c.requires.valid c.requires.some (subst (IsKin (packed_slots p) held) c.in-None.is kin)
    put.head put.tail) in
    changed.packed

pub returns-in-None-clause-slots : goal.returns-in-None-clause-slots
returns-in-None-clause-slots c =
    let p : Packed = packing c.self.inside.memory c.self.inside.open_slots c.self.inside.first in
    let slot = c.args.slot in
    let held = c.args.capability in
    let empty = subst (λ (q : Packed). packed_slots q slot ≡ Some empty_entry) (sym c.self.view_is) c.requires.empty in
    let kin = subst (λ (q : Packed). IsKin (packed_slots q) held c.args.parent) (sym c.self.view_is) c.requires.kin in
    let put = c.put_capability.ensures in
    let changed = subst (λ (m : List ℕ). IsChanged p (packing m p.open_slots (Some slot)) (inserted (packed_slots p) slot held None))
    (sym (c.link_first.ensures.bytes ∙ ap (λ m. linked_first m p.first slot) put.bytes))
    (inserted_first p slot held c.self.invariant empty c.requires.valid c.requires.some (subst (IsKin (packed_slots p) held) c.in-None.is kin)
    put.head put.tail) in
    changed.holds ∙ ap (λ (q : Packed). inserted (packed_slots q) slot held None) c.self.view_is
    ∙ ap (inserted (packed_slots c.args.self.now) slot held) (sym c.in-None.is)

pub returns-in-None-clause-bytes : goal.returns-in-None-clause-bytes
returns-in-None-clause-bytes c =
    let p : Packed = packing c.self.inside.memory c.self.inside.open_slots c.self.inside.first in
    let slot = c.args.slot in
    let held = c.args.capability in
    let empty = subst (λ (q : Packed). packed_slots q slot ≡ Some empty_entry) (sym c.self.view_is) c.requires.empty in
    let kin = subst (λ (q : Packed). IsKin (packed_slots q) held c.args.parent) (sym c.self.view_is) c.requires.kin in
    let put = c.put_capability.ensures in
    let changed = subst (λ (m : List ℕ). IsChanged p (packing m p.open_slots (Some slot)) (inserted (packed_slots p) slot held None))
    (sym (c.link_first.ensures.bytes ∙ ap (λ m. linked_first m p.first slot) put.bytes))
    (inserted_first p slot held c.self.invariant empty c.requires.valid c.requires.some (subst (IsKin (packed_slots p) held) c.in-None.is kin)
    put.head put.tail) in
    subst (λ (q : Packed). SameOutside (packed_slots q) q.memory c.link_first.new.memory) c.self.view_is changed.bytes
