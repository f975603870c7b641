-- A slot more holds a capability.
use Rattle.std.proofs.Common.{◌≡◌, ◌∙◌, ◌<◌, Some, sym, ap, subst}
use Rattle.model.specs.Capabilities.Slots.{IsFull, SameOutside, Slots, depth_of, empty_entry, inserted}
use Rattle.slots.specs.Kin.{IsKin}
use Rattle.packed_slots.specs.Indexing.{IsIndexed}
use Rattle.packed_slots.specs.Packing.{Packed, packed_slots}
use Rattle.packed_slots.proofs.Counting.{counted-inserted, counts-few}
use Rattle.packed_slots.proofs.NamedChanges.{named-inserted}
use Rattle.packed_slots.proofs.indexed.IndexedSlotsSlotStore.insert.Goals as goal

pub add-requires-clause-room : goal.add-requires-clause-room
add-requires-clause-room c = counts-few (packed_slots c.self.inside.store) c.self.inside.handlers c.self.invariant.counted

pub insert-requires-clause-room : goal.insert-requires-clause-room
insert-requires-clause-room c = λ s is. subst (λ (p : Packed). depth_of (packed_slots p) s < 255) (sym c.self.view_is) (c.requires.room s is)

pub insert-requires-clause-empty : goal.insert-requires-clause-empty
insert-requires-clause-empty c = subst (λ (p : Packed). packed_slots p c.args.slot ≡ Some empty_entry) (sym c.self.view_is) c.requires.empty

pub insert-requires-clause-full : goal.insert-requires-clause-full
insert-requires-clause-full c = λ s is. subst (λ (p : Packed). IsFull (packed_slots p) s) (sym c.self.view_is) (c.requires.full s is)

pub insert-requires-clause-kin : goal.insert-requires-clause-kin
insert-requires-clause-kin c = subst (λ (p : Packed). IsKin (packed_slots p) c.args.capability c.args.parent) (sym c.self.view_is) c.requires.kin

pub returns-clause-slots : goal.returns-clause-slots
returns-clause-slots c = c.insert.ensures.slots ∙ ap (λ (p : Packed). inserted (packed_slots p) c.args.slot c.args.capability c.args.parent) c.self.view_is

pub returns-clause-bytes : goal.returns-clause-bytes
returns-clause-bytes c = subst (λ (p : Packed). SameOutside (packed_slots p) p.memory c.insert.new.self.memory) c.self.view_is c.insert.ensures.bytes

pub invariant_of-self : goal.invariant_of-self
invariant_of-self c =
    let slots : Slots = packed_slots c.self.inside.store in
    let empty = subst (λ (p : Packed). packed_slots p c.args.slot ≡ Some empty_entry) (sym c.self.view_is) c.requires.empty in
    subst (λ (s : Slots). IsIndexed s c.add.new.self c.note.new.self) (sym c.insert.ensures.slots) (record {
      counted = counted-inserted slots c.self.inside.handlers c.add.new.self c.args.slot c.args.capability c.args.parent c.are_near.ensures.one empty
          c.add.ensures c.self.invariant.counted;
      known = named-inserted slots c.self.inside.named c.note.new.self c.args.slot c.args.capability c.args.parent empty c.note.ensures c.self.invariant.known;
    })
