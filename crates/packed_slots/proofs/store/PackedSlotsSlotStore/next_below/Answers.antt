-- What is found descends from the root, and is full.
use Rattle.packed_slots.proofs.Below.{found_full, found_known}
use Rattle.packed_slots.proofs.store.PackedSlotsSlotStore.next_below.Goals as goal

pub returns-clause-next : goal.returns-clause-next
returns-clause-next c = c.linked_below.ensures.next

pub returns-clause-lists : goal.returns-clause-lists
returns-clause-lists c = c.linked_below.ensures.packed.packed.listed

pub returns-clause-derivation : goal.returns-clause-derivation
returns-clause-derivation c = c.linked_below.ensures.packed.packed.derivation

pub returns-clause-found_full : goal.returns-clause-found_full
returns-clause-found_full c =
    found_full c.args.self.now c.args.root c.args.previous c.linked_below.result c.linked_below.ensures.packed c.linked_below.ensures.next

pub returns-clause-found_known : goal.returns-clause-found_known
returns-clause-found_known c =
    found_known c.args.self.now c.args.root c.args.previous c.linked_below.result c.linked_below.ensures.packed c.linked_below.ensures.next
