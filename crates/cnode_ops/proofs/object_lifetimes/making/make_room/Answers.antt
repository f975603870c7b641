-- The room is made by opening slots, or by zeroing a page.
use Rattle.std.proofs.Common.{ℕ, ◌≡◌, ◌∙◌, ◌+◌, ◌*◌, ◌^◌, ◌≤◌, List, length, replicate, ap, refl, sym, subst, arith}
use Rattle.std.proofs.lemmas.Nat.{pow-add}
use Rattle.kernel_invariant.proofs.Laws.{room-of-page}
use Rattle.kernel_invariant.specs.Rooms.{RoomMade}
use Rattle.cnode_ops.proofs.object_lifetimes.making.make_room.Goals as goal
use Rattle.model.specs.Capabilities.Slots.{Slots}
use Rattle.model.specs.Kernel.Kinds.{kind_of}
use Rattle.model.specs.Kernel.Retype.{object, object_bits}
use Rattle.model.specs.Kernel.AddressSpaces.{page_size}
use Rattle.model.specs.Kernel.Removal.{slot_count}
use Rattle.model.specs.Shared.Bytes.{written}
use Rattle.model.specs.Kernel.ObjectTypes.{new_object, new_type}
use Rattle.model.specs.declared.object_types.ObjectKind.{ObjectKind}
use Rattle.model.specs.declared.object_types.ObjectType.{ObjectType}
use Rattle.model.specs.declared.object_types.ObjectType.TheVariants.{Object}
use Rattle.model.specs.declared.object_types.ObjectKind.TheVariants.{CNode, Frame, PageTable, RootTable, Thread}

-- a CNode has sixteen bytes for each slot
wide : (kind : ObjectType) (radix : ℕ) → kind ≡ Object (CNode radix) → 2 ^ object_bits (new_type kind) ≡ 2 ^ radix * 16
wide kind radix is = ap (λ (k : ObjectType). 2 ^ object_bits (new_type k)) is ∙ pow-add 2 radix 4

-- and a thread three slots
three : (kind : ObjectType) → kind ≡ Object Thread → 2 ^ object_bits (new_type kind) ≡ 512
three kind is = ap (λ (k : ObjectType). 2 ^ object_bits (new_type k)) is

pub open_slots-requires-clause-within : goal.open_slots-requires-clause-within
open_slots-requires-clause-within g c =
    let size = three c.args.new.kind (c.in-Object.is ∙ ap Object c.in-Thread.is) in omega (arith, size, c.requires.within)

pub open_slots-requires-clause-closed : goal.open_slots-requires-clause-closed
open_slots-requires-clause-closed g c = λ place low high.
    let size = three c.args.new.kind (c.in-Object.is ∙ ap Object c.in-Thread.is) in c.requires.closed place low (omega (arith, size, high))

pub open_slots-requires-in-CNode-clause-within : goal.open_slots-requires-in-CNode-clause-within
open_slots-requires-in-CNode-clause-within g c =
    let size = wide c.args.new.kind c.in-CNode.radix (c.in-Object.is ∙ ap Object c.in-CNode.is) in
    omega (arith, size, c.requires.within, c.node_slots.ensures.value)

pub open_slots-requires-in-CNode-clause-closed : goal.open_slots-requires-in-CNode-clause-closed
open_slots-requires-in-CNode-clause-closed g c = λ place low high.
    let size = wide c.args.new.kind c.in-CNode.radix (c.in-Object.is ∙ ap Object c.in-CNode.is) in
    c.requires.closed place low (omega (arith, size, high, c.node_slots.ensures.value))

-- a page, of whatever kind
page : (kind : ObjectType) (like : ObjectKind) (place : ℕ) (slots now : Slots) (old new : List ℕ) → kind ≡ Object like
    → slot_count (object (kind_of (new_object like))) ≡ 0 → object_bits (kind_of (new_object like)) ≡ 12
    → place + 2 ^ object_bits (new_type kind) ≤ length old → now ≡ slots
    → new ≡ written old place (replicate page_size 0) → RoomMade slots now old new (new_type kind) place
page kind like place slots now old new is none bits within same zeroed =
    let size : object_bits (new_type kind) ≡ 12 = ap (λ (k : ObjectType). object_bits (new_type k)) is ∙ bits in
    let room : place + 2 ^ 12 ≤ length old = subst (λ (n : ℕ). place + 2 ^ n ≤ length old) size within in
    subst (λ (n : Slots). RoomMade slots n old new (new_type kind) place) (sym same)
    (room-of-page (new_type kind) place slots old new (ap (λ (k : ObjectType). slot_count (object (new_type k))) is ∙ none)
    size room zeroed)

pub returns-in-Frame : goal.returns-in-Frame
returns-in-Frame g c =
    page c.args.new.kind Frame c.args.new.place (g.S.SlotMap.slots c.args.store.now) (g.S.SlotMap.slots c.zero.new.self) (g.S.SlotStore.memory c.args.store.now)
    (g.S.SlotStore.memory c.zero.new.self)
    (c.in-Object.is ∙ ap Object c.in-Frame.is) refl refl c.requires.within c.zero.ensures.slots c.zero.ensures.bytes

pub returns-in-PageTable : goal.returns-in-PageTable
returns-in-PageTable g c =
    page c.args.new.kind PageTable c.args.new.place (g.S.SlotMap.slots c.args.store.now) (g.S.SlotMap.slots c.zero-in-PageTable.new.self)
    (g.S.SlotStore.memory c.args.store.now)
    (g.S.SlotStore.memory c.zero-in-PageTable.new.self) (c.in-Object.is ∙ ap Object c.in-PageTable.is) refl refl c.requires.within
    c.zero-in-PageTable.ensures.slots c.zero-in-PageTable.ensures.bytes

pub returns-in-RootTable : goal.returns-in-RootTable
returns-in-RootTable g c =
    page c.args.new.kind RootTable c.args.new.place (g.S.SlotMap.slots c.args.store.now) (g.S.SlotMap.slots c.zero-in-RootTable.new.self)
    (g.S.SlotStore.memory c.args.store.now)
    (g.S.SlotStore.memory c.zero-in-RootTable.new.self) (c.in-Object.is ∙ ap Object c.in-RootTable.is) refl refl c.requires.within
    c.zero-in-RootTable.ensures.slots c.zero-in-RootTable.ensures.bytes
