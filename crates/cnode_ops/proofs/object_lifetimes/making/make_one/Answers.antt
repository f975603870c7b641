-- Room, record and capability, one after another.
use Rattle.std.proofs.Common.{ℕ, ◌∙◌, ◌<◌, ◌^◌, IsSome, Option, Some, ap, refl, sym, subst, arith}
use Rattle.kernel_invariant.proofs.Laws.{is-room, room-stands, room-state, sixteen}
use Rattle.model.specs.Kernel.ObjectTypes.{new_type}
use Rattle.cnode_ops.proofs.object_lifetimes.OneMade.{growing-made, stands-made, state-made}
use Rattle.cnode_ops.proofs.object_lifetimes.Places.{of-some, place-closed, place-free, place-near, room-depth, room-full, room-of_open}
use Rattle.cnode_ops.proofs.object_lifetimes.Unnamed.{kin-made}
use Rattle.cnode_ops.proofs.object_lifetimes.making.make_one.Goals as goal
use Rattle.model.specs.Capabilities.Slots.{IsFull, Slots, depth_of, inserted}
use Rattle.model.specs.Kernel.State.{State}
use Rattle.model.specs.Capabilities.CapabilityWords.{IsCapability}
use Rattle.model.specs.declared.slot_entries.Entry.{Entry}
use Rattle.objects.specs.Tables.{state_of}
use Rattle.soundness.proofs.Laws.{first-valid}

pub make_room-requires-clause-closed : goal.make_room-requires-clause-closed
unfolding state_of
make_room-requires-clause-closed g c = place-closed _ (new_type c.args.new.kind) c.args.new.place _ c.requires.growing

pub begin_object-requires-clause-free : goal.begin_object-requires-clause-free
begin_object-requires-clause-free g c =
    let same = room-state c.args.objects.now (g.S.SlotMap.slots c.args.store.now) (g.S.SlotMap.slots c.make_room.new.store)
    (g.S.SlotStore.memory c.args.store.now)
    (g.S.SlotStore.memory c.make_room.new.store) (new_type c.args.new.kind) c.args.new.place _ c.requires.growing (omega arith)
    (sixteen (new_type c.args.new.kind) c.args.new.place c.args.new.large c.args.new.aligned) c.make_room.ensures c.requires.stands in
    ap (λ (t : State). t.objects c.args.new.place) same ∙ place-free _ (new_type c.args.new.kind) c.args.new.place _ c.requires.growing

pub begin_object-requires-clause-near : goal.begin_object-requires-clause-near
begin_object-requires-clause-near g c =
    let same = room-state c.args.objects.now (g.S.SlotMap.slots c.args.store.now) (g.S.SlotMap.slots c.make_room.new.store)
    (g.S.SlotStore.memory c.args.store.now)
    (g.S.SlotStore.memory c.make_room.new.store) (new_type c.args.new.kind) c.args.new.place _ c.requires.growing (omega arith)
    (sixteen (new_type c.args.new.kind) c.args.new.place c.args.new.large c.args.new.aligned) c.make_room.ensures c.requires.stands in
    subst (λ (t : State). c.args.new.place < 2 ^ t.memory_bits) (sym same) (place-near _ (new_type c.args.new.kind) c.args.new.place _ c.requires.growing)

pub begin_object-requires-clause-stands : goal.begin_object-requires-clause-stands
begin_object-requires-clause-stands g c =
    room-stands c.args.objects.now (g.S.SlotMap.slots c.args.store.now) (g.S.SlotMap.slots c.make_room.new.store) (g.S.SlotStore.memory c.args.store.now)
    (g.S.SlotStore.memory c.make_room.new.store) (new_type c.args.new.kind) c.args.new.place _ c.requires.growing (omega arith)
    (sixteen (new_type c.args.new.kind) c.args.new.place c.args.new.large c.args.new.aligned) c.make_room.ensures c.requires.stands

pub begin_object-requires-clause-room : goal.begin_object-requires-clause-room
begin_object-requires-clause-room g c =
    is-room c.args.objects.now (g.S.SlotMap.slots c.args.store.now) (g.S.SlotMap.slots c.make_room.new.store) (g.S.SlotStore.memory c.args.store.now)
    (g.S.SlotStore.memory c.make_room.new.store) (new_type c.args.new.kind) c.args.new.place _ c.requires.growing (omega arith)
    (sixteen (new_type c.args.new.kind) c.args.new.place c.args.new.large c.args.new.aligned) c.make_room.ensures c.requires.stands

pub insert-requires-clause-empty : goal.insert-requires-clause-empty
unfolding state_of
insert-requires-clause-empty g c =
    ap (λ (f : Slots). f c.args.slot) c.begin_object.ensures.slots
    ∙ room-of_open (state_of c.args.objects.now (g.S.SlotMap.slots c.args.store.now) (g.S.SlotStore.memory c.args.store.now)) (new_type c.args.new.kind)
    c.args.new.place _
    c.requires.growing (g.S.SlotMap.slots c.make_room.new.store) (sixteen (new_type c.args.new.kind) c.args.new.place c.args.new.large c.args.new.aligned)
    c.make_room.ensures.slots c.args.slot
    (subst (λ (e : Option Entry). IsSome e) (sym c.requires.empty) refl)
    ∙ c.requires.empty

pub insert-requires-clause-valid : goal.insert-requires-clause-valid
insert-requires-clause-valid g c =
    subst IsCapability (sym c.first_capability.ensures)
    (first-valid (new_type c.args.new.kind) c.args.new.place c.args.new.large c.args.new.small c.args.new.aligned c.args.new.near)

pub insert-requires-clause-full : goal.insert-requires-clause-full
unfolding state_of
insert-requires-clause-full g c = λ x is.
    let multiple = sixteen (new_type c.args.new.kind) c.args.new.place c.args.new.large c.args.new.aligned in
    let full = room-full (state_of c.args.objects.now (g.S.SlotMap.slots c.args.store.now) (g.S.SlotStore.memory c.args.store.now)) (new_type c.args.new.kind)
    c.args.new.place _
    c.requires.growing (g.S.SlotMap.slots c.make_room.new.store) multiple c.make_room.ensures.slots c.args.parent c.requires.full in
    of-some (IsFull (g.S.SlotMap.slots c.begin_object.new.store)) c.args.parent x
    (subst (λ (f : Slots). IsFull f c.args.parent) (sym c.begin_object.ensures.slots) full) is

pub insert-requires-clause-room : goal.insert-requires-clause-room
unfolding state_of
insert-requires-clause-room g c = λ x is.
    let multiple = sixteen (new_type c.args.new.kind) c.args.new.place c.args.new.large c.args.new.aligned in
    let same = room-depth (state_of c.args.objects.now (g.S.SlotMap.slots c.args.store.now) (g.S.SlotStore.memory c.args.store.now)) (new_type c.args.new.kind)
    c.args.new.place _
    c.requires.growing (g.S.SlotMap.slots c.make_room.new.store) multiple c.make_room.ensures.slots c.args.parent in
    of-some (λ y. depth_of (g.S.SlotMap.slots c.begin_object.new.store) y < 255) c.args.parent x
    (subst (λ (n : ℕ). n < 255) (sym (ap (λ (f : Slots). depth_of f c.args.parent) c.begin_object.ensures.slots ∙ same)) c.requires.room) is

pub insert-requires-clause-kin : goal.insert-requires-clause-kin
unfolding state_of
insert-requires-clause-kin g c =
    kin-made (g.S.SlotMap.slots c.args.store.now) (g.S.SlotMap.slots c.make_room.new.store) (g.S.SlotMap.slots c.begin_object.new.store)
    (new_type c.args.new.kind)
    c.args.new.place c.args.parent
    c.first_capability.result c.requires.unnamed c.requires.nameless c.make_room.ensures.slots c.begin_object.ensures.slots c.first_capability.ensures

pub returns-clause-state : goal.returns-clause-state
returns-clause-state g c =
    state-made c.args.objects.now c.begin_object.new.objects (g.S.SlotMap.slots c.args.store.now) (g.S.SlotMap.slots c.make_room.new.store)
    (g.S.SlotMap.slots c.begin_object.new.store)
    (g.S.SlotMap.slots c.insert.new.self) (g.S.SlotStore.memory c.args.store.now) (g.S.SlotStore.memory c.make_room.new.store)
    (g.S.SlotStore.memory c.begin_object.new.store)
    (g.S.SlotStore.memory c.insert.new.self) c.args.new.kind c.args.new.place c.args.slot c.args.parent c.requires.stands c.requires.growing c.args.new.aligned
    c.args.new.large c.make_room.ensures
    c.begin_object.ensures.slots c.begin_object.ensures.state c.begin_object.ensures.bytes c.begin_object.ensures.stands
    (c.insert.ensures.slots ∙ ap (λ cap. inserted (g.S.SlotMap.slots c.begin_object.new.store) c.args.slot cap (Some c.args.parent)) c.first_capability.ensures)
    c.insert.ensures.bytes

pub returns-clause-growing : goal.returns-clause-growing
unfolding state_of
returns-clause-growing g c =
    growing-made c.args.objects.now c.begin_object.new.objects (g.S.SlotMap.slots c.args.store.now) (g.S.SlotMap.slots c.make_room.new.store)
    (g.S.SlotMap.slots c.begin_object.new.store)
    (g.S.SlotMap.slots c.insert.new.self) (g.S.SlotStore.memory c.args.store.now) (g.S.SlotStore.memory c.make_room.new.store)
    (g.S.SlotStore.memory c.begin_object.new.store)
    (g.S.SlotStore.memory c.insert.new.self) c.args.new.kind c.args.new.place c.args.slot c.args.parent c.requires.stands c.requires.growing c.args.new.aligned
    c.args.new.large c.make_room.ensures
    c.begin_object.ensures.slots c.begin_object.ensures.state c.begin_object.ensures.bytes c.begin_object.ensures.stands
    (c.insert.ensures.slots ∙ ap (λ cap. inserted (g.S.SlotMap.slots c.begin_object.new.store) c.args.slot cap (Some c.args.parent)) c.first_capability.ensures)
    c.insert.ensures.bytes
    c.args.new.small c.args.new.near c.requires.empty

pub returns-clause-stands : goal.returns-clause-stands
unfolding state_of
returns-clause-stands g c =
    stands-made c.args.objects.now c.begin_object.new.objects (g.S.SlotMap.slots c.args.store.now) (g.S.SlotMap.slots c.make_room.new.store)
    (g.S.SlotMap.slots c.begin_object.new.store)
    (g.S.SlotMap.slots c.insert.new.self) (g.S.SlotStore.memory c.args.store.now) (g.S.SlotStore.memory c.make_room.new.store)
    (g.S.SlotStore.memory c.begin_object.new.store)
    (g.S.SlotStore.memory c.insert.new.self) c.args.new.kind c.args.new.place c.args.slot c.args.parent c.requires.stands c.requires.growing c.args.new.aligned
    c.args.new.large c.make_room.ensures
    c.begin_object.ensures.slots c.begin_object.ensures.state c.begin_object.ensures.bytes c.begin_object.ensures.stands
    (c.insert.ensures.slots ∙ ap (λ cap. inserted (g.S.SlotMap.slots c.begin_object.new.store) c.args.slot cap (Some c.args.parent)) c.first_capability.ensures)
    c.insert.ensures.bytes
    c.args.new.small c.args.new.near c.requires.empty
