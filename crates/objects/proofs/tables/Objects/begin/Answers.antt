-- The new object is there, and nobody is linked to it.
use Rattle.std.proofs.Common.{ℕ, ◌≡◌, ◌∙◌, length, subst}
use Rattle.model.specs.Kernel.State.{put}
use Rattle.objects.proofs.BegunTables.{has-entry, room-at, tables-begun}
use Rattle.objects.proofs.Holding.{long, placed-by}
use Rattle.objects.proofs.Making.{begin-bytes, begin-done}
use Rattle.objects.specs.Tables.{entry_in}
use Rattle.objects.specs.declared.records.Entry.{Entry}
use Rattle.objects.specs.contracts.tables.Objects.{the_view}
use Rattle.objects.proofs.tables.Objects.begin.Goals as goal

pub put-requires : goal.put-requires
put-requires g c =
    let fits = rw (← c.self.view_is) at c.requires.fits in
    let has = has-entry (the_view c.self.inside) (g.S.SlotMap.slots c.args.store.now) (g.S.SlotStore.memory c.args.store.now) c.args.kind c.args.offset
    c.self.invariant fits in
    record { aligned = has.0; within = has.1 }

pub begin_bytes-requires : goal.begin_bytes-requires
begin_bytes-requires g c =
    let stands = rw (← c.self.view_is) at c.requires.stands in
    let room = rw (← c.self.view_is) at c.requires.room in
    let fits = rw (← c.self.view_is) at c.requires.fits in
    room-at (the_view c.self.inside) (g.S.SlotMap.slots c.args.store.now) (g.S.SlotStore.memory c.args.store.now) c.args.kind c.args.offset c.self.invariant
    stands.fits fits room

pub invariant_of-self : goal.invariant_of-self
invariant_of-self g c =
    let stands = rw (← c.self.view_is) at c.requires.stands in
    let free = rw (← c.self.view_is) at c.requires.free in
    let room = rw (← c.self.view_is) at c.requires.room in
    let fits = rw (← c.self.view_is) at c.requires.fits in
    let entered = subst (λ (e : Entry). (other : ℕ) → entry_in c.put.new.self other ≡ put (entry_in (the_view c.self.inside).entries) c.args.offset e other)
    c.entry_of.ensures c.put.ensures.entries in
    let now = tables-begun (the_view c.self.inside) c.put.new.self c.args.kind _ c.args.offset c.self.invariant c.put.ensures.long entered fits in
    let placed = placed-by (record (the_view c.self.inside) { entries = c.put.new.self }) now (length (g.S.SlotStore.memory c.begin_bytes.new.store))
    (c.begin_bytes.ensures.bytes.size ∙ long (the_view c.self.inside) c.self.invariant (g.S.SlotMap.slots c.args.store.now)
    (g.S.SlotStore.memory c.args.store.now) stands.fits) in
    now

pub returns-clause-state : goal.returns-clause-state
returns-clause-state g c =
    let stands = rw (← c.self.view_is) at c.requires.stands in
    let free = rw (← c.self.view_is) at c.requires.free in
    let room = rw (← c.self.view_is) at c.requires.room in
    let fits = rw (← c.self.view_is) at c.requires.fits in
    let entered = subst (λ (e : Entry). (other : ℕ) → entry_in c.put.new.self other ≡ put (entry_in (the_view c.self.inside).entries) c.args.offset e other)
    c.entry_of.ensures c.put.ensures.entries in
    let now = tables-begun (the_view c.self.inside) c.put.new.self c.args.kind _ c.args.offset c.self.invariant c.put.ensures.long entered fits in
    let placed = placed-by (record (the_view c.self.inside) { entries = c.put.new.self }) now (length (g.S.SlotStore.memory c.begin_bytes.new.store))
    (c.begin_bytes.ensures.bytes.size ∙ long (the_view c.self.inside) c.self.invariant (g.S.SlotMap.slots c.args.store.now)
    (g.S.SlotStore.memory c.args.store.now) stands.fits) in
    rw (← c.self.view_is) (begin-done (the_view c.self.inside) (g.S.SlotMap.slots c.args.store.now) (g.S.SlotMap.slots c.begin_bytes.new.store)
    (g.S.SlotStore.memory c.args.store.now) (g.S.SlotStore.memory c.begin_bytes.new.store) c.args.kind c.args.offset stands c.begin_bytes.ensures.slots free
    room c.put.new.self entered c.begin_bytes.ensures.bytes placed).state

pub returns-clause-bytes : goal.returns-clause-bytes
returns-clause-bytes g c =
    let stands = rw (← c.self.view_is) at c.requires.stands in
    let free = rw (← c.self.view_is) at c.requires.free in
    let room = rw (← c.self.view_is) at c.requires.room in
    let fits = rw (← c.self.view_is) at c.requires.fits in
    let entered = subst (λ (e : Entry). (other : ℕ) → entry_in c.put.new.self other ≡ put (entry_in (the_view c.self.inside).entries) c.args.offset e other)
    c.entry_of.ensures c.put.ensures.entries in
    let now = tables-begun (the_view c.self.inside) c.put.new.self c.args.kind _ c.args.offset c.self.invariant c.put.ensures.long entered fits in
    let placed = placed-by (record (the_view c.self.inside) { entries = c.put.new.self }) now (length (g.S.SlotStore.memory c.begin_bytes.new.store))
    (c.begin_bytes.ensures.bytes.size ∙ long (the_view c.self.inside) c.self.invariant (g.S.SlotMap.slots c.args.store.now)
    (g.S.SlotStore.memory c.args.store.now) stands.fits) in
    begin-bytes (the_view c.self.inside) (g.S.SlotMap.slots c.args.store.now) (g.S.SlotMap.slots c.begin_bytes.new.store)
    (g.S.SlotStore.memory c.args.store.now) (g.S.SlotStore.memory c.begin_bytes.new.store) c.args.kind c.args.offset stands c.begin_bytes.ensures.slots free
    room c.put.new.self entered c.begin_bytes.ensures.bytes placed

pub returns-clause-stands : goal.returns-clause-stands
returns-clause-stands g c =
    let stands = rw (← c.self.view_is) at c.requires.stands in
    let free = rw (← c.self.view_is) at c.requires.free in
    let room = rw (← c.self.view_is) at c.requires.room in
    let fits = rw (← c.self.view_is) at c.requires.fits in
    let entered = subst (λ (e : Entry). (other : ℕ) → entry_in c.put.new.self other ≡ put (entry_in (the_view c.self.inside).entries) c.args.offset e other)
    c.entry_of.ensures c.put.ensures.entries in
    let now = tables-begun (the_view c.self.inside) c.put.new.self c.args.kind _ c.args.offset c.self.invariant c.put.ensures.long entered fits in
    let placed = placed-by (record (the_view c.self.inside) { entries = c.put.new.self }) now (length (g.S.SlotStore.memory c.begin_bytes.new.store))
    (c.begin_bytes.ensures.bytes.size ∙ long (the_view c.self.inside) c.self.invariant (g.S.SlotMap.slots c.args.store.now)
    (g.S.SlotStore.memory c.args.store.now) stands.fits) in
    (begin-done (the_view c.self.inside) (g.S.SlotMap.slots c.args.store.now) (g.S.SlotMap.slots c.begin_bytes.new.store)
    (g.S.SlotStore.memory c.args.store.now) (g.S.SlotStore.memory c.begin_bytes.new.store) c.args.kind c.args.offset stands c.begin_bytes.ensures.slots free
    room c.put.new.self entered c.begin_bytes.ensures.bytes placed).stands
