-- The watermark is set, and then all objects are made.
use Rattle.std.proofs.Common.{◌∙◌, ap}
use Rattle.cnode_ops.specs.Placed.{new_objects}
use Rattle.cnode_ops.proofs.object_lifetimes.Marked.{marked-stands, may-use, none-made, placed-state, window-near}
use Rattle.cnode_ops.proofs.object_lifetimes.beginning.begin_objects.Goals as goal
use Rattle.model.specs.Kernel.Retype.{with_new}
use Rattle.model.specs.Kernel.State.{State}
use Rattle.objects.specs.Tables.{state_of}

pub use_memory-requires : goal.use_memory-requires
unfolding state_of
use_memory-requires g c = record {
  fits = may-use (state_of c.args.objects.now (g.S.SlotMap.slots c.args.store.now) (g.S.SlotStore.memory c.args.store.now)) (new_objects c.args.new) c.args.at
      c.requires.placed;
}

pub make_all-requires-clause-none_yet : goal.make_all-requires-clause-none_yet
make_all-requires-clause-none_yet g c =
    let slots = g.S.SlotMap.slots c.use_memory.new.store in
    let memory = g.S.SlotStore.memory c.use_memory.new.store in
    none-made c.args.objects.now (g.S.SlotMap.slots c.args.store.now) slots (g.S.SlotStore.memory c.args.store.now) memory (new_objects c.args.new)
    c.args.at c.requires.agree c.requires.sound
    c.requires.placed c.use_memory.ensures.slots c.use_memory.ensures.bytes c.requires.window c.requires.room

pub make_all-requires-clause-near : goal.make_all-requires-clause-near
unfolding state_of
make_all-requires-clause-near g c =
    window-near (state_of c.args.objects.now (g.S.SlotMap.slots c.args.store.now) (g.S.SlotStore.memory c.args.store.now)) (new_objects c.args.new) c.args.at
    c.requires.placed c.requires.sound
    c.requires.window

pub returns-clause-state : goal.returns-clause-state
returns-clause-state g c =
    let slots = g.S.SlotMap.slots c.use_memory.new.store in
    let memory = g.S.SlotStore.memory c.use_memory.new.store in
    c.make_all.ensures.state
    ∙ ap (λ (t : State). with_new t (new_objects c.args.new) c.args.at.window c.args.at.parent)
    (placed-state c.args.objects.now (g.S.SlotMap.slots c.args.store.now) slots (g.S.SlotStore.memory c.args.store.now) memory (new_objects c.args.new)
    c.args.at c.requires.agree c.requires.sound
    c.requires.placed c.use_memory.ensures.slots c.use_memory.ensures.bytes)

pub make_all-requires-clause-stands : goal.make_all-requires-clause-stands
make_all-requires-clause-stands g c =
    let slots = g.S.SlotMap.slots c.use_memory.new.store in
    let memory = g.S.SlotStore.memory c.use_memory.new.store in
    marked-stands c.args.objects.now (g.S.SlotMap.slots c.args.store.now) slots (g.S.SlotStore.memory c.args.store.now) memory (new_objects c.args.new)
    c.args.at c.requires.agree c.requires.sound
    c.requires.placed c.use_memory.ensures.slots c.use_memory.ensures.bytes
