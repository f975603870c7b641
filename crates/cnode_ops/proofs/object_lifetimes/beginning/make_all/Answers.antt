-- One more each time, in the room that is left.
use Rattle.std.proofs.Common.{ℕ, ◌∙◌, ◌+◌, ◌%◌, ◌^◌, ◌<◌, ap, sym, subst}
use Rattle.kernel_invariant.specs.Growing.{Growing}
use Rattle.cnode_ops.specs.Placed.{new_objects}
use Rattle.model.specs.Kernel.ObjectTypes.{new_type}
use Rattle.cnode_ops.proofs.object_lifetimes.OneAfterAnother.{made-at, next-place, one-aligned, one-empty, one-near, one-unnamed, room-for_one}
use Rattle.cnode_ops.specs.object_lifetimes.Beginnings.{NoneNamed}
use Rattle.cnode_ops.proofs.object_lifetimes.beginning.make_all.Goals as goal
use Rattle.model.specs.Kernel.Retype.{object_bits}
use Rattle.objects.specs.Tables.{state_of}

pub make_one-requires-clause-growing : goal.make_one-requires-clause-growing
make_one-requires-clause-growing g c =
    let now = state_of c.objects.objects (g.S.SlotMap.slots c.objects.store) (g.S.SlotStore.memory c.objects.store) in
    subst (λ (p : ℕ). Growing now (g.S.SlotStore.memory c.objects.store) p (p + 2 ^ object_bits (new_type c.args.new.kind))) (sym c.objects.invariant.place)
    (room-for_one _ now _ (new_objects c.args.new) c.args.at.window c.args.at.parent c.objects.index c.objects.invariant.made c.args.new.laid
    c.objects-test.true)

pub invariant_of-one : goal.invariant_of-one
invariant_of-one g c = record {
  near = subst (λ (p : ℕ). p < 2 ^ 24) (sym c.objects.invariant.place)
      (one-near _ _ _ (new_objects c.args.new) c.args.at.window c.args.at.parent c.objects.index c.objects.invariant.made c.args.new.laid c.objects-test.true);
  aligned =
      ap (λ (p : ℕ). p % 2 ^ object_bits (new_type c.args.new.kind)) c.objects.invariant.place
      ∙ one-aligned _ _ _ (new_objects c.args.new) c.args.at.window c.args.at.parent c.objects.index c.objects.invariant.made c.args.new.laid
      c.objects-test.true;
  large = c.args.new.laid.large;
  small = c.args.new.laid.small;
}

pub make_one-requires-clause-empty : goal.make_one-requires-clause-empty
unfolding state_of
make_one-requires-clause-empty g c =
    ap (g.S.SlotMap.slots c.objects.store) (c.new.ensures ∙ ap (λ (n : ℕ). n + c.objects.index) c.number-window.ensures.value)
    ∙ one-empty _ _ _ (new_objects c.args.new) c.args.at.window c.args.at.parent c.objects.index c.objects.invariant.made c.args.new.laid c.objects-test.true

pub make_one-requires-clause-full : goal.make_one-requires-clause-full
unfolding state_of
make_one-requires-clause-full g c = c.objects.invariant.made.full

pub make_one-requires-clause-unnamed : goal.make_one-requires-clause-unnamed
unfolding state_of
make_one-requires-clause-unnamed g c =
    let now = state_of c.objects.objects (g.S.SlotMap.slots c.objects.store) (g.S.SlotStore.memory c.objects.store) in
    subst (λ (p : ℕ). NoneNamed (g.S.SlotMap.slots c.objects.store) p (p + 2 ^ object_bits (new_type c.args.new.kind))) (sym c.objects.invariant.place)
    (one-unnamed _ now _ (new_objects c.args.new) c.args.at.window c.args.at.parent c.objects.index c.objects.invariant.made c.args.new.laid
    c.objects-test.true)

pub make_one-requires-clause-nameless : goal.make_one-requires-clause-nameless
unfolding state_of
make_one-requires-clause-nameless g c = c.objects.invariant.made.nameless

pub make_one-requires-clause-room : goal.make_one-requires-clause-room
unfolding state_of
make_one-requires-clause-room g c = c.objects.invariant.made.room

pub objects-preserved : goal.objects-preserved
objects-preserved g c =
    let size = c.size-size.ensures in
    record {
      made =
          made-at (state_of c.args.objects.now (g.S.SlotMap.slots c.args.store.now) (g.S.SlotStore.memory c.args.store.now))
          (state_of c.objects.objects (g.S.SlotMap.slots c.objects.store) (g.S.SlotStore.memory c.objects.store)) (g.S.SlotStore.memory c.objects.store)
          (new_objects c.args.new) c.args.at.window c.args.at.parent c.objects.index c.objects.invariant.made c.args.new.laid c.objects-test.true
          (state_of c.make_one.new.objects (g.S.SlotMap.slots c.make_one.new.store) (g.S.SlotStore.memory c.make_one.new.store))
          (g.S.SlotStore.memory c.make_one.new.store)
          c.objects.place c.new.result c.objects.invariant.place (c.new.ensures ∙ ap (λ (n : ℕ). n + c.objects.index) c.number-window.ensures.value)
          c.make_one.ensures.state c.make_one.ensures.growing;
      place =
          ap (λ (n : ℕ). c.objects.place + n) size ∙ ap (λ (p : ℕ). p + 2 ^ object_bits (new_type c.args.new.kind)) c.objects.invariant.place
          ∙ next-place c.args.new.first (2 ^ object_bits (new_type c.args.new.kind)) c.objects.index;
      stands = c.make_one.ensures.stands;
    }
