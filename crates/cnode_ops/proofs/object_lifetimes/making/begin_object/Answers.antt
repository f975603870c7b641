-- The place is fit for the kind.
use Rattle.std.proofs.Common.{◌∙◌, ◌%◌, ◌^◌, ap, subst, sym}
use Rattle.kernel_invariant.proofs.Laws.{may-stand}
use Rattle.model.specs.Kernel.ObjectTypes.{new_type}
use Rattle.model.specs.declared.object_types.ObjectType.{ObjectType}
use Rattle.cnode_ops.proofs.object_lifetimes.making.begin_object.Goals as goal
use Rattle.model.specs.Kernel.Retype.{is_large_enough, is_small_enough, object_bits}
use Rattle.objects.specs.Frames.{IsRoom}
use Rattle.objects.specs.Tables.{state_of}

pub begin-requires-clause-fits : goal.begin-requires-clause-fits
begin-requires-clause-fits g c =
    may-stand c.in-Object.kind c.args.new.place _
    (ap (λ (k : ObjectType). c.args.new.place % 2 ^ object_bits (new_type k)) (sym c.in-Object.is) ∙ c.args.new.aligned) c.requires.near
    (ap (λ (k : ObjectType). is_large_enough (new_type k)) (sym c.in-Object.is) ∙ c.args.new.large)
    (ap (λ (k : ObjectType). is_small_enough (new_type k)) (sym c.in-Object.is) ∙ c.args.new.small)

pub begin-requires-clause-room : goal.begin-requires-clause-room
begin-requires-clause-room g c =
    subst (λ (k : ObjectType). IsRoom (state_of c.args.objects.now (g.S.SlotMap.slots c.args.store.now) (g.S.SlotStore.memory c.args.store.now)) (new_type k)
    c.args.new.place) c.in-Object.is
    c.requires.room
