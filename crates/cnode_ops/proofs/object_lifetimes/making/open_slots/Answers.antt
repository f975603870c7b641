-- The bytes of the slots are closed.
use Rattle.std.proofs.Common.{◌≡◌, ◌∙◌, ◌*◌, ◌/◌, ap, sym, arith}
use Rattle.kernel_invariant.proofs.Laws.{sixteen}
use Rattle.model.specs.Kernel.ObjectTypes.{new_type}
use Rattle.cnode_ops.proofs.object_lifetimes.making.open_slots.Goals as goal

pub open_range-requires-clause-closed : goal.open_range-requires-clause-closed
open_range-requires-clause-closed g c = λ s low high.
    let number = c.new.ensures in
    let aligned = sixteen (new_type c.args.new.kind) c.args.new.place c.args.new.large c.args.new.aligned in
    let here : 16 * s / 16 ≡ s = omega arith in
    ap (g.S.SlotMap.slots c.args.store.now) (sym here)
    ∙ c.requires.closed (16 * s) (omega (arith, low, number, aligned)) (omega (arith, high, number, aligned))

pub open_range-requires-clause-within : goal.open_range-requires-clause-within
open_range-requires-clause-within g c =
    let number = c.new.ensures in
    let aligned = sixteen (new_type c.args.new.kind) c.args.new.place c.args.new.large c.args.new.aligned in
    omega (arith, number, aligned, c.requires.within)
