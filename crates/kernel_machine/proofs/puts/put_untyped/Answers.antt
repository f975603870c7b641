-- By the law on untyped memory.
use Rattle.std.proofs.Common.{◌∙◌, ◌+◌, ◌*◌, ◌^◌, ℕ, Bool, Some, None, if◌then◌else◌, sym, ap}
use Rattle.kernel_machine.proofs.Untypeds.{may-tested, memory-few, untyped-none, untyped-put, untyped-valid}
use Rattle.kernel_machine.proofs.puts.put_untyped.Goals as goal
use Rattle.objects.specs.Lives.{state_in}
use Rattle.model.specs.Kernel.Setup.{may_be_untyped}
use Rattle.soundness.proofs.Laws.{put_untyped-whole}
use Rattle.cnode_ops.proofs.Laws.{whole-of}

pub put-requires-clause-valid : goal.put-requires-clause-valid
put-requires-clause-valid g c =
    let whole = whole-of g.S.SlotMap.slots g.S.SlotStore.memory c.live.inside.objects c.live.inside.store c.kernel.invariant c.live.view_is c.live.invariant in
    untyped-valid (g.S.SlotMap.slots c.live.inside.store) _ _ c.args.offset c.args.bits (memory-few _ _ whole.sound whole.agrees)
    (sym c.may_be_untyped-fits.ensures ∙ c.if-fits.true)

pub put-requires-clause-sound : goal.put-requires-clause-sound
put-requires-clause-sound g c t sound is =
    let whole = whole-of g.S.SlotMap.slots g.S.SlotStore.memory c.live.inside.objects c.live.inside.store c.kernel.invariant c.live.view_is c.live.invariant in
    let of_kernel = c.live.view_is ∙ c.kernel.view_is in
    let first = ap (λ (n : ℕ). 16 * (n + 64)) (c.boot_slots.ensures.value
    ∙ ap (λ k. 2 ^ (state_in g.S.SlotMap.slots g.S.SlotStore.memory k).boot_radix) (sym of_kernel)) in
    let may = ap (λ k. may_be_untyped (state_in g.S.SlotMap.slots g.S.SlotStore.memory k) c.args.offset c.args.bits) (sym of_kernel)
    ∙ may-tested c.live.inside.objects (g.S.SlotMap.slots c.live.inside.store) (g.S.SlotStore.memory c.live.inside.store) c.args.offset c.args.bits _
    whole.agrees first ∙ sym c.may_be_untyped-fits.ensures in
    put_untyped-whole _ t c.args.index c.args.offset c.args.bits sound (untyped-put _ c.args.index c.args.offset c.args.bits (may ∙ c.if-fits.true) ∙ is)

pub returns-then-fits-clause-outcome : goal.returns-then-fits-clause-outcome
returns-then-fits-clause-outcome g c =
    let whole = whole-of g.S.SlotMap.slots g.S.SlotStore.memory c.live.inside.objects c.live.inside.store c.kernel.invariant c.live.view_is c.live.invariant in
    let of_kernel = c.live.view_is ∙ c.kernel.view_is in
    let first = ap (λ (n : ℕ). 16 * (n + 64)) (c.boot_slots.ensures.value
    ∙ ap (λ k. 2 ^ (state_in g.S.SlotMap.slots g.S.SlotStore.memory k).boot_radix) (sym of_kernel)) in
    let may = ap (λ k. may_be_untyped (state_in g.S.SlotMap.slots g.S.SlotStore.memory k) c.args.offset c.args.bits) (sym of_kernel)
    ∙ may-tested c.live.inside.objects (g.S.SlotMap.slots c.live.inside.store) (g.S.SlotStore.memory c.live.inside.store) c.args.offset c.args.bits _
    whole.agrees first ∙ sym c.may_be_untyped-fits.ensures in
    untyped-put _ c.args.index c.args.offset c.args.bits (may ∙ c.if-fits.true) ∙ c.put.ensures.outcome

pub returns-else-fits-clause-outcome : goal.returns-else-fits-clause-outcome
returns-else-fits-clause-outcome g c =
    let whole = whole-of g.S.SlotMap.slots g.S.SlotStore.memory c.live.inside.objects c.live.inside.store c.kernel.invariant c.live.view_is c.live.invariant in
    let of_kernel = c.live.view_is ∙ c.kernel.view_is in
    let first = ap (λ (n : ℕ). 16 * (n + 64)) (c.boot_slots.ensures.value
    ∙ ap (λ k. 2 ^ (state_in g.S.SlotMap.slots g.S.SlotStore.memory k).boot_radix) (sym of_kernel)) in
    let may = ap (λ k. may_be_untyped (state_in g.S.SlotMap.slots g.S.SlotStore.memory k) c.args.offset c.args.bits) (sym of_kernel)
    ∙ may-tested c.live.inside.objects (g.S.SlotMap.slots c.live.inside.store) (g.S.SlotStore.memory c.live.inside.store) c.args.offset c.args.bits _
    whole.agrees first ∙ sym c.may_be_untyped-fits.ensures in
    untyped-none _ c.args.index c.args.offset c.args.bits (may ∙ c.if-fits.false)
    ∙ ap (λ (b : Bool). if b then Some (state_in g.S.SlotMap.slots g.S.SlotStore.memory c.args.kernel.now) else None) (sym c.if-fits.false)
