-- A frame is filled from its beginning on.
use Rattle.std.proofs.Common.{◌≡◌, ◌∙◌, Some, true, ap, arith, length, subst, sym}
use Rattle.kernel_invariant.specs.Wholeness.{IsWhole}
use Rattle.model.specs.Capabilities.Slots.{Slots}
use Rattle.model.specs.Kernel.Setup.{fill}
use Rattle.objects.specs.Lives.{state_in}
use Rattle.objects.specs.Tables.{state_of}
use Rattle.user_memory.proofs.Filled.{all-small, filled-whole}
use Rattle.user_memory.proofs.FilledFrames.{fill-done, fill-most, fill-outside, fill-within, may_fill, not-filled}
use Rattle.user_memory.proofs.filling.fill.Goals as goal
use Rattle.cnode_ops.proofs.Laws.{consistent-of, whole-of}

pub returns-then-not-may_fill-clause-outcome : goal.returns-then-not-may_fill-clause-outcome
returns-then-not-may_fill-clause-outcome g c =
    not-filled (state_in g.S.SlotMap.slots g.S.SlotStore.memory c.args.kernel.now) c.args.offset c.args.bytes.now
    (sym c.may_fill.ensures ∙ c.if-not-may_fill.true)

pub write_bytes-requires : goal.write_bytes-requires
unfolding state_of
write_bytes-requires g c =
    let whole = whole-of g.S.SlotMap.slots g.S.SlotStore.memory c.live.inside.objects c.live.inside.store c.kernel.invariant c.live.view_is c.live.invariant in
    let of_kernel = c.live.view_is ∙ c.kernel.view_is in
    let may = subst (λ k. may_fill (state_in g.S.SlotMap.slots g.S.SlotStore.memory k) c.args.offset (length c.args.bytes.now) ≡ true) (sym of_kernel)
    (sym c.may_fill.ensures ∙ c.if-not-may_fill.false) in
    record {
      within = fill-within (state_of c.live.inside.objects (g.S.SlotMap.slots c.live.inside.store) (g.S.SlotStore.memory c.live.inside.store))
          (g.S.SlotStore.memory c.live.inside.store)
          c.args.offset (length c.args.bytes.now) whole.agrees whole.sound may;
      most = fill-most (state_of c.live.inside.objects (g.S.SlotMap.slots c.live.inside.store) (g.S.SlotStore.memory c.live.inside.store))
          (g.S.SlotStore.memory c.live.inside.store)
          c.args.offset (length c.args.bytes.now) whole.agrees whole.sound may;
      outside = fill-outside (state_of c.live.inside.objects (g.S.SlotMap.slots c.live.inside.store) (g.S.SlotStore.memory c.live.inside.store))
          (g.S.SlotStore.memory c.live.inside.store)
          c.args.offset (length c.args.bytes.now) whole.agrees whole.sound may;
    }

pub returns-clause-outcome : goal.returns-clause-outcome
returns-clause-outcome g c =
    let whole = whole-of g.S.SlotMap.slots g.S.SlotStore.memory c.live.inside.objects c.live.inside.store c.kernel.invariant c.live.view_is c.live.invariant in
    let of_kernel = c.live.view_is ∙ c.kernel.view_is in
    let may = subst (λ k. may_fill (state_in g.S.SlotMap.slots g.S.SlotStore.memory k) c.args.offset (length c.args.bytes.now) ≡ true) (sym of_kernel)
    (sym c.may_fill.ensures ∙ c.if-not-may_fill.false) in
    subst (λ k. fill (state_in g.S.SlotMap.slots g.S.SlotStore.memory k) c.args.offset c.args.bytes.now
    ≡ Some (state_of c.live.inside.objects (g.S.SlotMap.slots c.write_bytes.new.store) (g.S.SlotStore.memory c.write_bytes.new.store))) of_kernel
    (fill-done c.live.inside.objects (g.S.SlotMap.slots c.live.inside.store) (g.S.SlotStore.memory c.live.inside.store)
    (g.S.SlotStore.memory c.write_bytes.new.store)
    c.args.offset c.args.bytes.now c.write_bytes.ensures.bytes whole.agrees whole.sound whole.stands may
    ∙ ap (λ (n : Slots). Some (state_of c.live.inside.objects n (g.S.SlotStore.memory c.write_bytes.new.store))) (sym c.write_bytes.ensures.slots))

pub invariant_of-live : goal.invariant_of-live
invariant_of-live g c =
    let whole = whole-of g.S.SlotMap.slots g.S.SlotStore.memory c.live.inside.objects c.live.inside.store c.kernel.invariant c.live.view_is c.live.invariant in
    let of_kernel = c.live.view_is ∙ c.kernel.view_is in
    (
    let may = subst (λ k. may_fill (state_in g.S.SlotMap.slots g.S.SlotStore.memory k) c.args.offset (length c.args.bytes.now) ≡ true) (sym of_kernel)
    (sym c.may_fill.ensures ∙ c.if-not-may_fill.false) in
    subst (λ (n : Slots). IsWhole c.live.inside.objects n (g.S.SlotStore.memory c.write_bytes.new.store)) (sym c.write_bytes.ensures.slots)
    (filled-whole c.live.inside.objects (g.S.SlotMap.slots c.live.inside.store) (g.S.SlotStore.memory c.live.inside.store)
    (g.S.SlotStore.memory c.write_bytes.new.store)
    c.args.offset c.args.bytes.now c.write_bytes.ensures.bytes whole (all-small c.args.bytes.now (λ i. omega (arith, c.type_inv.bytes i))) may)).stands

pub invariant_of-kernel : goal.invariant_of-kernel
invariant_of-kernel g c =
    let whole = whole-of g.S.SlotMap.slots g.S.SlotStore.memory c.live.inside.objects c.live.inside.store c.kernel.invariant c.live.view_is c.live.invariant in
    let of_kernel = c.live.view_is ∙ c.kernel.view_is in
    consistent-of (
    let may = subst (λ k. may_fill (state_in g.S.SlotMap.slots g.S.SlotStore.memory k) c.args.offset (length c.args.bytes.now) ≡ true) (sym of_kernel)
    (sym c.may_fill.ensures ∙ c.if-not-may_fill.false) in
    subst (λ (n : Slots). IsWhole c.live.inside.objects n (g.S.SlotStore.memory c.write_bytes.new.store)) (sym c.write_bytes.ensures.slots)
    (filled-whole c.live.inside.objects (g.S.SlotMap.slots c.live.inside.store) (g.S.SlotStore.memory c.live.inside.store)
    (g.S.SlotStore.memory c.write_bytes.new.store)
    c.args.offset c.args.bytes.now c.write_bytes.ensures.bytes whole (all-small c.args.bytes.now (λ i. omega (arith, c.type_inv.bytes i))) may))
