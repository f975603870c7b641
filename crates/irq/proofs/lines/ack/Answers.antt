-- What the line is bound to is there, and what is left is whole.
use Rattle.std.proofs.Common.{◌∙◌, option_map, ap, rules, subst, sym}
use Rattle.irq.proofs.Bound.{still-there}
use Rattle.cnode_ops.proofs.Laws.{kept}
use Rattle.irq.proofs.lines.ack.Goals as goal
use Rattle.irq.specs.Signals.{as_signal}
use Rattle.objects.proofs.Laws.{beside-then}
use Rattle.objects.specs.Lives.{Parts, SameBeside, state_in}
use Rattle.model.specs.Kernel.Interrupts.{acknowledge}
use Rattle.soundness.proofs.Laws.{acknowledge-machine, acknowledge-whole}

pub signal-requires : goal.signal-requires
signal-requires g c =
    let bound = rw c.new-line.ensures at c.binding.ensures in
    let unmasked = rw c.new-line.ensures at c.set_masked.ensures.state in
    record {
      there = c.set_pending.ensures.beside.bytes.kinds c.in-Some.bound.notification
          ∙ still-there (state_in g.S.SlotMap.slots g.S.SlotStore.memory c.kernel.inside.live) _ c.args.line (as_signal c.in-Some.bound)
          c.kernel.invariant.sound unmasked (sym bound ∙ ap (option_map as_signal) c.in-Some.is);
    }

pub invariant_of-kernel : goal.invariant_of-kernel
invariant_of-kernel g c =
    let s = state_in g.S.SlotMap.slots g.S.SlotStore.memory c.kernel.inside.live in
    kept (acknowledge s c.args.line) c.kernel.invariant c.set_masked.ensures.beside (search rules)
    (acknowledge-whole s c.args.line c.kernel.invariant.sound) (acknowledge-machine s c.args.line)

pub invariant_of-kernel-in_default : goal.invariant_of-kernel-in_default
invariant_of-kernel-in_default g c =
    let s = state_in g.S.SlotMap.slots g.S.SlotStore.memory c.kernel.inside.live in
    kept (acknowledge s c.args.line) c.kernel.invariant c.set_masked.ensures.beside (search rules)
    (acknowledge-whole s c.args.line c.kernel.invariant.sound) (acknowledge-machine s c.args.line)

pub invariant_of-kernel-2 : goal.invariant_of-kernel-2
invariant_of-kernel-2 g c =
    let s = state_in g.S.SlotMap.slots g.S.SlotStore.memory c.kernel.inside.live in
    kept (acknowledge s c.args.line) c.kernel.invariant
    (beside-then c.set_masked.ensures.beside (beside-then c.set_pending.ensures.beside
    (beside-then c.signal.ensures.beside c.set_masked-2.ensures.beside)))
    (search rules) (acknowledge-whole s c.args.line c.kernel.invariant.sound) (acknowledge-machine s c.args.line)

pub returns-clause-beside : goal.returns-clause-beside
returns-clause-beside g c =
    subst (λ (k : Parts _). SameBeside g.S.SlotMap.slots g.S.SlotStore.memory g.S.SlotStore.order k c.set_masked-2.new.self) c.kernel.view_is
    (beside-then c.set_masked.ensures.beside (beside-then c.set_pending.ensures.beside
    (beside-then c.signal.ensures.beside c.set_masked-2.ensures.beside)))
