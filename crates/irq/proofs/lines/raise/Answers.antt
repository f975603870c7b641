-- What the line is bound to is there, and what is left is whole.
use Rattle.std.proofs.Common.{◌∙◌, option_map, ap, rules, subst, sym}
use Rattle.irq.proofs.Bound.{bound-there}
use Rattle.cnode_ops.proofs.Laws.{kept}
use Rattle.irq.proofs.lines.raise.Goals as goal
use Rattle.irq.specs.Signals.{as_signal}
use Rattle.objects.proofs.Laws.{beside-then}
use Rattle.objects.specs.Lives.{Parts, SameBeside, state_in}
use Rattle.model.specs.Kernel.Interrupts.{raise}
use Rattle.soundness.proofs.Laws.{raise-machine, raise-whole}

pub signal-requires : goal.signal-requires
signal-requires g c =
    let bound = rw c.new-line.ensures at c.binding.ensures in
    record {
      there = bound-there (state_in g.S.SlotMap.slots g.S.SlotStore.memory c.kernel.inside.live) c.args.line (as_signal c.in-Some.bound)
          c.kernel.invariant.sound (sym bound ∙ ap (option_map as_signal) c.in-Some.is);
    }

pub invariant_of-kernel : goal.invariant_of-kernel
invariant_of-kernel g c =
    let s = state_in g.S.SlotMap.slots g.S.SlotStore.memory c.kernel.inside.live in
    kept (raise s c.args.line) c.kernel.invariant c.set_pending.ensures.beside (search rules) (raise-whole s c.kernel.invariant.sound c.args.line)
    (raise-machine s c.args.line)

pub invariant_of-kernel-in-None : goal.invariant_of-kernel-in-None
invariant_of-kernel-in-None g c =
    let s = state_in g.S.SlotMap.slots g.S.SlotStore.memory c.kernel.inside.live in
    kept (raise s c.args.line) c.kernel.invariant c.set_pending-in-None.ensures.beside (search rules) (raise-whole s c.kernel.invariant.sound c.args.line)
    (raise-machine s c.args.line)

pub invariant_of-kernel-in-Some : goal.invariant_of-kernel-in-Some
invariant_of-kernel-in-Some g c =
    let s = state_in g.S.SlotMap.slots g.S.SlotStore.memory c.kernel.inside.live in
    kept (raise s c.args.line) c.kernel.invariant (beside-then c.signal.ensures.beside c.set_masked.ensures.beside) (search rules)
    (raise-whole s c.kernel.invariant.sound c.args.line) (raise-machine s c.args.line)

pub returns-in-Some-clause-beside : goal.returns-in-Some-clause-beside
returns-in-Some-clause-beside g c =
    subst (λ (k : Parts _). SameBeside g.S.SlotMap.slots g.S.SlotStore.memory g.S.SlotStore.order k c.set_masked.new.self) c.kernel.view_is
    (beside-then c.signal.ensures.beside c.set_masked.ensures.beside)
