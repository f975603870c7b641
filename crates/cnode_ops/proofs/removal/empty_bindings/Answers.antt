-- One line after another.
use Rattle.std.proofs.Common.{ℕ, Bool, subst, arith}
use Rattle.objects.specs.Tables.{state_of}
use Rattle.cnode_ops.specs.Lines.{has_line}
use Rattle.model.specs.Kernel.State.{State}
use Rattle.removal_laws.specs.Steps.{BindingEmptied}
use Rattle.cnode_ops.proofs.EmptiedSets.{line-emptied, lines-gone}
use Rattle.cnode_ops.proofs.LinesTaken.{bindings-none}
use Rattle.cnode_ops.proofs.Unsettling.{notes-then}
use Rattle.cnode_ops.proofs.removal.empty_bindings.Goals as goal

pub lines-preserved : goal.lines-preserved
lines-preserved g c =
    let before : State = state_of c.args.objects.now (g.S.SlotMap.slots c.args.store.now) (g.S.SlotStore.memory c.args.store.now) in
    let now : State = state_of c.lines.objects (g.S.SlotMap.slots c.lines.store) (g.S.SlotStore.memory c.lines.store) in
    let after : State = state_of c.empty_binding.new.objects (g.S.SlotMap.slots c.empty_binding.new.store)
    (g.S.SlotStore.memory c.empty_binding.new.store) in
    let taken : ℕ → Bool = λ line. has_line c.args.lines line in
    let state : BindingEmptied now c.lines.line (taken c.lines.line) after =
    subst (λ b. BindingEmptied now c.lines.line b after) c.contains.ensures
    (subst (λ (line : ℕ). BindingEmptied now line c.contains.result after) c.new.ensures c.empty_binding.ensures.state) in
    record {
      left = line-emptied before now after taken c.lines.line c.lines-test.true c.lines.invariant.left state;
      noted = notes-then before now after c.args.left.now c.lines.left c.empty_binding.new.left c.lines.invariant.noted c.empty_binding.ensures.noted;
      agree = c.empty_binding.ensures.agree;
    }

pub returns-then-is_none-clause-state : goal.returns-then-is_none-clause-state
returns-then-is_none-clause-state g c = bindings-none _ c.args.lines (c.is_none.ensures c.if-is_none.true) c.requires.ready.derivation

pub returns-clause-state : goal.returns-clause-state
returns-clause-state g c =
    let before : State = state_of c.args.objects.now (g.S.SlotMap.slots c.args.store.now) (g.S.SlotStore.memory c.args.store.now) in
    let now : State = state_of c.lines.objects (g.S.SlotMap.slots c.lines.store) (g.S.SlotStore.memory c.lines.store) in
    lines-gone before now (λ line. has_line c.args.lines line) c.lines.line (omega (arith, c.lines-test.false, c.lines.auto.line-end)) c.lines.invariant.left
