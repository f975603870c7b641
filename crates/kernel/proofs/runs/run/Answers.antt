-- Plain instructions, and one step more.
use Rattle.std.proofs.Common.{◌+◌, sym, arith}
use Rattle.objects.specs.Lives.{state_in}
use Rattle.user_memory.proofs.Laws.{label-more, labels-more, no-steps, none-seen, one-more, steps-more}
use Rattle.kernel.proofs.runs.run.Goals as goal

pub runs-init : goal.runs-init
runs-init g c =
    let s = state_in g.S.SlotMap.slots g.S.SlotStore.memory c.args.kernel.now in
    let seen = g.L.Labels.seen c.args.labels.now in
    record {
      few = omega arith;
      state = sym (no-steps s);
      labels = none-seen g.L.Labels.kept s seen;
    }

pub runs-preserved : goal.runs-preserved
runs-preserved g c =
    let s = state_in g.S.SlotMap.slots g.S.SlotStore.memory c.args.kernel.now in
    let now = state_in g.S.SlotMap.slots g.S.SlotStore.memory c.runs.kernel in
    let ran = state_in g.S.SlotMap.slots g.S.SlotStore.memory c.run_current-run.new.kernel in
    let after = state_in g.S.SlotMap.slots g.S.SlotStore.memory c.step_after.new.kernel in
    let old = g.L.Labels.seen c.args.labels.now in
    let seen = g.L.Labels.seen c.run_current-run.new.labels in
    let count = c.runs.done + c.run_current-run.result.done in
    let state = steps-more s now ran c.runs.done c.run_current-run.result.done c.runs.invariant.state c.run_current-run.ensures.state in
    let labels = labels-more g.L.Labels.kept s now c.runs.done c.run_current-run.result.done old (g.L.Labels.seen c.runs.labels) seen
    c.runs.invariant.state c.runs.invariant.labels c.run_current-run.ensures.labels in
    record {
      few = omega (arith, c.run_current-run.ensures.few, c.if-done-most.false, c.runs.invariant.few, c.runs-test.true);
      state = one-more s ran after count state c.step_after.ensures.state;
      labels = label-more g.L.Labels.kept s ran count c.step_after.result old seen (g.L.Labels.seen c.put.new.self) state (sym c.step_after.ensures.label)
          labels c.put.ensures;
    }

pub returns-then-done-most-clause-state : goal.returns-then-done-most-clause-state
returns-then-done-most-clause-state g c =
    steps-more (state_in g.S.SlotMap.slots g.S.SlotStore.memory c.args.kernel.now) (state_in g.S.SlotMap.slots g.S.SlotStore.memory c.runs.kernel)
    (state_in g.S.SlotMap.slots g.S.SlotStore.memory c.run_current-run.new.kernel) c.runs.done c.run_current-run.result.done c.runs.invariant.state
    c.run_current-run.ensures.state

pub returns-then-done-most-clause-labels : goal.returns-then-done-most-clause-labels
returns-then-done-most-clause-labels g c =
    labels-more g.L.Labels.kept (state_in g.S.SlotMap.slots g.S.SlotStore.memory c.args.kernel.now)
    (state_in g.S.SlotMap.slots g.S.SlotStore.memory c.runs.kernel)
    c.runs.done c.run_current-run.result.done (g.L.Labels.seen c.args.labels.now) (g.L.Labels.seen c.runs.labels) (g.L.Labels.seen c.run_current-run.new.labels)
    c.runs.invariant.state c.runs.invariant.labels c.run_current-run.ensures.labels

pub returns-then-not-wants_more-clause-state : goal.returns-then-not-wants_more-clause-state
returns-then-not-wants_more-clause-state g c =
    steps-more (state_in g.S.SlotMap.slots g.S.SlotStore.memory c.args.kernel.now) (state_in g.S.SlotMap.slots g.S.SlotStore.memory c.runs.kernel)
    (state_in g.S.SlotMap.slots g.S.SlotStore.memory c.run_current-run.new.kernel) c.runs.done c.run_current-run.result.done c.runs.invariant.state
    c.run_current-run.ensures.state

pub returns-then-not-wants_more-clause-labels : goal.returns-then-not-wants_more-clause-labels
returns-then-not-wants_more-clause-labels g c =
    labels-more g.L.Labels.kept (state_in g.S.SlotMap.slots g.S.SlotStore.memory c.args.kernel.now)
    (state_in g.S.SlotMap.slots g.S.SlotStore.memory c.runs.kernel)
    c.runs.done c.run_current-run.result.done (g.L.Labels.seen c.args.labels.now) (g.L.Labels.seen c.runs.labels) (g.L.Labels.seen c.run_current-run.new.labels)
    c.runs.invariant.state c.runs.invariant.labels c.run_current-run.ensures.labels
