-- By the laws on lines that are held.
use Rattle.std.proofs.Common.{sym}
use Rattle.kernel_machine.specs.Setups.{state_in}
use Rattle.kernel_trace.proofs.KernelTraces.{event_done, event_held, next_first, some_made, steps_done, steps_held}
use Rattle.kernel_trace.proofs.traces.go_on.Goals as goal

pub returns-then-steps-gt0-clause-some : goal.returns-then-steps-gt0-clause-some
returns-then-steps-gt0-clause-some c = λ _.
    some_made (state_in c.args.system.now) c.run.result c.steps_next-steps.result c.args.lines.now.bytes c.run.new.labels.bytes
    c.run.ensures.labels c.requires c.run.ensures.all c.if-steps-gt0.true

pub returns-then-steps-gt0-clause-lines : goal.returns-then-steps-gt0-clause-lines
returns-then-steps-gt0-clause-lines c =
    steps_held (state_in c.args.system.now) (state_in c.run.new.self) c.args.left.now c.run.result c.args.lines.now.bytes
    c.run.new.labels.bytes (c.steps_next-steps.ensures.steps c.run.result c.run.ensures.few) c.run.ensures.state c.run.ensures.labels

pub returns-clause-lines : goal.returns-clause-lines
returns-clause-lines c =
    event_held (state_in c.args.system.now) (state_in c.step.new.self) c.step.result c.args.left.now c.in-Some.event.now c.args.lines.now.bytes
    c.put.new.self.bytes (next_first c.args.left.now c.in-Some.event.now (sym c.in-Some.ensures.value)) c.step.ensures.state c.step.ensures.label c.put.ensures

pub returns-then-steps-gt0-clause-state : goal.returns-then-steps-gt0-clause-state
returns-then-steps-gt0-clause-state c =
    steps_done (state_in c.args.system.now) (state_in c.run.new.self) c.args.left.now c.run.result
    (c.steps_next-steps.ensures.steps c.run.result c.run.ensures.few) c.run.ensures.state

pub returns-clause-state : goal.returns-clause-state
returns-clause-state c =
    event_done (state_in c.args.system.now) (state_in c.step.new.self) c.args.left.now c.in-Some.event.now
    (next_first c.args.left.now c.in-Some.event.now (sym c.in-Some.ensures.value)) c.step.ensures.state
