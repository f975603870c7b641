-- So many events are steps.
use Rattle.std.proofs.Common.{ℕ, ◌≤◌, ◌-◌, length}
use Rattle.kernel_trace.proofs.KernelTraces.{AreSteps}
use Rattle.kernel_trace.proofs.traces.steps_next.Given as goal

abbrev pub invariant-steps : goal.invariant-steps
invariant-steps l = record {
  within : l.count ≤ length l.left;
  steps : (n : ℕ) → n ≤ l.count → AreSteps l.left n;
}

abbrev pub decreases-steps : goal.decreases-steps
decreases-steps l = length l.left - l.count
