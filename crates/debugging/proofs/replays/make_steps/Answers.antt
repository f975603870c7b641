-- Those that are left are fewer by those that were made.
use Rattle.std.proofs.Common.{◌≡◌, ◌∙◌, ◌-◌, ◌≤◌, ℕ, ap, arith, replicate, sym}
use Rattle.kernel_machine.specs.Setups.{state_in}
use Rattle.model.specs.declared.events.Event.TheVariants.{Step}
use Rattle.model.specs.Kernel.Steps.{state_after}
use Rattle.debugging.proofs.Timelines.{no-steps, steps-split}
use Rattle.debugging.proofs.replays.make_steps.Goals as goal

pub loop-left-preserved : goal.loop-left-preserved
loop-left-preserved c =
    let within : c.run-made.result ≤ c.loop-left.left = omega arith in
    let rest : c.saturating_sub-left.result ≡ c.loop-left.left - c.run-made.result = omega arith in
    ap (λ (n : ℕ). state_after (state_in c.run-made.new.self) (replicate n Step)) rest
    ∙ steps-split (state_in c.loop-left.system) (state_in c.run-made.new.self) c.loop-left.left c.run-made.result Step within c.run-made.ensures.state
    ∙ c.loop-left.invariant

pub returns : goal.returns
returns c =
    let none : c.loop-left.left ≡ 0 = omega arith in
    sym (no-steps (state_in c.loop-left.system) c.loop-left.left Step none) ∙ c.loop-left.invariant
