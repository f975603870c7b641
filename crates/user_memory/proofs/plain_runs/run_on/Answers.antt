-- One step more.
use Rattle.std.proofs.Common.{◌≡◌, ◌∙◌, ap, rules, subst, sym}
use Rattle.model.specs.Kernel.Messages.{with_registers}
use Rattle.model.specs.Kernel.State.{State}
use Rattle.model.specs.Kernel.Steps.{runs}
use Rattle.objects.specs.Lives.{state_in}
use Rattle.user_memory.specs.Runs.{comes_of, plain_label}
use Rattle.user_memory.proofs.Iterated.{label-more, no-steps, none-seen, one-more}
use Rattle.user_memory.proofs.plain_runs.run_on.Goals as goal

pub steps-init : goal.steps-init
steps-init g c =
    let s = with_registers (state_in g.S.SlotMap.slots g.S.SlotStore.memory c.args.kernel.now) c.args.thread c.args.registers.now in
    let seen = g.L.Labels.seen c.args.labels.now in
    record {
      ready = c.requires;
      state = sym (no-steps s);
      labels = none-seen g.L.Labels.kept s seen;
    }

pub steps-preserved : goal.steps-preserved
steps-preserved g c =
    let s = with_registers (state_in g.S.SlotMap.slots g.S.SlotStore.memory c.args.kernel.now) c.args.thread c.args.registers.now in
    let now = with_registers (state_in g.S.SlotMap.slots g.S.SlotStore.memory c.steps.kernel) c.args.thread c.steps.registers in
    let after = with_registers (state_in g.S.SlotMap.slots g.S.SlotStore.memory c.step_plain-effect.new.kernel) c.args.thread
    c.step_plain-effect.new.registers in
    record {
      ready = c.step_plain-effect.ensures.ready;
      state = one-more s now after c.steps.done c.steps.invariant.state (c.step_plain-effect.ensures.state c.in-Next.is);
      labels = label-more g.L.Labels.kept s now c.steps.done (plain_label c.args.thread c.pc-pc.result) (g.L.Labels.seen c.args.labels.now)
          (g.L.Labels.seen c.steps.labels)
          (g.L.Labels.seen c.plain.new.self)
          c.steps.invariant.state (c.step_plain-effect.ensures.label c.in-Next.is ∙ ap (plain_label c.args.thread) (sym c.pc-pc.ensures))
          c.steps.invariant.labels c.plain.ensures;
    }

pub returns-in_default : goal.returns-in_default
returns-in_default g c =
    let no = c.in_default.not-Next in
    let same = c.step_plain-effect.ensures.unchanged no in
    record {
      few = search rules;
      ready = c.step_plain-effect.ensures.ready;
      state = same ∙ c.steps.invariant.state;
      labels = c.steps.invariant.labels;
      effect = subst (λ (s : State). runs s c.args.thread ≡ comes_of s c.args.thread c.step_plain-effect.result) (sym same)
          (c.step_plain-effect.ensures.effect no);
    }
